-- A frame is offered to its ports one after another.
use Rattle.std.proofs.Common.{ℕ, ◌≡◌, ◌≢◌, ◌<◌, ◌≤◌, ◌==◌, ◌&&◌, ◌||◌, not, Bool, true, false, if◌then◌else◌, List, length, map, get_or, set, inl, inr, refl, sym, ap, subst, ◌∙◌, arith, length-set, get_or-set_same, get_or-set_other}
use Rattle.std.proofs.Math.Bool.{and-true}
use Rattle.std.specs.List.{filter}
use Rattle.std.proofs.lemmas.List.{length-map, get_or-map, ext_get_or}
use Rattle.std.proofs.lemmas.Bool.{cases_eq, eq-eqb, eqb-true, ne_eqb, and_parts}
use Rattle.savi_kinds.specs.declared.port.PortSet.{PortSet}
use Rattle.savi_kinds.specs.PortSets.{is_member, no_ports, set_of}
use Rattle.savi_core.specs.Lanes.{Lane, takes_none, with_offered, with_frame, is_cut, cut_at, no_lane}
use Rattle.savi_core.proofs.Members.{AreLow, AreApart, same_members, none_in, chosen_both, chosen_here}

abbrev pub number : {A : Type 0} → Lane A → ℕ
number lane = lane.number

-- a frame that goes to some ports has been offered at all of them but those that are left
pub record IsOffered {A : Type 0} (item : A) (outs left cuts : PortSet) (old now : List (Lane A)) : Type 0 where
  pub size : length now ≡ length old
  pub lanes : (k : ℕ) (d : Lane A) → k < length old → get_or now k d ≡ (if is_member left (get_or old k d).number then get_or old k d else with_frame item outs (get_or old k d))
  pub members : (n : ℕ) → 1 ≤ n → is_member left n ≡ true → is_member outs n ≡ true
  pub cuts_are : (n : ℕ) → 1 ≤ n → is_member cuts n ≡ (is_member (cut_at outs old) n && not (is_member left n))

and_turned : (a b : Bool) → (a && b) ≡ (b && a)
and_turned true true = refl
and_turned true false = refl
and_turned false true = refl
and_turned false false = refl

-- a lane where a frame is left out is one of a port that it goes to
cut_is : {A : Type 0} (outs : PortSet) (lanes : List (Lane A)) (n : ℕ) → AreLow (map number lanes) → 1 ≤ n → is_member (cut_at outs lanes) n ≡ (is_member (set_of (map (λ lane. lane.number) (filter takes_none lanes))) n && is_member outs n)
cut_is outs lanes n low least = chosen_both number takes_none (is_cut outs) (is_member outs) lanes n (λ lane. and_turned (is_member outs lane.number) (takes_none lane)) low least

start_at : {X : Type 0} (b : Bool) (x y : X) → x ≡ (if b then x else (if b then y else x))
start_at true x y = refl
start_at false x y = refl

no_cut : (c o : Bool) → false ≡ ((c && o) && not o)
no_cut true true = refl
no_cut true false = refl
no_cut false o = refl

pub offered_none : {A : Type 0} (item : A) (outs : PortSet) (old : List (Lane A)) → AreLow (map number old) → IsOffered item outs outs no_ports old old
offered_none item outs old low = record {
  size = refl;
  lanes = λ k d within. start_at (is_member outs (get_or old k d).number) (get_or old k d) (with_offered item (get_or old k d));
  members = λ n least there. there;
  cuts_are = λ n least. none_in n ∙ no_cut (is_member (set_of (map (λ lane. lane.number) (filter takes_none old))) n) (is_member outs n) ∙ ap (λ (b : Bool). b && not (is_member outs n)) (sym (cut_is outs old n low least));
}

-- the frame has been offered to one port more

taken_at : {X : Type 0} (b : Bool) (x y : X) → b ≡ true → (if b then x else y) ≡ x
taken_at true x y is = refl
taken_at false x y is = cc

left_at : {X : Type 0} (b : Bool) (x y : X) → b ≡ false → (if b then x else y) ≡ y
left_at true x y is = cc
left_at false x y is = refl

and_false : (b : Bool) → (b && false) ≡ false
and_false true = refl
and_false false = refl

flag_at : (flag : Bool) → ((flag && true) || (flag && false)) ≡ (flag && true)
flag_at true = refl
flag_at false = refl

more_cuts : (flag e cut left : Bool) → (e ≡ true → (left ≡ true) × (cut ≡ flag)) → ((flag && e) || (cut && not left)) ≡ (cut && not (left && not e))
more_cuts flag true cut left here =
    subst (λ (l : Bool). ((flag && true) || (cut && not l)) ≡ (cut && not (l && false))) (sym (here refl).0)
    (subst (λ (b : Bool). ((flag && true) || (b && false)) ≡ (b && true)) (sym (here refl).1) (flag_at flag))
more_cuts true false cut true here = refl
more_cuts true false cut false here = refl
more_cuts false false cut true here = refl
more_cuts false false cut false here = refl

module _ {A : Type 0} (item : A) (outs left cuts : PortSet) (old now : List (Lane A)) (low : AreLow (map (λ (lane : Lane A). lane.number) old)) (apart : AreApart (map (λ (lane : Lane A). lane.number) old)) (was : IsOffered item outs left cuts old now) where
  low_at : (k : ℕ) (d : Lane A) → k < length old → 1 ≤ (get_or old k d).number
  low_at k d within = subst (λ (n : ℕ). 1 ≤ n) (get_or-map number old k d 0 within) (low k (omega (arith, within, length-map old number)))

  module _ (m p : ℕ) (within : p < length old) (number_is : get_or (map number old) p 0 ≡ m) (there : is_member left m ≡ true) (least : 1 ≤ m) where
    number_at : (d : Lane A) → (get_or old p d).number ≡ m
    number_at d = sym (get_or-map number old p d 0 within) ∙ number_is

    -- nothing has changed there
    pub still : (d : Lane A) → get_or now p d ≡ get_or old p d
    still d = was.lanes p d within ∙ taken_at (is_member left (get_or old p d).number) (get_or old p d) (with_frame item outs (get_or old p d)) (ap (is_member left) (number_at d) ∙ there)

    goes : (d : Lane A) → is_member outs (get_or old p d).number ≡ true
    goes d = ap (is_member outs) (number_at d) ∙ was.members m least there

    cut_there : (flag : Bool) → ((d : Lane A) → flag ≡ takes_none (get_or now p d)) → is_member (cut_at outs old) m ≡ flag
    cut_there flag is =
        let d : Lane A = no_lane in
        ap (is_member (cut_at outs old)) (sym number_is)
        ∙ chosen_here number (is_cut outs) old p d low apart (omega (arith, within, length-map old number))
        ∙ ap (λ (b : Bool). b && takes_none (get_or old p d)) (goes d)
        ∙ ap takes_none (sym (still d)) ∙ sym (is d)

    other_number : (k : ℕ) (d : Lane A) → k < length old → k ≢ p → (get_or old k d).number ≢ m
    other_number k d inside other same =
        apart k p (omega (arith, inside, length-map old number)) (omega (arith, within, length-map old number)) other (get_or-map number old k d 0 inside ∙ same ∙ sym number_is)

    pub offered_more : (left' cuts' : PortSet) (v : Lane A) (flag : Bool) → ((d : Lane A) → v ≡ with_offered item (get_or now p d)) → ((d : Lane A) → flag ≡ takes_none (get_or now p d))
        → ((n : ℕ) → 1 ≤ n → is_member left' n ≡ (is_member left n && not (n == m))) → ((n : ℕ) → 1 ≤ n → is_member cuts' n ≡ ((flag && (n == m)) || is_member cuts n))
        → IsOffered item outs left' cuts' old (set now p v)
    offered_more left' cuts' v flag v_is flag_is fewer more = record {
      size = length-set now p v ∙ was.size;
      lanes = λ k d inside.
          elim (cases_eq k p) [
            | inl same ↦
                let gone : is_member left' (get_or old p d).number ≡ false =
                ap (is_member left') (number_at d) ∙ fewer m least ∙ ap (λ (b : Bool). is_member left m && not b) (eq-eqb m m refl) ∙ and_false (is_member left m) in
                subst (λ (j : ℕ). get_or (set now p v) j d ≡ (if is_member left' (get_or old j d).number then get_or old j d else with_frame item outs (get_or old j d))) (sym same)
                (get_or-set_same now p v d (omega (arith, within, was.size)) ∙ v_is d ∙ ap (with_offered item) (still d)
                ∙ sym (taken_at (is_member outs (get_or old p d).number) (with_offered item (get_or old p d)) (get_or old p d) (goes d))
                ∙ sym (left_at (is_member left' (get_or old p d).number) (get_or old p d) (with_frame item outs (get_or old p d)) gone))
            | inr other ↦
                let n = (get_or old k d).number in
                let as_before : is_member left' n ≡ is_member left n =
                fewer n (low_at k d inside) ∙ ap (λ (b : Bool). is_member left n && not b) (ne_eqb n m (other_number k d inside other)) ∙ and-true (is_member left n) in
                get_or-set_other now p k v d other ∙ was.lanes k d inside
                ∙ ap (λ (b : Bool). if b then get_or old k d else with_frame item outs (get_or old k d)) (sym as_before)
          ];
      members = λ n low_n stays. was.members n low_n (and_parts (is_member left n) (not (n == m)) (sym (fewer n low_n) ∙ stays)).0;
      cuts_are = λ n low_n.
          more n low_n ∙ ap (λ (b : Bool). (flag && (n == m)) || b) (was.cuts_are n low_n)
          ∙ more_cuts flag (n == m) (is_member (cut_at outs old) n) (is_member left n)
          (λ same. (ap (is_member left) (eqb-true n m same) ∙ there, ap (is_member (cut_at outs old)) (eqb-true n m same) ∙ cut_there flag flag_is))
          ∙ ap (λ (b : Bool). is_member (cut_at outs old) n && not b) (sym (fewer n low_n));
    }

  -- at all its ports
  pub offered_all : left ≡ no_ports → (now ≡ map (with_frame item outs) old) × (cuts ≡ cut_at outs old)
  offered_all none =
      let d : Lane A = no_lane in
      let gone : (n : ℕ) → is_member left n ≡ false = λ n. ap (λ (set : PortSet). is_member set n) none ∙ none_in n in (
        ext_get_or d now (map (with_frame item outs) old) (was.size ∙ sym (length-map old (with_frame item outs)))
            (λ k inside.
            let within : k < length old = omega (arith, inside, was.size) in
            was.lanes k d within ∙ left_at (is_member left (get_or old k d).number) (get_or old k d) (with_frame item outs (get_or old k d)) (gone (get_or old k d).number)
            ∙ sym (get_or-map (with_frame item outs) old k d d within)),
        same_members cuts (cut_at outs old) (λ n least. was.cuts_are n least ∙ ap (λ (b : Bool). is_member (cut_at outs old) n && not b) (gone n) ∙ and-true (is_member (cut_at outs old) n)),
      )
