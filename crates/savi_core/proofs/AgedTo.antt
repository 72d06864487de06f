-- Ageing of all sets in rounds: each goes up to the moment at which something is due first in any of them.
use Rattle.std.proofs.Common.{◌≡◌, ℕ, ◌+◌, ◌-◌, ◌<◌, ◌≤◌, nat_le, Option, Some, None, IfSome, List, [], ◌∷◌, ◌++◌, length, map, fold, take, drop, get_or, All, refl, sym, ap, subst, ◌∙◌, inl, inr, arith, append-nil}
use Rattle.std.specs.List.{flat_map}
use Rattle.std.specs.Option.{unwrap_or}
use Rattle.std.proofs.lemmas.Bool.{cases_Bool, le-leb, leb-false, leb-true, lt-leb}
use Rattle.std.proofs.lemmas.Grind.{flat_map-append}
use Rattle.std.proofs.lemmas.List.{map-append, take_more}
use Rattle.std.proofs.lemmas.List.Elements.{All-weaker}
use Rattle.std.proofs.lemmas.List.Folds.{fold-map}
use Rattle.std.proofs.lemmas.List.Sums.{fold-append}
use Rattle.mix_rules.specs.Ageing.{sooner_moment}
use Rattle.savi_access.specs.Rules.{AccessRules, AccessBase}
use Rattle.savi_access.specs.Marks.{Mark, told}
use Rattle.savi_access.specs.Probes.{probes_between}
use Rattle.access_table.specs.Kept.{IsAgedTo}
use Rattle.addr_table.specs.Dues.{IsUndue, due_until, first_due}
use Rattle.addr_table.specs.OneTurn.{IsQuiet}
use Rattle.savi_history.specs.Offers.{Offer, offer_of}
use Rattle.savi_core.specs.declared.vlan_set.VlanSet.{VlanSet}
use Rattle.savi_core.specs.Judges.{Ages, AgesUntil, due_between}
use Rattle.savi_core.specs.Rings.{Rings, rings_after_probe, uncounted}
use Rattle.savi_core.specs.VlanSets.{AllRepresent, AreAgedTo, IsQuietAt, IsStillAt, first_due_of, stations_of_sets, vlans_of_sets}
use Rattle.savi_core.proofs.Ageing.{rings_last, rings_more, rings_none, rings_one, round}
use Rattle.savi_core.proofs.Places.{at_item}
use Rattle.savi_core.proofs.SetLoops.{AllBefore, before_more}
use Rattle.savi_core.proofs.Together.{same_vlans}

-- how many moments are left up to the last one
abbrev pub moments_left : ℕ → Option ℕ → ℕ
moments_left t None = 0
moments_left t (Some due) = t + 1 - due

-- a moment that is due by the last one isn't behind it
pub until_within : (t : ℕ) (o : Option ℕ) → IfSome (due_until t o) (λ due. due ≤ t)
until_within t None = tt
until_within t (Some n) = elim (cases_Bool (nat_le n t)) [ inl by ↦ rw by (leb-true n t by) | inr late ↦ rw late tt ]

-- the sets were aged up to some moment, all of them
pub record HasAged (r : AccessRules) (from t : ℕ) (sets : List VlanSet) (old new : Rings) (base : AccessBase) (past : List Mark) : Type 0 where
  pub until : ℕ
  pub behind : from ≤ until
  pub before : until ≤ t
  pub states : AllRepresent r base past until sets
  pub ready : AreAgedTo r until sets
  pub probes : new ≡ fold rings_after_probe old (due_between r base past from until (vlans_of_sets sets))

pub has_aged : (r : AccessRules) (from t : ℕ) (sets : List VlanSet) (old new : Rings) (base : AccessBase) (past : List Mark) → HasAged r from t sets old new base past → AgesUntil r from t sets old new base past
has_aged r from t sets old new base past is = record {
  until = is.until;
  behind = is.behind;
  before = is.before;
  states = is.states;
  probes = is.probes;
}

module _ (r : AccessRules) where
  -- where all are aged to a moment, all is still then
  pub all_still : (t : ℕ) (sets : List VlanSet) → AreAgedTo r t sets → All (IsStillAt t) sets
  all_still t sets ready = All-weaker (λ (s : VlanSet). IsAgedTo r t s.access) (IsStillAt t) (λ s aged. aged.still) sets ready

  -- at first nothing was aged
  pub aged_none : (from t : ℕ) (sets : List VlanSet) (rings : Rings) (base : AccessBase) (past : List Mark) → from ≤ t → AreAgedTo r from sets → AllRepresent r base past from sets → HasAged r from t sets rings rings base past
  aged_none from t sets rings base past order ready all = record {
    until = from;
    behind = omega arith;
    before = order;
    states = all;
    ready = ready;
    probes = rings_none r base past from sets rings all;
  }

  -- what a round comes to
  pub record MakesRound (t : ℕ) (sets sets' : List VlanSet) (old new : Rings) : Type 0 where
    pub ready : (from : ℕ) → AreAgedTo r from sets → AreAgedTo r t sets'
    pub rest : stations_of_sets sets' ≡ stations_of_sets sets
    pub kept : (from : ℕ) (base : AccessBase) (past : List Mark) → AllRepresent r base past from sets → from ≤ t → AllRepresent r base past t sets'
    pub sent : (from : ℕ) (base : AccessBase) (past : List Mark) → AllRepresent r base past from sets → from ≤ t → new ≡ fold rings_after_probe old (round r base past from t sets)

  module _ (t : ℕ) (sets sets' : List VlanSet) (base : AccessBase) (past : List Mark) where
    -- the probes of other sets of the same VLANs
    same_due : (from until : ℕ) (old new : Rings) → stations_of_sets sets' ≡ stations_of_sets sets → new ≡ fold rings_after_probe old (due_between r base past from until (vlans_of_sets sets)) → new ≡ fold rings_after_probe old (due_between r base past from until (vlans_of_sets sets'))
    same_due from until old new rest is = is ∙ ap (λ (vs : List ℕ). fold rings_after_probe old (due_between r base past from until vs)) (sym (same_vlans sets sets' rest))

    -- one round more
    pub round_made : (due from : ℕ) (first old new : Rings) → due ≤ t → ((u : ℕ) → u < due → All (IsQuietAt u) sets) → ((u : ℕ) → All (IsStillAt u) sets → u < due) → MakesRound due sets sets' old new
        → HasAged r from t sets first old base past → HasAged r from t sets' first new base past
    round_made due from first old new within quiet later made was =
        let late : was.until < due = later was.until (all_still was.until sets was.ready) in
        record {
          until = due;
          behind = omega (arith, late, was.behind);
          before = within;
          states = made.kept was.until base past was.states (omega (arith, late));
          ready = made.ready was.until was.ready;
          probes =
              same_due from due first new made.rest
              (rings_more r base past from was.until due sets first old new was.behind late was.states (quiet (due - 1) (omega (arith, late))) was.probes
              (made.sent was.until base past was.states (omega (arith, late))));
        }

    -- a last round, where nothing is due
    pub round_ended : (from : ℕ) (first old new : Rings) → All (IsQuietAt t) sets → MakesRound t sets sets' old new → AgesUntil r from t sets (uncounted first) old base past → Ages r from t sets' first new base past
    round_ended from first old new quiet made was = record {
      states = made.kept was.until base past was.states was.before;
      probes =
          same_due from t (uncounted first) new made.rest
          (rings_last r base past from was.until t sets (uncounted first) old new was.behind was.before was.states quiet was.probes (made.sent was.until base past was.states was.before));
    }

    -- a round alone, of one set
    pub round_alone : (from : ℕ) (first old new : Rings) → length sets ≤ 1 → old ≡ uncounted first → from ≤ t → MakesRound t sets sets' old new → AllRepresent r base past from sets → Ages r from t sets' first new base past
    round_alone from first old new few begun order made stands = record {
      states = made.kept from base past stands order;
      probes =
          same_due from t (uncounted first) new made.rest
          (rings_one r base past from t sets (uncounted first) new few stands (made.sent from base past stands order ∙ ap (λ (rings : Rings). fold rings_after_probe rings (round r base past from t sets)) begun));
    }

-- the probes of one set more, behind those of the sets before it

module _ (r : AccessRules) (base : AccessBase) (past : List Mark) (from t : ℕ) where
  abbrev sent_in : ℕ → List Offer
  sent_in vlan = map (offer_of vlan) (probes_between r.addresses base.addresses (told past) from t vlan)

  round_longer : (sets : List VlanSet) (i : ℕ) (one : VlanSet) → i < length sets → one ≡ get_or sets i one → round r base past from t (take i sets) ++ sent_in one.access.vlan ≡ round r base past from t (take (i + 1) sets)
  round_longer sets i one inside is =
      let vlan : VlanSet → ℕ = λ s. s.access.vlan in
      sym
      (ap (λ (l : List VlanSet). flat_map sent_in (map vlan l)) (take_more sets i one inside)
      ∙ ap (λ (s : VlanSet). flat_map sent_in (map vlan (take i sets ++ s ∷ []))) (sym is)
      ∙ ap (flat_map sent_in) (map-append vlan (take i sets) (one ∷ []))
      ∙ flat_map-append sent_in (map vlan (take i sets)) (one.access.vlan ∷ [])
      ∙ ap (λ (l : List Offer). flat_map sent_in (map vlan (take i sets)) ++ l) (append-nil (sent_in one.access.vlan)))

  pub sent_more : (sets : List VlanSet) (i : ℕ) (one : VlanSet) (old between new : Rings) → i < length sets → one ≡ get_or sets i one → between ≡ fold rings_after_probe old (round r base past from t (take i sets))
      → new ≡ fold (λ rings sent. rings_after_probe rings (offer_of one.access.vlan sent)) between (probes_between r.addresses base.addresses (told past) from t one.access.vlan) → new ≡ fold rings_after_probe old (round r base past from t (take (i + 1) sets))
  sent_more sets i one old between new inside is early late =
      late
      ∙ sym (fold-map rings_after_probe (offer_of one.access.vlan) between (probes_between r.addresses base.addresses (told past) from t one.access.vlan))
      ∙ ap (λ (rings : Rings). fold rings_after_probe rings (sent_in one.access.vlan)) early
      ∙ sym (fold-append rings_after_probe old (round r base past from t (take i sets)) (sent_in one.access.vlan))
      ∙ ap (λ (offers : List Offer). fold rings_after_probe old offers) (round_longer sets i one inside is)

-- the least of moments, one set after the other

-- the first moment, once that of one set more was asked for
abbrev pub taken_if : Option ℕ → Option ℕ → Option ℕ
taken_if first None = first
taken_if first (Some due) = Some due

-- what isn't due by a moment counts for nothing
sooner_late : (t n : ℕ) (rest : Option ℕ) → t < n → due_until t (sooner_moment (Some n) rest) ≡ due_until t rest
sooner_late t n None late = rw (lt-leb n t late) refl
sooner_late t n (Some m) late =
    elim (cases_Bool (nat_le n m)) [
      | inl less ↦ rw (less, lt-leb n t late, lt-leb m t (omega (arith, late, leb-true n m less))) refl
      | inr more ↦ rw more refl
    ]

sooner_early : (t n : ℕ) (rest : Option ℕ) → n ≤ t → due_until t (sooner_moment (Some n) rest) ≡ sooner_moment (Some n) (due_until t rest)
sooner_early t n None by = rw (le-leb n t by) refl
sooner_early t n (Some m) by =
    elim (cases_Bool (nat_le n m)) [
      | inl less ↦ elim (cases_Bool (nat_le m t)) [ inl too ↦ rw (less, too, less, le-leb n t by) refl | inr late ↦ rw (less, late, le-leb n t by) refl ]
      | inr more ↦ let too : m ≤ t = omega (arith, by, leb-false n m more) in rw (more, le-leb m t too, more) refl
    ]

-- of two moments the later one counts for nothing
sooner_first : (n m : ℕ) (rest : Option ℕ) → n ≤ m → sooner_moment (Some n) (sooner_moment (Some m) rest) ≡ sooner_moment (Some n) rest
sooner_first n m None less = rw (le-leb n m less) refl
sooner_first n m (Some k) less =
    elim (cases_Bool (nat_le m k)) [
      | inl one ↦ rw (one, le-leb n m less, le-leb n k (omega (arith, less, leb-true m k one))) refl
      | inr other ↦ rw other refl
    ]

sooner_second : (n m : ℕ) (rest : Option ℕ) → m ≤ n → sooner_moment (Some n) (sooner_moment (Some m) rest) ≡ sooner_moment (Some m) rest
sooner_second n m None less = least n m less
  where
    least : (a b : ℕ) → b ≤ a → sooner_moment (Some a) (Some b) ≡ Some b
    least a b order =
        elim (cases_Bool (nat_le a b)) [
          | inl by ↦ let same : a ≡ b = omega (arith, order, leb-true a b by) in rw by (ap Some same)
          | inr late ↦ rw late refl
        ]
sooner_second n m (Some k) less =
    elim (cases_Bool (nat_le m k)) [
      | inl one ↦
          elim (cases_Bool (nat_le n m)) [
            | inl by ↦ let same : n ≡ m = omega (arith, less, leb-true n m by) in rw (one, by) (ap Some same)
            | inr late ↦ rw (one, late) refl
          ]
      | inr other ↦ rw (other, lt-leb n k (omega (arith, less, leb-false m k other))) refl
    ]

one_asked : (t : ℕ) (first due rest : Option ℕ) → IfSome first (λ n. n ≤ t) → sooner_moment first (due_until t (sooner_moment due rest)) ≡ sooner_moment (taken_if first (due_until (unwrap_or first t) due)) (due_until t rest)
one_asked t None None rest within = refl
one_asked t None (Some n) rest within =
    elim (cases_Bool (nat_le n t)) [
      | inl by ↦ sooner_early t n rest (leb-true n t by) ∙ rw by refl
      | inr late ↦ sooner_late t n rest (leb-false n t late) ∙ rw late refl
    ]
one_asked t (Some f) None rest within = refl
one_asked t (Some f) (Some n) rest within =
    elim (cases_Bool (nat_le n f)) [
      | inl by ↦
          let less : n ≤ f = leb-true n f by in
          ap (sooner_moment (Some f)) (sooner_early t n rest (omega (arith, less, within))) ∙ sooner_second f n (due_until t rest) less ∙ rw by refl
      | inr late ↦ later (leb-false n f late) ∙ rw late refl
    ]
  where
    later : f < n → sooner_moment (Some f) (due_until t (sooner_moment (Some n) rest)) ≡ sooner_moment (Some f) (due_until t rest)
    later more =
        elim (cases_Bool (nat_le n t)) [
          | inl by ↦ ap (sooner_moment (Some f)) (sooner_early t n rest (leb-true n t by)) ∙ sooner_first f n (due_until t rest) (omega (arith, more))
          | inr over ↦ ap (sooner_moment (Some f)) (sooner_late t n rest (leb-false n t over))
        ]

-- the first moment of the sets before a place
pub record IsFirstBefore (t i : ℕ) (sets : List VlanSet) (first : Option ℕ) : Type 0 where
  pub within : IfSome first (λ due. due ≤ t)
  pub due : sooner_moment first (due_until t (first_due_of (drop i sets))) ≡ due_until t (first_due_of sets)
  pub quiet : (u : ℕ) → IsUndue first t u → AllBefore (IsQuietAt u) i sets
  pub later : IfSome first (λ due. (u : ℕ) → All (IsStillAt u) sets → u < due)

taken_within : (t : ℕ) (first answer : Option ℕ) → IfSome first (λ due. due ≤ t) → IfSome answer (λ due. due ≤ unwrap_or first t) → IfSome (taken_if first answer) (λ due. due ≤ t)
taken_within t first None within last = within
taken_within t None (Some d) within last = last
taken_within t (Some f) (Some d) within last = omega (arith, within, last)

undue_first : (t u : ℕ) (first answer : Option ℕ) → IfSome answer (λ due. due ≤ unwrap_or first t) → IsUndue (taken_if first answer) t u → IsUndue first t u
undue_first t u first None last undue = undue
undue_first t u None (Some d) last undue = omega (arith, last, undue)
undue_first t u (Some f) (Some d) last undue = omega (arith, last, undue)

undue_one : (t u : ℕ) (first answer : Option ℕ) → IsUndue (taken_if first answer) t u → IsUndue answer (unwrap_or first t) u
undue_one t u None None undue = undue
undue_one t u (Some f) None undue = omega (arith, undue)
undue_one t u first (Some d) undue = undue

later_one : (first answer : Option ℕ) (P : ℕ → Type 0) → IfSome first P → IfSome answer P → IfSome (taken_if first answer) P
later_one first None P was now = was
later_one first (Some d) P was now = now

still_there : (sets : List VlanSet) (answer : Option ℕ) (one : VlanSet) → ((u : ℕ) → All (IsStillAt u) sets → IsStillAt u one) → IfSome answer (λ due. (u : ℕ) → IsStillAt u one → u < due) → IfSome answer (λ due. (u : ℕ) → All (IsStillAt u) sets → u < due)
still_there sets None one at later = tt
still_there sets (Some d) one at later = λ u all. later u (at u all)

-- and with that of the set there
pub first_more : (t i : ℕ) (sets : List VlanSet) (first answer : Option ℕ) (one : VlanSet) → i < length sets → one ≡ get_or sets i one → answer ≡ due_until (unwrap_or first t) (first_due one.access.addresses.times one.access.addresses.rows)
    → ((u : ℕ) → IsUndue answer (unwrap_or first t) u → IsQuiet u one.access.addresses) → IfSome answer (λ due. (u : ℕ) → IsStillAt u one → u < due) → IsFirstBefore t i sets first → IsFirstBefore t (i + 1) sets (taken_if first answer)
first_more t i sets first answer one inside there answer_is quiet later was =
    let own : Option ℕ = first_due one.access.addresses.times one.access.addresses.rows in
    let rest : Option ℕ = first_due_of (drop (i + 1) sets) in
    let last : IfSome answer (λ due. due ≤ unwrap_or first t) = subst (λ (o : Option ℕ). IfSome o (λ due. due ≤ unwrap_or first t)) (sym answer_is) (until_within (unwrap_or first t) own) in
    record {
      within = taken_within t first answer was.within last;
      due =
          ap (λ (o : Option ℕ). sooner_moment (taken_if first o) (due_until t (first_due_of (drop (i + 1) sets)))) answer_is
          ∙ sym (one_asked t first own rest was.within)
          ∙ sym (at_item (λ (l : List VlanSet). sooner_moment first (due_until t (first_due_of l))) sets i one inside there)
          ∙ was.due;
      quiet = λ u undue.
          let q : IsQuiet u one.access.addresses = quiet u (undue_one t u first answer undue) in
          let here : IsQuietAt u one = record { unchanged = q.aged; silent = q.none; still = q.still } in
          before_more (IsQuietAt u) i sets one inside there (was.quiet u (undue_first t u first answer last undue)) here;
      later =
          later_one first answer (λ due. (u : ℕ) → All (IsStillAt u) sets → u < due) was.later
          (still_there sets answer one (λ u all. subst (IsStillAt u) (sym there) (all i one inside)) later);
    }
