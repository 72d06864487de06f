-- Lanes of which each is offered a probe, one after another.
use Rattle.std.proofs.Common.{ℕ, zero, suc, ◌≡◌, ◌+◌, ◌<◌, ◌≤◌, ◌&&◌, not, cond, Bool, true, false, Some, None, if◌then◌else◌, List, [], ◌∷◌, length, map, get_or, set, drop, refl, sym, ap, ◌∙◌, arith, add-one}
use Rattle.std.specs.List.{count_by}
use Rattle.std.proofs.lemmas.List.{drop-set-lt}
use Rattle.std.proofs.lemmas.List.Sums.{sum_by-drop_more}
use Rattle.savi_kinds.specs.declared.port.PortSet.{PortSet}
use Rattle.egress_ring.specs.declared.item.Item.{Item as Queued}
use Rattle.savi_core.specs.Lanes.{Lane}
use Rattle.savi_core.specs.Rings.{Rings, counted}

-- queues are equal part by part
pub rings_are : {lanes lanes' : List (Lane Queued)} {shut shut' : PortSet} {joined joined' left left' : ℕ} → lanes ≡ lanes' → shut ≡ shut' → joined ≡ joined' → left ≡ left'
    → ◌≡◌ {A = Rings} (record { lanes = lanes; shut = shut; queued = joined; lost = left }) (record { lanes = lanes'; shut = shut'; queued = joined'; lost = left' })
rings_are lanes_are shut_is joined_is left_is = cc (lanes_are, shut_is, joined_is, left_is)

-- those from a place on have still to change
abbrev pub changed_from : {A : Type 0} → (A → A) → ℕ → List A → List A
changed_from f zero xs = map f xs
changed_from f (suc n) [] = []
changed_from f (suc n) (x ∷ xs) = x ∷ changed_from f n xs

changed_next : {A : Type 0} (f : A → A) (xs : List A) (i : ℕ) (d : A) → i < length xs → changed_from f (suc i) (set xs i (f (get_or xs i d))) ≡ changed_from f i xs
changed_next f [] i d within = absurd (omega (arith, within))
changed_next f (x ∷ xs) zero d within = refl
changed_next f (x ∷ xs) (suc i) d within = ap (λ ys. x ∷ ys) (changed_next f xs i d (omega (arith, within)))

pub changed_more : {A : Type 0} (f : A → A) (xs : List A) (i : ℕ) (d v : A) → i < length xs → v ≡ f (get_or xs i d) → changed_from f (i + 1) (set xs i v) ≡ changed_from f i xs
changed_more f xs i d v within is =
    rw (add-one i) (ap (λ y. changed_from f (suc i) (set xs i y)) is ∙ changed_next f xs i d within)

pub changed_all : {A : Type 0} (f : A → A) (xs : List A) (i : ℕ) → length xs ≤ i → changed_from f i xs ≡ xs
changed_all f [] zero past = refl
changed_all f [] (suc i) past = refl
changed_all f (x ∷ xs) zero past = absurd (omega (arith, past))
changed_all f (x ∷ xs) (suc i) past = ap (λ ys. x ∷ ys) (changed_all f xs i (omega (arith, past)))

-- a count of those that have still to come
module _ {A : Type 0} (p : A → Bool) (xs : List A) (i : ℕ) (d v : A) (within : i < length xs) (count start whole : ℕ) where
  rest : count_by p (drop i xs) ≡ cond (p (get_or xs i d)) 1 0 + count_by p (drop (i + 1) (set xs i v))
  rest =
      sum_by-drop_more (λ x. cond (p x) 1 0) xs i d within
      ∙ ap (λ (ys : List A). cond (p (get_or xs i d)) 1 0 + count_by p ys) (sym (drop-set-lt (i + 1) xs i v (omega arith)))

  pub count_one : p (get_or xs i d) ≡ true → counted count (count_by p (drop i xs)) ≡ counted start whole → counted (counted count 1) (count_by p (drop (i + 1) (set xs i v))) ≡ counted start whole
  count_one is was =
      let one : ◌≡◌ {A = ℕ} (cond (p (get_or xs i d)) 1 0) 1 = ap (λ (b : Bool). cond b 1 0) is in
      omega (arith, was, rest, one)

  pub count_none : p (get_or xs i d) ≡ false → counted count (count_by p (drop i xs)) ≡ counted start whole → counted count (count_by p (drop (i + 1) (set xs i v))) ≡ counted start whole
  count_none is was =
      let none : ◌≡◌ {A = ℕ} (cond (p (get_or xs i d)) 1 0) 0 = ap (λ (b : Bool). cond b 1 0) is in
      omega (arith, was, rest, none)

-- what became of the probe at a lane, by the answer
pub took : (goes has : Bool) → (if goes then Some has else None) ≡ Some true → ((goes && has) ≡ true) × ((goes && not has) ≡ false)
took true true is = (refl, refl)
took true false is = cc
took false has is = cc

pub left_it : (goes has : Bool) → (if goes then Some has else None) ≡ Some false → ((goes && has) ≡ false) × ((goes && not has) ≡ true)
left_it true true is = cc
left_it true false is = (refl, refl)
left_it false has is = cc

pub passed_by : (goes has : Bool) → (if goes then Some has else None) ≡ None → ((goes && has) ≡ false) × ((goes && not has) ≡ false)
passed_by true has is = cc
passed_by false has is = (refl, refl)
