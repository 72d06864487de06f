-- The first place of a list whose key passes a test: where it is, and what a write there changes.
use Rattle.std.proofs.Common.{◌≡◌, ℕ, zero, suc, ◌+◌, ◌<◌, Bool, true, false, cond, List, [], ◌∷◌, length, get_or, set, Option, Some, None, is_none, refl, sym, ap, subst, ◌∙◌, arith, position}
use Rattle.std.specs.List.{position_from}
use Rattle.std.proofs.lemmas.List.Quantifiers.{position-Some}
use Rattle.std.proofs.lemmas.Iterator.Adapters.{position_from-zero}
use Rattle.savi_ends.specs.Places.{Place}
use Rattle.savi_ends.specs.MemPlaces.{place_holding, no_place, first_place, keys_of}

-- this place is the first whose key passes
pub record IsFirst {Key X : Type 0} (test : Key → Bool) (places : List (Key × Option X)) (i : ℕ) (p : Key × Option X) : Type 0 where
  pub within : i < length places
  pub is : p ≡ get_or places i p
  pub passes : test p.0 ≡ true
  pub before : (k : ℕ) → k < i → test (get_or places k p).0 ≡ false

pub first_is : {Key X : Type 0} (test : Key → Bool) (seen places : List (Key × Option X)) (i : ℕ) (p : Key × Option X) → Some i ≡ position (λ q. test q.0) seen → seen ≡ places → p ≡ get_or places i p → IsFirst test places i p
first_is {Key} {X} test seen places i p found same is =
    let here = position-Some (λ (q : Key × Option X). test q.0) places i p (sym (found ∙ ap (λ (l : List (Key × Option X)). position (λ q. test q.0) l) same)) in
    record {
      within = here.0;
      is = is;
      passes = ap (λ (q : Key × Option X). test q.0) is ∙ here.1;
      before = here.2;
    }

first_step : {Key X : Type 0} (test : Key → Bool) (places : List (Key × Option X)) (i : ℕ) (p : Key × Option X) → i < length places → p ≡ get_or places i p → test p.0 ≡ true → ((k : ℕ) → k < i → test (get_or places k p).0 ≡ false) → first_place test places ≡ place_holding p.1
first_step test [] i p within is passes before = absurd (omega arith)
first_step {Key} {X} test (q ∷ places) zero p within is passes before =
    let here : test q.0 ≡ true = subst (λ (r : Key × Option X). test r.0 ≡ true) is passes in
    rw here (ap (λ (r : Key × Option X). place_holding r.1) (sym is))
first_step test (q ∷ places) (suc i) p within is passes before =
    rw (before 0 (omega arith)) (first_step test places i p (omega arith) is passes (λ k below. before (suc k) (omega arith)))

-- the place that is found
pub first_place-found : {Key X : Type 0} (test : Key → Bool) (places : List (Key × Option X)) (i : ℕ) (p : Key × Option X) → IsFirst test places i p → first_place test places ≡ place_holding p.1
first_place-found test places i p f = first_step test places i p f.within f.is f.passes f.before

set_step : {Key X : Type 0} (test : Key → Bool) (places : List (Key × Option X)) (i : ℕ) (p : Key × Option X) (x : Option X) → i < length places → test p.0 ≡ true → ((k : ℕ) → k < i → test (get_or places k p).0 ≡ false) → first_place test (set places i (p.0, x)) ≡ place_holding x
set_step test [] i p x within passes before = absurd (omega arith)
set_step test (q ∷ places) zero p x within passes before = rw passes refl
set_step test (q ∷ places) (suc i) p x within passes before =
    rw (before 0 (omega arith)) (set_step test places i p x (omega arith) passes (λ k below. before (suc k) (omega arith)))

-- after a write to that place
pub first_place-set : {Key X : Type 0} (test : Key → Bool) (places : List (Key × Option X)) (i : ℕ) (p : Key × Option X) (x : Option X) → IsFirst test places i p → first_place test (set places i (p.0, x)) ≡ place_holding x
first_place-set test places i p x f = set_step test places i p x f.within f.passes f.before

-- a write to a place whose key doesn't pass another test
pub first_place-set_other : {Key X : Type 0} (test : Key → Bool) (places : List (Key × Option X)) (i : ℕ) (p : Key × Option X) (x : Option X) → i < length places → p ≡ get_or places i p → test p.0 ≡ false → first_place test (set places i (p.0, x)) ≡ first_place test places
first_place-set_other test [] i p x within is fails = refl
first_place-set_other {Key} {X} test (q ∷ places) zero p x within is fails =
    let here : test q.0 ≡ false = subst (λ (r : Key × Option X). test r.0 ≡ false) is fails in
    rw (fails, here) refl
first_place-set_other {Key} {X} test (q ∷ places) (suc i) p x within is fails =
    ap (λ (rest : Place X). cond (test q.0) (place_holding q.1) rest) (first_place-set_other test places i p x (omega arith) is fails)

-- a write to a place keeps the keys
pub keys_of-set : {Key X : Type 0} (places : List (Key × Option X)) (i : ℕ) (p : Key × Option X) (x : Option X) → i < length places → p ≡ get_or places i p → keys_of (set places i (p.0, x)) ≡ keys_of places
keys_of-set [] i p x within is = refl
keys_of-set {Key} {X} (q ∷ places) zero p x within is = ap (λ (r : Key × Option X). r.0 ∷ keys_of places) is
keys_of-set {Key} {X} (q ∷ places) (suc i) p x within is =
    ap (λ (keys : List Key). q.0 ∷ keys) (keys_of-set places i p x (omega arith) is)

absent_case : {X : Type 0} (b : Bool) (n : ℕ) (rest : Option ℕ) (here there : Place X) → cond b (Some n) rest ≡ None → (rest ≡ None → there ≡ no_place) → cond b here there ≡ no_place
absent_case true n rest here there none later = cc
absent_case false n rest here there none later = later none

absent_step : {Key X : Type 0} (test : Key → Bool) (n : ℕ) (places : List (Key × Option X)) → position_from (λ q. test q.0) n places ≡ None → first_place test places ≡ no_place
absent_step test n [] none = refl
absent_step {Key} {X} test n (q ∷ places) none =
    absent_case (test q.0) n (position_from (λ q. test q.0) (n + 1) places) (place_holding q.1) (first_place test places) none (absent_step test (n + 1) places)

-- a key that isn't in the list has no place
pub first_place-absent : {Key X : Type 0} (test : Key → Bool) (seen places : List (Key × Option X)) → None ≡ position (λ q. test q.0) seen → seen ≡ places → first_place test places ≡ no_place
first_place-absent {Key} {X} test seen places none same =
    absent_step test 0 places (sym (position_from-zero (λ (q : Key × Option X). test q.0) places) ∙ sym (none ∙ ap (λ (l : List (Key × Option X)). position (λ q. test q.0) l) same))

full_case : {X : Type 0} (b c : Bool) (n : ℕ) (rest : Option ℕ) (x : Option X) (there : Place X) → c ≡ is_none x → cond c (Some n) rest ≡ None → (rest ≡ None → there.is_out ≡ false) → (cond b (place_holding x) there).is_out ≡ false
full_case true true n rest x there is none later = cc
full_case true false n rest x there is none later = sym is
full_case false true n rest x there is none later = cc
full_case false false n rest x there is none later = later none

full_step : {Key X : Type 0} (test : Key → Bool) (n : ℕ) (places : List (Key × Option X)) → position_from (λ q. is_none q.1) n places ≡ None → (first_place test places).is_out ≡ false
full_step test n [] none = refl
full_step test n (q ∷ places) none =
    full_case (test q.0) (is_none q.1) n (position_from (λ q. is_none q.1) (n + 1) places) q.1 (first_place test places) refl none (full_step test (n + 1) places)

-- where no place is empty, none is handed out
pub is_out-full : {Key X : Type 0} (test : Key → Bool) (seen places : List (Key × Option X)) → None ≡ position (λ q. is_none q.1) seen → seen ≡ places → (first_place test places).is_out ≡ false
is_out-full {Key} {X} test seen places none same =
    full_step test 0 places (sym (position_from-zero (λ (q : Key × Option X). is_none q.1) places) ∙ sym (none ∙ ap (λ (l : List (Key × Option X)). position (λ q. is_none q.1) l) same))
