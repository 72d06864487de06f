-- Places by name: one more behind the others, and a write to the first of a name.
use Rattle.std.proofs.Common.{◌≡◌, ◌≢◌, ℕ, zero, suc, ◌+◌, ◌<◌, Bool, true, false, cond, List, [], ◌∷◌, ◌++◌, length, get_or, set, Option, Some, None, refl, sym, ap, subst, ◌∙◌, arith, position}
use Rattle.std.specs.List.{position_from}
use Rattle.std.specs.Str.{bytes_eq}
use Rattle.std.proofs.lemmas.Iterator.Adapters.{position_from-zero}
use Rattle.std.proofs.lemmas.Slice.Eq.{bytes_eq-Decides}
use Rattle.savi_ends.specs.Places.{Place}
use Rattle.savi_ends.proofs.Keys.{other_name}
use Rattle.end_places.specs.ManySpots.{spot_among}
use Rattle.end_places.specs.Spots.{unopened}

push_case : {X : Type 0} (here : Bool) (kept : Option X) (after : Place X) → after.is_out ≡ true → (cond here (record { is_out = true; stands = kept }) after).is_out ≡ true
push_case true kept after later = refl
push_case false kept after later = later

-- one more is handed out, under this name
pub push_here : {X : Type 0} (places : List (List ℕ × Option X)) (name : List ℕ) (x : Option X) → (spot_among (places ++ (name, x) ∷ []) name).is_out ≡ true
push_here [] name x = rw ((bytes_eq-Decides name name).1 refl) refl
push_here (p ∷ places) name x = push_case (bytes_eq p.0 name) p.1 (spot_among (places ++ (name, x) ∷ []) name) (push_here places name x)

pub push_other : {X : Type 0} (places : List (List ℕ × Option X)) (name other : List ℕ) (x : Option X) → other ≢ name → spot_among (places ++ (name, x) ∷ []) other ≡ spot_among places other
push_other [] name other x differs = rw (other_name name name other ((bytes_eq-Decides name name).1 refl) differs) refl
push_other {X} (p ∷ places) name other x differs = ap (λ (rest : Place X). cond (bytes_eq p.0 other) (record { is_out = true; stands = p.1 }) rest) (push_other places name other x differs)

-- a write to the first place of a name
pub set_here : {X : Type 0} (places : List (List ℕ × Option X)) (i : ℕ) (p : List ℕ × Option X) (name : List ℕ) (x : Option X) → i < length places → bytes_eq p.0 name ≡ true → ((k : ℕ) → k < i → bytes_eq (get_or places k p).0 name ≡ false) → (spot_among (set places i (p.0, x)) name).stands ≡ x
set_here [] i p name x within passes before = absurd (omega (arith, within))
set_here (q ∷ places) zero p name x within passes before = rw passes refl
set_here (q ∷ places) (suc i) p name x within passes before =
    rw (before 0 (omega arith)) (set_here places i p name x (omega (arith, within)) passes (λ k below. before (suc k) (omega (arith, below))))

pub set_other : {X : Type 0} (places : List (List ℕ × Option X)) (i : ℕ) (p : List ℕ × Option X) (name : List ℕ) (x : Option X) → i < length places → p ≡ get_or places i p → bytes_eq p.0 name ≡ false → spot_among (set places i (p.0, x)) name ≡ spot_among places name
set_other [] i p name x within is fails = refl
set_other {X} (q ∷ places) zero p name x within is fails =
    let here : bytes_eq q.0 name ≡ false = subst (λ (r : List ℕ × Option X). bytes_eq r.0 name ≡ false) is fails in
    rw (fails, here) refl
set_other {X} (q ∷ places) (suc i) p name x within is fails =
    ap (λ (rest : Place X). cond (bytes_eq q.0 name) (record { is_out = true; stands = q.1 }) rest) (set_other places i p name x (omega (arith, within)) is fails)

absent_case : {X : Type 0} (b : Bool) (n : ℕ) (rest : Option ℕ) (here there : Place X) → cond b (Some n) rest ≡ None → (rest ≡ None → there ≡ unopened) → cond b here there ≡ unopened
absent_case true n rest here there none later = cc
absent_case false n rest here there none later = later none

absent_step : {X : Type 0} (name : List ℕ) (n : ℕ) (places : List (List ℕ × Option X)) → position_from (λ q. bytes_eq q.0 name) n places ≡ None → spot_among places name ≡ unopened
absent_step name n [] none = refl
absent_step {X} name n (q ∷ places) none =
    absent_case (bytes_eq q.0 name) n (position_from (λ q. bytes_eq q.0 name) (n + 1) places) (record { is_out = true; stands = q.1 }) (spot_among places name) none (absent_step name (n + 1) places)

-- a name that isn't there has no place
pub absent : {X : Type 0} (name : List ℕ) (seen places : List (List ℕ × Option X)) → None ≡ position (λ q. bytes_eq q.0 name) seen → seen ≡ places → spot_among places name ≡ unopened
absent {X} name seen places none same =
    absent_step name 0 places (sym (position_from-zero (λ (q : List ℕ × Option X). bytes_eq q.0 name) places) ∙ sym (none ∙ ap (λ (l : List (List ℕ × Option X)). position (λ q. bytes_eq q.0 name) l) same))

-- of a place from which nothing was handed out nothing is told
untold_case : {X : Type 0} (here : Bool) (kept : Option X) (rest : Place X) → (cond here (record { is_out = true; stands = kept }) rest).is_out ≡ false → (rest.is_out ≡ false → rest ≡ unopened) → cond here (record { is_out = true; stands = kept }) rest ≡ unopened
untold_case true kept rest new later = let clash : true ≡ false = new in cc
untold_case false kept rest new later = later new

pub untold : {X : Type 0} (places : List (List ℕ × Option X)) (name : List ℕ) → (spot_among places name).is_out ≡ false → spot_among places name ≡ unopened
untold [] name new = refl
untold (p ∷ places) name new = untold_case (bytes_eq p.0 name) p.1 (spot_among places name) new (untold places name)
