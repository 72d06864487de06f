-- The passes of a plan whose ports are in rising order.
use Rattle.std.proofs.Common.{◌≡◌, ℕ, suc, zero, ◌+◌, ◌<◌, ◌==◌, ◌||◌, Bool, true, false, List, [], ◌∷◌, get_or, length, refl, ap, arith}
use Rattle.std.proofs.lemmas.Bool.Decides.{nat_tests}
use Rattle.std.proofs.lemmas.List.{length-map}
use Rattle.std.specs.List.{list_any}
use Rattle.std.specs.List.Sorted.{IsStrictlyIncreasing}
use Rattle.checkpoint.proofs.ByVlan.{lower_apart}
use Rattle.savi_kinds.specs.declared.plan.Plan.{Plan}
use Rattle.savi_kinds.specs.Ports.{number_of}
use Rattle.savi_kinds.specs.ValidPlan.{numbers_of}
use Rattle.savi_history.specs.Passes.{place_among, place_of, has_port}

-- the number of the port at a place of the plan
abbrev pub number_at : Plan → ℕ → ℕ
number_at plan k = get_or (numbers_of plan.ports) k 0

pub rising_tail : (n : ℕ) (ns : List ℕ) → IsStrictlyIncreasing (n ∷ ns) → IsStrictlyIncreasing ns
rising_tail n ns rising k inside = let e : suc k + 1 ≡ suc (k + 1) = omega arith in rw e at (rising (suc k) (omega arith))

pub first_below : (n : ℕ) (ns : List ℕ) (j : ℕ) → IsStrictlyIncreasing (n ∷ ns) → j < length ns → n < get_or ns j 0
first_below n [] j rising inside = absurd (omega arith)
first_below n (m ∷ ns) zero rising inside = rising 0 (omega arith)
first_below n (m ∷ ns) (suc j) rising inside =
    let first : n < m = rising 0 (omega arith) in
    let more : m < get_or ns j 0 = first_below m ns j (rising_tail n (m ∷ ns) rising) (omega arith) in
    omega arith

same_test : (n : ℕ) → (n == n) ≡ true
same_test n = grind (arith, nat_tests)

place_at_from : (ns : List ℕ) (k : ℕ) → IsStrictlyIncreasing ns → k < length ns → place_among ns (get_or ns k 0) ≡ k
place_at_from [] k rising inside = absurd (omega arith)
place_at_from (n ∷ ns) zero rising inside = rw (same_test n) refl
place_at_from (n ∷ ns) (suc k) rising inside =
    rw (lower_apart n (get_or ns k 0) (first_below n ns k rising (omega arith)))
    (ap (λ (p : ℕ). suc p) (place_at_from ns k (rising_tail n ns rising) (omega arith)))

-- the place of the port at a place
pub place_at : (plan : Plan) (k : ℕ) → IsStrictlyIncreasing (numbers_of plan.ports) → k < length plan.ports → place_of plan (number_at plan k) ≡ k
place_at plan k rising inside = let size : length (numbers_of plan.ports) ≡ length plan.ports = length-map plan.ports (λ p. number_of p.number) in place_at_from (numbers_of plan.ports) k rising (omega arith)

pub or_true_at : (a b : Bool) → b ≡ true → (a || b) ≡ true
or_true_at true b is = refl
or_true_at false b is = is

known_from : (ns : List ℕ) (k : ℕ) → k < length ns → list_any (λ n. n == get_or ns k 0) ns ≡ true
known_from [] k inside = absurd (omega arith)
known_from (n ∷ ns) zero inside = rw (same_test n) refl
known_from (n ∷ ns) (suc k) inside = or_true_at (n == get_or ns k 0) _ (known_from ns k (omega arith))

-- the port at a place is one of the plan's
pub known_at : (plan : Plan) (k : ℕ) → k < length plan.ports → has_port plan (number_at plan k) ≡ true
known_at plan k inside = let size : length (numbers_of plan.ports) ≡ length plan.ports = length-map plan.ports (λ p. number_of p.number) in known_from (numbers_of plan.ports) k (omega arith)
