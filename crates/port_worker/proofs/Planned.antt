-- The ends of the ports of a plan, in its order.
use Rattle.std.proofs.Common.{◌≡◌, ◌≢◌, ℕ, zero, suc, ◌<◌, List, [], ◌∷◌, length, drop, map, get_or, refl, sym, ap, ◌∙◌, arith}
use Rattle.std.proofs.lemmas.List.{length-map, get_or-map}
use Rattle.std.specs.List.Sorted.{IsStrictlyIncreasing}
use Rattle.savi_kinds.specs.declared.port.Port.{Port}
use Rattle.savi_kinds.specs.declared.plan.Plan.{Plan}
use Rattle.savi_kinds.specs.declared.plan.PortPlan.{PortPlan}
use Rattle.savi_kinds.specs.Ports.{number_of}
use Rattle.savi_kinds.specs.ValidPlan.{numbers_of}
use Rattle.savi_history.specs.Passes.{place_of}
use Rattle.savi_history.proofs.PassNumbers.{number_at, place_at}
use Rattle.port_worker.specs.declared.port_ends.PortEnds.{PortEnds}
use Rattle.port_worker.specs.Replays.{ports_held, ports_planned}

map_again : {X Y Z : Type 0} (f : Y → Z) (g : X → Y) (xs : List X) → map f (map g xs) ≡ map (λ x. f (g x)) xs
map_again f g [] = refl
map_again {X} {Y} {Z} f g (x ∷ xs) = ap (λ (l : List Z). f (g x) ∷ l) (map_again f g xs)

pub count_is : {S K C : Type 0} (ports : List (PortEnds S K C)) (plan : Plan) → ports_held ports ≡ ports_planned plan → length ports ≡ length plan.ports
count_is {S} {K} {C} ports plan planned = sym (length-map ports (λ p. p.port)) ∙ ap (λ (l : List Port). length l) planned ∙ length-map plan.ports (λ p. p.number)

pub number_is : {S K C : Type 0} (ports : List (PortEnds S K C)) (plan : Plan) (k : ℕ) (d : PortEnds S K C) → ports_held ports ≡ ports_planned plan → k < length ports → number_of (get_or ports k d).port ≡ number_at plan k
number_is {S} {K} {C} ports plan k d planned inside =
    let held : map (λ (p : PortEnds S K C). number_of p.port) ports ≡ numbers_of plan.ports =
    sym (map_again number_of (λ (p : PortEnds S K C). p.port) ports) ∙ ap (λ (l : List Port). map number_of l) planned ∙ map_again number_of (λ (p : PortPlan). p.number) plan.ports in
    sym (get_or-map (λ (p : PortEnds S K C). number_of p.port) ports k d 0 inside) ∙ ap (λ (l : List ℕ). get_or l k 0) held

pub numbers_differ : (plan : Plan) (k j : ℕ) → IsStrictlyIncreasing (numbers_of plan.ports) → k < length plan.ports → j < length plan.ports → k ≢ j → number_at plan k ≢ number_at plan j
numbers_differ plan k j rising inside_k inside_j other same =
    other (sym (place_at plan k rising inside_k) ∙ ap (place_of plan) same ∙ place_at plan j rising inside_j)

-- the plan of the port at a place, in front of those behind it
pub plan_at : (plans : List PortPlan) (ports : List Port) (k : ℕ) (d : Port) → ports ≡ map (λ p. p.number) plans → k < length plans → (q : PortPlan) × (drop k plans ≡ q ∷ drop (suc k) plans) × (q.number ≡ get_or ports k d)
plan_at [] ports k d planned inside = absurd (omega arith)
plan_at (q ∷ plans) ports zero d planned inside = (q, refl, sym (ap (λ (l : List Port). get_or l 0 d) planned))
plan_at (q ∷ plans) ports (suc k) d planned inside =
    let later = plan_at plans (map (λ p. p.number) plans) k d refl (omega arith) in
    (later.0, later.1, later.2 ∙ sym (ap (λ (l : List Port). get_or l (suc k) d) planned))

pub held_at : {S K C : Type 0} (ports : List (PortEnds S K C)) (plan : Plan) (k : ℕ) (d : PortEnds S K C) → ports_held ports ≡ ports_planned plan → k < length ports → (q : PortPlan) × (drop k plan.ports ≡ q ∷ drop (suc k) plan.ports) × (q.number ≡ (get_or ports k d).port)
held_at {S} {K} {C} ports plan k d planned inside =
    let count = count_is ports plan planned in
    let q = plan_at plan.ports (ports_held ports) k d.port planned (omega arith) in
    (q.0, q.1, q.2 ∙ get_or-map (λ (p : PortEnds S K C). p.port) ports k d d.port inside)
