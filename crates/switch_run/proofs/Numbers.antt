-- The numbers of the first ports of a plan, one after the other.
use Rattle.std.proofs.Common.{◌≡◌, ℕ, ◌+◌, ◌<◌, ◌≤◌, List, [], ◌∷◌, ◌++◌, get_or, length, map, take, sym, ap, ◌∙◌, arith}
use Rattle.std.proofs.lemmas.List.{get_or-map, length-map, map-append, take_all, take_more}
use Rattle.savi_kinds.specs.declared.plan.PortPlan.{PortPlan}
use Rattle.savi_kinds.specs.declared.port.Port.{Port}
use Rattle.savi_kinds.specs.Ports.{number_of}
use Rattle.savi_kinds.specs.ValidPlan.{numbers_of}

pub number_more : (ports : List PortPlan) (i : ℕ) (port : PortPlan) (numbers numbers' : List Port) → i < length ports → port ≡ get_or ports i port → map number_of numbers ≡ take i (numbers_of ports) → numbers' ≡ numbers ++ port.number ∷ []
    → map number_of numbers' ≡ take (i + 1) (numbers_of ports)
number_more ports i port numbers numbers' inside is so_far pushed =
    let size = length-map ports (λ (p : PortPlan). number_of p.number) in
    let here : get_or (numbers_of ports) i 0 ≡ number_of port.number = get_or-map (λ (p : PortPlan). number_of p.number) ports i port 0 inside ∙ sym (ap (λ (p : PortPlan). number_of p.number) is) in
    ap (map number_of) pushed
    ∙ map-append number_of numbers (port.number ∷ [])
    ∙ ap (λ (l : List ℕ). l ++ number_of port.number ∷ []) so_far
    ∙ ap (λ (n : ℕ). take i (numbers_of ports) ++ n ∷ []) (sym here)
    ∙ sym (take_more (numbers_of ports) i 0 (omega (arith, size, inside)))

pub numbers_whole : (ports : List PortPlan) (numbers : List Port) (i : ℕ) → map number_of numbers ≡ take i (numbers_of ports) → length ports ≤ i → map number_of numbers ≡ numbers_of ports
numbers_whole ports numbers i so_far whole =
    let size = length-map ports (λ (p : PortPlan). number_of p.number) in
    so_far ∙ take_all i (numbers_of ports) (omega (arith, size, whole))
