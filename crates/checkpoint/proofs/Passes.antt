-- Which pass has a number.
use Rattle.std.proofs.Common.{ℕ, suc, ◌≡◌, ◌+◌, ◌-◌, ◌≤◌, List, ◌∷◌, ◌++◌, length, map, Some, None, ap, ◌∙◌, arith}
use Rattle.std.specs.Prelude.{slice_get}
use Rattle.std.specs.Option.{option_map}
use Rattle.std.proofs.lemmas.List.{length-map}
use Rattle.std.proofs.lemmas.Option.{slice_get-map, slice_get_past}
use Rattle.savi_kinds.specs.declared.plan.Plan.{Plan}
use Rattle.savi_kinds.specs.declared.plan.PortPlan.{PortPlan}
use Rattle.savi_kinds.specs.declared.entry.Who.{Who}
use Rattle.savi_kinds.specs.declared.entry.Who.TheVariants.{Ingress, Control, Ticker, Egress}
use Rattle.checkpoint.specs.BaseLines.{passes_of}
use Rattle.checkpoint.proofs.Places.{behind}

abbrev ingress : PortPlan → Who
ingress port = Ingress port.number

abbrev egress : PortPlan → Who
egress port = Egress port.number

-- the passes behind those of ingress
abbrev others : List PortPlan → List Who
others ports = Control ∷ Ticker ∷ map egress ports

behind_ingress : (plan : Plan) (ports : List PortPlan) (i k : ℕ) → plan.ports ≡ ports → i ≡ length ports + k → slice_get (passes_of plan) i ≡ slice_get (others ports) k
behind_ingress plan ports i k is at =
    let size : length (map ingress ports) ≡ length ports = length-map ports ingress in
    let place : i - length (map ingress ports) ≡ k = omega (arith, size, at) in
    ap (λ (l : List PortPlan). slice_get (map ingress l ++ others l) i) is
    ∙ behind (map ingress ports) (others ports) i (omega (arith, size, at)) ∙ ap (slice_get (others ports)) place

pub at_egress : (plan : Plan) (ports : List PortPlan) (i k : ℕ) (port : PortPlan) → plan.ports ≡ ports → i ≡ length ports + 2 + k → slice_get ports k ≡ Some port → slice_get (passes_of plan) i ≡ Some (Egress port.number)
at_egress plan ports i k port is at found =
    behind_ingress plan ports i (suc (suc k)) is (omega (arith, at)) ∙ slice_get-map egress ports k ∙ ap (option_map egress) found

pub past_all : (plan : Plan) (ports : List PortPlan) (i k : ℕ) → plan.ports ≡ ports → i ≡ length ports + 2 + k → length ports ≤ k → slice_get (passes_of plan) i ≡ None
past_all plan ports i k is at past =
    behind_ingress plan ports i (suc (suc k)) is (omega (arith, at)) ∙ slice_get_past (map egress ports) k (omega (arith, past, length-map ports egress))
