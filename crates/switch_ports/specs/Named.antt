-- What the ends of each port of a plan, and those of control, are asked for by.
use Rattle.std.specs.Prelude.{ℕ, ◌==◌, Bool, if◌then◌else◌, List, [], ◌∷◌}
use Rattle.savi_kinds.specs.declared.plan.Format.TheVariants.{Pcap}
use Rattle.savi_kinds.specs.declared.plan.PortPlan.{PortPlan}
use Rattle.savi_kinds.specs.Ports.{number_of}
use Rattle.savi_ends.specs.Places.{Place, PortKey, ControlKey, port_key}

-- the port of this number, as these plans name its ends; a port of no plan has no names
abbrev pub key_among : List PortPlan → ℕ → PortKey
key_among [] number = record { number = number; input = []; output = []; format = Pcap }
key_among (p ∷ plans) number = if number_of p.number == number then port_key p else key_among plans number

-- the place of each port, by its number, under the names of these plans
abbrev pub named_by : {X : Type 0} → List PortPlan → (PortKey → Place X) → ℕ → Place X
named_by plans places number = places (key_among plans number)

-- control, by the names of its input and output
abbrev pub control_key : Bool → List ℕ × List ℕ → ControlKey
control_key live names = record { source = names.0; sink = names.1; live = live }
