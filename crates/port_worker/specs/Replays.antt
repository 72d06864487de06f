-- What a replay takes: the ends of the ports of a plan, in its order, of which nothing was read yet.
use Rattle.std.specs.Prelude.{◌≡◌, List, map}
use Rattle.savi_kinds.specs.declared.plan.Plan.{Plan}
use Rattle.savi_kinds.specs.declared.port.Port.{Port}
use Rattle.port_worker.specs.declared.port_ends.Ahead.TheVariants as ahead
use Rattle.port_worker.specs.declared.port_ends.PortEnds.{PortEnds}
use Rattle.port_worker.specs.Inputs.{IsReadable}

-- the ports of these ends
abbrev pub ports_held : {S K C : Type 0} → List (PortEnds S K C) → List Port
ports_held ports = map (λ p. p.port) ports

-- the ports of a plan
abbrev pub ports_planned : Plan → List Port
ports_planned plan = map (λ p. p.number) plan.ports

-- nothing was read yet
abbrev pub IsUnread : {S K C : Type 0} → PortEnds S K C → Type 0
IsUnread p = (p.ahead ≡ ahead.Unread) × IsReadable p.reader
