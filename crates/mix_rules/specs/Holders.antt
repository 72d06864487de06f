-- Which events make a port hold an address, as one of those that it may hold.
use Rattle.std.specs.Prelude.{◌≡◌, Bool, true}
use Rattle.savi_kinds.specs.declared.port.Port.{Port}
use Rattle.fcfs_states.specs.declared.event.Ev.{Ev}
use Rattle.fcfs_states.specs.declared.event.Ev.TheVariants.{Sent, Dad, Na, TpDad, TpNa, Lease, Release, Fix, Clear}
use Rattle.fcfs_states.specs.States.{Same}

-- the operator fixes the address to the port; or, where the port has room, its host sends from the address or asks for it,
-- or its client is given it
abbrev pub MakesHolder : Port → Bool → Ev → Type 0
MakesHolder port room (Sent r) = Same r port × (room ≡ true)
MakesHolder port room (Dad r) = Same r port × (room ≡ true)
MakesHolder port room (Na r) = ⊥
MakesHolder port room TpDad = ⊥
MakesHolder port room TpNa = ⊥
MakesHolder port room (Lease p valid) = Same p port × (room ≡ true)
MakesHolder port room (Release p) = ⊥
MakesHolder port room (Fix f) = Same f port
MakesHolder port room Clear = ⊥
