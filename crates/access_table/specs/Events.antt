-- Which events frames make of addresses.
use Rattle.std.specs.Prelude.{◌<◌, ◌^◌}
use Rattle.savi_kinds.specs.declared.port.Port.{Port}
use Rattle.dhcp6_read.specs.declared.message.Lease.{Lease as Offered}
use Rattle.fcfs_states.specs.declared.event.Ev.{Ev}
use Rattle.fcfs_states.specs.declared.event.Ev.TheVariants.{Sent, Dad, Na, TpDad, TpNa, Lease, Release, Fix, Clear}
use Rattle.access_table.specs.declared.change.Change.{Change}
use Rattle.access_table.specs.declared.change.Change.TheVariants.{Released, Leased}

-- an event that a frame makes, and not the operator; valid lifetimes are of 32 bits (RFC 8415 section 21.6)
abbrev pub IsOfFrame : Ev → Type 0
IsOfFrame (Sent p) = Unit {0}
IsOfFrame (Dad p) = Unit {0}
IsOfFrame (Na p) = Unit {0}
IsOfFrame TpDad = Unit {0}
IsOfFrame TpNa = Unit {0}
IsOfFrame (Lease p valid) = valid < 2 ^ 32
IsOfFrame (Release p) = Unit {0}
IsOfFrame (Fix p) = ⊥
IsOfFrame Clear = ⊥

-- the port whose host a message of DHCPv6 names addresses for
abbrev pub change_port : Change → Port
change_port (Released p) = p
change_port (Leased p) = p

-- what the message makes of an address in it
abbrev pub change_event : Change → Offered → Ev
change_event (Released p) = λ lease. Release p
change_event (Leased p) = λ lease. Lease p lease.valid
