-- What the verdict on an address rests on: what was told of it, the moment, and the room of the port. And which frames come
-- to it.
use Rattle.std.specs.Prelude.{◌≡◌, ◌≢◌, ℕ, Bool, true, false, List, Some, None}
use Rattle.savi_kinds.specs.declared.port.Port.{Port}
use Rattle.savi_kinds.specs.declared.plan.Plan.{Plan}
use Rattle.savi_kinds.specs.declared.plan.Role.TheVariants.{Trusted}
use Rattle.savi_kinds.specs.declared.verdict.Rule.TheVariants.{OffLink}
use Rattle.savi_kinds.specs.Ports.{number_of}
use Rattle.eth_frame.specs.declared.header.Eth.{Eth}
use Rattle.eth_frame.specs.Tags.{inner}
use Rattle.v6_chain.specs.declared.packet.Ip.{Ip}
use Rattle.frame_class.specs.declared.classes.Class.TheVariants.{Ip6}
use Rattle.frame_class.specs.declared.classes.Read.{Read}
use Rattle.frame_class.specs.ClassOf.{class_of}
use Rattle.ra_guard.specs.GuardOf.{guard_of}
use Rattle.fcfs_states.specs.declared.event.Ev.TheVariants.{Sent}
use Rattle.fcfs_states.specs.FirstCome.{TimedEvent}
use Rattle.mix_rules.specs.declared.state.AddrState.{AddrState}
use Rattle.hist_store.specs.Rows.{Row}
use Rattle.savi_access.specs.Rooms.{may_hold_more}
use Rattle.savi_access.specs.NamedMarks.{marks_on}
use Rattle.savi_access.specs.States.{state_at}
use Rattle.savi_access.specs.Tables.{rows_at}
use Rattle.savi_access.specs.Marks.{told}
use Rattle.savi_access.specs.Judged.{Judged, answered_or}
use Rattle.savi_access.specs.Plans.{rules_of, role_of}
use Rattle.checkpoint.specs.Bases.{Base, access_of}
use Rattle.savi_history.specs.Vlans.{vlan_of_frame}
use Rattle.savi_history.specs.ShutPorts.{is_shut}
use Rattle.savi_history.specs.Marks.{marks}

-- what the entries of a history tell of one address of a VLAN, the newest first: the events that name it, with their
-- moments and whether their port had room
abbrev pub told_on : Plan → Base → List Row → ℕ → ℕ → List TimedEvent
told_on plan base past vlan a = marks_on vlan a (told (marks plan base past))

-- the state of an address at t
abbrev pub address_at : Plan → Base → List Row → ℕ → ℕ → ℕ → AddrState
address_at plan base past t vlan a = state_at (rules_of plan).addresses (access_of base).addresses (told (marks plan base past)) t vlan a

-- whether a port may hold one more address at t
abbrev pub port_has_room : Plan → Base → List Row → ℕ → ℕ → Port → Bool
port_has_room plan base past t vlan port =
    may_hold_more (rules_of plan).addresses.per_port (rows_at (rules_of plan).addresses (access_of base).addresses (told (marks plan base past)) t vlan) port

-- what a packet from an address at a port comes to by its source alone (RFC 6620 section 3.2, RFC 7513 section 5)
abbrev pub source_step : Plan → Base → List Row → ℕ → ℕ → Port → ℕ → Judged
source_step plan base past t vlan port a = answered_or (rules_of plan) (access_of base) vlan port t OffLink (marks plan base past) a (Sent port)

-- A frame with these octets at a port comes to the rules on its source: the port isn't shut, the frame is of this VLAN, no
-- rule on messages stops it, sources are validated there, and it carries this packet, which has a source and shows this
-- behind its header.
pub record ComesToSource (plan : Plan) (base : Base) (past : List Row) (port : Port) (vlan : ℕ) (octets : List ℕ) (ip : Ip)
    (read : Read) : Type 0 where
  pub up : is_shut plan base (number_of port) past ≡ false
  pub vlan_is : vlan_of_frame plan (number_of port) octets ≡ Some vlan
  pub clear : guard_of (role_of plan (number_of port)) plan.drop_unknown (class_of (inner octets)) ≡ None
  pub validates : plan.savi ≡ true
  pub role : role_of plan (number_of port) ≢ Trusted
  pub eth : Eth
  pub packet : class_of (inner octets) ≡ Ip6 eth ip read
  pub source : ip.src.0 ≢ 0
