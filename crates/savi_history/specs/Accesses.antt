-- Access over a history: which IPv6 frames passed at the ports of hosts and servers.
use Rattle.std.specs.Prelude.{◌≢◌, ◌≤◌, ◌↔◌, IsSomeAnd, List, [], ◌∷◌}
use Rattle.savi_kinds.specs.declared.plan.Plan.{Plan}
use Rattle.savi_kinds.specs.declared.plan.Role.TheVariants.{Trusted}
use Rattle.savi_kinds.specs.declared.port.Port.{Port}
use Rattle.savi_kinds.specs.Ports.{number_of}
use Rattle.eth_frame.specs.Tags.{inner}
use Rattle.frame_class.specs.ClassOf.{class_of}
use Rattle.hist_store.specs.Rows.{Row}
use Rattle.mix_rules.specs.Next.{IsPass}
use Rattle.savi_access.specs.Marks.{newest_moment}
use Rattle.savi_access.specs.Legal.{AreMarks}
use Rattle.savi_access.specs.Access.{IsIpv6, HasAccess}
use Rattle.savi_access.specs.Plans.{rules_of, role_of}
use Rattle.checkpoint.specs.Bases.{Base, access_of}
use Rattle.savi_history.specs.Moments.{last_moment}
use Rattle.savi_history.specs.Vlans.{vlan_of_frame}
use Rattle.savi_history.specs.ShutPorts.{is_shut}
use Rattle.savi_history.specs.Marks.{marks}
use Rattle.savi_history.specs.Adverts.{IsFrameAt}

-- the frame of a row had a VLAN at the port, and access there in it (`savi_access/specs/Access`), by what was told before it
abbrev pub HadAccess : Plan → Base → List Row → Row → Port → Type 0
HadAccess plan base past r port =
    IsSomeAnd (vlan_of_frame plan (number_of port) r.octets) (λ vlan.
    HasAccess (rules_of plan) (access_of base) vlan port r.entry.moment (marks plan base past)
    (is_shut plan base (number_of port) past) (class_of (inner r.octets)))

-- where the row is of an IPv6 frame, tagged or not, at a port of a host or a server, the frame passed exactly where it had
-- access
abbrev pub PassedRightly : Plan → Base → List Row → Row → Type 0
PassedRightly plan base past r =
    (port : Port) → IsFrameAt port r → role_of plan (number_of port) ≢ Trusted → IsIpv6 (class_of (inner r.octets))
    → (IsPass r.entry.verdict ↔ HadAccess plan base past r port)

-- each did
abbrev pub AllPassedRightly : Plan → Base → List Row → Type 0
AllPassedRightly plan base [] = Unit {0}
AllPassedRightly plan base (r ∷ past) = PassedRightly plan base past r × AllPassedRightly plan base past

-- what was told in a history may be told one after the other, by its last moment
pub record IsTold (plan : Plan) (base : Base) (past : List Row) : Type 0 where
  pub right : AreMarks (rules_of plan) (access_of base) (marks plan base past)
  pub last : newest_moment (access_of base) (marks plan base past) ≤ last_moment base past
