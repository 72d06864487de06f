-- The verdict on a frame at a port, what it tells of addresses and requests, and the probe with which it is answered: by its
-- VLAN, its class without a tag, and all that was told before it.
use Rattle.std.specs.Prelude.{ℕ, Bool, true, false, List}
use Rattle.savi_kinds.specs.declared.port.Port.{Port}
use Rattle.savi_kinds.specs.declared.plan.Plan.{Plan}
use Rattle.savi_kinds.specs.declared.verdict.Rule.TheVariants.{PortDown, Malformed}
use Rattle.savi_kinds.specs.declared.verdict.Verdict.{Verdict}
use Rattle.savi_kinds.specs.declared.verdict.Verdict.TheVariants.{Drop}
use Rattle.savi_kinds.specs.Ports.{number_of}
use Rattle.eth_frame.specs.Tags.{inner}
use Rattle.frame_class.specs.ClassOf.{class_of}
use Rattle.hist_store.specs.Rows.{Row}
use Rattle.savi_access.specs.Judged.{Judged}
use Rattle.checkpoint.specs.Bases.{Base}
use Rattle.savi_history.specs.Vlans.{vlan_of_frame}
use Rattle.savi_history.specs.ShutPorts.{is_shut}
use Rattle.savi_history.specs.Moments.{moment_at}
use Rattle.savi_history.specs.Marks.{marks, judged_after}

-- what a frame with these octets at a port comes to after this past
abbrev pub judged_of : Plan → Base → List Row → Port → ℕ → List ℕ → Judged
judged_of plan base past port stamp octets =
    judged_after plan base (is_shut plan base (number_of port) past) (marks plan base past) port (moment_at base past stamp)
    (vlan_of_frame plan (number_of port) octets) (class_of (inner octets))

abbrev pub verdict_of : Plan → Base → List Row → Port → ℕ → List ℕ → Verdict
verdict_of plan base past port stamp octets = (judged_of plan base past port stamp octets).verdict

-- the verdict on a frame with more octets than a frame may have, at a port that is shut or not
abbrev pub long_by : Bool → Verdict
long_by true = Drop PortDown
long_by false = Drop Malformed

abbrev pub judged_long : Plan → Base → List Row → Port → Verdict
judged_long plan base past port = long_by (is_shut plan base (number_of port) past)
