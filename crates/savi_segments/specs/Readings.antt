-- That a history which goes on from what an earlier one left reads as it does behind that one.
use Rattle.std.specs.Prelude.{◌≡◌, ℕ, ◌<◌, ◌≤◌, true, List, ◌++◌}
use Rattle.savi_kinds.specs.declared.plan.Plan.{Plan}
use Rattle.savi_kinds.specs.declared.port.Port.{Port}
use Rattle.savi_kinds.specs.Ports.{number_of}
use Rattle.hist_store.specs.Rows.{Row}
use Rattle.savi_access.specs.States.{state_at}
use Rattle.savi_access.specs.Marks.{Mark, told, open_requests}
use Rattle.savi_access.specs.Judged.{Judged}
use Rattle.savi_access.specs.Plans.{rules_of}
use Rattle.checkpoint.specs.Bases.{Base, access_of}
use Rattle.savi_history.specs.Passes.{has_port, pass_count}
use Rattle.savi_history.specs.ShutPorts.{is_shut}
use Rattle.savi_history.specs.Moments.{last_moment}
use Rattle.savi_history.specs.Marks.{marks}
use Rattle.savi_history.specs.Stations.{stations}
use Rattle.savi_history.specs.Offers.{due_by}
use Rattle.savi_history.specs.Events.{judged_of, outs_of}
use Rattle.savi_history.specs.Shown.{counts_of}
use Rattle.savi_segments.specs.Checkpoints.{end_of}

-- the same verdict and probe, with these marks behind the others
abbrev pub with_behind : List Mark → Judged → Judged
with_behind early judged = record { verdict = judged.verdict; marks = judged.marks ++ early; probe = judged.probe }

-- Rows read from `mid`, and the same rows read behind earlier ones: one moment, the marks joined, and the same of ports of
-- the plan that are shut, of how its passes have ended for good, of stations and counts, and of states, requests and probes
-- at each moment from the last one on. A frame that comes next at a port of the plan is judged alike and goes to the same
-- ports.
pub record ReadsAs (plan : Plan) (base : Base) (early : List Row) (mid : Base) (late : List Row) : Type 0 where
  pub moment : last_moment base (late ++ early) ≡ last_moment mid late
  pub tells : marks plan base (late ++ early) ≡ marks plan mid late ++ marks plan base early
  pub shut : (q : ℕ) → has_port plan q ≡ true → is_shut plan base q (late ++ early) ≡ is_shut plan mid q late
  pub ended : (pass : ℕ) → pass < pass_count plan → end_of base pass (late ++ early) ≡ end_of mid pass late
  pub known : (vlan : ℕ) → stations vlan plan base (late ++ early) ≡ stations vlan plan mid late
  pub counts : counts_of base (late ++ early) ≡ counts_of mid late
  pub states : (t vlan a : ℕ) → last_moment mid late ≤ t
      → state_at (rules_of plan).addresses (access_of base).addresses (told (marks plan base (late ++ early))) t vlan a
      ≡ state_at (rules_of plan).addresses (access_of mid).addresses (told (marks plan mid late)) t vlan a
  pub requests : (t vlan : ℕ) → last_moment mid late ≤ t
      → open_requests (access_of base) vlan (marks plan base (late ++ early)) t ≡ open_requests (access_of mid) vlan (marks plan mid late) t
  pub judged : (port : Port) (stamp : ℕ) (octets : List ℕ) → has_port plan (number_of port) ≡ true
      → judged_of plan base (late ++ early) port stamp octets ≡ with_behind (marks plan base early) (judged_of plan mid late port stamp octets)
  pub outs : (port : Port) (stamp : ℕ) (octets : List ℕ) → has_port plan (number_of port) ≡ true
      → outs_of plan base (late ++ early) port stamp octets ≡ outs_of plan mid late port stamp octets
  pub due : (t : ℕ) → last_moment mid late ≤ t → due_by plan base (late ++ early) t ≡ due_by plan mid late t
