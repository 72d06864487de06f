-- When a tick is worth an entry, and what it leaves as it is.
use Rattle.std.specs.Prelude.{◌≡◌, ℕ, ◌≤◌, List, ◌∷◌}
use Rattle.savi_kinds.specs.declared.plan.Plan.{Plan}
use Rattle.savi_kinds.specs.declared.port.Port.{Port}
use Rattle.bridge_fdb.specs.Stations.{live_at}
use Rattle.hist_store.specs.Rows.{Row}
use Rattle.savi_access.specs.States.{state_at}
use Rattle.savi_access.specs.Probes.{HasChanged}
use Rattle.savi_access.specs.Marks.{told, open_requests}
use Rattle.savi_access.specs.Plans.{rules_of}
use Rattle.checkpoint.specs.Bases.{Base, access_of}
use Rattle.savi_history.specs.Moments.{last_moment, moment_at}
use Rattle.savi_history.specs.ShutPorts.{is_shut}
use Rattle.savi_history.specs.Marks.{marks}
use Rattle.savi_history.specs.Judged.{verdict_of}
use Rattle.savi_history.specs.Stations.{stations}
use Rattle.savi_history.specs.Events.{Tick, row_of, outs_of}

-- some address of some VLAN has another state at this moment than at that of the last entry
abbrev pub HasChangedBy : Plan → Base → List Row → ℕ → Type 0
HasChangedBy plan base past moment =
    (vlan : ℕ)
    × HasChanged (rules_of plan).addresses (access_of base).addresses (told (marks plan base past)) (last_moment base past)
    moment vlan

-- The same is known and the same is judged after both pasts, from this moment on: the states of addresses, the open requests
-- and the live stations of each VLAN, which ports are shut, the verdict on a frame that comes next at any port, and where it
-- goes.
pub record IsSameFrom (plan : Plan) (base : Base) (moment : ℕ) (past other : List Row) : Type 0 where
  pub states : (t vlan a : ℕ) → moment ≤ t
      → state_at (rules_of plan).addresses (access_of base).addresses (told (marks plan base past)) t vlan a
      ≡ state_at (rules_of plan).addresses (access_of base).addresses (told (marks plan base other)) t vlan a
  pub requests : (t vlan : ℕ) → moment ≤ t
      → open_requests (access_of base) vlan (marks plan base past) t ≡ open_requests (access_of base) vlan (marks plan base other) t
  pub stations : (t vlan : ℕ) → moment ≤ t
      → live_at t (stations vlan plan base past) ≡ live_at t (stations vlan plan base other)
  pub shut : (q : ℕ) → is_shut plan base q past ≡ is_shut plan base q other
  pub verdicts : (port : Port) (stamp : ℕ) (octets : List ℕ) → moment ≤ moment_at base other stamp
      → verdict_of plan base past port stamp octets ≡ verdict_of plan base other port stamp octets
  pub outs : (port : Port) (stamp : ℕ) (octets : List ℕ) → moment ≤ moment_at base other stamp
      → outs_of plan base past port stamp octets ≡ outs_of plan base other port stamp octets

-- a tick changes nothing of that from its moment on
abbrev pub TickLeaves : Plan → Base → List Row → ℕ → Type 0
TickLeaves plan base past stamp =
    IsSameFrom plan base (moment_at base past stamp) (row_of plan base past (Tick stamp) ∷ past) past
