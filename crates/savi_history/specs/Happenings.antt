-- What happens in one VLAN: the frames of the VLAN, what the operator fixes and clears there, and each shutting and opening
-- of a port. By a law what is known of the VLAN, and what becomes of its frames, follows from that.
use Rattle.std.specs.Prelude.{◌≡◌, ℕ, ◌≤◌, ◌==◌, Bool, if◌then◌else◌, Option, List, [], ◌∷◌, ◌++◌, Result, Ok, Err}
use Rattle.savi_kinds.specs.declared.address.Addr.{Addr}
use Rattle.savi_kinds.specs.declared.port.Port.{Port}
use Rattle.savi_kinds.specs.declared.port.PortSet.{PortSet}
use Rattle.savi_kinds.specs.declared.plan.Plan.{Plan}
use Rattle.savi_kinds.specs.declared.verdict.Verdict.{Verdict}
use Rattle.savi_kinds.specs.declared.entry.Act.{Act}
use Rattle.savi_kinds.specs.declared.entry.Act.TheVariants as acts
use Rattle.savi_kinds.specs.Ports.{number_of}
use Rattle.savi_kinds.specs.Vlans.{access_vlan}
use Rattle.cli_lang.specs.declared.kinds.Command.{Command}
use Rattle.cli_lang.specs.declared.kinds.Command.TheVariants as orders
use Rattle.cli_lang.specs.declared.kinds.CmdFault.{CmdFault}
use Rattle.cli_lang.specs.CommandOf.{command_of}
use Rattle.bridge_fdb.specs.Stations.{live_at}
use Rattle.hist_store.specs.Rows.{Row}
use Rattle.savi_access.specs.States.{state_at}
use Rattle.savi_access.specs.Marks.{told, open_requests}
use Rattle.savi_access.specs.Plans.{rules_of}
use Rattle.checkpoint.specs.Bases.{Base, access_of}
use Rattle.savi_history.specs.Vlans.{is_vlan, vlan_of_frame}
use Rattle.savi_history.specs.Moments.{last_moment}
use Rattle.savi_history.specs.Marks.{marks}
use Rattle.savi_history.specs.Stations.{stations}

pub data Happening : Type 0 where
  -- a frame of the VLAN came in at a port
  Receives : (moment : ℕ) (port : Port) (octets : List ℕ) → Happening
  -- the operator fixes an address to a port of the VLAN (`static`)
  Fixes : (moment : ℕ) (address : Addr) (port : Port) → Happening
  -- the operator clears an address in the VLAN (`clear`)
  Clears : (moment : ℕ) (address : Addr) → Happening
  -- the operator shuts a port, of whatever VLAN
  Shuts : (port : Port) → Happening
  -- the operator opens one (`open`)
  Opens : (port : Port) → Happening

-- the happening, where it is one of the VLAN
abbrev pub when : Bool → Happening → List Happening
when is happening = if is then happening ∷ [] else []

-- what happens in a VLAN by a line on control at this moment, whether it is refused or not
abbrev pub happens_by : ℕ → Plan → ℕ → Result Command CmdFault → List Happening
happens_by vlan plan moment (Err fault) = []
happens_by vlan plan moment (Ok (orders.Static address port)) =
    when (is_vlan vlan (access_vlan plan (number_of port))) (Fixes moment address port)
happens_by vlan plan moment (Ok (orders.Clear of address)) = when (of == vlan) (Clears moment address)
happens_by vlan plan moment (Ok (orders.Shut port)) = Shuts port ∷ []
happens_by vlan plan moment (Ok (orders.Reopen port)) = Opens port ∷ []
happens_by vlan plan moment (Ok orders.ShowBindings) = []
happens_by vlan plan moment (Ok orders.ShowPorts) = []
happens_by vlan plan moment (Ok orders.ShowCounters) = []
happens_by vlan plan moment (Ok orders.ShowStations) = []
happens_by vlan plan moment (Ok orders.Quit) = []

-- the same by an entry
abbrev pub happens : ℕ → Plan → Row → Act → List Happening
happens vlan plan r (acts.Frame port stamp at len) =
    when (is_vlan vlan (vlan_of_frame plan (number_of port) r.octets)) (Receives r.entry.moment port r.octets)
happens vlan plan r (acts.Command stamp at len) = happens_by vlan plan r.entry.moment (command_of r.octets)
happens vlan plan r (acts.Long port stamp len) = []
happens vlan plan r (acts.Tick stamp) = []
happens vlan plan r (acts.Drain port count) = []
happens vlan plan r (acts.End who how) = []

-- what happens in a VLAN by a history, the newest first
abbrev pub happenings : ℕ → Plan → List Row → List Happening
happenings vlan plan [] = []
happenings vlan plan (r ∷ past) = happens vlan plan r r.entry.act ++ happenings vlan plan past

-- the verdict on a frame of the VLAN, and the ports to which it goes
abbrev pub answer_in : ℕ → Plan → Row → Act → List (Option Verdict × PortSet)
answer_in vlan plan r (acts.Frame port stamp at len) =
    if is_vlan vlan (vlan_of_frame plan (number_of port) r.octets) then (r.entry.verdict, r.entry.outs) ∷ [] else []
answer_in vlan plan r act = []

-- those of all frames of the VLAN, the newest first
abbrev pub answers_in : ℕ → Plan → List Row → List (Option Verdict × PortSet)
answers_in vlan plan [] = []
answers_in vlan plan (r ∷ past) = answer_in vlan plan r r.entry.act ++ answers_in vlan plan past

-- The same is known of a VLAN after both pasts, from both last moments on, and the same became of its frames: the states of
-- its addresses, its open requests and its live stations; verdicts, and where frames went.
pub record IsSameInVlan (vlan : ℕ) (plan : Plan) (base : Base) (past other : List Row) : Type 0 where
  pub states : (t a : ℕ) → last_moment base past ≤ t → last_moment base other ≤ t
      → state_at (rules_of plan).addresses (access_of base).addresses (told (marks plan base past)) t vlan a
      ≡ state_at (rules_of plan).addresses (access_of base).addresses (told (marks plan base other)) t vlan a
  pub requests : (t : ℕ) → last_moment base past ≤ t → last_moment base other ≤ t
      → open_requests (access_of base) vlan (marks plan base past) t
      ≡ open_requests (access_of base) vlan (marks plan base other) t
  pub stations : (t : ℕ) → last_moment base past ≤ t → last_moment base other ≤ t
      → live_at t (stations vlan plan base past) ≡ live_at t (stations vlan plan base other)
  pub answers : answers_in vlan plan past ≡ answers_in vlan plan other
