-- What a tick leaves as it is.
use Rattle.std.proofs.Common.{◌≡◌, ℕ, ◌≤◌, List, ◌∷◌, true, Option, Some, None, refl, ap, ◌∙◌, arith}
use Rattle.std.proofs.lemmas.Bool.{ltb-true, lt-ltb}
use Rattle.savi_kinds.specs.declared.plan.Plan.{Plan}
use Rattle.savi_kinds.specs.declared.port.Port.{Port}
use Rattle.savi_kinds.specs.declared.verdict.Verdict.{Verdict}
use Rattle.savi_kinds.specs.Ports.{number_of}
use Rattle.savi_kinds.proofs.Filters.{filter-wider}
use Rattle.eth_frame.specs.Tags.{inner}
use Rattle.frame_class.specs.ClassOf.{class_of}
use Rattle.bridge_fdb.specs.declared.station.Station.{Station}
use Rattle.bridge_fdb.specs.Stations.{is_live, live_at, station_end}
use Rattle.hist_store.specs.Rows.{Row}
use Rattle.checkpoint.specs.Bases.{Base}
use Rattle.savi_history.specs.Moments.{moment_at}
use Rattle.savi_history.specs.Vlans.{vlan_of_frame}
use Rattle.savi_history.specs.ShutPorts.{is_shut}
use Rattle.savi_history.specs.Marks.{marks, judged_after}
use Rattle.savi_history.specs.Judged.{verdict_of}
use Rattle.savi_history.specs.Outs.{outs, outs_by, without_shut}
use Rattle.savi_history.specs.Stations.{stations, port_among, ethernet_of}
use Rattle.savi_history.specs.Events.{tick_row, outs_of}
use Rattle.savi_history.specs.Ticks.{TickLeaves}

-- what is live at a moment was live at an earlier one
live_before : (t u : ℕ) → t ≤ u → (s : Station) → is_live u s ≡ true → is_live t s ≡ true
live_before t u later s is = lt-ltb t (station_end s) (omega (arith, later, ltb-true u (station_end s) is))

pub live_left : (m t : ℕ) (known : List Station) → m ≤ t → live_at t (live_at m known) ≡ live_at t known
live_left m t known later = filter-wider (is_live m) (is_live t) (live_before m t later) known

module _ (plan : Plan) (base : Base) (past : List Row) (stamp : ℕ) where
  abbrev ticked : List Row
  ticked = tick_row plan base past stamp ∷ past

  stations_left : (t vlan : ℕ) → moment_at base past stamp ≤ t → live_at t (stations vlan plan base ticked) ≡ live_at t (stations vlan plan base past)
  stations_left t vlan later = live_left (moment_at base past stamp) t (stations vlan plan base past) later

  -- a frame that comes no earlier has the moment that it has without the tick
  same_moment : (next : ℕ) → moment_at base past stamp ≤ moment_at base past next → moment_at base ticked next ≡ moment_at base past next
  same_moment next later = omega (arith, later)

  verdict_left : (port : Port) (next : ℕ) (octets : List ℕ) → moment_at base past stamp ≤ moment_at base past next → verdict_of plan base ticked port next octets ≡ verdict_of plan base past port next octets
  verdict_left port next octets later =
      ap (λ (t : ℕ). (judged_after plan base (is_shut plan base (number_of port) past) (marks plan base past) port t (vlan_of_frame plan (number_of port) octets) (class_of (inner octets))).verdict) (same_moment next later)

  -- where a frame goes by what is known: the same from the moment of the tick on
  outs_same : (port t : ℕ) (octets : List ℕ) (verdict : Verdict) → moment_at base past stamp ≤ t → (vlan : Option ℕ) → outs vlan plan base ticked port t octets verdict ≡ outs vlan plan base past port t octets verdict
  outs_same port t octets verdict later (Some vlan) =
      ap (λ (live : List Station). without_shut plan base past (outs_by vlan plan port (port_among live (ethernet_of (inner octets))) verdict)) (stations_left t vlan later)
  outs_same port t octets verdict later None = refl

  outs_left : (port : Port) (next : ℕ) (octets : List ℕ) → moment_at base past stamp ≤ moment_at base past next → outs_of plan base ticked port next octets ≡ outs_of plan base past port next octets
  outs_left port next octets later =
      let vlan : Option ℕ = vlan_of_frame plan (number_of port) octets in
      ap (λ (t : ℕ). outs vlan plan base ticked (number_of port) t octets (verdict_of plan base ticked port next octets)) (same_moment next later)
      ∙ ap (λ (v : Verdict). outs vlan plan base ticked (number_of port) (moment_at base past next) octets v) (verdict_left port next octets later)
      ∙ outs_same (number_of port) (moment_at base past next) octets (verdict_of plan base past port next octets) later vlan

  pub tick_leaves : TickLeaves plan base past stamp
  tick_leaves = record {
    states = λ t vlan a later. refl;
    requests = λ t vlan later. refl;
    stations = stations_left;
    shut = λ q. refl;
    verdicts = verdict_left;
    outs = outs_left;
  }
