-- What the stations of a history keep, entry by entry.
use Rattle.std.proofs.Common.{◌≡◌, ℕ, ◌^◌, ◌<◌, ◌≤◌, ◌&&◌, not, true, List, [], ◌∷◌, filter, All, Option, Some, None, refl, sym, subst, arith}
use Rattle.std.proofs.lemmas.Bool.{cond_both, and_parts, ltb-true}
use Rattle.std.proofs.lemmas.List.Elements.{All-nil, All-append, All-cons, All-filter, All-weaker, filter_passes}
use Rattle.savi_kinds.specs.declared.plan.Plan.{Plan}
use Rattle.savi_kinds.specs.declared.port.Port.{Port}
use Rattle.savi_kinds.specs.declared.entry.Act.{Act}
use Rattle.savi_kinds.specs.declared.entry.Act.TheVariants as acts
use Rattle.eth_frame.specs.declared.header.Eth.{Eth}
use Rattle.eth_frame.specs.Tags.{inner}
use Rattle.bridge_fdb.specs.declared.station.Station.{Station}
use Rattle.savi_kinds.specs.Orders.{is_below, is_above}
use Rattle.bridge_fdb.specs.Stations.{station_number, mac_number, station_of, station_end, is_live, live_at}
use Rattle.bridge_fdb.specs.Learning.{is_known, is_full, with_station, learned}
use Rattle.bridge_fdb.proofs.Within.{IsWithinLimits-filter, IsWithinLimits-learned}
use Rattle.hist_store.specs.Rows.{Row}
use Rattle.checkpoint.specs.Bases.{Base}
use Rattle.savi_history.specs.Moments.{last_moment}
use Rattle.savi_history.specs.Summary.{is_pass}
use Rattle.savi_history.specs.StationLimits.{IsKnownAt, AreStationsAt}
use Rattle.savi_history.specs.Stations.{ethernet_of, taught, teaches, after_entry, stations}
use Rattle.savi_history.specs.Limits.{IsWithinLimits}
use Rattle.savi_history.specs.Events as events
use Rattle.savi_history.specs.Events.{Event, row_of}
use Rattle.savi_history.specs.Legal.{IsLegal}

-- what holds of the stations, and of them with the one that a frame with a header tells of, holds once it taught
taught_stays : (P : List Station → Type 0) (port : Port) (moment : ℕ) (live : List Station) (header : Option Eth) → P live → ((eth : Eth) → header ≡ Some eth → P (learned (station_of eth.src port moment) live)) → P (taught port moment header live)
taught_stays P port moment live None kept more = kept
taught_stays P port moment live (Some eth) kept more = more eth refl

-- so it does after each entry, where it holds with what a frame that passed tells of
pub after_stays : (P : List Station → Type 0) (vlan : ℕ) (plan : Plan) (r : Row) (act : Act) (live : List Station) → P live
    → ((port : Port) (eth : Eth) → is_pass r.entry.verdict ≡ true → ethernet_of (inner r.octets) ≡ Some eth → P (learned (station_of eth.src port r.entry.moment) live))
    → P (after_entry vlan plan r act live)
after_stays P vlan plan r (acts.Frame port stamp at len) live kept more =
    cond_both (teaches vlan plan port r) (taught port r.entry.moment (ethernet_of (inner r.octets)) live) live P
    (λ does. taught_stays P port r.entry.moment live (ethernet_of (inner r.octets)) kept (λ eth is. more port eth (and_parts _ _ does).0 is))
    (λ _. kept)
after_stays P vlan plan r (acts.Long port stamp len) live kept more = kept
after_stays P vlan plan r (acts.Tick stamp) live kept more = kept
after_stays P vlan plan r (acts.Command stamp at len) live kept more = kept
after_stays P vlan plan r (acts.Drain port count) live kept more = kept
after_stays P vlan plan r (acts.End who how) live kept more = kept

-- what holds of each station, and of the one that is learned, holds of each one then
pub all_learned : (P : Station → Type 0) (s : Station) (xs : List Station) → P s → All P xs → All P (learned s xs)
all_learned P s xs one all =
    let n : ℕ = mac_number s.mac in
    cond_both (is_full s xs && not (is_known s xs)) xs (with_station s xs) (λ ys. All P ys) (λ _. all)
    (λ _. All-append P (filter (is_below station_number n) xs) (s ∷ filter (is_above station_number n) xs) (All-filter (is_below station_number n) P xs all)
    (All-cons P s (filter (is_above station_number n) xs) one (All-filter (is_above station_number n) P xs all)))

-- stations at a moment, at a later one
pub later_stations : (moment later : ℕ) (xs : List Station) → moment ≤ later → AreStationsAt moment xs → AreStationsAt later (live_at later xs)
later_stations moment later xs order was =
    let seen : All (λ s. s.last ≤ later) (live_at later xs) =
    All-filter (is_live later) (λ s. s.last ≤ later) xs (All-weaker (IsKnownAt moment) (λ s. s.last ≤ later) (λ s known. omega (arith, known.0, order)) xs was.known) in
    let live : All (λ s. later < station_end s) (live_at later xs) =
    All-weaker (λ s. is_live later s ≡ true) (λ s. later < station_end s) (λ s is. ltb-true later (station_end s) is) (live_at later xs) (filter_passes (is_live later) xs) in
    record {
      limits = IsWithinLimits-filter (is_live later) xs was.limits;
      known = λ k d within. (seen k d within, live k d within);
    }

learned_stations : (moment : ℕ) (s : Station) (xs : List Station) → s.last ≡ moment → moment ≤ 2 ^ 62 → AreStationsAt moment xs → AreStationsAt moment (learned s xs)
learned_stations moment s xs now small was = record {
  limits = IsWithinLimits-learned s xs (omega (arith, now, small)) was.limits;
  known = all_learned (IsKnownAt moment) s xs (omega (arith, now), omega (arith, now)) was.known;
}

-- the moment of an event's row
pub row_moment : (plan : Plan) (base : Base) (past : List Row) (event : Event) → last_moment base past ≤ 2 ^ 62
    → (last_moment base past ≤ (row_of plan base past event).entry.moment) × ((row_of plan base past event).entry.moment ≤ 2 ^ 62)
row_moment plan base past (events.Frame port stamp octets) small = (omega arith, omega (arith, small))
row_moment plan base past (events.Long port stamp len) small = (omega arith, omega (arith, small))
row_moment plan base past (events.Command stamp line) small = (omega arith, omega (arith, small))
row_moment plan base past (events.Tick stamp) small = (omega arith, omega (arith, small))
row_moment plan base past (events.Drain port count) small = (omega arith, omega (arith, small))
row_moment plan base past (events.End who how) small = (omega arith, omega (arith, small))

-- the last moment of a legal history
pub last_small : (plan : Plan) (base : Base) (past : List Row) → IsWithinLimits plan base → IsLegal plan base past → last_moment base past ≤ 2 ^ 62
last_small plan base [] within legal = within.access.addresses.early
last_small plan base (r ∷ past) within legal =
    subst (λ (x : Row). x.entry.moment ≤ 2 ^ 62) (sym legal.0.2) (row_moment plan base past legal.0.0 (last_small plan base past within legal.1)).1

-- the stations of a legal history are what those of its base are
pub stations_stay : (plan : Plan) (base : Base) (past : List Row) (vlan : ℕ) → IsWithinLimits plan base → IsLegal plan base past → AreStationsAt (last_moment base past) (stations vlan plan base past)
stations_stay plan base [] vlan within legal = within.stations vlan
stations_stay plan base (r ∷ past) vlan within legal =
    let moments = row_moment plan base past legal.0.0 (last_small plan base past within legal.1) in
    let after : last_moment base past ≤ r.entry.moment = subst (λ (x : Row). last_moment base past ≤ x.entry.moment) (sym legal.0.2) moments.0 in
    let small : r.entry.moment ≤ 2 ^ 62 = subst (λ (x : Row). x.entry.moment ≤ 2 ^ 62) (sym legal.0.2) moments.1 in
    let live = live_at r.entry.moment (stations vlan plan base past) in
    let was : AreStationsAt r.entry.moment live = later_stations (last_moment base past) r.entry.moment (stations vlan plan base past) after (stations_stay plan base past vlan within legal.1) in
    after_stays (AreStationsAt r.entry.moment) vlan plan r r.entry.act live was
    (λ port eth passed header. learned_stations r.entry.moment (station_of eth.src port r.entry.moment) live refl small was)

-- no station at all is within the limits
pub no_stations : {moment : ℕ} → AreStationsAt moment []
no_stations = record {
  limits = record {
    rising = λ i j d before below. absurd (omega (arith, below));
    room = λ port. omega arith;
    in_time = All-nil (λ (s : Station). s.last ≤ 2 ^ 62);
  };
  known = All-nil (IsKnownAt _);
}
