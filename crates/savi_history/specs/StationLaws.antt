-- Where the frames of a history go, by the stations that are known before each in its VLAN (IEEE 802.1Q section 8.6).
use Rattle.std.specs.Prelude.{◌≡◌, ◌≢◌, ℕ, ◌≤◌, true, false, List, [], ◌∷◌, Option, Some, None}
use Rattle.savi_kinds.specs.declared.plan.Plan.{Plan}
use Rattle.savi_kinds.specs.declared.port.Port.{Port}
use Rattle.savi_kinds.specs.declared.verdict.Scope.TheVariants as scopes
use Rattle.savi_kinds.specs.declared.verdict.Verdict.TheVariants.{Pass}
use Rattle.savi_kinds.specs.declared.entry.Act.{Act}
use Rattle.savi_kinds.specs.declared.entry.Act.TheVariants.{Frame}
use Rattle.savi_kinds.specs.Ports.{number_of}
use Rattle.savi_kinds.specs.PortSets.{is_member, no_ports}
use Rattle.savi_kinds.specs.Macs.{is_group}
use Rattle.bridge_fdb.specs.declared.station.Station.{Station}
use Rattle.hist_store.specs.Rows.{Row}
use Rattle.checkpoint.specs.Bases.{Base}
use Rattle.savi_history.specs.Vlans.{vlan_of_frame, has_member}
use Rattle.savi_history.specs.ShutPorts.{is_shut}
use Rattle.savi_history.specs.Stations.{known_port}

-- the port at which the destination of the row's frame was known before it in this VLAN
abbrev pub KnownBefore : ℕ → Plan → Base → List Row → Row → Port → Type 0
KnownBefore vlan plan base past r port = known_port vlan plan base past r.entry.moment r.octets ≡ Some port

-- where a row's frame goes that came in at this port, in this VLAN
pub record IsDirected (plan : Plan) (base : Base) (past : List Row) (r : Row) (port : Port) (vlan : ℕ) : Type 0 where
  -- not back to where it came from
  pub not_back : is_member r.entry.outs (number_of port) ≡ false
  -- to members of its VLAN alone
  pub inside : (n : ℕ) → 1 ≤ n → is_member r.entry.outs n ≡ true → has_member vlan plan n ≡ true
  -- to the port of the station that it is for, and to no other
  pub alone : (place : Port) (n : ℕ) → KnownBefore vlan plan base past r place → 1 ≤ n → is_member r.entry.outs n ≡ true
      → n ≡ number_of place
  -- there it does go, if it may go everywhere and that is another member, which isn't shut
  pub reached : (place : Port) → KnownBefore vlan plan base past r place → r.entry.verdict ≡ Some (Pass scopes.All)
      → has_member vlan plan (number_of place) ≡ true → is_shut plan base (number_of place) past ≡ false
      → number_of place ≢ number_of port → is_member r.entry.outs (number_of place) ≡ true

-- without a VLAN it goes nowhere
abbrev pub IsDirectedIn : Plan → Base → List Row → Row → Port → Option ℕ → Type 0
IsDirectedIn plan base past r port (Some vlan) = IsDirected plan base past r port vlan
IsDirectedIn plan base past r port None = r.entry.outs ≡ no_ports

abbrev pub IsDirectedBy : Plan → Base → List Row → Row → Act → Type 0
IsDirectedBy plan base past r (Frame port stamp at len) =
    IsDirectedIn plan base past r port (vlan_of_frame plan (number_of port) r.octets)
IsDirectedBy plan base past r act = Unit {0}

-- each frame of a history goes so
abbrev pub AreDirected : Plan → Base → List Row → Type 0
AreDirected plan base [] = Unit {0}
AreDirected plan base (r ∷ past) = IsDirectedBy plan base past r r.entry.act × AreDirected plan base past

-- the MAC address of a station has no group bit (IEEE 802.3 section 3.2.3)
abbrev pub IsIndividual : Station → Type 0
IsIndividual station = is_group station.mac ≡ false
