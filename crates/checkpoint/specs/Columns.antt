-- A base as a copy keeps it: in columns, where each row has its VLAN beside it, and how many rows there is room for.
use Rattle.std.specs.Prelude.{ℕ, ◌==◌, ◌≤◌, Bool, true, List, [], ◌∷◌, map, filter}
use Rattle.std.specs.List.{flat_map, AllByRecursion}
use Rattle.savi_kinds.specs.declared.entry.How.{How}
use Rattle.savi_kinds.specs.declared.port.PortSet.{PortSet}
use Rattle.savi_kinds.specs.PortSets.{no_ports}
use Rattle.hist_store.specs.PortTexts.{members}
use Rattle.bridge_fdb.specs.declared.station.Station.{Station}
use Rattle.dhcp_states.specs.declared.request.Request.{Request}
use Rattle.savi_access.specs.declared.row.Row.{Row}
use Rattle.control_replies.specs.declared.counts.Counts.{Counts}
use Rattle.control_replies.specs.Counting.{nothing_counted}
use Rattle.checkpoint.specs.Bases.{Base}

pub record Columns : Type 0 where
  pub is_start : Bool
  pub moment : ℕ
  pub ended : List (ℕ × How)
  pub shut : PortSet
  pub counts : Counts
  pub rows : List (ℕ × Row)
  pub requests : List (ℕ × Request)
  pub stations : List (ℕ × Station)
  -- for how many rows and stations there is room
  pub row_room : ℕ
  pub station_room : ℕ

-- what a column has of one VLAN
abbrev pub of_vlan : {A : Type 0} → ℕ → List (ℕ × A) → List A
of_vlan vlan column = map (λ p. p.1) (filter (λ p. p.0 == vlan) column)

-- what each of these VLANs has, one VLAN behind the other
abbrev pub by_vlan : {A : Type 0} → List ℕ → (ℕ → List A) → List (ℕ × A)
by_vlan vlans has = flat_map (λ vlan. map (λ a. (vlan, a)) (has vlan)) vlans

-- nothing in a column is of a VLAN above this one
abbrev pub IsUpTo : {A : Type 0} → ℕ → List (ℕ × A) → Type 0
IsUpTo vlan column = AllByRecursion (λ p. p.0 ≤ vlan) column

-- nothing is of a VLAN below that of what stands before it
abbrev pub IsByVlan : {A : Type 0} → List (ℕ × A) → Type 0
IsByVlan [] = Unit {0}
IsByVlan (first ∷ column) = AllByRecursion (λ p. first.0 ≤ p.0) column × IsByVlan column

-- the base
abbrev pub kept_base : Columns → Base
kept_base columns = record {
  is_start = columns.is_start;
  moment = columns.moment;
  ended = columns.ended;
  shut = members columns.shut;
  stations = λ vlan. of_vlan vlan columns.stations;
  rows = λ vlan. of_vlan vlan columns.rows;
  requests = λ vlan. of_vlan vlan columns.requests;
  counts = columns.counts;
}

-- the start of a switch, with this room
abbrev pub nothing_before : ℕ → ℕ → Columns
nothing_before row_room station_room = record {
  is_start = true;
  moment = 0;
  ended = [];
  shut = no_ports;
  counts = nothing_counted;
  rows = [];
  requests = [];
  stations = [];
  row_room = row_room;
  station_room = station_room;
}
