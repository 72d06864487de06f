-- What the shows print of one VLAN behind the other.
use Rattle.std.proofs.Common.{◌≡◌, ℕ, ◌+◌, ◌<◌, List, ◌++◌, length, map, take, get_or, sym, ap, ◌∙◌}
use Rattle.std.proofs.lemmas.List.{map-append}
use Rattle.savi_kinds.specs.declared.address.Mac.{Mac}
use Rattle.savi_kinds.specs.declared.port.Port.{Port}
use Rattle.fcfs_states.specs.declared.times.Times.{Times}
use Rattle.savi_access.specs.declared.row.Row.{Row}
use Rattle.bridge_fdb.specs.declared.station.Station.{Station}
use Rattle.bridge_fdb.specs.Stations.{live_at}
use Rattle.hist_store.specs.TextOfLines.{lines_text}
use Rattle.hist_store.proofs.LineLemmas.{lines_text-append}
use Rattle.control_replies.specs.Bindings.{all_binding_lines}
use Rattle.control_replies.specs.Shows.{station_fields}
use Rattle.savi_core.specs.declared.vlan_set.VlanSet.{VlanSet}
use Rattle.savi_core.specs.Shows.{station_lines, kept_station_row, stations_told}
use Rattle.savi_core.specs.VlanSets.{of_sets}
use Rattle.savi_core.proofs.Keeping.{each_of, sets_more}
use Rattle.savi_core.proofs.Shown.{more_bindings}

abbrev pub rows_of : VlanSet → List Row
rows_of set = set.access.addresses.rows

abbrev pub live_of : ℕ → VlanSet → List Station
live_of t set = live_at t set.fdb

module _ (sets : List VlanSet) (i : ℕ) (set : VlanSet) (within : i < length sets) (is : set ≡ get_or sets i set) (was now : List ℕ) where
  pub bindings_more : (times : Times) → was ≡ all_binding_lines times (of_sets rows_of (take i sets)) → now ≡ was ++ all_binding_lines times (each_of set.access.vlan (rows_of set)) → now ≡ all_binding_lines times (of_sets rows_of (take (i + 1) sets))
  bindings_more times was_is now_is =
      let own : List (ℕ × Row) = each_of set.access.vlan (rows_of set) in
      now_is
      ∙ ap (λ (text : List ℕ). text ++ all_binding_lines times own) was_is
      ∙ sym (more_bindings times (of_sets rows_of (take i sets)) own)
      ∙ ap (all_binding_lines times) (sym (sets_more rows_of sets i set within is))

  abbrev lines_of : List (ℕ × Station) → List ℕ
  lines_of stations = lines_text (map station_fields (stations_told stations))

  lines_both : (xs ys : List (ℕ × Station)) → lines_of xs ++ lines_of ys ≡ lines_of (xs ++ ys)
  lines_both xs ys =
      sym (lines_text-append (map station_fields (stations_told xs)) (map station_fields (stations_told ys)))
      ∙ ap lines_text
      (sym (map-append station_fields (stations_told xs) (stations_told ys))
      ∙ ap (λ (rows : List (ℕ × Mac × Port × ℕ)). map station_fields rows) (sym (map-append kept_station_row xs ys)))

  pub stations_more : (t : ℕ) → was ≡ lines_of (of_sets (live_of t) (take i sets)) → now ≡ was ++ station_lines set.access.vlan (live_at t set.fdb) → now ≡ lines_of (of_sets (live_of t) (take (i + 1) sets))
  stations_more t was_is now_is =
      let own : List (ℕ × Station) = each_of set.access.vlan (live_of t set) in
      now_is
      ∙ ap (λ (text : List ℕ). text ++ lines_of own) was_is
      ∙ lines_both (of_sets (live_of t) (take i sets)) own
      ∙ ap lines_of (sym (sets_more (live_of t) sets i set within is))
