use Rattle.std.proofs.Common.{◌≡◌, ℕ, ◌≤◌, ◌++◌, List, length, take, sym, ap, subst, ◌∙◌, arith, ◌+◌}
use Rattle.std.proofs.lemmas.List.{append-nil, append_assoc, take_all}
use Rattle.bridge_fdb.specs.declared.station.Station.{Station}
use Rattle.bridge_fdb.specs.Stations.{live_at}
use Rattle.checkpoint.specs.Columns.{Columns, IsUpTo}
use Rattle.savi_core.specs.declared.vlan_set.VlanSet.{VlanSet}
use Rattle.savi_core.specs.VlanSets.{of_sets}
use Rattle.savi_core.specs.Turns.{with_stations}
use Rattle.savi_core.proofs.Keeping.{each_of, sets_more, sets_few, sets_up}
use Rattle.savi_core.proofs.turning.keep_stations.Goals as goal

pub loop-set-init : goal.loop-set-init
loop-set-init c = ap (λ (column : List (ℕ × Station)). record c.args.into.now { stations = column }) (sym (append-nil c.args.into.now.stations))

pub keep_stations_of-requires : goal.keep_stations_of-requires
keep_stations_of-requires c =
    let sets : List VlanSet = c.args.sets.now in
    let i : ℕ = c.loop-set.set-index in
    let set : VlanSet = c.set-item.result in
    let has : VlanSet → List Station = λ (set : VlanSet). live_at c.args.t set.fdb in
    let column_is : c.loop-set.into.stations ≡ of_sets has (take i sets) =
    ap (λ (k : Columns). k.stations) c.loop-set.invariant ∙ ap (λ (column : List (ℕ × Station)). column ++ of_sets has (take i sets)) c.requires.empty in
    let few : length (of_sets has (take i sets)) + length (has set) ≤ length (of_sets has sets) = sets_few has sets i set c.loop-set-test.true c.set-item.is in
    record {
      order =
          subst (λ (v : ℕ). IsUpTo v c.loop-set.into.stations) (sym c.vlan.ensures)
          (subst (λ (column : List (ℕ × Station)). IsUpTo set.access.vlan column) (sym column_is) (sets_up has sets i set c.requires.order c.loop-set-test.true c.set-item.is));
      room = omega (arith, ap length column_is, few, c.requires.room, ap (λ (k : Columns). k.station_room) c.loop-set.invariant);
    }

pub loop-set-preserved : goal.loop-set-preserved
loop-set-preserved c =
    let sets : List VlanSet = c.args.sets.now in
    let i : ℕ = c.loop-set.set-index in
    let set : VlanSet = c.set-item.result in
    let has : VlanSet → List Station = λ (set : VlanSet). live_at c.args.t set.fdb in
    let start : Columns = c.args.into.now in
    c.keep_stations_of.ensures
    ∙ ap (λ (v : ℕ). with_stations (each_of v (has set)) c.loop-set.into) c.vlan.ensures
    ∙ ap (with_stations (each_of set.access.vlan (has set))) c.loop-set.invariant
    ∙ ap (λ (column : List (ℕ × Station)). record start { stations = column })
    (append_assoc start.stations (of_sets has (take i sets)) (each_of set.access.vlan (has set))
    ∙ ap (λ (more : List (ℕ × Station)). start.stations ++ more) (sym (sets_more has sets i set c.loop-set-test.true c.set-item.is)))

pub returns : goal.returns
returns c =
    let has : VlanSet → List Station = λ (set : VlanSet). live_at c.args.t set.fdb in
    c.loop-set.invariant ∙ ap (λ (sets : List VlanSet). with_stations (of_sets has sets) c.args.into.now) (take_all c.loop-set.set-index c.args.sets.now (omega (arith, c.loop-set-test.false)))
