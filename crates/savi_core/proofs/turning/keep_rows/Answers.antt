use Rattle.std.proofs.Common.{◌≡◌, ℕ, ◌≤◌, ◌++◌, List, length, take, sym, ap, subst, ◌∙◌, arith, ◌+◌}
use Rattle.std.proofs.lemmas.List.{append-nil, append_assoc, take_all}
use Rattle.savi_access.specs.declared.row.Row.{Row}
use Rattle.checkpoint.specs.Columns.{Columns, IsUpTo}
use Rattle.savi_core.specs.declared.vlan_set.VlanSet.{VlanSet}
use Rattle.savi_core.specs.VlanSets.{of_sets}
use Rattle.savi_core.specs.Turns.{with_rows}
use Rattle.savi_core.proofs.Keeping.{each_of, sets_more, sets_few, sets_up}
use Rattle.savi_core.proofs.turning.keep_rows.Goals as goal

pub loop-set-init : goal.loop-set-init
loop-set-init c = ap (λ (column : List (ℕ × Row)). record c.args.into.now { rows = column }) (sym (append-nil c.args.into.now.rows))

pub keep_rows_of-requires : goal.keep_rows_of-requires
keep_rows_of-requires c =
    let sets : List VlanSet = c.args.sets.now in
    let i : ℕ = c.loop-set.set-index in
    let set : VlanSet = c.set-item.result in
    let has : VlanSet → List Row = λ (set : VlanSet). set.access.addresses.rows in
    let column_is : c.loop-set.into.rows ≡ of_sets has (take i sets) =
    ap (λ (k : Columns). k.rows) c.loop-set.invariant ∙ ap (λ (column : List (ℕ × Row)). column ++ of_sets has (take i sets)) c.requires.empty in
    let few : length (of_sets has (take i sets)) + length (has set) ≤ length (of_sets has sets) = sets_few has sets i set c.loop-set-test.true c.set-item.is in
    record {
      order = subst (λ (column : List (ℕ × Row)). IsUpTo set.access.vlan column) (sym column_is) (sets_up has sets i set c.requires.order c.loop-set-test.true c.set-item.is);
      room = omega (arith, ap length column_is, few, c.requires.room, ap (λ (k : Columns). k.row_room) c.loop-set.invariant);
    }

pub loop-set-preserved : goal.loop-set-preserved
loop-set-preserved c =
    let sets : List VlanSet = c.args.sets.now in
    let i : ℕ = c.loop-set.set-index in
    let set : VlanSet = c.set-item.result in
    let has : VlanSet → List Row = λ (set : VlanSet). set.access.addresses.rows in
    let start : Columns = c.args.into.now in
    c.keep_rows_of.ensures
    ∙ ap (with_rows (each_of set.access.vlan (has set))) c.loop-set.invariant
    ∙ ap (λ (column : List (ℕ × Row)). record start { rows = column })
    (append_assoc start.rows (of_sets has (take i sets)) (each_of set.access.vlan (has set))
    ∙ ap (λ (more : List (ℕ × Row)). start.rows ++ more) (sym (sets_more has sets i set c.loop-set-test.true c.set-item.is)))

pub returns : goal.returns
returns c =
    let has : VlanSet → List Row = λ (set : VlanSet). set.access.addresses.rows in
    c.loop-set.invariant ∙ ap (λ (sets : List VlanSet). with_rows (of_sets has sets) c.args.into.now) (take_all c.loop-set.set-index c.args.sets.now (omega (arith, c.loop-set-test.false)))
