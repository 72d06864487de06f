use Rattle.std.proofs.Common.{◌≡◌, ◌≤◌, ◌+◌, List, get_or, ap, sym, ◌∙◌, inr, arith, length}
use Rattle.std.proofs.lemmas.List.Sums.{fold_more}
use Rattle.savi_kinds.specs.declared.address.Addr.{Addr}
use Rattle.savi_access.specs.declared.row.Row.{Row}
use Rattle.bind_table.specs.Bindings.{Bindings}
use Rattle.savi_access.specs.Rows.{with_state}
use Rattle.tables_bench.proofs.Lengths.{length-with_state}
use Rattle.tables_bench.proofs.bindings.renew_all.Goals as goal

pub put-requires-clause-room : goal.put-requires-clause-room
put-requires-clause-room c = inr (omega (arith, c.loop-a.invariant.room, c.loop-a.invariant.most, c.requires.room, c.loop-a-test.true))

pub loop-a-preserved : goal.loop-a-preserved
loop-a-preserved c =
    let step : List Row → Addr → List Row = λ rows a. with_state a.0 c.args.state rows in
    let rows : c.put.new.self.rows ≡ with_state (get_or c.args.asked.now c.loop-a.a-index (record { 0 = 0 })).0 c.args.state c.loop-a.table.rows = ap (λ (table : Bindings). table.rows) c.put.ensures in
    let longer : length (with_state (get_or c.args.asked.now c.loop-a.a-index (record { 0 = 0 })).0 c.args.state c.loop-a.table.rows) ≤ length c.loop-a.table.rows + 1 = length-with_state (get_or c.args.asked.now c.loop-a.a-index (record { 0 = 0 })).0 c.args.state c.loop-a.table.rows in
    record {
      rows = rows ∙ ap (λ (before : List Row). step before (get_or c.args.asked.now c.loop-a.a-index (record { 0 = 0 }))) c.loop-a.invariant.rows
          ∙ sym (fold_more step c.args.table.now.rows c.args.asked.now c.loop-a.a-index (record { 0 = 0 }) c.loop-a-test.true);
      most = ap (λ (table : Bindings). table.most) c.put.ensures ∙ c.loop-a.invariant.most;
      room = rw rows (omega (arith, longer, c.loop-a.invariant.room));
    }
