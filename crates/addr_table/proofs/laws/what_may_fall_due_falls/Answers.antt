use Rattle.std.proofs.Common.{◌≡◌, ◌≢◌, ℕ, ◌<◌, ◌≤◌, List, length, sym, ◌∙◌, ap, subst, inl, inr, arith}
use Rattle.fcfs_states.specs.Premises.{AreTimes}
use Rattle.savi_access.specs.Ages.{aged_rows}
use Rattle.savi_access.specs.Sends.{all_sends}
use Rattle.addr_table.specs.Turns.{turns_left}
use Rattle.savi_access.specs.Bases.{AddrRules, AddrBase, AreTables}
use Rattle.savi_access.specs.NamedMarks.{Named}
use Rattle.savi_access.specs.Tables.{rows_after, rows_at}
use Rattle.savi_access.specs.Probes.{probes_between, HasChanged}
use Rattle.savi_access.proofs.TablesOf.{table_at, rows-later, changes}
use Rattle.savi_access.proofs.Orders.{order-length}
use Rattle.savi_access.proofs.AllSends.{sends-late}
use Rattle.savi_access.proofs.RowCounts.{few_rows}
use Rattle.addr_table.proofs.TurnsLeft.{rows-turns, same_or_fewer, few_turns_of, few_turns}
use Rattle.addr_table.proofs.laws.what_may_fall_due_falls.Goals as goal

fewer_later : (r : AddrRules) (base : AddrBase) (past : List Named) (t u vlan : ℕ) → AreTimes r.times → AreTables base → t ≤ u → HasChanged r base past t u vlan → turns_left (rows_at r base past u vlan) < turns_left (rows_at r base past t vlan)
fewer_later r base past t u vlan times tables after changed =
    let later : rows_at r base past u vlan ≡ aged_rows r.times u (rows_at r base past t vlan) = rows-later r base tables times past t u vlan after in
    let other : rows_at r base past u vlan ≢ rows_at r base past t vlan = (changes r base tables times past t u vlan after).0 changed in
    elim (same_or_fewer r.times times u (rows_at r base past t vlan) (table_at r base tables past t vlan).stand) [
      | inl same ↦ absurd (other (later ∙ same))
      | inr fewer ↦ subst (λ rows. turns_left rows < turns_left (rows_at r base past t vlan)) (sym later) fewer
    ]

pub returns : goal.returns
returns c = record {
  probes = λ r base past t u vlan times tables after.
      let rows = rows_at r base past t vlan in
      let later : rows_at r base past u vlan ≡ aged_rows r.times u rows = rows-later r base tables times past t u vlan after in
      let sent : length (probes_between r base past t u vlan) ≡ length (all_sends r.times u rows) = ap length (sends-late r.times times t u (rows_after r base past vlan) after) ∙ order-length (all_sends r.times u rows) in
      omega (arith, ap turns_left later, sent, rows-turns r.times times u rows);
  changes = λ r base past t u vlan times tables after changed. fewer_later r base past t u vlan times tables after changed;
  each = λ state. few_turns_of state;
  most = λ r base past t vlan is right after. omega (arith, few_turns (rows_at r base past t vlan), few_rows r base past t vlan is right after);
}
