use Rattle.std.proofs.Common.{◌≡◌, ℕ, ◌*◌, ◌≤◌, List, length, ◌∙◌, ap, arith}
use Rattle.savi_access.specs.Sends.{all_sends}
use Rattle.savi_access.specs.Bases.{AddrRules, AddrBase}
use Rattle.savi_access.specs.NamedMarks.{Named}
use Rattle.savi_access.specs.States.{state_of}
use Rattle.savi_access.specs.Tables.{rows_after, rows_at}
use Rattle.savi_access.specs.Probes.{probes_between}
use Rattle.savi_access.specs.Limits.{IsAddrBase}
use Rattle.savi_access.proofs.StatesKept.{base_times}
use Rattle.savi_access.proofs.Orders.{order-length}
use Rattle.savi_access.proofs.AllSends.{few_each, few_sends, sends-late}
use Rattle.savi_access.proofs.RowCounts.{few_rows, sum-times, few_rows_everywhere}
use Rattle.savi_access.proofs.address_laws.few_probes_at_once.Goals as goal

few_between : (r : AddrRules) (base : AddrBase) (past : List Named) (from t vlan : ℕ) → IsAddrBase r base → from ≤ t → length (probes_between r base past from t vlan) ≤ 3 * length (rows_at r base past from vlan)
few_between r base past from t vlan is after =
    let rows = rows_at r base past from vlan in
    let same : length (probes_between r base past from t vlan) ≡ length (all_sends r.times t rows) = ap length (sends-late r.times (base_times r base is) from t (rows_after r base past vlan) after) ∙ order-length (all_sends r.times t rows) in
    omega (arith, same, few_sends r.times (base_times r base is) t rows)

pub returns : goal.returns
returns c = record {
  each = λ r base past t vlan a times. few_each r.times times t (state_of r base past vlan a);
  addresses = λ r base past t vlan is right after. few_rows r base past t vlan is right after;
  all = λ r base past from t vlan is right last after. omega (arith, few_between r base past from t vlan is after, few_rows r base past from vlan is right last);
  addresses_everywhere = λ r base past t vlans is right after different. few_rows_everywhere r base is past t right after vlans different;
  everywhere = λ r base past from t vlans is right last after different.
      omega (arith, sum-times 3 (λ vlan. length (probes_between r base past from t vlan)) (λ vlan. length (rows_at r base past from vlan)) (λ vlan. few_between r base past from t vlan is after) vlans, few_rows_everywhere r base is past from right last vlans different);
}
