use Rattle.std.proofs.Common.{◌↔◌, ◌<◌, subst}
use Rattle.mix_rules.specs.Ageing.{aged_state}
use Rattle.savi_access.specs.Tables.{rows_after}
use Rattle.savi_access.specs.Probes.{probes_between, IsAmong}
use Rattle.savi_access.proofs.TablesOf.{table_after, states_after}
use Rattle.savi_access.proofs.AllSends.{sends_after-order, among-after, after-among, sends-late, sends-joined}
use Rattle.savi_access.proofs.address_laws.probes_are_all_in_order.Goals as goal

pub returns : goal.returns
returns c = record {
  members = λ r base past from t vlan sent times tables.
      subst (λ s. (IsAmong sent (probes_between r base past from t vlan) ↔ (from < sent.due) × IsAmong (sent.due, sent.probe) (aged_state r.times t s).probes)) (states_after r base tables past vlan sent.address.0)
      (λ is. among-after r.times times from t (rows_after r base past vlan) sent (table_after r base tables past vlan).rising is, λ told. after-among r.times times from t (rows_after r base past vlan) sent told.0 told.1);
  order = λ r base past from t vlan times tables. sends_after-order r.times times from t (rows_after r base past vlan) (table_after r base tables past vlan).rising;
  rows = λ r base past from t vlan times after. sends-late r.times times from t (rows_after r base past vlan) after;
  joined = λ r base past from t u vlan times tables one two. sends-joined r.times times from t u (rows_after r base past vlan) one two (table_after r base tables past vlan).rising;
}
