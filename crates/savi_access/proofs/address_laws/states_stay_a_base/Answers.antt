use Rattle.std.proofs.Common.{◌≡◌, ℕ, ◌≤◌, ◌^◌, true, List, sym, subst, arith}
use Rattle.std.proofs.lemmas.Bool.{false≢true}
use Rattle.mix_rules.specs.States.{is_held_at}
use Rattle.savi_kinds.proofs.Orders.{rising-none}
use Rattle.savi_access.specs.Rows.{address_of, state_in}
use Rattle.savi_access.specs.Bases.{AddrRules, AddrBase}
use Rattle.savi_access.specs.NamedMarks.{Named, last_moment}
use Rattle.savi_access.specs.Tables.{rows_at}
use Rattle.savi_access.specs.Limits.{IsAddrBase, IsPast}
use Rattle.savi_access.proofs.TablesOf.{table_at, states_at}
use Rattle.savi_access.proofs.StatesKept.{IsStateAt, nobody-kept, base_times, base_tables, base_within, states_kept}
use Rattle.savi_access.proofs.Holding.{within_at}
use Rattle.savi_access.proofs.OwnPorts.{own_at}
use Rattle.savi_access.proofs.address_laws.states_stay_a_base.Goals as goal

at_row : (r : AddrRules) (base : AddrBase) (past : List Named) (t : ℕ) → IsAddrBase r base → IsPast r base past → last_moment base past ≤ t → t ≤ 2 ^ 62 → (vlan a : ℕ) → IsStateAt (r.method_of vlan a) r.times t (state_in (rows_at r base past t vlan) a)
at_row r base past t is right after early vlan a =
    subst (IsStateAt (r.method_of vlan a) r.times t) (sym (states_at r base (base_tables r base is) (base_times r base is) past t vlan a)) (states_kept r base is past t vlan a right after early)

pub returns : goal.returns
returns c = record {
  start = λ r times. record {
    early = omega arith;
    kept = λ vlan. record { table = record { rising = rising-none address_of; stand = tt }; times = times; fit = λ a. (nobody-kept r.times times (r.method_of vlan a) 0).fits; within = λ port. omega arith };
    ports = λ vlan a port held. absurd (false≢true held);
    sound = λ vlan a. (nobody-kept r.times times (r.method_of vlan a) 0).sound;
    still = λ vlan a. (nobody-kept r.times times (r.method_of vlan a) 0).still;
    begun = λ vlan a. tt;
  };
  kept = λ r base past t is right after early. record {
    early = early;
    kept = λ vlan. record {
      table = table_at r base (base_tables r base is) past t vlan;
      times = base_times r base is;
      fit = λ a. (at_row r base past t is right after early vlan a).fits;
      within = within_at r base (base_times r base is) (base_tables r base is) (base_within r base is) past t vlan right after;
    };
    ports = λ vlan a port held. own_at r base (base_times r base is) is.ports past t vlan a port right (subst (λ s. is_held_at port s ≡ true) (states_at r base (base_tables r base is) (base_times r base is) past t vlan a) held);
    sound = λ vlan a. (at_row r base past t is right after early vlan a).sound;
    still = λ vlan a. (at_row r base past t is right after early vlan a).still;
    begun = λ vlan a. (at_row r base past t is right after early vlan a).begun;
  };
}
