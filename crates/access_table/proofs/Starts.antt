-- The start of a switch by a valid plan.
use Rattle.std.proofs.Common.{◌≡◌, ℕ, None, [], sym, ap, subst, arith}
use Rattle.savi_kinds.specs.declared.plan.Plan.{Plan}
use Rattle.savi_kinds.specs.ValidPlan.{IsValidPlan}
use Rattle.fcfs_states.specs.Premises.{AreTimes}
use Rattle.addr_table.specs.Addresses.{Addresses}
use Rattle.dhcp_states.specs.Requests.{open_at}
use Rattle.savi_access.specs.Rules.{nothing_yet}
use Rattle.savi_access.specs.Plans.{times_of, rules_of}
use Rattle.savi_access.specs.Ages.{AllStill}
use Rattle.savi_access.specs.Keeps.{AreSound}
use Rattle.savi_access.proofs.PlanRules.{starts_within}
use Rattle.savi_access.proofs.StatesKept.{base_times, nobody-kept}
use Rattle.access_table.specs.Kept.{IsAgedTo, Kept, Represents}

-- a table without states and requests stands for the start
pub starts : (plan : Plan) → IsValidPlan plan → (kept : Kept) → kept.addresses ≡ record { rows = []; times = times_of plan; per_port = plan.per_port } → kept.requests ≡ [] → Represents (rules_of plan) nothing_yet [] 0 kept
starts plan valid kept addresses requests = record {
  base_is = starts_within plan valid;
  marks = tt;
  last = omega arith;
  rows = ap (λ (x : Addresses). x.rows) addresses;
  requests = ap (open_at 0) requests;
  times = ap (λ (x : Addresses). x.times) addresses;
  per_port = ap (λ (x : Addresses). x.per_port) addresses;
}

-- and is aged to each moment
pub starts_ready : (plan : Plan) → IsValidPlan plan → (kept : Kept) → kept.addresses ≡ record { rows = []; times = times_of plan; per_port = plan.per_port } → (t : ℕ) → IsAgedTo (rules_of plan) t kept
starts_ready plan valid kept addresses t =
    let times : AreTimes (times_of plan) = base_times (rules_of plan).addresses nothing_yet.addresses (starts_within plan valid).addresses in
    record {
      made = record { times = ap (λ (x : Addresses). x.times) addresses; per_port = ap (λ (x : Addresses). x.per_port) addresses };
      still = subst (λ (x : Addresses). AllStill x.times t x.rows) (sym addresses) (λ a. (nobody-kept (times_of plan) times None t).still);
      sound = subst (λ (x : Addresses). AreSound ((rules_of plan).addresses.method_of kept.vlan) x.rows) (sym addresses) (λ a. (nobody-kept (times_of plan) times ((rules_of plan).addresses.method_of kept.vlan a) t).sound);
    }
