-- The rules of a valid plan are such as the laws on access want.
use Rattle.std.proofs.Common.{◌≡◌, ◌≢◌, ℕ, ◌==◌, ◌&&◌, ◌||◌, Bool, true, false, if◌then◌else◌, Option, Some, None, is_some, List, [], ◌∷◌, refl, ap, sym, ◌∙◌, subst, inl, inr, arith}
use Rattle.std.specs.Prelude.{All, IsSomeAnd}
use Rattle.std.specs.List.{list_any}
use Rattle.std.proofs.lemmas.Bool.{false≢true, cases_Bool}
use Rattle.std.proofs.lemmas.List.Elements.{All-nil, All-head, All-tail}
use Rattle.savi_kinds.proofs.Orders.{rising-none}
use Rattle.savi_access.specs.Rows.{address_of}
use Rattle.savi_kinds.specs.declared.plan.Plan.{Plan}
use Rattle.savi_kinds.specs.declared.plan.PortPlan.{PortPlan}
use Rattle.savi_kinds.specs.declared.plan.PrefixPlan.{PrefixPlan}
use Rattle.savi_kinds.specs.declared.plan.Method.{Method}
use Rattle.savi_kinds.specs.declared.plan.Vlan.{Vlan}
use Rattle.savi_kinds.specs.declared.plan.Vlan.TheVariants.{Access, Trunk}
use Rattle.savi_kinds.specs.declared.plan.Role.{Role}
use Rattle.savi_kinds.specs.declared.plan.Role.TheVariants as roles
use Rattle.savi_kinds.specs.Ports.{number_of}
use Rattle.savi_kinds.specs.ValidPlan.{IsValidPlan, HasPlanVlans, numbers_of, nets_of, IsPlanPrefix}
use Rattle.savi_kinds.specs.Vlans.{is_trunk, vlan_among, vlan_by, access_vlan_among, access_vlan}
use Rattle.nd_read.specs.InPrefix.{lies_in}
use Rattle.nd_read.proofs.InPrefix.{Decides-lies_in}
use Rattle.fcfs_states.specs.Premises.{AreTimes}
use Rattle.savi_access.specs.Bases.{AddrRules, no_states}
use Rattle.savi_access.specs.Limits.{IsAddrBase}
use Rattle.savi_access.proofs.StatesKept.{nobody-kept}
use Rattle.savi_access.specs.Rules.{IsRequestOf, HasHostPorts, IsAccessBase, nothing_yet}
use Rattle.savi_access.specs.Plans.{times_of, has_port, role_among, role_of, method_among, method_in, rules_of}
use Rattle.savi_access.proofs.States.{none_some}

pub plan_times : (plan : Plan) → IsValidPlan plan → AreTimes (times_of plan)
plan_times plan valid = record {
  gap = valid.gap.0;
  gap_first = valid.gap_first;
  test = omega (arith, valid.test.1);
  life = omega (arith, valid.life.1, valid.life.2.0);
  life_most = omega (arith, valid.life.1, valid.life.2.1);
}

no_states_base : (r : AddrRules) → AreTimes r.times → IsAddrBase r no_states
no_states_base r times = record {
  early = omega arith;
  kept = λ vlan. record { table = record { rising = rising-none address_of; stand = tt }; times = times; fit = λ a. (nobody-kept r.times times (r.method_of vlan a) 0).fits; within = λ port. omega arith };
  ports = λ vlan a port held. absurd (false≢true held);
  sound = λ vlan a. (nobody-kept r.times times (r.method_of vlan a) 0).sound;
  still = λ vlan a. (nobody-kept r.times times (r.method_of vlan a) 0).still;
  begun = λ vlan a. tt;
}

-- a port that has a VLAN of its own isn't trusted
hosts_among : (ports : List PortPlan) (number vlan : ℕ) → access_vlan_among ports number ≡ Some vlan → role_among ports number ≢ roles.Trusted
hosts_among [] number vlan is trusted = false≢true (ap is_some is)
hosts_among (p ∷ ports) number vlan is trusted =
    elim (cases_Bool (number_of p.number == number)) [
      | inl here ↦ not_trusted p.role p.vlan (subst (λ b. (if b then vlan_by p.role p.vlan else access_vlan_among ports number) ≡ Some vlan) here is) (subst (λ b. (if b then p.role else role_among ports number) ≡ roles.Trusted) here trusted)
      | inr behind ↦ hosts_among ports number vlan (subst (λ b. (if b then vlan_by p.role p.vlan else access_vlan_among ports number) ≡ Some vlan) behind is) (subst (λ b. (if b then p.role else role_among ports number) ≡ roles.Trusted) behind trusted)
    ]
  where
    not_trusted : (role : Role) (of : Vlan) → vlan_by role of ≡ Some vlan → role ≡ roles.Trusted → ⊥
    not_trusted role of has trusts = false≢true (ap is_some (sym (ap (λ (x : Role). vlan_by x of) trusts) ∙ has))

pub host_ports : (plan : Plan) → HasHostPorts (rules_of plan)
host_ports plan = hosts_among plan.ports

-- the start of a switch is within the limits
pub starts_within : (plan : Plan) → IsValidPlan plan → IsAccessBase (rules_of plan) nothing_yet
starts_within plan valid = record {
  roles = host_ports plan;
  addresses = no_states_base (rules_of plan).addresses (plan_times plan valid);
  limits = λ vlan. record { room = λ port. omega arith; pairs = λ tid duid. omega arith };
  requests = λ vlan. All-nil (IsRequestOf (rules_of plan) vlan 0);
}

-- a port whose sources are validated is an access port, and its own VLAN is that
access_by : (role : Role) (of : Vlan) → role ≢ roles.Trusted → (is_trunk of ≡ true → role ≡ roles.Trusted) → IsSomeAnd (vlan_by role of) (λ vlan. Some of ≡ Some (Access vlan))
access_by roles.Host (Access v) host trunk = refl
access_by roles.Server (Access v) host trunk = refl
access_by roles.Host (Trunk vs) host trunk = absurd (host (trunk refl))
access_by roles.Server (Trunk vs) host trunk = absurd (host (trunk refl))
access_by roles.Trusted of host trunk = absurd (host refl)

pub access_among : (ports : List PortPlan) (number : ℕ) → All HasPlanVlans ports → list_any (λ n. n == number) (numbers_of ports) ≡ true → role_among ports number ≢ roles.Trusted
    → IsSomeAnd (access_vlan_among ports number) (λ vlan. vlan_among ports number ≡ Some (Access vlan))
access_among [] number valid has host = absurd (none_some has)
access_among (p ∷ ports) number valid has host =
    elim (cases_Bool (number_of p.number == number)) [
      | inl here ↦
          subst (λ (b : Bool). IsSomeAnd (if b then vlan_by p.role p.vlan else access_vlan_among ports number) (λ vlan. (if b then Some p.vlan else vlan_among ports number) ≡ Some (Access vlan))) (sym here)
          (access_by p.role p.vlan (subst (λ b. (if b then p.role else role_among ports number) ≢ roles.Trusted) here host) (All-head HasPlanVlans p ports valid).trusted)
      | inr behind ↦
          subst (λ (b : Bool). IsSomeAnd (if b then vlan_by p.role p.vlan else access_vlan_among ports number) (λ vlan. (if b then Some p.vlan else vlan_among ports number) ≡ Some (Access vlan))) (sym behind)
          (access_among ports number (All-tail HasPlanVlans p ports valid)
          (subst (λ b. (b || list_any (λ n. n == number) (numbers_of ports)) ≡ true) behind has)
          (subst (λ b. (if b then p.role else role_among ports number) ≢ roles.Trusted) behind host))
    ]

pub own_ports : (plan : Plan) → IsValidPlan plan → (number : ℕ) → has_port plan number ≡ true → role_of plan number ≢ roles.Trusted
    → IsSomeAnd (access_vlan plan number) (λ vlan. vlan_among plan.ports number ≡ Some (Access vlan))
own_ports plan valid number has host = access_among plan.ports number valid.port_vlans has host

-- :: lies in no prefix
no_method : (of : Bool) (m : Method) (rest : Option Method) → rest ≡ None → (if of && false then Some m else rest) ≡ None
no_method true m rest none = none
no_method false m rest none = none

lies_nowhere : (prefixes : List PrefixPlan) (vlan : ℕ) → All IsPlanPrefix (nets_of prefixes) → method_among prefixes vlan 0 ≡ None
lies_nowhere [] vlan each = refl
lies_nowhere (p ∷ prefixes) vlan each =
    let valid : IsPlanPrefix p.prefix = All-head IsPlanPrefix p.prefix (nets_of prefixes) each in
    let behind : method_among prefixes vlan 0 ≡ None = lies_nowhere prefixes vlan (All-tail IsPlanPrefix p.prefix (nets_of prefixes) each) in
    elim (cases_Bool (lies_in 0 p.prefix)) [
      | inl here ↦ absurd (valid.not_unspecified ((Decides-lies_in 0 p.prefix).0 here))
      | inr apart ↦ rw apart (no_method (p.vlan == vlan) p.method (method_among prefixes vlan 0) behind)
    ]

pub unspecified_off_link : (plan : Plan) → IsValidPlan plan → (vlan : ℕ) → method_in plan vlan 0 ≡ None
unspecified_off_link plan valid vlan = lies_nowhere plan.prefixes vlan valid.plan_prefixes
