-- Why a line is refused, by what is kept of the VLANs of a plan alone.
use Rattle.std.proofs.Common.{◌≡◌, ℕ, ◌==◌, ◌||◌, not, Bool, true, false, if◌then◌else◌, Option, Some, None, is_some, List, [], ◌∷◌, Ok, refl, sym, ap, ◌∙◌, inl, inr}
use Rattle.std.specs.List.{list_any}
use Rattle.std.proofs.lemmas.Bool.{cases_Bool, cond-true, cond-false, eqb-true, false≢true}
use Rattle.std.proofs.lemmas.List.Elements.{All-head, All-tail}
use Rattle.savi_kinds.specs.declared.plan.Plan.{Plan}
use Rattle.savi_kinds.specs.declared.port.Port.{Port}
use Rattle.savi_kinds.specs.Ports.{number_of}
use Rattle.savi_kinds.specs.Vlans.{access_vlan, vlans_of}
use Rattle.mix_rules.specs.States.{has_state}
use Rattle.cli_lang.specs.declared.kinds.Command.{Command}
use Rattle.cli_lang.specs.declared.kinds.Command.TheVariants as orders
use Rattle.control_replies.specs.declared.refusal.Refusal.{Refusal}
use Rattle.control_replies.specs.declared.refusal.Refusal.TheVariants as refusals
use Rattle.savi_access.specs.declared.row.Row.{Row}
use Rattle.savi_access.specs.Rows.{state_in}
use Rattle.savi_access.specs.Tables.{rows_at}
use Rattle.savi_access.specs.Rules.{AccessRules, AccessBase}
use Rattle.savi_access.specs.Marks.{Mark, told}
use Rattle.savi_access.specs.Plans.{has_port, method_in, rules_of}
use Rattle.access_table.specs.Kept.{Represents}
use Rattle.checkpoint.specs.BaseLines.{has_vlan}
use Rattle.savi_history.specs.Commands.{may_hold, refusal_of, rows_told, static_refusal_in}
use Rattle.savi_segments.proofs.Elsewhere.{access_of_plan}
use Rattle.savi_core.specs.declared.vlan_set.VlanSet.{VlanSet}
use Rattle.savi_core.specs.VlanSets.{AllRepresent, rows_by_vlan, vlans_of_sets}

-- it rests on the addresses of the plan's VLANs
module _ (plan : Plan) (rows rows' : ℕ → List Row) (same : (vlan : ℕ) → has_vlan plan vlan ≡ true → rows vlan ≡ rows' vlan) where
  abbrev unless_known : Bool → Option Refusal → Option Refusal
  unless_known known rest = if not known then Some refusals.NoSuchPort else rest

  same_static : (a : ℕ) (port : Port) (own : Option ℕ) → ((v : ℕ) → own ≡ Some v → has_vlan plan v ≡ true) → static_refusal_in plan rows a port own ≡ static_refusal_in plan rows' a port own
  same_static a port None known = refl
  same_static a port (Some vlan) known =
      ap (λ (l : List Row). if not (is_some (method_in plan vlan a)) then Some refusals.OffLink else if not (may_hold plan l port a) then Some refusals.PortFull else None) (same vlan (known vlan refl))

  abbrev unless_bound : Bool → ℕ → List Row → Option Refusal
  unless_bound known a l = if not known then Some refusals.BadAddress else if has_state (state_in l a) then None else Some refusals.NoBinding

  same_clear : (vlan a : ℕ) (known : Bool) → has_vlan plan vlan ≡ known → unless_bound known a (rows vlan) ≡ unless_bound known a (rows' vlan)
  same_clear vlan a true is = ap (unless_bound true a) (same vlan is)
  same_clear vlan a false is = refl

  pub same_refusal : (order : Command) → refusal_of plan rows (Ok order) ≡ refusal_of plan rows' (Ok order)
  same_refusal (orders.Static address port) =
      ap (unless_known (has_port plan (number_of port))) (same_static address.0 port (access_vlan plan (number_of port)) (access_of_plan plan (number_of port)))
  same_refusal (orders.Clear vlan address) =
      same_clear vlan address.0 (has_vlan plan vlan) refl
  same_refusal (orders.Shut port) = refl
  same_refusal (orders.Reopen port) = refl
  same_refusal orders.ShowBindings = refl
  same_refusal orders.ShowPorts = refl
  same_refusal orders.ShowCounters = refl
  same_refusal orders.ShowStations = refl
  same_refusal orders.Quit = refl

-- the sets have what was told of the VLANs of the plan
module _ (r : AccessRules) (base : AccessBase) (past : List Mark) (t : ℕ) where
  there : (sets : List VlanSet) → AllRepresent r base past t sets → (vlan : ℕ) → list_any (λ v. v == vlan) (vlans_of_sets sets) ≡ true → rows_by_vlan sets vlan ≡ rows_at r.addresses base.addresses (told past) t vlan
  there [] all vlan is = absurd (false≢true is)
  there (set ∷ sets) all vlan is =
      elim (cases_Bool (set.access.vlan == vlan)) [
        | inl same ↦
            let here : Represents r base past t set.access = All-head (λ (s : VlanSet). Represents r base past t s.access) set sets all in
            cond-true (set.access.vlan == vlan) set.access.addresses.rows (rows_by_vlan sets vlan) same
            ∙ here.rows
            ∙ ap (λ (v : ℕ). rows_at r.addresses base.addresses (told past) t v) (eqb-true set.access.vlan vlan same)
        | inr other ↦
            cond-false (set.access.vlan == vlan) set.access.addresses.rows (rows_by_vlan sets vlan) other
            ∙ there sets (All-tail (λ (s : VlanSet). Represents r base past t s.access) set sets all) vlan (sym (ap (λ (b : Bool). b || list_any (λ v. v == vlan) (vlans_of_sets sets)) other) ∙ is)
      ]

pub told_there : (plan : Plan) (base : AccessBase) (past : List Mark) (t : ℕ) (sets : List VlanSet) → vlans_of_sets sets ≡ vlans_of plan → AllRepresent (rules_of plan) base past t sets → (vlan : ℕ) → has_vlan plan vlan ≡ true → rows_by_vlan sets vlan ≡ rows_told plan base past t vlan
told_there plan base past t sets vlans all vlan known =
    there (rules_of plan) base past t sets all vlan (ap (λ (vs : List ℕ). list_any (λ v. v == vlan) vs) vlans ∙ known)
