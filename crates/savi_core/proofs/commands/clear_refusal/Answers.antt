use Rattle.std.proofs.Common.{not, Bool, true, if◌then◌else◌, Option, Some, None, sym, ap, ◌∙◌}
use Rattle.mix_rules.specs.States.{has_state}
use Rattle.control_replies.specs.declared.refusal.Refusal.{Refusal}
use Rattle.control_replies.specs.declared.refusal.Refusal.TheVariants.{BadAddress, NoBinding}
use Rattle.savi_access.specs.Rows.{state_in}
use Rattle.savi_core.specs.VlanSets.{rows_by_vlan}
use Rattle.savi_core.proofs.Ordering.{state_there}
use Rattle.savi_core.proofs.commands.clear_refusal.Goals as goal

-- by whether the plan has the VLAN, and the address a state
abbrev refused : Bool → Bool → Option Refusal
refused known has = if not known then Some BadAddress else if has then None else Some NoBinding

pub returns-in_default : goal.returns-in_default
returns-in_default c =
    sym (ap (λ (known : Bool). refused known (has_state (state_in (rows_by_vlan c.args.sets.now c.args.vlan) c.args.address.0))) c.in_default.ensures.none)

pub returns-then-has_state : goal.returns-then-has_state
returns-then-has_state c =
    let there = state_there c.args.ports.now c.args.sets.now c.requires c.in-Some.set c.in-Some.ensures.within c.args.vlan c.args.address.0 c.index-sets-set.result c.in-Some.ensures.found in
    sym (ap (λ (known : Bool). refused known (has_state (state_in (rows_by_vlan c.args.sets.now c.args.vlan) c.args.address.0))) c.in-Some.ensures.some ∙ ap (refused true) (there ∙ sym c.has_state.ensures ∙ c.if-has_state.true))

pub returns-else-has_state : goal.returns-else-has_state
returns-else-has_state c =
    let there = state_there c.args.ports.now c.args.sets.now c.requires c.in-Some.set c.in-Some.ensures.within c.args.vlan c.args.address.0 c.index-sets-set.result c.in-Some.ensures.found in
    sym (ap (λ (known : Bool). refused known (has_state (state_in (rows_by_vlan c.args.sets.now c.args.vlan) c.args.address.0))) c.in-Some.ensures.some ∙ ap (refused true) (there ∙ sym c.has_state.ensures ∙ c.if-has_state.false))
