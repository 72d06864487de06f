use Rattle.std.proofs.Common.{ℕ, ◌≡◌, Bool, true, Option, Some, None, Ok, List, refl, sym, subst, ◌∙◌}
use Rattle.std.proofs.Math.Path.{fun_ext}
use Rattle.std.proofs.lemmas.List.Elements.{All-weaker}
use Rattle.savi_kinds.specs.declared.plan.Plan.{Plan}
use Rattle.cli_lang.specs.declared.kinds.Command.{Command}
use Rattle.savi_history.specs.ShutPorts.{shut_by}
use Rattle.control_replies.specs.declared.refusal.Refusal.{Refusal}
use Rattle.savi_access.specs.declared.row.Row.{Row}
use Rattle.savi_access.specs.Plans.{rules_of}
use Rattle.access_table.specs.Kept.{IsAgedTo}
use Rattle.checkpoint.specs.BaseLines.{has_vlan}
use Rattle.savi_history.specs.Commands.{rows_told, refusal_of, ordered_unless}
use Rattle.savi_history.proofs.Shutting.{refused_shuts_none}
use Rattle.savi_core.specs.declared.vlan_set.VlanSet.{VlanSet}
use Rattle.savi_core.specs.VlanSets.{AllRepresent, rows_by_vlan}
use Rattle.savi_core.specs.Rings.{shut_in}
use Rattle.savi_core.proofs.Granting.{same_refusal, told_there}
use Rattle.savi_core.proofs.commands.obey_order.Goals as goal

-- no port is shut or opened by what is refused
still_shut : (plan : Plan) (rows : ℕ → List Row) (order : Command) (number : ℕ) (before : Bool) {refusal : Refusal} → Some refusal ≡ refusal_of plan rows (Ok order) → shut_by plan number (Ok order) before ≡ before
still_shut plan rows order number before {refusal} refused = refused_shuts_none plan rows (Ok order) refusal number before (sym refused)

pub refusal-refused-requires-clause-per_port : goal.refusal-refused-requires-clause-per_port
refusal-refused-requires-clause-per_port c =
    All-weaker (λ (set : VlanSet). IsAgedTo (rules_of c.args.ports.now) c.args.t set.access) (λ (set : VlanSet). set.access.addresses.per_port ≡ c.args.ports.now.per_port)
    (λ set aged. aged.made.per_port) c.args.sets.now c.requires.ready

pub returns-in-None-clause-obeyed : goal.returns-in-None-clause-obeyed
returns-in-None-clause-obeyed c = λ base past states.
    let rows_are : (vlan : ℕ) → has_vlan c.args.ports.now vlan ≡ true → rows_by_vlan c.args.sets.now vlan ≡ rows_told c.args.ports.now base past c.args.t vlan =
    told_there c.args.ports.now base past c.args.t c.args.sets.now c.requires.vlans states in
    let refusal_is : c.refusal-refused.result ≡ refusal_of c.args.ports.now (rows_told c.args.ports.now base past c.args.t) (Ok c.args.order) =
    c.refusal-refused.ensures ∙ same_refusal c.args.ports.now (rows_by_vlan c.args.sets.now) (rows_told c.args.ports.now base past c.args.t) rows_are c.args.order in
    let none_is : None ≡ refusal_of c.args.ports.now (rows_told c.args.ports.now base past c.args.t) (Ok c.args.order) = sym c.in-None.is ∙ refusal_is in
    record {
      refusal = refusal_is;
      states =
          subst (λ (o : Option Refusal). AllRepresent (rules_of c.args.ports.now) base (ordered_unless c.args.ports.now base c.args.t (Ok c.args.order) o past) c.args.t c.carry_out.new.sets) none_is
          (c.carry_out.ensures.told base past states);
      shut = c.carry_out.ensures.shut;
      rest = c.carry_out.ensures.rest;
    }

pub returns-in-Some-clause-obeyed : goal.returns-in-Some-clause-obeyed
returns-in-Some-clause-obeyed c = λ base past states.
    let rows_are : (vlan : ℕ) → has_vlan c.args.ports.now vlan ≡ true → rows_by_vlan c.args.sets.now vlan ≡ rows_told c.args.ports.now base past c.args.t vlan =
    told_there c.args.ports.now base past c.args.t c.args.sets.now c.requires.vlans states in
    let refusal_is : c.refusal-refused.result ≡ refusal_of c.args.ports.now (rows_told c.args.ports.now base past c.args.t) (Ok c.args.order) =
    c.refusal-refused.ensures ∙ same_refusal c.args.ports.now (rows_by_vlan c.args.sets.now) (rows_told c.args.ports.now base past c.args.t) rows_are c.args.order in
    let some_is = sym c.in-Some.is ∙ refusal_is in
    record {
      refusal = refusal_is;
      states =
          subst (λ (o : Option Refusal). AllRepresent (rules_of c.args.ports.now) base (ordered_unless c.args.ports.now base c.args.t (Ok c.args.order) o past) c.args.t c.args.sets.now) some_is states;
      shut = sym (fun_ext (λ number. still_shut c.args.ports.now (rows_told c.args.ports.now base past c.args.t) c.args.order number (shut_in c.args.queues.now.shut number) some_is));
      rest = refl;
    }
