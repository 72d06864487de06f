use Rattle.std.proofs.Common.{Some, Result, refl, sym, ap, subst, ◌∙◌}
use Rattle.cli_lang.specs.declared.kinds.Command.{Command}
use Rattle.cli_lang.specs.declared.kinds.CmdFault.{CmdFault}
use Rattle.control_replies.specs.declared.refusal.Refusal.{Refusal}
use Rattle.savi_core.specs.Obeys.{Obeys}
use Rattle.savi_core.proofs.commands.obey.Goals as goal

pub returns-in-Ok-clause-obeyed : goal.returns-in-Ok-clause-obeyed
returns-in-Ok-clause-obeyed c = λ base past states.
    subst (λ (order : Result Command CmdFault). Obeys c.args.ports.now c.args.t order c.obey_order.new.sets c.args.queues.now c.obey_order.new.queues c.obey_order.result base past) (sym c.in-Ok.is ∙ c.command.ensures.value)
    (c.obey_order.ensures.obeyed base past states)

pub returns-in-Err-clause-obeyed : goal.returns-in-Err-clause-obeyed
returns-in-Err-clause-obeyed c = λ base past states.
    subst (λ (order : Result Command CmdFault). Obeys c.args.ports.now c.args.t order c.args.sets.now c.args.queues.now c.args.queues.now (Some c.fault_refusal.result) base past) (sym c.in-Err.is ∙ c.command.ensures.value)
    (record { refusal = ap (λ (refusal : Refusal). Some refusal) c.fault_refusal.ensures; states = states; shut = refl; rest = refl })
