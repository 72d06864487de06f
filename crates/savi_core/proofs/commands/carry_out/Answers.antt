use Rattle.std.proofs.Common.{true, false, Ok, subst, sym, ap, ◌∙◌}
use Rattle.std.proofs.Math.Path.{fun_ext}
use Rattle.cli_lang.specs.declared.kinds.Command.{Command}
use Rattle.savi_access.specs.Plans.{rules_of}
use Rattle.savi_history.specs.Commands.{refusal_of, ordered}
use Rattle.savi_history.specs.ShutPorts.{shut_by}
use Rattle.savi_core.specs.Rings.{shut_in}
use Rattle.savi_core.specs.VlanSets.{AllRepresent, rows_by_vlan}
use Rattle.savi_core.proofs.Shutting.{heard}
use Rattle.savi_core.proofs.commands.carry_out.Goals as goal

pub fix-requires-clause-granted : goal.fix-requires-clause-granted
fix-requires-clause-granted c = sym (ap (λ (order : Command). refusal_of c.args.ports.now (rows_by_vlan c.args.sets.now) (Ok order)) c.in-Static.is) ∙ c.requires.granted

pub clear-requires-clause-granted : goal.clear-requires-clause-granted
clear-requires-clause-granted c = sym (ap (λ (order : Command). refusal_of c.args.ports.now (rows_by_vlan c.args.sets.now) (Ok order)) c.in-Clear.is) ∙ c.requires.granted

pub returns-in-Static-clause-told : goal.returns-in-Static-clause-told
returns-in-Static-clause-told c = λ base past states.
    subst (λ (order : Command). AllRepresent (rules_of c.args.ports.now) base (ordered c.args.ports.now base c.args.t (Ok order) past) c.args.t c.fix.new.sets) (sym c.in-Static.is) (c.fix.ensures.told base past states)

pub returns-in-Clear-clause-told : goal.returns-in-Clear-clause-told
returns-in-Clear-clause-told c = λ base past states.
    subst (λ (order : Command). AllRepresent (rules_of c.args.ports.now) base (ordered c.args.ports.now base c.args.t (Ok order) past) c.args.t c.clear.new.sets) (sym c.in-Clear.is) (c.clear.ensures.told base past states)

pub returns-in-Shut-clause-shut : goal.returns-in-Shut-clause-shut
returns-in-Shut-clause-shut c =
    c.set_shut.ensures.shut
    ∙ heard c.args.ports.now c.in-Shut.port true (shut_in c.args.queues.now.shut) (sym (ap (λ (order : Command). refusal_of c.args.ports.now (rows_by_vlan c.args.sets.now) (Ok order)) c.in-Shut.is) ∙ c.requires.granted)
    ∙ fun_ext (λ number. ap (λ (order : Command). shut_by c.args.ports.now number (Ok order) (shut_in c.args.queues.now.shut number)) (sym c.in-Shut.is))

pub returns-in-Reopen-clause-shut : goal.returns-in-Reopen-clause-shut
returns-in-Reopen-clause-shut c =
    c.set_shut-in-Reopen.ensures.shut
    ∙ heard c.args.ports.now c.in-Reopen.port false (shut_in c.args.queues.now.shut) (sym (ap (λ (order : Command). refusal_of c.args.ports.now (rows_by_vlan c.args.sets.now) (Ok order)) c.in-Reopen.is) ∙ c.requires.granted)
    ∙ fun_ext (λ number. ap (λ (order : Command). shut_by c.args.ports.now number (Ok order) (shut_in c.args.queues.now.shut number)) (sym c.in-Reopen.is))
