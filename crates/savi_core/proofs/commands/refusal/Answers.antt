use Rattle.std.proofs.Common.{◌∙◌, sym, ap, Ok}
use Rattle.cli_lang.specs.declared.kinds.Command.{Command}
use Rattle.savi_history.specs.Commands.{refusal_of}
use Rattle.savi_core.specs.VlanSets.{rows_by_vlan}
use Rattle.savi_core.proofs.commands.refusal.Goals as goal

pub returns-in-Static : goal.returns-in-Static
returns-in-Static c = c.static_refusal.ensures ∙ ap (λ (order : Command). refusal_of c.args.ports.now (rows_by_vlan c.args.sets.now) (Ok order)) (sym c.in-Static.is)

pub returns-in-Clear : goal.returns-in-Clear
returns-in-Clear c = c.clear_refusal.ensures ∙ ap (λ (order : Command). refusal_of c.args.ports.now (rows_by_vlan c.args.sets.now) (Ok order)) (sym c.in-Clear.is)
