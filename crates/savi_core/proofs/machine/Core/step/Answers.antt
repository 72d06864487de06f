use Rattle.std.proofs.Common.{sym, subst}
use Rattle.savi_core.specs.declared.event.Event.{Event}
use Rattle.savi_core.specs.Steps.{Did, event_of}
use Rattle.savi_core.proofs.machine.Core.step.Goals as goal

pub returns-in-Frame : goal.returns-in-Frame
returns-in-Frame c = subst (λ (ev : Event). Did c.args.self.now (event_of ev) c.frame.new.self c.frame.result) (sym c.in-Frame.is) c.frame.ensures
