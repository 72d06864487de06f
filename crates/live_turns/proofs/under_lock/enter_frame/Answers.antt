use Rattle.std.proofs.Common.{◌∙◌, ◌∷◌, ap}
use Rattle.savi_history.specs.Events.{row_of}
use Rattle.savi_core.specs.Machines.{Machine, base_of}
use Rattle.savi_core.specs.Steps.{event_of}
use Rattle.live_turns.proofs.Growing.{input_grown}
use Rattle.live_turns.proofs.under_lock.enter_frame.Goals as goal

pub returns-in-Done-clause-grown : goal.returns-in-Done-clause-grown
returns-in-Done-clause-grown c =
    let event = event_of c.args.event in
    let found = c.args.kept.now.core.value in
    let did = c.in-Done.ensures in
    input_grown found.plan (base_of found) found.past event c.in-Done.entry c.step.new.self.past c.queued_to.result c.requires.frame
    (ap (λ (m : Machine). m.past) did.2 ∙ ap (λ (m : Machine). row_of m.plan (base_of m) m.past event ∷ m.past) c.deref_mut.ensures.value)
    (did.3 ∙ ap (λ (m : Machine). (row_of m.plan (base_of m) m.past event).entry) c.deref_mut.ensures.value)
    c.queued_to.ensures
