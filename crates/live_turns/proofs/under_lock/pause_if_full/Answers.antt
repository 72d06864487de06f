use Rattle.std.proofs.Common.{not, ap, refl, ◌∙◌}
use Rattle.savi_history.specs.Limits.{has_room}
use Rattle.savi_core.specs.Machines.{Machine, base_of}
use Rattle.live_turns.proofs.Closing.{input_may, no_room, some_room}
use Rattle.live_turns.proofs.under_lock.pause_if_full.Goals as goal

pub returns-then-not-full-clause-did : goal.returns-then-not-full-clause-did
returns-then-not-full-clause-did c =
    let found : Machine = c.args.kept.now.core.value in (
      some_room (has_room found.plan found.past) c.full.result (c.full.ensures ∙ ap (λ (m : Machine). not (has_room m.plan m.past)) c.deref-2.ensures) c.if-not-full.true,
      refl,
    )

pub end_pass-requires-clause-may : goal.end_pass-requires-clause-may
end_pass-requires-clause-may c =
    let found : Machine = c.args.kept.now.core.value in
    input_may found.plan (base_of found) found.past c.args.who c.requires.input
    (no_room (has_room found.plan found.past) c.full.result (c.full.ensures ∙ ap (λ (m : Machine). not (has_room m.plan m.past)) c.deref-2.ensures) c.if-not-full.false)

pub returns-clause-did : goal.returns-clause-did
returns-clause-did c =
    let found : Machine = c.args.kept.now.core.value in (
      no_room (has_room found.plan found.past) c.full.result (c.full.ensures ∙ ap (λ (m : Machine). not (has_room m.plan m.past)) c.deref-2.ensures) c.if-not-full.false,
      c.end_pass.ensures.did,
    )
