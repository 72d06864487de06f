use Rattle.std.proofs.Common.{◌∷◌, None, Some, refl, sym, ap, subst, ◌∙◌}
use Rattle.savi_kinds.specs.declared.entry.Who.TheVariants.{Control}
use Rattle.savi_kinds.specs.declared.entry.How.TheVariants as hows
use Rattle.table_lock.specs.declared.pass.Pass.{Pass}
use Rattle.core_keep.specs.Seen.{past_seen}
use Rattle.live_turns.specs.Seats.{IsRunning, lock_base, lock_plan}
use Rattle.live_turns.proofs.Seating.{new_runs}
use Rattle.live_control.specs.Sides.{WorkerStands}
use Rattle.live_control.proofs.Serving.{no_control}
use Rattle.live_control.proofs.Stepping.{first_side}
use Rattle.live_control.proofs.Told.{ends_here, ends_through}
use Rattle.live_control.proofs.Working.{by_none, by_side, first_none}
use Rattle.live_control.proofs.worker.ControlWorker.run.Goals as goal

pub end_turn-turns-requires-clause-running : goal.end_turn-turns-requires-clause-running
end_turn-turns-requires-clause-running g c κs within =
    subst (λ (pass : Pass). IsRunning c.args.lock.now Control pass) (sym c.new-turns.ensures) (new_runs c.args.lock.now Control c.args.pass refl c.requires)

pub serve-turns-requires : goal.serve-turns-requires
serve-turns-requires g c = (
  c.type_bounds.sync-G,
  subst (λ (pass : Pass). IsRunning c.args.lock.now Control pass) (sym c.new-turns.ensures) (new_runs c.args.lock.now Control c.args.pass refl c.requires),
)

pub returns-in-None-clause-stands : goal.returns-in-None-clause-stands
returns-in-None-clause-stands g c = λ before first all same stands.
    let plan = lock_plan c.args.lock.now in
    let base = lock_base c.args.lock.now in
    let past = past_seen c.new-turns.result.pass in
    let after = past_seen c.end_turn-turns.result.pass in
    let turned = c.end_turn-turns.ensures.turned in
    let ended = ends_through plan base past turned.found after turned.legal turned.later hows.End (ends_here plan base turned.found after hows.End refl turned.did) in
    let none = ap past_seen c.new-turns.ensures ∙ c.requires.dealt.nothing in
    subst (λ (pass : Pass). WorkerStands g.K.Sink.written g.K.Sink.faults plan (past_seen pass ∷ before) first None) (sym c.into_pass.ensures)
    (by_none g.K.Sink.written g.K.Sink.faults plan before (after ∷ before) first c.args.self.ends c.in-None.is (λ nobody. no_control g.K.Sink.written g.K.Sink.faults plan base past after before same ended (first_none before past none nobody)) stands)

pub returns-in-Some-clause-stands : goal.returns-in-Some-clause-stands
returns-in-Some-clause-stands g c = λ before first all same stands.
    let plan = lock_plan c.args.lock.now in
    let base = lock_base c.args.lock.now in
    let past = past_seen c.new-turns.result.pass in
    let after = past_seen c.serve-turns.result.pass in
    let none = ap past_seen c.new-turns.ensures ∙ c.requires.dealt.nothing in
    subst (λ (pass : Pass). WorkerStands g.K.Sink.written g.K.Sink.faults plan (past_seen pass ∷ before) first (Some c.pass_over.new.self)) (sym c.into_pass-in-Some.ensures)
    (by_side g.K.Sink.written g.K.Sink.faults plan before (after ∷ before) first c.args.self.ends c.in-Some.side c.pass_over.new.self c.in-Some.is
    (λ f side. c.pass_over.ensures.stands plan (after ∷ before) f (c.serve-turns.ensures.stands before f same (first_side g.K.Sink.written g.K.Sink.faults plan f base before past c.in-Some.side none same c.requires.open_in all side))) stands)
