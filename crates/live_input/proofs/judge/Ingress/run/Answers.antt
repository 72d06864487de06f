use Rattle.std.proofs.Common.{ℕ, Bool, ◌∷◌, refl, sym, ap, subst, ◌∙◌}
use Rattle.savi_kinds.specs.declared.entry.Who.TheVariants as passes
use Rattle.savi_kinds.specs.declared.port.Port.{Port}
use Rattle.savi_kinds.specs.Ports.{number_of}
use Rattle.core_keep.specs.Seen.{past_seen}
use Rattle.table_lock.specs.declared.pass.Pass.{Pass}
use Rattle.parcel_ring.specs.Sides.{was_taken}
use Rattle.live_session.specs.Standing.{InputStands}
use Rattle.live_turns.specs.Seats.{IsAt, IsEndedPass, IsRunning, lock_base, lock_plan}
use Rattle.live_turns.proofs.Seating.{new_runs}
use Rattle.live_input.specs.Judged.{InputGoes, StandsAs, kept_of}
use Rattle.live_input.proofs.Judging.{first_goes, goes_as, stands_as}
use Rattle.live_input.proofs.judge.Ingress.run.Goals as goal

pub loop-init : goal.loop-init
loop-init g c =
    let judge = c.args.self in
    let new = c.requires in
    record {
      running = subst (λ (pass : Pass). IsRunning c.args.lock.now (passes.Ingress judge.port) pass) (sym c.new-turns.ensures) (new_runs c.args.lock.now (passes.Ingress judge.port) c.args.pass refl new);
      port = refl;
      rings = refl;
      goes = λ before all same stands.
          first_goes (lock_plan c.args.lock.now) (lock_base c.args.lock.now) (number_of judge.port) before (past_seen c.new-turns.result.pass) (was_taken judge.taker) (kept_of judge.kept)
          (ap past_seen c.new-turns.ensures ∙ new.dealt.nothing) new.dealt.known same new.open_in all stands;
    }

pub step-next-requires-clause-running : goal.step-next-requires-clause-running
step-next-requires-clause-running g c κs within =
    subst (λ (p : Port). IsRunning c.args.lock.now (passes.Ingress p) c.loop.turns.pass) (sym c.loop.invariant.port) c.loop.invariant.running

pub returns-then-has_stopped-clause-ended : goal.returns-then-has_stopped-clause-ended
returns-then-has_stopped-clause-ended g c =
    let next = c.step-next.result in
    subst (λ (t : Port × Pass). IsEndedPass c.args.lock.now (passes.Ingress t.0) t.1) (λ i. (c.loop.invariant.port i, sym c.into_pass.ensures i))
    (subst (λ (b : Bool). IsAt c.args.lock.now (passes.Ingress c.loop.judge.port) b next.0.pass) (sym c.has_stopped.ensures ∙ c.if-has_stopped.true) c.step-next.ensures.state)

pub returns-then-has_stopped-clause-stands : goal.returns-then-has_stopped-clause-stands
returns-then-has_stopped-clause-stands g c = λ before all same stands.
    let judge = c.step-next.new.self in
    let next = c.step-next.result in
    let port = number_of c.args.self.port in
    let goes = subst (λ (p : ℕ). InputGoes p (past_seen c.loop.turns.pass ∷ before) (was_taken c.loop.judge.taker) (kept_of c.loop.judge.kept)) (sym (ap number_of c.loop.invariant.port)) (c.loop.invariant.goes before all same stands) in
    let stood = subst (λ (p : ℕ). StandsAs next.1 p (past_seen next.0.pass ∷ before) (was_taken judge.taker) (kept_of judge.kept)) (ap number_of c.loop.invariant.port) (c.step-next.ensures.goes before goes) in
    subst (λ (pass : Pass). InputStands port (past_seen pass ∷ before) (was_taken judge.taker) (kept_of judge.kept)) (sym c.into_pass.ensures)
    (stands_as port (past_seen next.0.pass ∷ before) (was_taken judge.taker) (kept_of judge.kept) next.1 stood)

pub loop-preserved : goal.loop-preserved
loop-preserved g c =
    let judge = c.step-next.new.self in
    let next = c.step-next.result in
    let port = number_of c.args.self.port in
    record {
      running = subst (λ (p : Port). IsRunning c.args.lock.now (passes.Ingress p) next.0.pass) c.loop.invariant.port
          (subst (λ (b : Bool). IsAt c.args.lock.now (passes.Ingress c.loop.judge.port) b next.0.pass) (sym c.has_stopped.ensures ∙ c.if-has_stopped.false) c.step-next.ensures.state);
      port = c.step-next.ensures.port ∙ c.loop.invariant.port;
      rings = c.step-next.ensures.rings ∙ c.loop.invariant.rings;
      goes = λ before all same stands.
          let goes = subst (λ (p : ℕ). InputGoes p (past_seen c.loop.turns.pass ∷ before) (was_taken c.loop.judge.taker) (kept_of c.loop.judge.kept)) (sym (ap number_of c.loop.invariant.port)) (c.loop.invariant.goes before all same stands) in
          goes_as port (past_seen next.0.pass ∷ before) (was_taken judge.taker) (kept_of judge.kept) next.1 (sym c.has_stopped.ensures ∙ c.if-has_stopped.false)
          (subst (λ (p : ℕ). StandsAs next.1 p (past_seen next.0.pass ∷ before) (was_taken judge.taker) (kept_of judge.kept)) (ap number_of c.loop.invariant.port) (c.step-next.ensures.goes before goes));
    }
