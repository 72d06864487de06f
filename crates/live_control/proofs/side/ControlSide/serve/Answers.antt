use Rattle.std.proofs.Common.{Bool, ◌∷◌, refl, sym, subst, ◌∙◌}
use Rattle.savi_kinds.specs.declared.entry.Who.TheVariants.{Control}
use Rattle.core_keep.specs.Seen.{past_seen}
use Rattle.live_turns.specs.Seats.{IsAt, lock_plan}
use Rattle.live_control.proofs.Stepping.{goes_as, stands_as}
use Rattle.live_control.proofs.side.ControlSide.serve.Goals as goal

pub loop-init : goal.loop-init
loop-init g c = record { running = c.requires; ring = refl; goes = λ before first same goes. goes }

pub returns-then-has_stopped-clause-stands : goal.returns-then-has_stopped-clause-stands
returns-then-has_stopped-clause-stands g c = λ before first same goes.
    let next = c.step-next.result in
    stands_as g.K.Sink.written g.K.Sink.faults (lock_plan c.args.lock.now) first (past_seen next.0.pass ∷ before) next.1 c.step-next.new.self
    (c.step-next.ensures.goes before first same (c.loop.invariant.goes before first same goes))

pub loop-preserved : goal.loop-preserved
loop-preserved g c =
    let next = c.step-next.result in
    let on = sym c.has_stopped.ensures ∙ c.if-has_stopped.false in
    record {
      running = subst (λ (b : Bool). IsAt c.args.lock.now Control b next.0.pass) on c.step-next.ensures.state;
      ring = c.step-next.ensures.ring ∙ c.loop.invariant.ring;
      goes = λ before first same goes.
          goes_as g.K.Sink.written g.K.Sink.faults (lock_plan c.args.lock.now) first (past_seen next.0.pass ∷ before) next.1 c.step-next.new.self on
          (c.step-next.ensures.goes before first same (c.loop.invariant.goes before first same goes));
    }
