use Rattle.std.proofs.Common.{ℕ, Option, IfSome, vec_capacity, sym, ap, ◌∙◌, subst}
use Rattle.savi_kinds.specs.declared.port.Port.{Port}
use Rattle.savi_kinds.specs.Arrivals.{Frame, Long}
use Rattle.savi_history.specs.Turns.{Turn, Arrives}
use Rattle.learn_run.specs.declared.learning.Learning.{Learning}
use Rattle.learn_run.specs.TakenTurns.{IsTurnTaken}
use Rattle.learn_run.proofs.TurnTaken.{arrival_taken, long_taken, end_taken}
use Rattle.learn_run.proofs.learning.Learning.take_turn.Goals as goal
use Rattle.learn_run.proofs.learning.Learning.take_turn.Goals.{in-Frame, in-Long, in-Ends}

pub returns-clause-taken : goal.returns-clause-taken
returns-clause-taken g c =
    let port : Port = c.args.one.now.port in
    let old : Learning = c.args.self.now in
    let new : Learning = c.match-turn.self in
    let out = c.args.out.now in
    let out' = c.match-turn.out in
    let Taken : Turn → Type 0 = λ turn. IsTurnTaken g.O.Sink.written g.O.Sink.faults turn old new out out' in
    let P : Option Turn → Type 0 = λ t. IfSome t Taken in
    elim c.match-turn.branch [
      | in-Frame w ↦
          subst P (sym w.in-Frame.ensures.turn)
          (arrival_taken g.O.Sink.written g.O.Sink.faults old new port (Frame w.in-Frame.stamp w.in-Frame.octets.now) w.frame.new.self out out' w.frame.new.sink
          (ap (λ (l : Learning). l.endings.items) w.self-is) (ap (λ (l : Learning). vec_capacity l.endings) w.self-is)
          (ap (λ (l : Learning). l.report) w.self-is) w.out-is w.frame.ensures.tells w.frame.ensures.wrote)
      | in-Long w ↦
          subst P (sym w.in-Long.ensures.turn)
          (subst (λ (n : ℕ). Taken (Arrives port (Long w.in-Long.stamp n))) w.from.ensures
          (long_taken g.O.Sink.written g.O.Sink.faults old new port w.in-Long.stamp w.from.result w.long.new.self out out'
          (ap (λ (l : Learning). l.endings.items) w.self-is) (ap (λ (l : Learning). vec_capacity l.endings) w.self-is)
          (ap (λ (l : Learning). l.report) w.self-is) w.out-is w.long.ensures.tells w.long.ensures.put))
      | in-Ends w ↦
          subst P (sym w.in-Ends.ensures.turn)
          (end_taken g.O.Sink.written g.O.Sink.faults old new port w.in-Ends.how out out'
          (ap (λ (l : Learning). l.endings.items) w.self-is ∙ w.push_reserved.ensures.items)
          (ap (λ (l : Learning). vec_capacity l.endings) w.self-is ∙ w.push_reserved.ensures.capacity)
          (ap (λ (l : Learning). l.report) w.self-is) w.out-is)
    ]
