use Rattle.std.proofs.Common.{◌≡◌, set, refl, subst, IfSome}
use Rattle.std.proofs.lemmas.List.{get_or_default}
use Rattle.port_worker.specs.declared.port_ends.PortEnds.{PortEnds}
use Rattle.port_worker.specs.Inputs.{turn_of}
use Rattle.learn_run.specs.TakenTurns.{IsTurnTaken, passed}
use Rattle.learn_run.proofs.learning.Learning.advance.Goals as goal

pub returns-clause-taken : goal.returns-clause-taken
returns-clause-taken g c = λ d.
    let P = PortEnds g.row.S.Denot g.row.K.Denot g.row.C.Denot in
    subst (λ (p : P). IfSome (turn_of p) (λ turn. IsTurnTaken g.O.Sink.written g.O.Sink.faults turn c.args.self.now c.take_turn.new.self c.args.out.now c.take_turn.new.out))
    (get_or_default c.args.ports.now c.args.place c.index-ports-place.result d c.requires.inside) c.take_turn.ensures.taken

pub returns-clause-passed : goal.returns-clause-passed
returns-clause-passed g c = λ d.
    let P = PortEnds g.row.S.Denot g.row.K.Denot g.row.C.Denot in
    subst (λ (p : P). set c.args.ports.now c.args.place c.take_turn.new.one ≡ set c.args.ports.now c.args.place (passed p)) (get_or_default c.args.ports.now c.args.place c.index-ports-place.result d c.requires.inside)
    (rw c.take_turn.ensures.passed refl)
