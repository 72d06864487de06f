use Rattle.std.proofs.Common.{Bool, ◌++◌, false, sym, subst}
use Rattle.journal_write.specs.Written.{WasGiven}
use Rattle.journal_write.proofs.Fronts.{part-more}
use Rattle.journal_write.proofs.Giving.{given_up, given_more, given_part}
use Rattle.journal_write.proofs.journal.Journal.put.Goals as goal

pub returns-then-self-clause-text : goal.returns-then-self-clause-text
returns-then-self-clause-text g c = λ first text was.
    let written = g.K.Sink.written in
    let faults = g.K.Sink.faults in
    let old = c.args.self.now in
    subst (λ (f : Bool). WasGiven written faults first old.sink old.buffer.octets f (text ++ c.args.piece.now)) (sym c.if-self.true)
    (given_up written faults first old.sink old.buffer.octets text c.args.piece.now (subst (λ (f : Bool). WasGiven written faults first old.sink old.buffer.octets f text) c.if-self.true was))

pub returns-in-Done-clause-text : goal.returns-in-Done-clause-text
returns-in-Done-clause-text g c = λ first text was.
    let written = g.K.Sink.written in
    let faults = g.K.Sink.faults in
    let old = c.args.self.now in
    let open_was : WasGiven written faults first old.sink old.buffer.octets false text = subst (λ (f : Bool). WasGiven written faults first old.sink old.buffer.octets f text) c.if-self.false was in
    subst (λ (f : Bool). WasGiven written faults first c.put.new.sink c.put.new.self.octets f (text ++ c.args.piece.now)) (sym c.if-self.false)
    (given_more written faults first old.sink c.put.new.sink old.buffer.octets c.put.new.self.octets text c.args.piece.now open_was (c.put.ensures.done c.in-Done.is) (c.put.ensures.still c.in-Done.is))

pub returns-in-Failed-clause-text : goal.returns-in-Failed-clause-text
returns-in-Failed-clause-text g c = λ first text was.
    let written = g.K.Sink.written in
    let faults = g.K.Sink.faults in
    let old = c.args.self.now in
    let open_was : WasGiven written faults first old.sink old.buffer.octets false text = subst (λ (f : Bool). WasGiven written faults first old.sink old.buffer.octets f text) c.if-self.false was in
    let part = given_part written faults first old.sink c.put.new.sink old.buffer.octets c.put.new.self.octets text open_was (c.put.ensures.part c.in-Failed.is) (c.put.ensures.cause c.in-Failed.is) in
    (part-more (written first) (written c.put.new.sink) text c.args.piece.now part.0, part.1)
