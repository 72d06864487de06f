use Rattle.std.proofs.Common.{ℕ, Bool, List, false, sym, subst}
use Rattle.journal_write.specs.Written.{WasGiven}
use Rattle.journal_write.proofs.Giving.{given_part, given_whole}
use Rattle.journal_write.proofs.journal.Journal.settle.Goals as goal

pub returns-in-Done-clause-text : goal.returns-in-Done-clause-text
returns-in-Done-clause-text g c = λ first text was.
    let written = g.K.Sink.written in
    let faults = g.K.Sink.faults in
    let old = c.args.self.now in
    let open_was : WasGiven written faults first old.sink old.buffer.octets false text = subst (λ (f : Bool). WasGiven written faults first old.sink old.buffer.octets f text) c.if-self.false was in
    subst (λ (f : Bool). WasGiven written faults first c.flush.new.sink c.flush.new.self.octets f text) (sym c.if-self.false)
    (subst (λ (w : List ℕ). WasGiven written faults first c.flush.new.sink w false text) (sym c.flush.ensures.emptied)
    (given_whole written faults first old.sink c.flush.new.sink old.buffer.octets text open_was c.in-Done.ensures.extends (c.flush.ensures.still c.in-Done.is)))

pub returns-in-Failed-clause-text : goal.returns-in-Failed-clause-text
returns-in-Failed-clause-text g c = λ first text was.
    let written = g.K.Sink.written in
    let faults = g.K.Sink.faults in
    let old = c.args.self.now in
    let open_was : WasGiven written faults first old.sink old.buffer.octets false text = subst (λ (f : Bool). WasGiven written faults first old.sink old.buffer.octets f text) c.if-self.false was in
    given_part written faults first old.sink c.flush.new.sink old.buffer.octets c.flush.new.self.octets text open_was c.in-Failed.ensures.extends (c.flush.ensures.cause c.in-Failed.is)
