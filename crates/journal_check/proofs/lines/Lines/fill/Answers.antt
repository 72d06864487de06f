use Rattle.std.proofs.Common.{[], refl, sym, ◌∙◌, subst, arith}
use Rattle.savi_ends.specs.Octets.{NothingLeft}
use Rattle.journal_check.proofs.FeedPlaces.{in_front_none, some_held}
use Rattle.journal_check.proofs.Filling.{left_to_come}
use Rattle.journal_check.proofs.Given.{gave_none}
use Rattle.journal_check.proofs.lines.Lines.fill.Goals as goal

pub returns-in-Bytes-clause-same : goal.returns-in-Bytes-clause-same
returns-in-Bytes-clause-same g c =
    let m = c.args.self.now in
    sym c.in-Bytes.ensures.bytes ∙ sym (left_to_come m.piece m.at m.end (g.S.Source.left c.args.source.now) c.if-self.false)

pub returns-then-self-clause-some : goal.returns-then-self-clause-some
returns-then-self-clause-some g c = λ more. let m = c.args.self.now in some_held m.piece m.at m.end c.if-self.true (omega arith)

pub returns-in-Bytes-clause-some : goal.returns-in-Bytes-clause-some
returns-in-Bytes-clause-some g c = λ more. let count = c.in-Bytes.ensures.count in some_held c.read.new.buf 0 c.in-Bytes.n (omega (arith, count)) (omega (arith, count))

pub returns-in-End-clause-same : goal.returns-in-End-clause-same
returns-in-End-clause-same g c =
    let m = c.args.self.now in
    let left = g.S.Source.left c.read.new.self in
    left_to_come c.read.new.buf m.at m.end left c.if-self.false ∙ sym (in_front_none left) ∙ sym c.in-End.ensures.bytes
    ∙ sym (left_to_come m.piece m.at m.end (g.S.Source.left c.args.source.now) c.if-self.false)

pub returns-in-End-clause-nothing : goal.returns-in-End-clause-nothing
returns-in-End-clause-nothing g c = λ is.
    let m = c.args.self.now in
    subst NothingLeft (sym (left_to_come m.piece m.at m.end (g.S.Source.left c.args.source.now) c.if-self.false)) (c.in-End.ensures.end refl)

pub returns-in-Failed-clause-same : goal.returns-in-Failed-clause-same
returns-in-Failed-clause-same g c =
    let m = c.args.self.now in
    let left = g.S.Source.left c.read.new.self in
    left_to_come c.read.new.buf m.at m.end left c.if-self.false ∙ sym (in_front_none left) ∙ sym c.in-Failed.ensures.bytes
    ∙ sym (left_to_come m.piece m.at m.end (g.S.Source.left c.args.source.now) c.if-self.false)

pub returns-then-self-clause-gave : goal.returns-then-self-clause-gave
returns-then-self-clause-gave g c = gave_none (g.S.Source.left c.args.source.now)

pub returns-in-Bytes-clause-gave : goal.returns-in-Bytes-clause-gave
returns-in-Bytes-clause-gave g c = (_, c.in-Bytes.ensures.bytes)

pub returns-in-End-clause-gave : goal.returns-in-End-clause-gave
returns-in-End-clause-gave g c = ([], c.in-End.ensures.bytes)

pub returns-in-Failed-clause-gave : goal.returns-in-Failed-clause-gave
returns-in-Failed-clause-gave g c = ([], c.in-Failed.ensures.bytes)
