use Rattle.std.proofs.Common.{subst}
use Rattle.savi_ends.specs.declared.sink.Put.{Put}
use Rattle.ra_learn.specs.Reports.{Wrote}
use Rattle.ra_learn.proofs.Writing.{wrote_on, wrote_no_more}
use Rattle.ra_learn.proofs.report.write_unless_failed.Goals as goal

pub returns-in-Done : goal.returns-in-Done
returns-in-Done g c = λ text before faults wrote.
    let P : Put → Type 0 = λ put. Wrote text put before (g.K.Sink.written c.args.sink.now) faults (g.K.Sink.faults c.args.sink.now) in
    wrote_on c.write.result before (g.K.Sink.written c.args.sink.now) (g.K.Sink.written c.write.new.self) faults (g.K.Sink.faults c.args.sink.now) (g.K.Sink.faults c.write.new.self) text c.args.piece.now (subst P c.in-Done.is wrote) c.write.ensures.extends c.write.ensures.later c.write.ensures.cause c.write.ensures.still

pub returns-in-Failed : goal.returns-in-Failed
returns-in-Failed g c = λ text before faults wrote.
    let P : Put → Type 0 = λ put. Wrote text put before (g.K.Sink.written c.args.sink.now) faults (g.K.Sink.faults c.args.sink.now) in
    wrote_no_more before (g.K.Sink.written c.args.sink.now) faults (g.K.Sink.faults c.args.sink.now) text c.args.piece.now (subst P c.in-Failed.is wrote)
