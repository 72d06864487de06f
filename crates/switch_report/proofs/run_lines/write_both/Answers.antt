use Rattle.std.proofs.Common.{ℕ, List, ◌++◌, subst}
use Rattle.savi_ends.specs.declared.sink.Put.TheVariants as put
use Rattle.savi_ends.specs.Writes.{Extends}
use Rattle.switch_report.proofs.Fronts.{part-more}
use Rattle.switch_report.proofs.run_lines.write_both.Goals as goal

pub returns-in-Failed-clause-extends : goal.returns-in-Failed-clause-extends
returns-in-Failed-clause-extends g c =
    subst (λ (l : List ℕ). Extends put.Failed (g.K.Sink.written c.args.sink.now) (g.K.Sink.written c.write.new.self) (l ++ c.args.second.now)) c.as_bytes.ensures.value
    (part-more (g.K.Sink.written c.args.sink.now) (g.K.Sink.written c.write.new.self) c.as_bytes.result.now c.args.second.now c.in-Failed.ensures.extends)
