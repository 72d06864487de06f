use Rattle.std.proofs.Common.{◌∙◌, ℕ, List, refl, ap}
use Rattle.std.proofs.lemmas.List.{take_all}
use Rattle.savi_ends.specs.Octets.{behind}
use Rattle.savi_history.specs.EndLines.{told_lines}
use Rattle.switch_report.proofs.ToldLines.{told_next, told_part}
use Rattle.switch_report.proofs.told_ends.tell_each.Goals as goal

pub loop-told-preserved : goal.loop-told-preserved
loop-told-preserved g c = record {
  still = c.in-Done.ensures.still refl ∙ c.loop-told.invariant.still;
  wrote = told_next c.args.ends.now c.loop-told.told-index c.told-item.result (g.K.Sink.written c.args.sink.now) (g.K.Sink.written c.loop-told.sink) (g.K.Sink.written c.tell_end.new.sink)
      c.loop-told-test.true c.told-item.is c.loop-told.invariant.wrote c.in-Done.ensures.extends;
}

pub returns-in-Failed-clause-extends : goal.returns-in-Failed-clause-extends
returns-in-Failed-clause-extends g c =
    told_part c.args.ends.now c.loop-told.told-index c.told-item.result (g.K.Sink.written c.args.sink.now) (g.K.Sink.written c.loop-told.sink) (g.K.Sink.written c.tell_end.new.sink)
    c.loop-told-test.true c.told-item.is c.loop-told.invariant.wrote c.in-Failed.ensures.extends

pub returns-clause-extends : goal.returns-clause-extends
returns-clause-extends g c =
    c.loop-told.invariant.wrote
    ∙ ap (λ (l : List ℕ). behind (g.K.Sink.written c.args.sink.now) l) (ap told_lines (take_all c.loop-told.told-index c.args.ends.now c.loop-told-test.false))
