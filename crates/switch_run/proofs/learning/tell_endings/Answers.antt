use Rattle.std.proofs.Common.{◌≡◌, ◌+◌, ◌∷◌, ◌++◌, [], take, refl, sym, ap, ◌∙◌}
use Rattle.std.proofs.lemmas.List.{take_all, take_more}
use Rattle.learn_run.specs.declared.learning.Ending.{Ending}
use Rattle.switch_run.specs.Learnings.{ending_lines}
use Rattle.switch_run.proofs.LearnThrough.{told_more, told_all, told_failed}
use Rattle.switch_run.proofs.learning.tell_endings.Goals as goal

pub loop-ending-preserved : goal.loop-ending-preserved
loop-ending-preserved g c =
    let next : take (c.loop-ending.ending-index + 1) c.args.endings.now ≡ take c.loop-ending.ending-index c.args.endings.now ++ c.ending-item.result ∷ [] =
    take_more c.args.endings.now c.loop-ending.ending-index c.ending-item.result c.loop-ending-test.true ∙ ap (λ (e : Ending). take c.loop-ending.ending-index c.args.endings.now ++ e ∷ []) (sym c.ending-item.is) in
    told_more g.K.Sink.written c.args.errors.now c.loop-ending.errors c.tell_end.new.sink (take c.loop-ending.ending-index c.args.endings.now) (take (c.loop-ending.ending-index + 1) c.args.endings.now) c.ending-item.result next c.loop-ending.invariant c.in-Done.ensures.extends

pub returns-in-Failed : goal.returns-in-Failed
returns-in-Failed g c = told_failed g.K.Sink.faults g.K.Sink.written c.args.errors.now c.loop-ending.errors c.tell_end.new.sink (ending_lines c.args.endings.now) (c.in-Failed.ensures.cause refl)

pub returns : goal.returns
returns g c = told_all g.K.Sink.faults g.K.Sink.written c.args.errors.now c.loop-ending.errors (take c.loop-ending.ending-index c.args.endings.now) c.args.endings.now (take_all c.loop-ending.ending-index c.args.endings.now c.loop-ending-test.false) c.loop-ending.invariant
