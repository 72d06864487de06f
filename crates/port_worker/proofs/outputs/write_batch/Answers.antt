use Rattle.std.proofs.Common.{◌∙◌, arith, refl}
use Rattle.port_worker.proofs.Pieces.{wrote_more, wrote_front}
use Rattle.port_worker.proofs.outputs.write_batch.Goals as goal

pub returns-in-Failed-clause-took : goal.returns-in-Failed-clause-took
returns-in-Failed-clause-took g c = wrote_front _ _ _ c.args.batch.now c.loop-i.i c.item-moment.result.0 c.item-moment.result.1.now (omega arith) c.item-moment.ensures.item c.loop-i.invariant.took c.in-Failed.ensures.extends

pub loop-i-preserved : goal.loop-i-preserved
loop-i-preserved g c = record {
  still = c.in-Done.ensures.still refl ∙ c.loop-i.invariant.still;
  took = wrote_more _ _ _ c.args.batch.now c.loop-i.i c.item-moment.result.0 c.item-moment.result.1.now (omega arith) c.item-moment.ensures.item c.loop-i.invariant.took c.in-Done.ensures.extends;
  none = λ same. absurd (omega (arith, same));
}
