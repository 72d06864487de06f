use Rattle.savi_laws.proofs.Given.{segments_given}
use Rattle.savi_laws.proofs.OneSegment.{one_segment}
use Rattle.savi_laws.proofs.laws.a_budget_suffices_for_one_segment.Goals as goal

pub returns : goal.returns
returns c = record {
  given = λ plan segments legal. segments_given plan segments legal;
  one = λ plan segments valid whole suffices. one_segment plan valid segments whole suffices;
}
