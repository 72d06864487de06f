use Rattle.savi_segments.proofs.SummingUp.{segments_summed}
use Rattle.savi_segments.proofs.laws.counts_sum_segments_up.Goals as goal

pub returns : goal.returns
returns c plan segment before valid legal = segments_summed plan segment before legal
