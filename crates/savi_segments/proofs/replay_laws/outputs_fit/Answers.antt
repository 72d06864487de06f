use Rattle.savi_segments.proofs.FittingOutputs.{output_fits}
use Rattle.savi_segments.proofs.replay_laws.outputs_fit.Goals as goal

pub returns : goal.returns
returns c plan lines inputs stops before after k valid size control are inside took = output_fits plan lines inputs stops before after k control are inside took
