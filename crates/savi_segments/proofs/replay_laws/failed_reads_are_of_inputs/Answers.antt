use Rattle.savi_segments.proofs.Failures.{failed_at_input}
use Rattle.savi_segments.proofs.replay_laws.failed_reads_are_of_inputs.Goals as goal

pub returns : goal.returns
returns c plan segments legal failed = failed_at_input plan segments legal failed
