use Rattle.savi_segments.proofs.Failures.{failed_write_at_output, failed_write_told, unwritten_told}
use Rattle.savi_segments.proofs.replay_laws.failed_writes_are_of_outputs.Goals as goal

pub returns-clause-found : goal.returns-clause-found
returns-clause-found c plan segments legal failed = failed_write_at_output plan segments legal failed

pub returns-clause-told : goal.returns-clause-told
returns-clause-told c = failed_write_told

pub returns-clause-unwritten : goal.returns-clause-unwritten
returns-clause-unwritten c = unwritten_told
