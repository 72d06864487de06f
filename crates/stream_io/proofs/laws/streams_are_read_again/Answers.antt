use Rattle.stream_io.proofs.Written.{written_arrives}
use Rattle.stream_io.proofs.laws.streams_are_read_again.Goals as goal

pub returns : goal.returns
returns c = written_arrives
