use Rattle.stream_io.proofs.Uniqueness.{front_input}
use Rattle.stream_io.proofs.laws.front_arrives.Goals as goal

pub returns : goal.returns
returns c = front_input
