use Rattle.pcapng_io.proofs.Once.{front_input}
use Rattle.pcapng_io.proofs.laws.front_arrives.Goals as goal

pub returns : goal.returns
returns c = front_input
