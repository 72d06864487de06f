use Rattle.pcapng_io.proofs.Existence.{some_input}
use Rattle.pcapng_io.proofs.laws.octets_arrive.Goals as goal

pub returns : goal.returns
returns c = some_input
