use Rattle.pcapng_io.proofs.Once.{one_input}
use Rattle.pcapng_io.proofs.laws.octets_arrive_once.Goals as goal

pub returns : goal.returns
returns c = one_input
