use Rattle.stream_io.proofs.Uniqueness.{one_input}
use Rattle.stream_io.proofs.laws.octets_arrive_once.Goals as goal

pub returns : goal.returns
returns c = one_input
