use Rattle.pcapng_io.proofs.WholeRuns.{calls_give_input}
use Rattle.pcapng_io.proofs.laws.calls_give_input.Goals as goal

pub returns : goal.returns
returns c = calls_give_input
