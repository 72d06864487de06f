use Rattle.stream_io.proofs.BeforeFault.{calls_before_fault}
use Rattle.stream_io.proofs.laws.calls_before_fault.Goals as goal

pub returns : goal.returns
returns c = calls_before_fault
