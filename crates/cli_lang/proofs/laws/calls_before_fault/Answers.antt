use Rattle.cli_lang.proofs.BeforeFault.{calls_before_fault}
use Rattle.cli_lang.proofs.laws.calls_before_fault.Goals as goal

pub returns : goal.returns
returns c = calls_before_fault
