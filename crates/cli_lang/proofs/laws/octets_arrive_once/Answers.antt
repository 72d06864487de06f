use Rattle.cli_lang.proofs.Uniqueness.{one_input}
use Rattle.cli_lang.proofs.laws.octets_arrive_once.Goals as goal

pub returns : goal.returns
returns c = one_input
