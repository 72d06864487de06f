use Rattle.port_reader.proofs.Meeting.{one_end}
use Rattle.port_reader.proofs.laws.only_the_last_is_an_end.Goals as goal

pub returns : goal.returns
returns c arrivals taken ending how front = one_end taken arrivals how ending front.0 front.1
