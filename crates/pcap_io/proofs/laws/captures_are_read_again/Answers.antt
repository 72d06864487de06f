use Rattle.pcap_io.proofs.Written.{written_arrives}
use Rattle.pcap_io.proofs.laws.captures_are_read_again.Goals as goal

pub returns : goal.returns
returns c = written_arrives
