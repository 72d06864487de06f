use Rattle.probe_write.proofs.ProbeReading.{asks_for}
use Rattle.probe_write.proofs.laws.probes_ask_for_their_target.Goals as goal

pub returns : goal.returns
returns c = asks_for
