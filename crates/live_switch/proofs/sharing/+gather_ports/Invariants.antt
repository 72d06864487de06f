use Rattle.std.proofs.Common.{length}
use Rattle.live_switch.proofs.sharing.+gather_ports.Given as goal

abbrev pub decreases-gather_ports : goal.decreases-gather_ports
decreases-gather_ports g l = length l.readers.now.items
