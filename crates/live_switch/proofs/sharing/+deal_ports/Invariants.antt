use Rattle.std.proofs.Common.{length}
use Rattle.live_switch.proofs.sharing.+deal_ports.Given as goal

abbrev pub decreases-deal_ports : goal.decreases-deal_ports
decreases-deal_ports g l = length l.ports.now.items
