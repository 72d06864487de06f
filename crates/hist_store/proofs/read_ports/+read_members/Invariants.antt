use Rattle.std.proofs.Common.{length}
use Rattle.hist_store.proofs.read_ports.+read_members.Given as goal

abbrev pub decreases-read_members : goal.decreases-read_members
decreases-read_members l = length l.text.now
