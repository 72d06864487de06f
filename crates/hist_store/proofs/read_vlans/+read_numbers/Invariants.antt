use Rattle.std.proofs.Common.{length}
use Rattle.hist_store.proofs.read_vlans.+read_numbers.Given as goal

abbrev pub decreases-read_numbers : goal.decreases-read_numbers
decreases-read_numbers l = length l.text.now
