use Rattle.std.proofs.Common.{[], length}
use Rattle.dhcp6_read.specs.Levels.{in_address}
use Rattle.dhcp6_read.proofs.Tellings.{Continues}
use Rattle.dhcp6_read.proofs.lease.read_address_options.Given as goal

abbrev pub invariant-option : goal.invariant-option
invariant-option l = Continues (λ row_of. in_address l.kind) l.options l.rest l.void [] []

abbrev pub decreases-option : goal.decreases-option
decreases-option l = length l.rest
