use Rattle.std.proofs.Common.{◌≡◌, is_some, length}
use Rattle.v4_snoop.specs.DhcpOptions.{dhcp_options}
use Rattle.v4_snoop.proofs.options.are_whole.Given as goal

abbrev pub invariant-option : goal.invariant-option
invariant-option l = is_some (dhcp_options l.octets) ≡ is_some (dhcp_options l.rest)

abbrev pub decreases-option : goal.decreases-option
decreases-option l = length l.rest
