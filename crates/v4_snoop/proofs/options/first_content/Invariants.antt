use Rattle.std.proofs.Common.{◌≡◌, true, is_some, length}
use Rattle.std.specs.Option.{option_and_then}
use Rattle.v4_snoop.specs.DhcpOptions.{dhcp_options, first_content}
use Rattle.v4_snoop.proofs.options.first_content.Given as goal

abbrev pub invariant-option : goal.invariant-option
invariant-option l = record {
  whole : is_some (dhcp_options l.rest) ≡ true;
  same : option_and_then (first_content l.wanted) (dhcp_options l.octets) ≡ option_and_then (first_content l.wanted) (dhcp_options l.rest);
}

abbrev pub decreases-option : goal.decreases-option
decreases-option l = length l.rest
