use Rattle.std.proofs.Common.{◌≡◌, ◌+◌, ◌*◌, ◌≤◌, ◌++◌, length}
use Rattle.std.specs.Option.{option_map}
use Rattle.nd_read.specs.OptionRow.{option_row}
use Rattle.ra_learn.specs.PrefixOptions.{counted_prefixes}
use Rattle.ra_learn.proofs.options.read_prefixes.Given as goal

abbrev pub invariant-option : goal.invariant-option
invariant-option l = record {
  told : option_map counted_prefixes (option_row l.octets) ≡ option_map (λ options. l.prefixes.items ++ counted_prefixes options) (option_row l.rest);
  room : 32 * length l.prefixes.items + length l.rest ≤ length l.octets;
}

abbrev pub decreases-option : goal.decreases-option
decreases-option l = length l.rest
