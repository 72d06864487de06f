use Rattle.std.proofs.Common.{◌≡◌, ◌*◌, length, take}
use Rattle.hex.specs.Hex.{IsBytes, encode_lower}
use Rattle.hist_store.proofs.read_hex.read_digits.Given as goal

abbrev pub invariant-loop-i : goal.invariant-loop-i
invariant-loop-i l = record {
  text : take (2 * l.i) l.digits ≡ encode_lower l.octets.items;
  bytes : IsBytes l.octets.items;
  size : length l.octets.items ≡ l.i;
}
