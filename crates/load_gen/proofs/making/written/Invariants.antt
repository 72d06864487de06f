use Rattle.std.proofs.Common.{◌≡◌, ◌*◌, map}
use Rattle.load_gen.specs.Draws.{state_after}
use Rattle.load_gen.specs.Sendings.{sendings}
use Rattle.load_gen.specs.Captures.{captures_of}
use Rattle.load_gen.specs.Writing.{octets_of}
use Rattle.load_gen.proofs.making.written.Given as goal

abbrev pub invariant-loop-k : goal.invariant-loop-k
invariant-loop-k l = record {
  state : l.generator.state ≡ state_after l.seed (2 * l.k);
  captures : map octets_of l.captures.items ≡ captures_of (sendings l.seed l.k);
}
