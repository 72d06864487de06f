use Rattle.std.proofs.Common.{◌≡◌, ◌+◌, map}
use Rattle.std.specs.List.{range_with_len}
use Rattle.load_gen.specs.Sendings.{claim}
use Rattle.load_gen.specs.Captures.{captures_of}
use Rattle.load_gen.specs.Writing.{octets_of}
use Rattle.load_gen.proofs.making.claimed.Given as goal

abbrev pub invariant-loop-place : goal.invariant-loop-place
invariant-loop-place l = map octets_of l.captures.items ≡ captures_of (map (λ k. claim (k + 1)) (range_with_len 0 l.place))
