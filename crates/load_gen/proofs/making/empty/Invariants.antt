use Rattle.std.proofs.Common.{◌≡◌, map}
use Rattle.std.specs.List.{range_with_len}
use Rattle.pcap_io.specs.Captures.{header_text}
use Rattle.load_gen.specs.Writing.{octets_of}
use Rattle.load_gen.proofs.making.empty.Given as goal

abbrev pub invariant-loop-place : goal.invariant-loop-place
invariant-loop-place l = map octets_of l.captures.items ≡ map (λ _. header_text) (range_with_len 0 l.place)
