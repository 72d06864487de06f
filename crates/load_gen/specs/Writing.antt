-- How contracts see a capture that is being written.
use Rattle.std.specs.Prelude.{ℕ, List}
use Rattle.load_gen.specs.declared.capture.Capture.{Capture}

-- the octets so far
abbrev pub octets_of : Capture → List ℕ
octets_of capture = capture.octets.items
