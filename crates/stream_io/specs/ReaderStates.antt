-- How contracts see what a reader keeps.
use Rattle.std.specs.Prelude.{ℕ, List}
use Rattle.savi_kinds.specs.declared.entry.How.TheVariants as how
use Rattle.stream_io.specs.declared.reader.State.{State as Kept}
use Rattle.stream_io.specs.declared.reader.State.TheVariants as kept
use Rattle.stream_io.specs.Readers.{State, Running, Ended}

abbrev pub state_of : Kept → List ℕ → State
state_of (kept.Running place) held = Running place held
state_of kept.End held = Ended how.End
state_of (kept.Malformed at) held = Ended (how.Malformed at)
state_of kept.Failed held = Ended how.Failed
