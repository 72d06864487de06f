-- How contracts see what a reader keeps.
use Rattle.savi_kinds.specs.declared.entry.How.TheVariants as how
use Rattle.pcapng_io.specs.declared.position.Position.{Position}
use Rattle.pcapng_io.specs.declared.reader.State.{State as Kept}
use Rattle.pcapng_io.specs.declared.reader.State.TheVariants as kept
use Rattle.pcapng_io.specs.Blocks.{Standing}
use Rattle.pcapng_io.specs.Readers.{State, Reading, Ended}

abbrev pub standing_of : Position → Standing
standing_of p = record { place = p.place; order = p.order; earlier = p.earlier; units = p.units.items }

abbrev pub state_at : Kept → Standing → State
state_at kept.Reading s = Reading s
state_at kept.End s = Ended how.End
state_at (kept.Malformed at) s = Ended (how.Malformed at)
state_at kept.Failed s = Ended how.Failed
