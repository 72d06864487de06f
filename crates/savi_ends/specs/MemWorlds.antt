-- A world in memory.
use Rattle.std.specs.Prelude.{ℕ, Bool, List, Option, not, ◌&&◌, if◌then◌else◌}
use Rattle.savi_ends.specs.declared.world.Std.{Std}
use Rattle.savi_ends.specs.declared.world.Std.TheVariants as std
use Rattle.savi_ends.specs.declared.mem_source.MemSource.{MemSource}
use Rattle.savi_ends.specs.declared.mem_sink.MemSink.{MemSink}
use Rattle.savi_ends.specs.declared.mem_clock.MemClock.{MemClock}
use Rattle.savi_ends.specs.declared.mem_world.MemWorld.{MemWorld}
use Rattle.savi_ends.specs.Places.{Place, Book}
use Rattle.savi_ends.specs.MemPlaces.{place_holding, named_places, numbered_places}
use Rattle.savi_ends.specs.Counts.{next_count, is_listed}

-- the places of standard output and standard error
abbrev pub std_place : {X : Type 0} → Option X → Option X → Std → Place X
std_place out err std.Out = place_holding out
std_place out err std.Err = place_holding err

-- all places of the world: those of a port are one, whatever its names are, and so are those of control
abbrev pub book_of : MemWorld → Book MemSource MemSink MemClock
book_of w = record {
  faults = w.faulty;
  inputs = named_places w.inputs.items;
  outputs = named_places w.outputs.items;
  ports = λ key. numbered_places w.ports.items key.number;
  control = λ key. place_holding w.control;
  ticker = place_holding w.ticker;
  std = std_place w.out w.err;
}

-- the numbers of the openings that are to fail, and how many were tried and have failed
pub record Openings : Type 0 where
  pub fails : List ℕ
  pub opened : ℕ
  pub faulty : ℕ

abbrev pub openings_of : MemWorld → Openings
openings_of w = record { fails = w.fails.items; opened = w.opened; faulty = w.faulty }

-- The next opening works where its number isn't listed and there is an end.
abbrev pub next_works : Openings → Bool → Bool
next_works o is_there = not (is_listed (next_count o.opened) o.fails) && is_there

-- An opening counts, and one that doesn't work is a fault.
abbrev pub after_opening : Openings → Bool → Openings
after_opening o works = record o { opened = next_count o.opened; faulty = if works then o.faulty else next_count o.faulty }
