-- The places of the world of three ports.
use Rattle.savi_ends.specs.Places.{Book}
use Rattle.savi_ends.specs.MemPlaces as mem
use Rattle.savi_ends.specs.MemWorlds.{std_place}
use Rattle.end_places.specs.Spots.{spot_place}
use Rattle.end_places.specs.NamedSpots.{named_place}
use Rattle.end_places.specs.PortPlaces.{port_place}
use Rattle.held_ends.specs.declared.held_clock.HeldClock.{HeldClock}
use Rattle.held_ends.specs.declared.held_source.HeldSource.{HeldSource}
use Rattle.held_ends.specs.declared.held_sink.HeldSink.{HeldSink}
use Rattle.held_ends.specs.declared.held_world.HeldWorld.{HeldWorld}

abbrev pub book_of : HeldWorld → Book HeldSource HeldSink HeldClock
book_of w = record {
  faults = w.faults;
  inputs = named_place w.input;
  outputs = named_place w.output;
  ports = λ key. port_place w.ports key.number;
  control = λ key. spot_place w.control;
  ticker = mem.place_holding w.ticker;
  std = std_place w.out w.err;
}
