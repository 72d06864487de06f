-- The places of the real world.
use Rattle.savi_ends.specs.declared.world.Std.{Std}
use Rattle.savi_ends.specs.declared.world.Std.TheVariants.{Out, Err}
use Rattle.savi_ends.specs.Places.{Place, Book}
use Rattle.file_ends.specs.declared.file_source.FileSource.{FileSource}
use Rattle.file_ends.specs.declared.file_sink.FileSink.{FileSink}
use Rattle.socket_ends.specs.declared.socket_source.SocketSource.{SocketSource}
use Rattle.socket_ends.specs.declared.socket_sink.SocketSink.{SocketSink}
use Rattle.port_ends.specs.declared.port_source.PortSource.{PortSource}
use Rattle.port_ends.specs.declared.port_sink.PortSink.{PortSink}
use Rattle.std.specs.declared.rt.LibcRuntime.{LibcRuntime}
use Rattle.port_ends.specs.declared.machine_clock.MachineClock.{MachineClock}
use Rattle.savi_switch.specs.declared.real_world.RealWorld.{RealWorld}
use Rattle.end_places.specs.Spots.{spot_place}
use Rattle.end_places.specs.ManySpots.{spot_named}
use Rattle.end_places.specs.NamedSpots.{named_place}
use Rattle.end_places.specs.PortPlaces.{port_place}

abbrev pub std_place : {R A B C D : Type 0} → RealWorld R A B C D → Std → Place (PortSink FileSink (SocketSink R A B C D))
std_place w Out = spot_place w.out
std_place w Err = spot_place w.err

abbrev pub book_of : {R A B C D : Type 0} → RealWorld R A B C D →
    Book (PortSource FileSource (SocketSource R A B C D)) (PortSink FileSink (SocketSink R A B C D)) (MachineClock LibcRuntime R)
book_of w = record {
  faults = w.faults;
  inputs = named_place w.input;
  outputs = spot_named w.outputs;
  ports = λ key. port_place w.ports key.number;
  control = λ key. spot_place w.control;
  ticker = spot_place w.ticker;
  std = std_place w;
}
