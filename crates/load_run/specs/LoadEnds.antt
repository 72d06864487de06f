-- The ends of a port of a load.
use Rattle.std.specs.Prelude.{◌≡◌, ℕ, List}
use Rattle.pcap_io.specs.Kinds.{classic_kinds}
use Rattle.pcap_io.specs.Readers.{Fresh}
use Rattle.port_worker.specs.declared.port_ends.PortEnds.{PortEnds}
use Rattle.port_worker.specs.Replays.{IsUnread}
use Rattle.savi_ends.specs.declared.count_sink.CountSink.{CountSink}
use Rattle.savi_ends.specs.declared.mem_clock.MemClock.{MemClock}
use Rattle.savi_ends.specs.declared.sure_source.SureSource.{SureSource}
use Rattle.savi_ends.specs.MemSources.{sure_left}

-- a source in memory that never fails, and a sink that only counts
abbrev pub LoadEnds : Type 0
LoadEnds = PortEnds SureSource CountSink MemClock

-- what the source has left
abbrev pub octets_left : LoadEnds → List ℕ
octets_left p = sure_left p.ends.source

-- nothing was read yet, and the input is read from its header on, of any classic kind
pub record IsFresh (p : LoadEnds) : Type 0 where
  pub unread : IsUnread p
  pub anew : p.reader ≡ Fresh classic_kinds
