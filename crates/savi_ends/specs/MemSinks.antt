-- Sinks in memory: whether a write is done is fixed by its number and by the room.
use Rattle.std.specs.Prelude.{ℕ, ◌+◌, List, ◌++◌, length, ◌||◌, not, nat_le, if◌then◌else◌}
use Rattle.savi_ends.specs.declared.sink.Put.{Put}
use Rattle.savi_ends.specs.declared.sink.Put.TheVariants as put
use Rattle.savi_ends.specs.declared.mem_sink.MemSink.{MemSink}
use Rattle.savi_ends.specs.Counts.{next_count, is_listed}

-- what was written, the room for it, the numbers of the writes that are to fail, and how many writes
-- were made and have failed
pub record SinkState : Type 0 where
  pub written : List ℕ
  pub room : ℕ
  pub fails : List ℕ
  pub writes : ℕ
  pub faults : ℕ

abbrev pub sink_state : MemSink → SinkState
sink_state s = record { written = s.octets.items; room = s.room; fails = s.fails.items; writes = s.writes; faults = s.faults }

-- what the next write of a piece of this size answers: it fails where its number is listed, and where
-- the piece doesn't fit the room
abbrev pub next_write : SinkState → ℕ → Put
next_write s size = if is_listed (next_count s.writes) s.fails || not (nat_le (length s.written + size) s.room) then put.Failed else put.Done

-- A write counts. One that is done adds the piece, and one that failed adds a fault and nothing else.
abbrev pub after_write : SinkState → Put → List ℕ → SinkState
after_write s put.Done piece = record s { written = s.written ++ piece; writes = next_count s.writes }
after_write s put.Failed piece = record s { writes = next_count s.writes; faults = next_count s.faults }
