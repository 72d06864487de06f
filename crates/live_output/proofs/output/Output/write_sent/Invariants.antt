use Rattle.std.proofs.Common.{◌≡◌, true, List}
use Rattle.savi_kinds.specs.Ports.{number_of}
use Rattle.savi_kinds.specs.declared.entry.Who.TheVariants.{Egress}
use Rattle.hist_store.specs.Rows.{Row}
use Rattle.savi_segments.specs.Segments.{AreLegal, base_after}
use Rattle.core_keep.specs.Seen.{past_seen}
use Rattle.live_session.specs.Standing.{OutputStands}
use Rattle.live_turns.specs.Seats.{IsRunning, lock_base, lock_plan}
use Rattle.live_output.proofs.Sending.{IsSending}
use Rattle.live_output.proofs.output.Output.write_sent.Given as goal

abbrev pub invariant-loop : goal.invariant-loop
invariant-loop g l = record {
  port : l.self.port ≡ l.fn.self.port;
  format : l.self.format ≡ l.fn.self.format;
  begun : l.self.begun ≡ true;
  running : IsRunning l.lock (Egress l.fn.self.port) l.turns.pass;
  sending : (before : List (List Row)) (first : g.row.K.Denot) → AreLegal (lock_plan l.lock) before → lock_base l.lock ≡ base_after (lock_plan l.lock) before
      → OutputStands g.K.Sink.written g.K.Sink.faults l.fn.self.format (lock_plan l.lock) (number_of l.fn.self.port) before l.fn.self.begun first l.fn.self.sink
      → IsSending g.K.Sink.written g.K.Sink.faults (lock_plan l.lock) before l.fn.self.format l.fn.self.port first (past_seen l.turns.pass) true l.self.sink;
}
