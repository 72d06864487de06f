use Rattle.std.proofs.Common.{◌≡◌, List, ◌∷◌}
use Rattle.savi_kinds.specs.declared.entry.Who.TheVariants.{Ingress}
use Rattle.savi_kinds.specs.Ports.{number_of}
use Rattle.hist_store.specs.Rows.{Row}
use Rattle.savi_segments.specs.Segments.{AreLegal, base_after}
use Rattle.core_keep.specs.Seen.{past_seen}
use Rattle.parcel_ring.specs.Sides.{taker_rings, was_taken}
use Rattle.live_session.specs.Standing.{InputStands}
use Rattle.live_turns.specs.Seats.{IsRunning, lock_base, lock_plan}
use Rattle.live_input.specs.Judged.{InputGoes, kept_of}
use Rattle.live_input.proofs.judge.Ingress.run.Given as goal

abbrev pub invariant-loop : goal.invariant-loop
invariant-loop g l = record {
  running : IsRunning l.lock (Ingress l.fn.self.port) l.turns.pass;
  port : l.judge.port ≡ l.fn.self.port;
  rings : taker_rings l.judge.taker ≡ taker_rings l.fn.self.taker;
  goes : (before : List (List Row)) → AreLegal (lock_plan l.lock) before → lock_base l.lock ≡ base_after (lock_plan l.lock) before
      → InputStands (number_of l.fn.self.port) before (was_taken l.fn.self.taker) (kept_of l.fn.self.kept)
      → InputGoes (number_of l.fn.self.port) (past_seen l.turns.pass ∷ before) (was_taken l.judge.taker) (kept_of l.judge.kept);
}
