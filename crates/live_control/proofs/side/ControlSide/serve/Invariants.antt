use Rattle.std.proofs.Common.{◌≡◌, List, ◌∷◌}
use Rattle.savi_kinds.specs.declared.entry.Who.TheVariants.{Control}
use Rattle.hist_store.specs.Rows.{Row}
use Rattle.savi_segments.specs.Segments.{base_after}
use Rattle.core_keep.specs.Seen.{past_seen}
use Rattle.intake_ring.specs.Sides.{taker_ring}
use Rattle.live_turns.specs.Seats.{IsRunning, lock_base, lock_plan}
use Rattle.live_control.specs.Sides.{SideGoes}
use Rattle.live_control.proofs.side.ControlSide.serve.Given as goal

abbrev pub invariant-loop : goal.invariant-loop
invariant-loop g l = record {
  running : IsRunning l.lock Control l.turns.pass;
  ring : taker_ring l.self.taker ≡ taker_ring l.fn.self.taker;
  goes : (before : List (List Row)) (first : g.row.K.Denot) → lock_base l.lock ≡ base_after (lock_plan l.lock) before
      → SideGoes g.K.Sink.written g.K.Sink.faults (lock_plan l.lock) (past_seen l.fn.turns.pass ∷ before) first l.fn.self
      → SideGoes g.K.Sink.written g.K.Sink.faults (lock_plan l.lock) (past_seen l.turns.pass ∷ before) first l.self;
}
