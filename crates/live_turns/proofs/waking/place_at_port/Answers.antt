use Rattle.std.proofs.Common.{◌∙◌, ℕ, Some, ap}
use Rattle.savi_kinds.specs.declared.entry.Who.TheVariants.{Egress}
use Rattle.core_keep.specs.Pasts.{decoded}
use Rattle.live_turns.proofs.Seating.{placed_runs}
use Rattle.live_turns.proofs.waking.place_at_port.Goals as goal

pub returns-clause-running : goal.returns-clause-running
returns-clause-running c = λ lock new.
    let placed = c.sleeping_at.ensures in
    placed_runs lock (Egress c.args.port) c.args.pass c.sleeping_at.result placed.table placed.fixed placed.number placed.seen (placed.sleeps ∙ ap (λ (n : ℕ). Some n) c.get.ensures.value) new

pub returns-clause-seen : goal.returns-clause-seen
returns-clause-seen c = ap decoded c.sleeping_at.ensures.seen
