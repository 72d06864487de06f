use Rattle.std.proofs.Common.{Bool, not, subst}
use Rattle.savi_kinds.specs.declared.entry.Who.TheVariants.{Control}
use Rattle.core_keep.specs.Seen.{past_seen}
use Rattle.live_turns.specs.Seats.{IsAt, lock_base, lock_plan}
use Rattle.live_control.proofs.LineOutcomes.{stopped_behind, unended_behind}
use Rattle.live_control.proofs.Told.{looks_here, same_through}
use Rattle.live_control.proofs.answering.look_for_room.Goals as goal

pub returns-clause-same : goal.returns-clause-same
returns-clause-same g c =
    let plan = lock_plan c.args.lock.now in
    let base = lock_base c.args.lock.now in
    let turned = c.pause_turn-turns.ensures.turned in
    let after = past_seen c.pause_turn-turns.result.0.pass in
    same_through plan base (past_seen c.args.turns.pass) turned.found after turned.legal turned.later (looks_here plan base turned.found after c.pause_turn-turns.result.1 turned.did)

pub returns-clause-unended : goal.returns-clause-unended
returns-clause-unended g c = unended_behind (not c.pause_turn-turns.result.1) c.behind.result c.behind.ensures

pub returns-clause-state : goal.returns-clause-state
returns-clause-state g c =
    subst (λ (b : Bool). IsAt c.args.lock.now Control b c.pause_turn-turns.result.0.pass)
    (stopped_behind c.pause_turn-turns.result.1 c.behind.result c.behind.ensures) c.pause_turn-turns.ensures.state
