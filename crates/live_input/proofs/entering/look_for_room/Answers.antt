use Rattle.std.proofs.Common.{Bool, not, subst}
use Rattle.savi_kinds.specs.declared.entry.Who.TheVariants.{Ingress}
use Rattle.core_keep.specs.Seen.{past_seen}
use Rattle.live_turns.specs.Seats.{IsAt, lock_base, lock_plan}
use Rattle.live_input.proofs.InputTurns.{looks}
use Rattle.live_input.proofs.Judging.{stopped_behind, unended_behind}
use Rattle.live_input.proofs.entering.look_for_room.Goals as goal

pub returns-clause-same : goal.returns-clause-same
returns-clause-same g c =
    let turned = c.pause_turn-turns.ensures.turned in
    looks (lock_plan c.args.lock.now) (lock_base c.args.lock.now) (past_seen c.args.turns.pass) turned.found (past_seen c.pause_turn-turns.result.0.pass) turned.legal c.args.port c.pause_turn-turns.result.1 turned.later turned.did

pub returns-clause-unended : goal.returns-clause-unended
returns-clause-unended g c = unended_behind (not c.pause_turn-turns.result.1) c.behind.result c.behind.ensures

pub returns-clause-state : goal.returns-clause-state
returns-clause-state g c =
    subst (λ (b : Bool). IsAt c.args.lock.now (Ingress c.args.port) b c.pause_turn-turns.result.0.pass)
    (stopped_behind c.pause_turn-turns.result.1 c.behind.result c.behind.ensures) c.pause_turn-turns.ensures.state
