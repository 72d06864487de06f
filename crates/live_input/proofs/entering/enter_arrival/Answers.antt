use Rattle.core_keep.specs.Seen.{past_seen}
use Rattle.savi_core.specs.Steps.{event_of}
use Rattle.live_turns.specs.Seats.{lock_base, lock_plan}
use Rattle.live_input.proofs.InputTurns.{enters_event}
use Rattle.live_input.proofs.entering.enter_arrival.Goals as goal

pub returns-clause-entered : goal.returns-clause-entered
returns-clause-entered g c =
    let turned = c.frame_turn.ensures.turned in
    enters_event (lock_plan c.args.lock.now) (lock_base c.args.lock.now) (past_seen c.args.turns.pass) turned.found (past_seen c.frame_turn.result.0.pass) turned.legal (event_of c.args.event) c.frame_turn.result.1 c.requires.frame turned.later turned.did
