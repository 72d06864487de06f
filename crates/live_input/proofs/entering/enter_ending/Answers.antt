use Rattle.core_keep.specs.Seen.{past_seen}
use Rattle.live_turns.specs.Seats.{lock_base, lock_plan}
use Rattle.live_input.proofs.InputTurns.{ends_input}
use Rattle.live_input.proofs.Told.{read_end}
use Rattle.live_input.proofs.entering.enter_ending.Goals as goal

pub returns-clause-entered : goal.returns-clause-entered
returns-clause-entered g c =
    let turned = c.end_turn.ensures.turned in
    ends_input (lock_plan c.args.lock.now) (lock_base c.args.lock.now) (past_seen c.args.turns.pass) turned.found (past_seen c.end_turn.result.pass) turned.legal c.args.port c.args.how (read_end c.args.how c.requires.ends) turned.later turned.did
