use Rattle.std.proofs.Common.{◌≡◌, false, sym, subst}
use Rattle.savi_kinds.specs.declared.entry.How.{How}
use Rattle.core_keep.specs.Seen.{past_seen}
use Rattle.live_turns.specs.Seats.{lock_base, lock_plan}
use Rattle.live_control.specs.LineTurns.{EndsControl}
use Rattle.live_control.proofs.LineOutcomes.{read_end}
use Rattle.live_control.proofs.Told.{ends_here, ends_through}
use Rattle.savi_history.specs.Endings.{is_paused_reason}
use Rattle.live_control.proofs.answering.enter_ending.Goals as goal

pub returns-clause-ended : goal.returns-clause-ended
returns-clause-ended g c =
    let plan = lock_plan c.args.lock.now in
    let base = lock_base c.args.lock.now in
    let turned = c.end_turn-turns.ensures.turned in
    let after = past_seen c.end_turn-turns.result.pass in
    let how = c.reason-how.result in
    let same = c.reason-how.ensures in
    let unpaused = subst (λ (h : How). is_paused_reason h ≡ false) (sym same) (read_end c.args.end) in
    subst (λ (h : How). EndsControl plan base h (past_seen c.args.turns.pass) after) same
    (ends_through plan base (past_seen c.args.turns.pass) turned.found after turned.legal turned.later how (ends_here plan base turned.found after how unpaused turned.did))
