use Rattle.std.proofs.Common.{◌*◌, IfSome, ap, sym, subst, inr, ◌∙◌}
use Rattle.savi_ends.specs.Octets.{in_front}
use Rattle.savi_core.specs.Machines.{Machine, base_of, station_room}
use Rattle.savi_core.proofs.Leaving.{start_is}
use Rattle.journal_check.specs.Headers.{head_text}
use Rattle.journal_check.specs.Pieces.{to_come}
use Rattle.journal_check.specs.Answers.{IfRead, IsAnswerBehind}
use Rattle.journal_check.specs.Judging.{checked_of}
use Rattle.journal_check.specs.Watched.{HasWatched}
use Rattle.journal_check.specs.declared.answer.Checked.{Checked}
use Rattle.journal_check.specs.declared.answer.Checked.TheVariants.{NoMemory}
use Rattle.journal_check.proofs.JudgedAs.{never_memory, failed_is, not_failed}
use Rattle.journal_check.proofs.Given.{gave_none}
use Rattle.journal_check.proofs.Watching.{not_watched, watched_answer}
use Rattle.journal_check.proofs.reading.check_behind.Goals as goal

pub check_segments-requires-clause-base : goal.check_segments-requires-clause-base
check_segments-requires-clause-base g c = ap base_of c.in-Ok.ensures.made.0 ∙ start_is (16 * c.args.plan.per_port) (station_room c.args.plan)

pub check_segments-requires-clause-begun : goal.check_segments-requires-clause-begun
check_segments-requires-clause-begun g c =
    (c.args.watcher.now, subst (λ (m : Machine). g.W.Watcher.begins c.args.watcher.now m.plan c.make.new.watcher) (sym c.in-Ok.ensures.made.0) c.in-Ok.ensures.made.1)

pub returns-in-Ok-clause-watched : goal.returns-in-Ok-clause-watched
returns-in-Ok-clause-watched g c =
    let plan = c.args.plan in
    let after = to_come c.args.lines.now (g.S.Source.left c.args.source.now) in
    let watched : HasWatched g.W.Watcher.sees c.args.version plan (in_front (head_text c.args.version plan) after) (checked_of c.check_segments.result) c.make.new.watcher c.check_segments.new.watcher =
    subst (λ (m : Machine). HasWatched g.W.Watcher.sees c.args.version m.plan (in_front (head_text c.args.version m.plan) after) (checked_of c.check_segments.result) c.make.new.watcher c.check_segments.new.watcher)
    c.in-Ok.ensures.made.0 c.check_segments.ensures.watched in
    inr (
      (λ is. never_memory c.check_segments.result (sym c.checked.ensures ∙ is)),
      c.args.version,
      plan,
      c.make.new.watcher,
      c.in-Ok.ensures.made.1,
      subst (λ (a : Checked). HasWatched g.W.Watcher.sees c.args.version plan (in_front (head_text c.args.version plan) after) a c.make.new.watcher c.check_segments.new.watcher) (sym c.checked.ensures) watched,
    )

pub returns-in-Ok-clause-answer : goal.returns-in-Ok-clause-answer
returns-in-Ok-clause-answer g c =
    let after = to_come c.args.lines.now (g.S.Source.left c.args.source.now) in
    let answer = checked_of c.check_segments.result in
    subst (λ (a : Checked). IfRead a (IfSome (in_front (head_text c.args.version c.args.plan) after) (λ octets. IsAnswerBehind octets a))) (sym c.checked.ensures)
    (subst (λ (m : Machine). IfRead answer (IfSome (in_front (head_text c.args.version m.plan) after) (λ octets. IsAnswerBehind octets answer))) c.in-Ok.ensures.made.0
    (watched_answer g.W.Watcher.sees c.args.version _ _ _ _ answer c.check_segments.ensures.watched))

pub returns-in-Ok-clause-memory : goal.returns-in-Ok-clause-memory
returns-in-Ok-clause-memory g c = λ is. absurd (never_memory c.check_segments.result (sym c.checked.ensures ∙ is))

pub returns-in-Ok-clause-cause : goal.returns-in-Ok-clause-cause
returns-in-Ok-clause-cause g c = λ is. c.check_segments.ensures.cause (failed_is c.check_segments.result (sym c.checked.ensures ∙ is))

pub returns-in-Ok-clause-still : goal.returns-in-Ok-clause-still
returns-in-Ok-clause-still g c = λ other. c.check_segments.ensures.still (not_failed c.check_segments.result (λ is. other (c.checked.ensures ∙ is)))

pub returns-in-Err-clause-gave : goal.returns-in-Err-clause-gave
returns-in-Err-clause-gave g c = gave_none (g.S.Source.left c.args.source.now)

pub returns-in-Err-clause-watched : goal.returns-in-Err-clause-watched
returns-in-Err-clause-watched g c = not_watched g.W.Watcher.begins g.W.Watcher.sees _ NoMemory c.args.watcher.now c.make.new.watcher c.in-Err.ensures.refused tt tt
