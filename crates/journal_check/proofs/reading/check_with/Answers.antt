use Rattle.std.proofs.Common.{◌≡◌, ◌^◌, ℕ, List, Option, IfSome, refl, ap, sym, subst, inr, ◌∙◌}
use Rattle.savi_ends.specs.Octets.{in_front}
use Rattle.journal_check.specs.Headers.{head_text}
use Rattle.journal_check.specs.Pieces.{seen_if_told, to_come}
use Rattle.journal_check.proofs.Whole.{answer_behind, answer_bad, answer_only, answer_good, answer_journal}
use Rattle.journal_check.specs.declared.answer.Checked.{Checked}
use Rattle.journal_check.specs.declared.answer.Checked.TheVariants.{NoMemory}
use Rattle.journal_check.specs.Answers.{IfRead, IsBadHeader, IsBeforeEntries}
use Rattle.journal_check.specs.Watched.{IsWatched}
use Rattle.journal_check.proofs.Watching.{not_watched}
use Rattle.journal_check.proofs.OneWatch.{given_if}
use Rattle.journal_check.proofs.JudgedAs.{never_memory, failed_is}
use Rattle.journal_check.proofs.HeaderRead.{header_read, start_seen}
use Rattle.journal_check.proofs.Given.{gave_more, gave_none}
use Rattle.journal_check.proofs.reading.check_with.Goals as goal

pub returns-in-Ok-read_header-clause-answer : goal.returns-in-Ok-read_header-clause-answer
returns-in-Ok-read_header-clause-answer g c =
    let left = g.S.Source.left c.args.source.now in
    let behind = in_front (head_text c.in-Ok-read_header.version c.in-Ok-read_header.plan) (to_come c.read_header.new.lines (g.S.Source.left c.read_header.new.source)) in
    answer_behind c.check_behind.result left behind (sym (start_seen c.new-lines.result left c.new-lines.ensures.held c.new-lines.ensures.place) ∙ c.in-Ok-read_header.ensures.plan.1) c.check_behind.ensures.answer

pub returns-in-Ok-read_header-clause-only : goal.returns-in-Ok-read_header-clause-only
returns-in-Ok-read_header-clause-only g c = answer_only c.octets_have_one_answer.ensures c.check_behind.result (g.S.Source.left c.args.source.now) (returns-in-Ok-read_header-clause-answer g c)

pub returns-in-Ok-read_header-clause-good : goal.returns-in-Ok-read_header-clause-good
returns-in-Ok-read_header-clause-good g c = λ entries good. answer_good c.check_behind.result (g.S.Source.left c.args.source.now) entries (returns-in-Ok-read_header-clause-answer g c) good

pub returns-in-Ok-read_header-clause-journal : goal.returns-in-Ok-read_header-clause-journal
returns-in-Ok-read_header-clause-journal g c = λ entries. answer_journal c.octets_have_one_answer.ensures c.check_behind.result (g.S.Source.left c.args.source.now) entries (returns-in-Ok-read_header-clause-answer g c)

pub returns-in-Err-clause-answer : goal.returns-in-Err-clause-answer
returns-in-Err-clause-answer g c =
    let left = g.S.Source.left c.args.source.now in
    let come = to_come c.new-lines.result left in
    answer_bad c.checked.result left come (sym (start_seen c.new-lines.result left c.new-lines.ensures.held c.new-lines.ensures.place))
    (subst (λ (a : Checked). IfRead a (IfSome come (λ octets. IsBadHeader octets a))) (sym c.checked.ensures) c.in-Err.ensures.bad)

pub returns-in-Err-clause-only : goal.returns-in-Err-clause-only
returns-in-Err-clause-only g c = answer_only c.octets_have_one_answer.ensures c.checked.result (g.S.Source.left c.args.source.now) (returns-in-Err-clause-answer g c)

pub returns-in-Err-clause-good : goal.returns-in-Err-clause-good
returns-in-Err-clause-good g c = λ entries good. answer_good c.checked.result (g.S.Source.left c.args.source.now) entries (returns-in-Err-clause-answer g c) good

pub returns-in-Err-clause-journal : goal.returns-in-Err-clause-journal
returns-in-Err-clause-journal g c = λ entries. answer_journal c.octets_have_one_answer.ensures c.checked.result (g.S.Source.left c.args.source.now) entries (returns-in-Err-clause-answer g c)

pub returns-in_default-clause-watched : goal.returns-in_default-clause-watched
returns-in_default-clause-watched g c = not_watched g.W.Watcher.begins g.W.Watcher.sees _ NoMemory c.args.watcher.now c.args.watcher.now refl tt tt

pub returns-in-Ok-read_header-clause-watched : goal.returns-in-Ok-read_header-clause-watched
returns-in-Ok-read_header-clause-watched g c =
    let left = g.S.Source.left c.args.source.now in
    let behind = in_front (head_text c.in-Ok-read_header.version c.in-Ok-read_header.plan) (to_come c.read_header.new.lines (g.S.Source.left c.read_header.new.source)) in
    let text : behind ≡ seen_if_told (2 ^ 62) left = sym c.in-Ok-read_header.ensures.plan.1 ∙ start_seen c.new-lines.result left c.new-lines.ensures.held c.new-lines.ensures.place in
    subst (λ (o : Option (List ℕ)). IsWatched g.W.Watcher.begins g.W.Watcher.sees o c.check_behind.result c.args.watcher.now c.check_behind.new.watcher) text c.check_behind.ensures.watched

pub returns-in-Err-clause-watched : goal.returns-in-Err-clause-watched
returns-in-Err-clause-watched g c =
    let left = g.S.Source.left c.args.source.now in
    let come = to_come c.new-lines.result left in
    let a = c.checked.result in
    let bad : IfRead a (IfSome come (λ octets. IsBadHeader octets a)) =
    subst (λ (b : Checked). IfRead b (IfSome come (λ octets. IsBadHeader octets b))) (sym c.checked.ensures) c.in-Err.ensures.bad in
    not_watched g.W.Watcher.begins g.W.Watcher.sees (seen_if_told (2 ^ 62) left) a c.args.watcher.now c.args.watcher.now refl
    (subst IsBeforeEntries (sym c.checked.ensures) c.in-Err.ensures.fault)
    (subst (λ (o : Option (List ℕ)). IfRead a (IfSome o (λ octets. IsBadHeader octets a))) (start_seen c.new-lines.result left c.new-lines.ensures.held c.new-lines.ensures.place) bad)

pub returns-in-Ok-read_header-clause-given : goal.returns-in-Ok-read_header-clause-given
returns-in-Ok-read_header-clause-given g c =
    given_if g.W.Watcher.begins g.W.Watcher.sees c.args.watcher.now c.check_behind.new.watcher c.octets_have_one_history.ensures c.check_behind.result (g.S.Source.left c.args.source.now)
    (returns-in-Ok-read_header-clause-watched g c)

pub returns-in-Err-clause-given : goal.returns-in-Err-clause-given
returns-in-Err-clause-given g c =
    given_if g.W.Watcher.begins g.W.Watcher.sees c.args.watcher.now c.args.watcher.now c.octets_have_one_history.ensures c.checked.result (g.S.Source.left c.args.source.now)
    (returns-in-Err-clause-watched g c)

-- no memory for the switch: the header was read, and what is held behind it is at most a piece
pub returns-in-Ok-read_header-clause-memory : goal.returns-in-Ok-read_header-clause-memory
returns-in-Ok-read_header-clause-memory g c = λ is.
    let same = c.check_behind.ensures.memory is in
    inr (header_read c.in-Ok-read_header.version c.in-Ok-read_header.plan c.new-lines.result c.read_header.new.lines (g.S.Source.left c.args.source.now) _ _
    (ap g.S.Source.left same.0) c.in-Ok-read_header.ensures.plan.0 c.new-lines.ensures.held c.in-Ok-read_header.ensures.plan.1 c.in-Ok-read_header.ensures.passed)

pub returns-in-Err-clause-memory : goal.returns-in-Err-clause-memory
returns-in-Err-clause-memory g c = λ is. absurd (never_memory c.in-Err.judged (sym c.checked.ensures ∙ is))

pub returns-in-Err-clause-cause : goal.returns-in-Err-clause-cause
returns-in-Err-clause-cause g c = λ is. c.in-Err.ensures.cause (failed_is c.in-Err.judged (sym c.checked.ensures ∙ is))

pub returns-in-Ok-read_header-clause-gave : goal.returns-in-Ok-read_header-clause-gave
returns-in-Ok-read_header-clause-gave g c = gave_more _ _ _ c.read_header.ensures.gave c.check_behind.ensures.gave

pub returns-in_default-clause-gave : goal.returns-in_default-clause-gave
returns-in_default-clause-gave g c = gave_none (g.S.Source.left c.args.source.now)
