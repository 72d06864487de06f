use Rattle.std.proofs.Common.{◌≡◌, ℕ, true, false, List, IfSome, refl, ap, sym, ◌∙◌, subst, arith}
use Rattle.savi_ends.specs.Octets.{in_front}
use Rattle.hist_store.specs.TextOfLines.{lines_text}
use Rattle.journal_check.specs.declared.answer.Checked.{Checked}
use Rattle.journal_check.specs.Pieces.{to_come}
use Rattle.journal_check.specs.SettingLines.{IsRead, IsNotNext, before}
use Rattle.journal_check.specs.Answers.{IfRead, IsBadHeader, IsBeforeEntries}
use Rattle.journal_check.proofs.FeedPlaces.{in_front_none}
use Rattle.journal_check.proofs.Heading.{read_more, bad_header, none_next, broken_next}
use Rattle.journal_check.proofs.Given.{gave_more, gave_none, passed_more, passed_none}
use Rattle.journal_check.proofs.header.read_settings.Goals as goal

pub loop-number-init : goal.loop-number-init
loop-number-init g c = record {
  still = refl;
  gave = gave_none (g.S.Source.left c.args.source.now);
  passed = passed_none c.args.lines.now (g.S.Source.left c.args.source.now);
  settings = c.new-settings.ensures;
  told = sym (in_front_none (to_come c.args.lines.now (g.S.Source.left c.args.source.now)));
}

pub loop-number-preserved : goal.loop-number-preserved
loop-number-preserved g c =
    let was = c.loop-number.invariant in
    let n = c.loop-number.number in
    let old = c.loop-number.settings in
    let whole = to_come c.args.lines.now (g.S.Source.left c.args.source.now) in
    let mid = to_come c.loop-number.lines (g.S.Source.left c.loop-number.source) in
    let after = to_come c.next.new.self (g.S.Source.left c.next.new.source) in
    let yes : c.read.result ≡ true = grind (arith, c.if-not-read.false) in
    let read = subst (λ (t : List ℕ). IsRead n t old c.read.new.self) c.as_slice.ensures.value (c.read.ensures.read yes) in
    record {
      still = c.in-Line.ensures.still (λ same. cc) ∙ was.still;
      gave = gave_more _ _ _ was.gave c.next.ensures.gave;
      passed = passed_more c.args.lines.now c.loop-number.lines c.next.new.self (g.S.Source.left c.args.source.now) (g.S.Source.left c.loop-number.source) (g.S.Source.left c.next.new.source) was.passed (c.in-Line.ensures.passed refl);
      settings = read.settings;
      told = read_more n c.next.new.line.items old c.read.new.self whole mid after was.told c.in-Line.ensures.taken.1 read;
    }

pub returns-clause-settings : goal.returns-clause-settings
returns-clause-settings g c =
    let was = c.loop-number.invariant in
    let last : c.loop-number.number ≡ 11 = omega arith in
    let mid = to_come c.loop-number.lines (g.S.Source.left c.loop-number.source) in
    (was.settings, was.told ∙ ap (λ (k : ℕ). in_front (lines_text (before k c.loop-number.settings)) mid) last)

pub returns-in-Broken-clause-bad : goal.returns-in-Broken-clause-bad
returns-in-Broken-clause-bad g c =
    let was = c.loop-number.invariant in
    let n = c.loop-number.number in
    let s = c.loop-number.settings in
    let whole = to_come c.args.lines.now (g.S.Source.left c.args.source.now) in
    let mid = to_come c.loop-number.lines (g.S.Source.left c.loop-number.source) in
    subst (λ (a : Checked). IfRead a (IfSome whole (λ octets. IsBadHeader octets a))) (sym c.bad_setting.ensures)
    (bad_header n s whole mid was.settings (omega arith) was.told (broken_next (before n s) mid c.in-Broken.ensures.taken))

pub returns-then-not-read-clause-bad : goal.returns-then-not-read-clause-bad
returns-then-not-read-clause-bad g c =
    let was = c.loop-number.invariant in
    let n = c.loop-number.number in
    let s = c.loop-number.settings in
    let whole = to_come c.args.lines.now (g.S.Source.left c.args.source.now) in
    let mid = to_come c.loop-number.lines (g.S.Source.left c.loop-number.source) in
    let after = to_come c.next.new.self (g.S.Source.left c.next.new.source) in
    let no : c.read.result ≡ false = grind (arith, c.if-not-read.true) in
    let not = subst (λ (t : List ℕ). IsNotNext n t s) c.as_slice.ensures.value (c.read.ensures.bad no) in
    let none = none_next n s c.next.new.line.items mid after c.in-Line.ensures.taken.0 not c.in-Line.ensures.taken.1 in
    subst (λ (a : Checked). IfRead a (IfSome whole (λ octets. IsBadHeader octets a))) (sym c.bad_setting-then-not-read.ensures) (bad_header n s whole mid was.settings (omega arith) was.told none)

pub returns-in-Broken-clause-fault : goal.returns-in-Broken-clause-fault
returns-in-Broken-clause-fault g c = subst IsBeforeEntries (sym c.bad_setting.ensures) tt

pub returns-then-not-read-clause-fault : goal.returns-then-not-read-clause-fault
returns-then-not-read-clause-fault g c = subst IsBeforeEntries (sym c.bad_setting-then-not-read.ensures) tt

pub returns-in-Broken-clause-gave : goal.returns-in-Broken-clause-gave
returns-in-Broken-clause-gave g c = gave_more _ _ _ c.loop-number.invariant.gave c.next.ensures.gave

pub returns-in-Failed-clause-gave : goal.returns-in-Failed-clause-gave
returns-in-Failed-clause-gave g c = gave_more _ _ _ c.loop-number.invariant.gave c.next.ensures.gave

pub returns-then-not-read-clause-gave : goal.returns-then-not-read-clause-gave
returns-then-not-read-clause-gave g c = gave_more _ _ _ c.loop-number.invariant.gave c.next.ensures.gave

pub returns-clause-gave : goal.returns-clause-gave
returns-clause-gave g c = c.loop-number.invariant.gave

pub returns-clause-passed : goal.returns-clause-passed
returns-clause-passed g c = c.loop-number.invariant.passed
