use Rattle.std.proofs.Common.{◌≡◌, ◌+◌, ◌++◌, ℕ, List, IfSome, length, refl, ap, sym, ◌∙◌, subst, arith}
use Rattle.savi_ends.specs.Octets.{in_front}
use Rattle.hist_store.specs.TextOfLines.{lines_text}
use Rattle.journal_check.specs.declared.answer.Checked.{Checked}
use Rattle.journal_check.specs.declared.answer.Checked.TheVariants.{BadLine}
use Rattle.journal_check.specs.declared.settings.Settings.{Settings}
use Rattle.journal_check.specs.Pieces.{to_come}
use Rattle.journal_check.specs.SettingLines.{AreSettings, setting_lines}
use Rattle.journal_check.specs.ListLines.{IsListed, IsNotListed, list_lines, Adds}
use Rattle.journal_check.specs.declared.lists.Added.TheVariants as added
use Rattle.journal_check.specs.Judging.{checked_of}
use Rattle.journal_check.specs.Answers.{IfRead, IsBadHeader, IsBeforeEntries}
use Rattle.journal_check.proofs.ListsRead.{are_empty, same_lists}
use Rattle.journal_check.proofs.Heading.{none_told, list_more, all_taken, bad_list, none_listed, broken_next, same_number}
use Rattle.journal_check.proofs.Given.{gave_more, gave_none, passed_more, passed_none}
use Rattle.journal_check.proofs.header.read_lists.Goals as goal

pub listed-init : goal.listed-init
listed-init g c =
    let made = c.requires in
    record {
      still = refl;
      gave = gave_none (g.S.Source.left c.args.source.now);
      passed = passed_none c.args.lines.now (g.S.Source.left c.args.source.now);
      are = are_empty c.args.lists.ports.items c.args.lists.prefixes.items made.0 made.1;
      told = none_told c.args.lists.ports.items c.args.lists.prefixes.items (to_come c.args.lines.now (g.S.Source.left c.args.source.now)) made.0 made.1;
    }

pub listed-preserved : goal.listed-preserved
listed-preserved g c =
    let was = c.listed.invariant in
    let old = c.listed.lists in
    let new = c.take.new.self in
    let whole = to_come c.args.lines.now (g.S.Source.left c.args.source.now) in
    let mid = to_come c.listed.lines (g.S.Source.left c.listed.source) in
    let after = to_come c.next.new.self (g.S.Source.left c.next.new.source) in
    let add = subst (λ (t : List ℕ). IsListed t old.ports.items old.prefixes.items new.ports.items new.prefixes.items) c.as_slice.ensures.value c.in-Line-take.ensures in
    record {
      still = c.in-Line.ensures.still (λ same. cc) ∙ was.still;
      gave = gave_more _ _ _ was.gave c.next.ensures.gave;
      passed = passed_more c.args.lines.now c.listed.lines c.next.new.self (g.S.Source.left c.args.source.now) (g.S.Source.left c.listed.source) (g.S.Source.left c.next.new.source) was.passed (c.in-Line.ensures.passed refl);
      are = add.lists;
      told = list_more c.next.new.line.items old.ports.items old.prefixes.items new.ports.items new.prefixes.items whole mid after was.told c.in-Line.ensures.taken.1 add;
    }

pub listed-smaller : goal.listed-smaller
listed-smaller g c =
    let add = c.in-Line-take.ensures in
    let count = add.count in
    let ports = add.lists.port_count in
    let prefixes = add.lists.prefix_count in
    omega (arith, count, ports, prefixes)

pub returns-in-Begin-clause-lists : goal.returns-in-Begin-clause-lists
returns-in-Begin-clause-lists g c =
    let was = c.listed.invariant in
    let old = c.listed.lists in
    let new = c.take.new.self in
    let whole = to_come c.args.lines.now (g.S.Source.left c.args.source.now) in
    let mid = to_come c.listed.lines (g.S.Source.left c.listed.source) in
    let after = to_come c.next.new.self (g.S.Source.left c.next.new.source) in
    let begun = subst (λ (t : List ℕ). Adds added.Begin t old.ports.items old.prefixes.items new.ports.items new.prefixes.items) c.as_slice.ensures.value c.in-Begin.ensures in
    all_taken c.next.new.line.items old.ports.items old.prefixes.items new.ports.items new.prefixes.items whole mid after was.are was.told c.in-Line.ensures.taken.1 begun

pub returns-in-Broken-clause-bad : goal.returns-in-Broken-clause-bad
returns-in-Broken-clause-bad g c =
    let was = c.listed.invariant in
    let old = c.listed.lists in
    let whole = to_come c.args.lines.now (g.S.Source.left c.args.source.now) in
    let mid = to_come c.listed.lines (g.S.Source.left c.listed.source) in
    subst (λ (a : Checked). IfRead a ((s : Settings) → AreSettings s → IfSome (in_front (lines_text (setting_lines s)) whole) (λ octets. IsBadHeader octets a))) (sym c.bad_listed.ensures)
    (bad_list old.ports.items old.prefixes.items whole mid was.are was.told (λ s. broken_next (setting_lines s ++ list_lines old.ports.items old.prefixes.items) mid c.in-Broken.ensures.taken))

pub bad_listed-requires-in-Bad : goal.bad_listed-requires-in-Bad
bad_listed-requires-in-Bad g c =
    let was = c.listed.invariant in
    let old = c.listed.lists in
    let new = c.take.new.self in
    same_lists old.ports.items old.prefixes.items new.ports.items new.prefixes.items c.in-Bad.ensures.1 c.in-Bad.ensures.2 was.are

pub returns-in-Bad-clause-bad : goal.returns-in-Bad-clause-bad
returns-in-Bad-clause-bad g c =
    let was = c.listed.invariant in
    let old = c.listed.lists in
    let new = c.take.new.self in
    let line = c.next.new.line.items in
    let whole = to_come c.args.lines.now (g.S.Source.left c.args.source.now) in
    let mid = to_come c.listed.lines (g.S.Source.left c.listed.source) in
    let after = to_come c.next.new.self (g.S.Source.left c.next.new.source) in
    let not = subst (λ (t : List ℕ). IsNotListed old.ports.items old.prefixes.items t) c.as_slice.ensures.value c.in-Bad.ensures.0 in
    let number = same_number old.ports.items old.prefixes.items new.ports.items new.prefixes.items c.in-Bad.ensures.1 c.in-Bad.ensures.2 in
    let answer : checked_of c.bad_listed-in-Bad.result ≡ BadLine (length old.ports.items + length old.prefixes.items + 12) = c.bad_listed-in-Bad.ensures ∙ ap BadLine number in
    subst (λ (a : Checked). IfRead a ((s : Settings) → AreSettings s → IfSome (in_front (lines_text (setting_lines s)) whole) (λ octets. IsBadHeader octets a))) (sym answer)
    (bad_list old.ports.items old.prefixes.items whole mid was.are was.told
    (λ s. none_listed s old.ports.items old.prefixes.items line mid after c.in-Line.ensures.taken.0 was.are not c.in-Line.ensures.taken.1))

pub returns-in-Broken-clause-fault : goal.returns-in-Broken-clause-fault
returns-in-Broken-clause-fault g c = subst IsBeforeEntries (sym c.bad_listed.ensures) tt

pub returns-in-Bad-clause-fault : goal.returns-in-Bad-clause-fault
returns-in-Bad-clause-fault g c = subst IsBeforeEntries (sym c.bad_listed-in-Bad.ensures) tt

pub returns-in-Begin-clause-gave : goal.returns-in-Begin-clause-gave
returns-in-Begin-clause-gave g c = gave_more _ _ _ c.listed.invariant.gave c.next.ensures.gave

pub returns-in-Broken-clause-gave : goal.returns-in-Broken-clause-gave
returns-in-Broken-clause-gave g c = gave_more _ _ _ c.listed.invariant.gave c.next.ensures.gave

pub returns-in-Failed-clause-gave : goal.returns-in-Failed-clause-gave
returns-in-Failed-clause-gave g c = gave_more _ _ _ c.listed.invariant.gave c.next.ensures.gave

pub returns-in-Bad-clause-gave : goal.returns-in-Bad-clause-gave
returns-in-Bad-clause-gave g c = gave_more _ _ _ c.listed.invariant.gave c.next.ensures.gave

pub returns-in-Begin-clause-passed : goal.returns-in-Begin-clause-passed
returns-in-Begin-clause-passed g c = passed_more c.args.lines.now c.listed.lines c.next.new.self (g.S.Source.left c.args.source.now) (g.S.Source.left c.listed.source) (g.S.Source.left c.next.new.source) c.listed.invariant.passed (c.in-Line.ensures.passed refl)
