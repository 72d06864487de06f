use Rattle.std.proofs.Common.{◌≡◌, ◌+◌, ◌^◌, ◌<◌, ℕ, true, false, true≢false, List, [], ◌∷◌, length, refl, ap, sym, ◌∙◌, subst, arith}
use Rattle.std.proofs.lemmas.List.Elements.{All-nil}
use Rattle.hex.specs.Hex.{IsBytes}
use Rattle.savi_kinds.specs.declared.plan.Plan.{Plan}
use Rattle.hist_store.specs.Rows.{Row}
use Rattle.savi_ends.specs.Octets.{in_front}
use Rattle.savi_core.specs.Machines.{Machine, base_of}
use Rattle.savi_segments.specs.Segments.{AreLegal}
use Rattle.hist_store.specs.TextOfLines.{joined}
use Rattle.hist_store.specs.declared.version.Version.TheVariants.{Two}
use Rattle.hist_store.specs.JournalTexts.{journal_end_line}
use Rattle.savi_history.specs.Endings.{has_pause}
use Rattle.savi_history.specs.Legal.{IsFinished}
use Rattle.journal_check.specs.Headers.{plan_lines, head_text}
use Rattle.journal_check.specs.Pieces.{to_come}
use Rattle.journal_check.specs.Answers.{past_text, Ends}
use Rattle.journal_check.specs.Watched.{all_watched, Leads, HasWatched}
use Rattle.journal_check.specs.declared.turns.Turn.TheVariants as turns
use Rattle.journal_check.specs.declared.answer.Checked.{Checked}
use Rattle.journal_check.specs.declared.answer.Checked.TheVariants.{Wrong, BadLine, Failed}
use Rattle.journal_check.specs.Judging.{checked_of}
use Rattle.journal_check.specs.Turns.{SaysWrong, SaysNothing, MadeTurn}
use Rattle.journal_check.proofs.Entries.{judged_wrong, judged_bad, judged_broken, judged_last, judged_opening, row_count}
use Rattle.journal_check.proofs.Watching.{IsWatching, comes, watch_row, watch_turn, watched}
use Rattle.journal_check.proofs.Given.{gave_more, gave_none}
use Rattle.journal_check.proofs.reading.check_segments.Goals as goal

pub turns-init : goal.turns-init
turns-init g c =
    let m = c.args.core.now in
    let watcher = c.args.watcher.now in
    let ahead = to_come c.args.lines.now (g.S.Source.left c.args.source.now) in
    let size = ap (λ (past : List Row). length past) c.requires.start in
    let short = c.header_length.ensures.short in
    record {
      still = refl;
      gave = gave_none (g.S.Source.left c.args.source.now);
      lines = omega (arith, size, short);
      segments = omega arith;
      entries = omega (arith, size);
      watching = record {
        same = refl;
        reading = record {
          closed = [];
          plan_is = c.requires.plan;
          base = c.requires.base;
          legal = subst (λ (past : List Row). AreLegal m.plan (past ∷ [])) (sym c.requires.start) (tt, All-nil (λ (r : Row). IsBytes r.octets), tt);
          turned = (tt, tt);
          one = λ is. refl;
          lines = c.header_length.ensures.length ∙ ap (λ (p : Plan). length (plan_lines Two p)) c.plan.ensures;
          segments = refl;
          entries = refl;
          told = ap (λ (past : List Row). in_front (past_text c.args.version m.plan [] past) ahead) (sym c.requires.start);
        };
        led = subst (λ (past : List Row). Leads g.W.Watcher.sees m.plan watcher (all_watched (past ∷ [])) watcher) (sym c.requires.start) refl;
      };
    }

-- an entry that stands

pub give_newest-requires : goal.give_newest-requires
give_newest-requires g c =
    let was = c.turns.invariant in
    let m = c.turns.core in
    let ahead = to_come c.turns.lines (g.S.Source.left c.turns.source) in
    let whole = in_front (head_text c.args.version c.args.core.now.plan) (to_come c.args.lines.now (g.S.Source.left c.args.source.now)) in
    let made = subst (λ (line : List ℕ). MadeTurn m line c.take_turn.new.core turns.Stands) c.as_slice.ensures.value c.in-Stands.ensures in (
      made.0,
      m.past,
      ap (λ (n : Machine). n.past) made.2,
      comes g.W.Watcher.begins g.W.Watcher.sees c.args.version c.args.core.now.plan m c.turns.before whole ahead c.args.watcher.now c.turns.watcher was.watching
          c.take_turn.new.core c.next.new.line.items c.requires.begun.0 c.requires.begun.1 made,
    )

pub turns-preserved-in-Stands : goal.turns-preserved-in-Stands
turns-preserved-in-Stands g c =
    let was = c.turns.invariant in
    let m = c.turns.core in
    let ahead = to_come c.turns.lines (g.S.Source.left c.turns.source) in
    let behind = to_come c.next.new.self (g.S.Source.left c.next.new.source) in
    let whole = in_front (head_text c.args.version c.args.core.now.plan) (to_come c.args.lines.now (g.S.Source.left c.args.source.now)) in
    let made = subst (λ (line : List ℕ). MadeTurn m line c.take_turn.new.core turns.Stands) c.as_slice.ensures.value c.in-Stands.ensures in
    let size = row_count m c.take_turn.new.core c.next.new.line.items made in
    let further = c.in-Line.ensures.further refl in
    let lines = was.lines in
    let entries = was.entries in
    record {
      still = c.in-Line.ensures.still (λ same. cc) ∙ was.still;
      gave = gave_more _ _ _ was.gave c.next.ensures.gave;
      lines = omega (arith, lines, size, further);
      segments = was.segments;
      entries = omega (arith, entries, size, further);
      watching = watch_row g.W.Watcher.begins g.W.Watcher.sees c.args.version c.args.core.now.plan m c.turns.before whole ahead c.args.watcher.now c.turns.watcher was.watching
          c.take_turn.new.core c.next.new.line.items behind c.give_newest.new.watcher c.in-Line.ensures.taken.1 made c.give_newest.ensures;
    }

-- a segment that was begun
pub turns-preserved : goal.turns-preserved
turns-preserved g c =
    let was = c.turns.invariant in
    let m = c.take_turn.new.core in
    let plan = c.args.core.now.plan in
    let same : m ≡ c.turns.core = c.in-Last.ensures.2 in
    let ahead = to_come c.turns.lines (g.S.Source.left c.turns.source) in
    let mid = to_come c.next.new.self (g.S.Source.left c.next.new.source) in
    let behind = to_come c.begin_segment.new.lines (g.S.Source.left c.begin_segment.new.source) in
    let whole = in_front (head_text c.args.version plan) (to_come c.args.lines.now (g.S.Source.left c.args.source.now)) in
    let yes : c.goes_on.result ≡ true = grind (arith, c.if-not-goes_on.false) in
    let on = c.goes_on.ensures.0 yes in
    let watching = subst (λ (n : Machine). IsWatching g.W.Watcher.sees c.args.version plan n c.turns.before whole ahead c.args.watcher.now c.turns.watcher) (sym same) was.watching in
    let finished = subst (λ (n : Machine). IsFinished n.plan (base_of n) n.past) (sym same) c.in-Last.ensures.0 in
    let last = sym c.as_slice.ensures.value ∙ c.in-Last.ensures.1 ∙ ap (λ (n : Machine). joined (journal_end_line (length n.past))) (sym same) in
    let size = ap (λ (n : Machine). length n.past) same in
    let none = ap (λ (past : List Row). length past) c.begin_segment.ensures.turned.past in
    let further = c.in-Line.ensures.further refl in
    let opened = c.in-Ok.ensures.opened in
    let number_of_lines = opened.lines in
    let segments_now = opened.segments in
    let count = opened.entries in
    let number = c.in-Ok.ensures.further in
    let lines = was.lines in
    let segments = was.segments in
    let entries = was.entries in
    record {
      still = c.begin_segment.ensures.still (λ same. cc) ∙ (c.in-Line.ensures.still (λ same. cc) ∙ was.still);
      gave = gave_more _ _ _ (gave_more _ _ _ was.gave c.next.ensures.gave) c.begin_segment.ensures.gave;
      lines = omega (arith, lines, size, none, further, number);
      segments = omega (arith, number_of_lines, segments_now, segments);
      entries = omega (arith, entries, size, none, further, count, c.begin_segment.ensures.later);
      watching = watch_turn g.W.Watcher.begins g.W.Watcher.sees c.args.version plan m c.turns.before whole ahead c.args.watcher.now c.turns.watcher watching
          c.begin_segment.new.core c.next.new.line.items mid c.in-Line.ensures.taken.1 finished last on.0 on.1 c.begin_segment.ensures.turned c.in-Ok.next behind opened;
    }

pub returns-in-Broken-clause-watched : goal.returns-in-Broken-clause-watched
returns-in-Broken-clause-watched g c =
    let was = c.turns.invariant in
    let m = c.turns.core in
    let number = c.turns.before.lines + c.len-in-turns.result + 1 in
    let few : length m.past < 2 ^ 64 = omega (arith, c.len.ensures.len) in
    watched g.W.Watcher.begins g.W.Watcher.sees c.args.version c.args.core.now.plan m c.turns.before _ _ c.args.watcher.now c.turns.watcher was.watching (BadLine number)
    (judged_broken c.args.version m c.turns.before _ _ was.watching.reading number (omega (arith, c.len-in-turns.ensures.len)) few c.in-Broken.ensures.taken)

pub returns-in-Failed-clause-watched : goal.returns-in-Failed-clause-watched
returns-in-Failed-clause-watched g c =
    watched g.W.Watcher.begins g.W.Watcher.sees c.args.version c.args.core.now.plan c.turns.core c.turns.before _ _ c.args.watcher.now c.turns.watcher c.turns.invariant.watching Failed tt

pub returns-in-Wrong-clause-watched : goal.returns-in-Wrong-clause-watched
returns-in-Wrong-clause-watched g c =
    let was = c.turns.invariant in
    let m = c.turns.core in
    let plan = c.args.core.now.plan in
    let apart = c.in-Wrong.apart in
    let entry = c.turns.before.entries + c.len.result in
    let whole = in_front (head_text c.args.version plan) (to_come c.args.lines.now (g.S.Source.left c.args.source.now)) in
    subst (λ (a : Checked). HasWatched g.W.Watcher.sees c.args.version plan whole a c.args.watcher.now c.turns.watcher) (sym (ap checked_of c.wrong.ensures))
    (watched g.W.Watcher.begins g.W.Watcher.sees c.args.version plan m c.turns.before whole _ c.args.watcher.now c.turns.watcher was.watching (Wrong entry apart.want apart.have)
    (judged_wrong c.args.version m c.turns.before whole _ was.watching.reading c.next.new.line.items _ entry apart.want apart.have c.in-Line.ensures.taken.1 (omega (arith, c.len.ensures.len))
    (subst (λ (line : List ℕ). SaysWrong m.plan (base_of m) m.past line apart.want apart.have) c.as_slice.ensures.value c.in-Wrong.ensures)))

pub returns-in-Bad-clause-watched : goal.returns-in-Bad-clause-watched
returns-in-Bad-clause-watched g c =
    let was = c.turns.invariant in
    let m = c.turns.core in
    let number = c.turns.before.lines + c.len-in-turns.result + 1 in
    watched g.W.Watcher.begins g.W.Watcher.sees c.args.version c.args.core.now.plan m c.turns.before _ _ c.args.watcher.now c.turns.watcher was.watching (BadLine number)
    (judged_bad c.args.version m c.turns.before _ _ was.watching.reading c.next.new.line.items _ number c.in-Line.ensures.taken.1 (omega (arith, c.len-in-turns.ensures.len)) c.in-Line.ensures.taken.0
    (subst (SaysNothing m.plan (base_of m) m.past) c.as_slice.ensures.value c.in-Bad.ensures.0))

pub returns-then-not-goes_on-clause-watched : goal.returns-then-not-goes_on-clause-watched
returns-then-not-goes_on-clause-watched g c =
    let was = c.turns.invariant in
    let m = c.turns.core in
    let same : c.take_turn.new.core ≡ m = c.in-Last.ensures.2 in
    let behind = to_come c.next.new.self (g.S.Source.left c.next.new.source) in
    let no : c.goes_on.result ≡ false = grind (arith, c.if-not-goes_on.true) in
    let a = checked_of c.finish.result in
    let entries = c.turns.before.entries + c.len.result in
    let number = c.turns.before.lines + c.len-in-turns.result + 1 in
    watched g.W.Watcher.begins g.W.Watcher.sees c.args.version c.args.core.now.plan m c.turns.before _ _ c.args.watcher.now c.turns.watcher was.watching a
    (judged_last c.args.version m c.turns.before _ _ was.watching.reading c.next.new.line.items behind entries number a c.in-Line.ensures.taken.1 (omega (arith, c.len.ensures.len)) (omega (arith, c.len-in-turns.ensures.len))
    c.in-Last.ensures.0 (sym c.as_slice.ensures.value ∙ c.in-Last.ensures.1)
    (λ on. absurd (true≢false (sym (c.goes_on.ensures.1 (on.0, ap (λ (n : Machine). has_pause n.past) same ∙ on.1)) ∙ no)))
    (subst (λ (n : Machine). Ends n.past entries number behind a) same c.finish.ensures.ends))

pub returns-in-Err-clause-watched : goal.returns-in-Err-clause-watched
returns-in-Err-clause-watched g c =
    let was = c.turns.invariant in
    let m = c.take_turn.new.core in
    let plan = c.args.core.now.plan in
    let same : m ≡ c.turns.core = c.in-Last.ensures.2 in
    let ahead = to_come c.turns.lines (g.S.Source.left c.turns.source) in
    let mid = to_come c.next.new.self (g.S.Source.left c.next.new.source) in
    let whole = in_front (head_text c.args.version plan) (to_come c.args.lines.now (g.S.Source.left c.args.source.now)) in
    let yes : c.goes_on.result ≡ true = grind (arith, c.if-not-goes_on.false) in
    let on = c.goes_on.ensures.0 yes in
    let watching = subst (λ (n : Machine). IsWatching g.W.Watcher.sees c.args.version plan n c.turns.before whole ahead c.args.watcher.now c.turns.watcher) (sym same) was.watching in
    let finished = subst (λ (n : Machine). IsFinished n.plan (base_of n) n.past) (sym same) c.in-Last.ensures.0 in
    let last = sym c.as_slice.ensures.value ∙ c.in-Last.ensures.1 ∙ ap (λ (n : Machine). joined (journal_end_line (length n.past))) (sym same) in
    let a = checked_of c.in-Err.judged in
    watched g.W.Watcher.begins g.W.Watcher.sees c.args.version plan m c.turns.before whole ahead c.args.watcher.now c.turns.watcher watching a
    (judged_opening c.args.version m c.turns.before whole ahead watching.reading c.begin_segment.new.core c.next.new.line.items mid a c.in-Line.ensures.taken.1 finished last on.0 on.1
    c.begin_segment.ensures.turned c.in-Err.ensures.bad)

pub returns-in-Broken-clause-gave : goal.returns-in-Broken-clause-gave
returns-in-Broken-clause-gave g c = gave_more _ _ _ c.turns.invariant.gave c.next.ensures.gave

pub returns-in-Failed-clause-gave : goal.returns-in-Failed-clause-gave
returns-in-Failed-clause-gave g c = gave_more _ _ _ c.turns.invariant.gave c.next.ensures.gave

pub returns-in-Wrong-clause-gave : goal.returns-in-Wrong-clause-gave
returns-in-Wrong-clause-gave g c = gave_more _ _ _ c.turns.invariant.gave c.next.ensures.gave

pub returns-in-Bad-clause-gave : goal.returns-in-Bad-clause-gave
returns-in-Bad-clause-gave g c = gave_more _ _ _ c.turns.invariant.gave c.next.ensures.gave

pub returns-then-not-goes_on-clause-gave : goal.returns-then-not-goes_on-clause-gave
returns-then-not-goes_on-clause-gave g c = gave_more _ _ _ (gave_more _ _ _ c.turns.invariant.gave c.next.ensures.gave) c.finish.ensures.gave

pub returns-in-Err-clause-gave : goal.returns-in-Err-clause-gave
returns-in-Err-clause-gave g c = gave_more _ _ _ (gave_more _ _ _ c.turns.invariant.gave c.next.ensures.gave) c.begin_segment.ensures.gave
