-- Reader and who answers meet: what was taken in front of what was put, up to control's end, is all of it, or the last reply
-- wasn't written.
use Rattle.std.proofs.Common.{◌≡◌, ◌≢◌, ℕ, Bool, true, false, true≢false, List, [], ◌∷◌, ◌++◌, Option, Some, None, refl, sym, subst, ap, ◌∙◌, append-nil, append_assoc}
use Rattle.std.proofs.lemmas.List.{map-append}
use Rattle.std.proofs.lemmas.List.Elements.{All-head, All-tail}
use mathlib.Core.List.{IsPrefix}
use Rattle.savi_kinds.specs.declared.entry.How.{How}
use Rattle.savi_kinds.specs.declared.entry.How.TheVariants as hows
use Rattle.stream_io.specs.Calls.{AddsReadings}
use Rattle.cli_lang.specs.Arrivals.{Line}
use Rattle.savi_history.specs.ControlFits.{AreFirst, FitsControl, HasNoQuit}
use Rattle.savi_history.specs.ControlInputs.{is_quit}
use Rattle.control_reader.specs.Answered.{AnswersSo, EndsSo}
use Rattle.control_reader.specs.Heard.{HeardLine, Said, Ended, all_said, whole_lines}
use Rattle.control_reader.specs.LiveLines.{AreLiveLines, line_stamps}
use Rattle.control_reader.specs.Rows.{IsLinesEnd, LinesRow, SourceRow, StampedTo, WerePut}

-- what comes behind the lines
abbrev tail_of : How → List HeardLine
tail_of hows.Quit = []
tail_of hows.End = Ended hows.End ∷ []
tail_of (hows.Malformed at) = Ended (hows.Malformed at) ∷ []
tail_of (hows.Overlong at) = Ended (hows.Overlong at) ∷ []
tail_of hows.Failed = Ended hows.Failed ∷ []
tail_of hows.Unwritten = Ended hows.Unwritten ∷ []
tail_of hows.Paused = Ended hows.Paused ∷ []

whole_is : (lines : List Line) (how : How) → whole_lines lines how ≡ all_said lines ++ tail_of how
whole_is lines hows.Quit = sym (append-nil (all_said lines))
whole_is lines hows.End = refl
whole_is lines (hows.Malformed at) = refl
whole_is lines (hows.Overlong at) = refl
whole_is lines hows.Failed = refl
whole_is lines hows.Unwritten = refl
whole_is lines hows.Paused = refl

abbrev first_of : HeardLine → List HeardLine → HeardLine
first_of x [] = x
first_of x (y ∷ ys) = y

abbrev rest_of : List HeardLine → List HeardLine
rest_of [] = []
rest_of (y ∷ ys) = ys

abbrev line_of : Line → HeardLine → Line
line_of line (Said l) = l
line_of line (Ended how) = line

abbrev how_of : How → HeardLine → How
how_of how (Said l) = how
how_of how (Ended ending) = ending

abbrev begins_said : List HeardLine → Bool
begins_said [] = false
begins_said (Said l ∷ ys) = true
begins_said (Ended how ∷ ys) = false

abbrev is_empty : List HeardLine → Bool
is_empty [] = true
is_empty (y ∷ ys) = false

tail_unsaid : (how : How) → begins_said (tail_of how) ≡ false
tail_unsaid hows.Quit = refl
tail_unsaid hows.End = refl
tail_unsaid (hows.Malformed at) = refl
tail_unsaid (hows.Overlong at) = refl
tail_unsaid hows.Failed = refl
tail_unsaid hows.Unwritten = refl
tail_unsaid hows.Paused = refl

-- lines in front of what was put are the first lines of it
split : (entered lines : List Line) (how : How) (rest : List HeardLine) → all_said entered ++ rest ≡ all_said lines ++ tail_of how
    → (more : List Line) × (lines ≡ entered ++ more) × (rest ≡ all_said more ++ tail_of how)
split [] lines how rest same = (lines, refl, same)
split (l ∷ entered) [] how rest same = absurd (true≢false (ap begins_said same ∙ tail_unsaid how))
split (l ∷ entered) (m ∷ lines) how rest same =
    let first : l ≡ m = ap (λ (x : List HeardLine). line_of l (first_of (Said l) x)) same in
    let later = split entered lines how rest (ap rest_of same) in
    (later.0, ap (λ (x : List Line). m ∷ x) later.1 ∙ ap (λ (x : Line). x ∷ (entered ++ later.0)) (sym first), later.2)

-- and an end in front of it is the last that was put
tail_is : (how ending : How) (rest : List HeardLine) → Ended how ∷ rest ≡ tail_of ending → ending ≡ how
tail_is how hows.Quit rest same = absurd (true≢false (sym (ap is_empty same)))
tail_is how hows.End rest same = sym (ap (λ (x : List HeardLine). how_of how (first_of (Ended how) x)) same)
tail_is how (hows.Malformed at) rest same = sym (ap (λ (x : List HeardLine). how_of how (first_of (Ended how) x)) same)
tail_is how (hows.Overlong at) rest same = sym (ap (λ (x : List HeardLine). how_of how (first_of (Ended how) x)) same)
tail_is how hows.Failed rest same = sym (ap (λ (x : List HeardLine). how_of how (first_of (Ended how) x)) same)
tail_is how hows.Unwritten rest same = sym (ap (λ (x : List HeardLine). how_of how (first_of (Ended how) x)) same)
tail_is how hows.Paused rest same = sym (ap (λ (x : List HeardLine). how_of how (first_of (Ended how) x)) same)

ends_here : (more : List Line) (how ending : How) (rest : List HeardLine) → Ended how ∷ rest ≡ all_said more ++ tail_of ending → (more ≡ []) × (ending ≡ how)
ends_here [] how ending rest same = (refl, tail_is how ending rest same)
ends_here (m ∷ more) how ending rest same = absurd (true≢false (sym (ap begins_said same)))

-- an input comes to one end
pub one_end : (entered lines : List Line) (how ending : How) (rest : List HeardLine) → (all_said entered ++ Ended how ∷ []) ++ rest ≡ whole_lines lines ending → (lines ≡ entered) × (ending ≡ how)
one_end entered lines how ending rest same =
    let parts = split entered lines ending (Ended how ∷ rest) (sym (append_assoc (all_said entered) (Ended how ∷ []) rest) ∙ same ∙ whole_is lines ending) in
    let over = ends_here parts.0 how ending rest parts.2 in
    (parts.1 ∙ ap (λ (x : List Line). entered ++ x) over.0 ∙ append-nil entered, over.1)

-- the first `quit`

line_then_none : (front : List Line) (last : Line) (more : List Line) → (front ++ last ∷ []) ++ more ≡ [] → ⊥
line_then_none [] last more same = cc
line_then_none (f ∷ front) last more same = cc

abbrev rest_lines : List Line → List Line
rest_lines [] = []
rest_lines (l ∷ ls) = ls

abbrev first_line : Line → List Line → Line
first_line line [] = line
first_line line (l ∷ ls) = l

quit_within : (front : List Line) (last : Line) (more : List Line) → is_quit last ≡ true → HasNoQuit ((front ++ last ∷ []) ++ more) → ⊥
quit_within [] last more quit none = absurd (true≢false (sym quit ∙ All-head (λ (l : Line). is_quit l ≡ false) last more none))
quit_within (f ∷ front) last more quit none = quit_within front last more quit (All-tail (λ (l : Line). is_quit l ≡ false) f ((front ++ last ∷ []) ++ more) none)

quit_once : (front other : List Line) (last end : Line) (more : List Line) → is_quit last ≡ true → HasNoQuit other → (front ++ last ∷ []) ++ more ≡ other ++ end ∷ [] → more ≡ []
quit_once [] [] last end more quit none same = ap rest_lines same
quit_once [] (g ∷ other) last end more quit none same =
    let is : last ≡ g = ap (first_line last) same in
    absurd (true≢false (sym quit ∙ ap is_quit is ∙ All-head (λ (l : Line). is_quit l ≡ false) g other none))
quit_once (f ∷ front) [] last end more quit none same = absurd (line_then_none front last more (ap rest_lines same))
quit_once (f ∷ front) (g ∷ other) last end more quit none same =
    quit_once front other last end more quit (All-tail (λ (l : Line). is_quit l ≡ false) g other none) (ap rest_lines same)

-- lines in front of others are the first ones of what a source had left too
first_lines : (before : Option (List ℕ)) (lines entered more : List Line) → lines ≡ entered ++ more → AreFirst (AreLiveLines true) before lines → AreFirst (AreLiveLines true) before entered
first_lines None lines entered more split first = tt
first_lines (Some octets) lines entered more split first = record {
  behind = more ++ first.behind;
  ending = first.ending;
  read = subst (λ (ls : List Line). AreLiveLines true octets ls first.ending) (ap (λ (ls : List Line). ls ++ first.behind) split ∙ append_assoc entered more first.behind) first.read;
}

stamped_to : (read read_more : Option (List ℕ)) (stamps : List ℕ) (how : How) → IsLinesEnd how → AddsReadings read read_more stamps → StampedTo read read_more stamps how
stamped_to read read_more stamps hows.End stops stamped = stamped
stamped_to read read_more stamps hows.Quit stops stamped = stamped
stamped_to read read_more stamps (hows.Malformed at) stops stamped = stamped
stamped_to read read_more stamps (hows.Overlong at) stops stamped = stamped
stamped_to read read_more stamps hows.Failed stops stamped = stamped
stamped_to read read_more stamps hows.Unwritten stops stamped = absurd stops
stamped_to read read_more stamps hows.Paused stops stamped = absurd stops

module _ {S C : Type 0} (left : S → Option (List ℕ)) (faults : S → ℕ) (readings : C → Option (List ℕ)) (source new_source : S) (clock new_clock : C) where
  abbrev Row : List Line → How → Type 0
  Row entered ending = SourceRow left faults readings entered ending source new_source clock new_clock

  abbrev Put : List Line → How → Type 0
  Put lines ending = LinesRow left faults readings lines ending source new_source clock new_clock

  row_of : (lines : List Line) (ending : How) → Put lines ending → Row lines ending
  row_of lines ending row = record {
    gave = row.gave;
    fits = row.fits;
    near = row.near;
    stamped = stamped_to (readings clock) (readings new_clock) (line_stamps lines) ending row.stops row.stamped;
    later = row.later;
    broken = row.broken;
    still = λ other written. row.still other;
  }

  row_as : (entered lines : List Line) (how ending : How) → lines ≡ entered → ending ≡ how → Put lines ending → Row entered how
  row_as entered lines how ending same_lines same_end row =
      subst (λ (t : List Line × How). Row t.0 t.1) (λ i. (same_lines i, same_end i)) (row_of lines ending row)

  -- where the reply to the last line wasn't written
  unwritten_row : (lines entered more : List Line) (ending : How) → lines ≡ entered ++ more → EndsSo entered hows.Unwritten (all_said entered) → Put lines ending → Row entered hows.Unwritten
  unwritten_row lines entered more ending split ends row = record {
    gave = row.gave;
    fits = (first_lines (left source) lines entered more split row.first, ends.0);
    near = λ at fault. absurd fault;
    stamped = (
      line_stamps more,
      subst (λ (stamps : List ℕ). AddsReadings (readings clock) (readings new_clock) stamps)
          (ap line_stamps split ∙ map-append (λ (l : Line). l.stamp) entered more) row.stamped,
    );
    later = row.later;
    broken = λ failed. cc;
    still = λ other written. absurd (written refl);
  }

  -- where `quit` was entered, it is the last line that was put
  quit_last : (lines entered more : List Line) (ending : How) (last : Line) (front : List Line) → entered ≡ front ++ last ∷ [] → is_quit last ≡ true → lines ≡ entered ++ more → Put lines ending → (more ≡ []) × (ending ≡ hows.Quit)
  quit_last lines entered more ending last front all quit split row = by_end ending row.stops row.fits
    where
      within : lines ≡ (front ++ last ∷ []) ++ more
      within = split ∙ ap (λ (ls : List Line). ls ++ more) all

      never : HasNoQuit lines → ⊥
      never none = quit_within front last more quit (subst (λ (ls : List Line). HasNoQuit ls) within none)

      by_end : (how : How) → IsLinesEnd how → FitsControl AreLiveLines (left source) (left new_source) lines (Some how) → (more ≡ []) × (how ≡ hows.Quit)
      by_end hows.End stops fits = absurd (never fits.1)
      by_end (hows.Malformed at) stops fits = absurd (never fits.1)
      by_end (hows.Overlong at) stops fits = absurd (never fits.1)
      by_end hows.Failed stops fits = absurd (never fits.1)
      by_end hows.Quit stops fits = (quit_once front fits.1.front last fits.1.last more quit fits.1.none (sym within ∙ fits.1.all), refl)
      by_end hows.Unwritten stops fits = absurd stops
      by_end hows.Paused stops fits = absurd stops

  module _ (put taken : List HeardLine) (was_put : WerePut left faults readings put source new_source clock new_clock) (front : IsPrefix taken put) (entered : List Line) where
    abbrev lines : List Line
    lines = was_put.0

    ended_row : (how : How) → taken ≡ all_said entered ++ Ended how ∷ [] → Row entered how
    ended_row how all =
        let one = one_end entered lines how was_put.1 front.0 (ap (λ (x : List HeardLine). x ++ front.0) (sym all) ∙ front.1 ∙ was_put.2) in
        row_as entered lines how was_put.1 one.0 one.1 was_put.3

    -- lines were taken, and these behind them
    parts : (behind : List HeardLine) → taken ≡ all_said entered ++ behind → (more : List Line) × (lines ≡ entered ++ more) × (behind ++ front.0 ≡ all_said more ++ tail_of was_put.1)
    parts behind all =
        split entered lines was_put.1 (behind ++ front.0)
        (sym (append_assoc (all_said entered) behind front.0) ∙ ap (λ (x : List HeardLine). x ++ front.0) (sym all) ∙ front.1 ∙ was_put.2 ∙ whole_is lines was_put.1)

    pub source_row : (ending : How) (kept : Option HeardLine) → AnswersSo entered (Some ending) taken kept → Row entered ending
    source_row hows.End kept answers = ended_row hows.End answers.0.1
    source_row (hows.Malformed at) kept answers = ended_row (hows.Malformed at) answers.0.1
    source_row (hows.Overlong at) kept answers = ended_row (hows.Overlong at) answers.0.1
    source_row hows.Failed kept answers = ended_row hows.Failed answers.0.1
    source_row hows.Quit kept answers =
        let ends = answers.0.0 in
        let met = parts [] (answers.0.1 ∙ sym (append-nil (all_said entered))) in
        let last = quit_last lines entered met.0 was_put.1 ends.last ends.front ends.all ends.quit met.1 was_put.3 in
        row_as entered lines hows.Quit was_put.1 (met.1 ∙ ap (λ (ls : List Line). entered ++ ls) last.0 ∙ append-nil entered) last.1 was_put.3
    source_row hows.Unwritten kept answers =
        let met = parts answers.0.1 answers.0.2 in
        unwritten_row lines entered met.0 was_put.1 met.1 (answers.0.0, [], sym (append-nil (all_said entered))) was_put.3
    source_row hows.Paused kept answers = absurd answers.0
