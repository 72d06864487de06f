-- A text has one answer. Two histories are compared from their oldest rows on, segment by segment.
use Rattle.std.proofs.Common.{◌≡◌, ◌⊎◌, ℕ, List, [], ◌∷◌, ◌++◌, length, Option, Some, None, refl, ap, sym, ◌∙◌, inl, inr, subst}
use Rattle.std.proofs.lemmas.List.{append_cancel_left}
use Rattle.savi_kinds.specs.declared.plan.Plan.{Plan}
use Rattle.savi_kinds.specs.ValidPlan.{IsValidPlan}
use Rattle.hist_store.specs.Rows.{Row}
use Rattle.hist_store.specs.TextOfLines.{lines_text}
use Rattle.hist_store.specs.declared.version.Version.{Version}
use Rattle.hist_store.specs.declared.version.Version.TheVariants.{One, Two}
use Rattle.hist_store.specs.LineTexts.{line_text}
use Rattle.hist_store.specs.EntryLines.{SaysEntry, row_said}
use Rattle.hist_store.specs.JournalTexts.{journal_end_text}
use Rattle.checkpoint.specs.Bases.{Base}
use Rattle.savi_history.specs.Limits.{IsWithinLimits}
use Rattle.savi_history.specs.Events.{Event, row_of}
use Rattle.savi_history.specs.Legal.{Stands, IsLegal}
use Rattle.savi_segments.specs.Segments.{AreLegal, HasTurned, HaveTurned, base_after}
use Rattle.journal_check.specs.declared.answer.Checked.{Checked}
use Rattle.journal_check.specs.declared.answer.Checked.TheVariants.{BadLine}
use Rattle.journal_check.specs.Seen.{seen}
use Rattle.journal_check.specs.Headers.{plan_lines}
use Rattle.journal_check.specs.Fronts.{opening_lines}
use Rattle.journal_check.specs.Answers.{past_text, IsAnswerTo, IsBadHeader, IsAnswerBehind}
use Rattle.journal_check.specs.Laws.{AreSaid, HasOneAnswer, HasOneHistory}
use Rattle.journal_check.specs.Differing.{row_event}
use Rattle.journal_check.proofs.LegalFields.{legal_said}
use Rattle.journal_check.proofs.OneHeader.{bad_once, not_bad, one_plan}
use Rattle.journal_check.proofs.OneFault.{event_said, stood_event}
use Rattle.journal_check.proofs.OneAnswer.{entry_not_last, entry_once, judge_once, judge_stands, judge_turns}
use Rattle.journal_check.proofs.SegmentTexts.{behind_opening, behind_row}

abbrev Segments : Type 0
Segments = List (List Row)

-- what legal segments leave is within the limits
abbrev pub LeaveWithin : Type 0
LeaveWithin = (plan : Plan) (segments : Segments) → IsValidPlan plan → AreLegal plan segments → IsWithinLimits plan (base_after plan segments)

-- What comes behind a history, the oldest first: a row, or the turn to the next segment.
abbrev Step : Type 0
Step = Option Row

-- two histories and answers are the same
record AreOne (steps steps' : List Step) (a b : Checked) : Type 0 where
  steps_are : steps ≡ steps'
  one : a ≡ b

one_more : (step : Step) (steps steps' : List Step) (a b : Checked) → AreOne steps steps' a b → AreOne (step ∷ steps) (step ∷ steps') a b
one_more step steps steps' a b are = record { steps_are = ap (λ (later : List Step). step ∷ later) are.steps_are; one = are.one }

-- the segments that are closed and the rows behind them, of all steps

abbrev closed_of : Segments → List Row → List Step → Segments
closed_of closed past [] = closed
closed_of closed past (Some row ∷ steps) = closed_of closed (row ∷ past) steps
closed_of closed past (None ∷ steps) = closed_of (past ∷ closed) [] steps

abbrev past_of : Segments → List Row → List Step → List Row
past_of closed past [] = past
past_of closed past (Some row ∷ steps) = past_of closed (row ∷ past) steps
past_of closed past (None ∷ steps) = past_of (past ∷ closed) [] steps

one_not_two : (version : Version) → version ≡ Two → version ≡ One → ⊥
one_not_two version two one = let apart : Two ≡ One = sym two ∙ one in cc

some_segment : (segment : List Row) (before : Segments) → segment ∷ before ≡ [] → ⊥
some_segment segment before e = cc

-- where a segment is closed the version has a next one
is_two : (version : Version) (segment : List Row) (before : Segments) → (version ≡ One → segment ∷ before ≡ []) → version ≡ Two
is_two One segment before one = absurd (some_segment segment before (one refl))
is_two Two segment before one = refl

module _ (version : Version) (plan : Plan) where
  -- the row may stand behind the past, and its line says it
  record IsNext (base : Base) (past : List Row) (row : Row) : Type 0 where
    stands : Stands plan base past row
    says : SaysEntry (line_text (length past) row) (length past) (row_said row)

  -- the segment is left for a next one, which the version has
  record IsLeft (closed : Segments) (past : List Row) : Type 0 where
    turned : HasTurned plan (past ∷ closed)
    two : version ≡ Two

  abbrev AreNext : Segments → List Row → List Step → Type 0
  AreNext closed past [] = Unit {0}
  AreNext closed past (Some row ∷ steps) = IsNext (base_after plan closed) past row × AreNext closed (row ∷ past) steps
  AreNext closed past (None ∷ steps) = IsLeft closed past × AreNext (past ∷ closed) [] steps

  -- the lines of the steps, and a rest
  abbrev text_from : Segments → List Row → List Step → List ℕ → List ℕ
  text_from closed past [] rest = rest
  text_from closed past (Some row ∷ steps) rest = line_text (length past) row ++ 10 ∷ text_from closed (row ∷ past) steps rest
  text_from closed past (None ∷ steps) rest =
      journal_end_text (length past) ++ (lines_text (opening_lines plan (base_after plan (past ∷ closed))) ++ text_from (past ∷ closed) [] steps rest)

  -- what is answered of the rest behind the steps
  abbrev IsAnswerFrom : Segments → List Row → List Step → List ℕ → Checked → Type 0
  IsAnswerFrom closed past [] rest a = IsAnswerTo version plan closed past rest a
  IsAnswerFrom closed past (Some row ∷ steps) rest a = IsAnswerFrom closed (row ∷ past) steps rest a
  IsAnswerFrom closed past (None ∷ steps) rest a = IsAnswerFrom (past ∷ closed) [] steps rest a

  -- the rows of a past, the oldest first, in front of steps
  abbrev rows_before : List Row → List Step → List Step
  rows_before [] steps = steps
  rows_before (row ∷ past) steps = rows_before past (Some row ∷ steps)

  -- the segments, the oldest first, in front of steps
  abbrev segments_before : Segments → List Step → List Step
  segments_before [] steps = steps
  segments_before (segment ∷ before) steps = segments_before before (rows_before segment (None ∷ steps))

  -- all steps of a history
  abbrev all_steps : Segments → List Row → List Step
  all_steps closed past = segments_before closed (rows_before past [])

  closed_rows : (closed : Segments) (past : List Row) (steps : List Step) → closed_of closed [] (rows_before past steps) ≡ closed_of closed past steps
  closed_rows closed [] steps = refl
  closed_rows closed (row ∷ past) steps = closed_rows closed past (Some row ∷ steps)

  past_rows : (closed : Segments) (past : List Row) (steps : List Step) → past_of closed [] (rows_before past steps) ≡ past_of closed past steps
  past_rows closed [] steps = refl
  past_rows closed (row ∷ past) steps = past_rows closed past (Some row ∷ steps)

  closed_segments : (closed : Segments) (steps : List Step) → closed_of [] [] (segments_before closed steps) ≡ closed_of closed [] steps
  closed_segments [] steps = refl
  closed_segments (segment ∷ before) steps = closed_segments before (rows_before segment (None ∷ steps)) ∙ closed_rows before segment (None ∷ steps)

  past_segments : (closed : Segments) (steps : List Step) → past_of [] [] (segments_before closed steps) ≡ past_of closed [] steps
  past_segments [] steps = refl
  past_segments (segment ∷ before) steps = past_segments before (rows_before segment (None ∷ steps)) ∙ past_rows before segment (None ∷ steps)

  closed_all : (closed : Segments) (past : List Row) → closed_of [] [] (all_steps closed past) ≡ closed
  closed_all closed past = closed_segments closed (rows_before past []) ∙ closed_rows closed past []

  past_all : (closed : Segments) (past : List Row) → past_of [] [] (all_steps closed past) ≡ past
  past_all closed past = past_segments closed (rows_before past []) ∙ past_rows closed past []

  next_rows : (closed : Segments) (past : List Row) (steps : List Step) → IsLegal plan (base_after plan closed) past → AreSaid past → AreNext closed past steps → AreNext closed [] (rows_before past steps)
  next_rows closed [] steps legal said next = next
  next_rows closed (row ∷ past) steps legal said next = next_rows closed past (Some row ∷ steps) legal.1 said.1 (record { stands = legal.0; says = said.0 }, next)

  text_rows : (closed : Segments) (past : List Row) (steps : List Step) (rest : List ℕ)
      → past_text version plan closed past ++ text_from closed past steps rest ≡ past_text version plan closed [] ++ text_from closed [] (rows_before past steps) rest
  text_rows closed [] steps rest = refl
  text_rows closed (row ∷ past) steps rest =
      behind_row (past_text version plan closed past) (line_text (length past) row) (text_from closed (row ∷ past) steps rest) ∙ text_rows closed past (Some row ∷ steps) rest

  answer_rows : (closed : Segments) (past : List Row) (steps : List Step) (rest : List ℕ) (a : Checked) → IsAnswerFrom closed past steps rest a → IsAnswerFrom closed [] (rows_before past steps) rest a
  answer_rows closed [] steps rest a is = is
  answer_rows closed (row ∷ past) steps rest a is = answer_rows closed past (Some row ∷ steps) rest a is

  module _ (within : LeaveWithin) (valid : IsValidPlan plan) where
    said_in : (segment : List Row) (before : Segments) → AreLegal plan (segment ∷ before) → AreSaid segment
    said_in segment before legal = legal_said plan valid (base_after plan before) (within plan before valid legal.2) segment legal.0 legal.1

    next_segments : (closed : Segments) (steps : List Step) → AreLegal plan closed → HaveTurned plan closed → HasTurned plan closed → (version ≡ One → closed ≡ []) → AreNext closed [] steps → AreNext [] [] (segments_before closed steps)
    next_segments [] steps legal turned last one next = next
    next_segments (segment ∷ before) steps legal turned last one next =
        let two : version ≡ Two = is_two version segment before one in
        next_segments before (rows_before segment (None ∷ steps)) legal.2 turned.1 turned.0 (λ is. absurd (one_not_two version two is))
        (next_rows before segment (None ∷ steps) legal.0 (said_in segment before legal) (record { turned = last; two = two }, next))

  text_segments : (closed : Segments) (steps : List Step) (rest : List ℕ)
      → past_text version plan closed [] ++ text_from closed [] steps rest ≡ past_text version plan [] [] ++ text_from [] [] (segments_before closed steps) rest
  text_segments [] steps rest = refl
  text_segments (segment ∷ before) steps rest =
      behind_opening version plan before segment (text_from (segment ∷ before) [] steps rest)
      ∙ text_rows before segment (None ∷ steps) rest
      ∙ text_segments before (rows_before segment (None ∷ steps)) rest

  answer_segments : (closed : Segments) (steps : List Step) (rest : List ℕ) (a : Checked) → IsAnswerFrom closed [] steps rest a → IsAnswerFrom [] [] (segments_before closed steps) rest a
  answer_segments [] steps rest a is = is
  answer_segments (segment ∷ before) steps rest a is =
      answer_segments before (rows_before segment (None ∷ steps)) rest a (answer_rows before segment (None ∷ steps) rest a is)

  -- two rows with one line behind one past
  row_once : (base : Base) (past : List Row) (a b : Row) → IsNext base past a → IsNext base past b → row_said a ≡ row_said b → a ≡ b
  row_once base past a b next next' same =
      let event : next.stands.0 ≡ next'.stands.0 =
      sym (stood_event plan base past a next.stands) ∙ sym (event_said a) ∙ ap row_event same ∙ event_said b ∙ stood_event plan base past b next'.stands in
      next.stands.2 ∙ ap (λ (e : Event). row_of plan base past e) event ∙ sym next'.stands.2

  -- a row and a turn have no text in common
  row_or_turn : (closed : Segments) (past : List Row) (row : Row) (more rest : List ℕ) → IsNext (base_after plan closed) past row → line_text (length past) row ++ 10 ∷ more ≡ journal_end_text (length past) ++ rest → ⊥
  row_or_turn closed past row more rest next e = entry_not_last (line_text (length past) row) (length past) (length past) (row_said row) more rest next.says e

  once_from : (closed : Segments) (past : List Row) (steps steps' : List Step) (rest rest' : List ℕ) (a b : Checked) → AreNext closed past steps → AreNext closed past steps'
      → text_from closed past steps rest ≡ text_from closed past steps' rest' → IsAnswerFrom closed past steps rest a → IsAnswerFrom closed past steps' rest' b → AreOne steps steps' a b
  once_from closed past [] [] rest rest' a b next next' text judges judges' =
      record { steps_are = refl; one = judge_once version plan closed past rest a b judges (subst (λ (t : List ℕ). IsAnswerTo version plan closed past t b) (sym text) judges') }
  once_from closed past [] (Some row ∷ steps) rest rest' a b next next' text judges judges' =
      absurd (judge_stands version plan closed past rest (text_from closed (row ∷ past) steps rest') row a next'.0.stands next'.0.says text judges)
  once_from closed past [] (None ∷ steps) rest rest' a b next next' text judges judges' =
      absurd (judge_turns version plan closed past rest (text_from (past ∷ closed) [] steps rest') a next'.0.turned next'.0.two text judges)
  once_from closed past (Some row ∷ steps) [] rest rest' a b next next' text judges judges' =
      absurd (judge_stands version plan closed past rest' (text_from closed (row ∷ past) steps rest) row b next.0.stands next.0.says (sym text) judges')
  once_from closed past (None ∷ steps) [] rest rest' a b next next' text judges judges' =
      absurd (judge_turns version plan closed past rest' (text_from (past ∷ closed) [] steps rest) b next.0.turned next.0.two (sym text) judges')
  once_from closed past (Some row ∷ steps) (None ∷ steps') rest rest' a b next next' text judges judges' =
      absurd (row_or_turn closed past row (text_from closed (row ∷ past) steps rest) (lines_text (opening_lines plan (base_after plan (past ∷ closed))) ++ text_from (past ∷ closed) [] steps' rest') next.0 text)
  once_from closed past (None ∷ steps) (Some row ∷ steps') rest rest' a b next next' text judges judges' =
      absurd (row_or_turn closed past row (text_from closed (row ∷ past) steps' rest') (lines_text (opening_lines plan (base_after plan (past ∷ closed))) ++ text_from (past ∷ closed) [] steps rest) next'.0 (sym text))
  once_from closed past (None ∷ steps) (None ∷ steps') rest rest' a b next next' text judges judges' =
      let opening = lines_text (opening_lines plan (base_after plan (past ∷ closed))) in
      let one = text_from (past ∷ closed) [] steps rest in
      let other = text_from (past ∷ closed) [] steps' rest' in
      one_more None steps steps' a b (once_from (past ∷ closed) [] steps steps' rest rest' a b next.1 next'.1
      (append_cancel_left opening one other (append_cancel_left (journal_end_text (length past)) (opening ++ one) (opening ++ other) text)) judges judges')
  once_from closed past (Some row ∷ steps) (Some row' ∷ steps') rest rest' a b next next' text judges judges' =
      let base = base_after plan closed in
      let parts = entry_once (line_text (length past) row) (line_text (length past) row') (length past) (row_said row) (row_said row')
      (text_from closed (row ∷ past) steps rest) (text_from closed (row' ∷ past) steps' rest') next.0.says next'.0.says text in
      let same : row ≡ row' = row_once base past row row' next.0 next'.0 parts.0 in
      let next'' = subst (λ (r : Row). AreNext closed (r ∷ past) steps') (sym same) next'.1 in
      let text' : text_from closed (row ∷ past) steps rest ≡ text_from closed (row ∷ past) steps' rest' = parts.1 ∙ ap (λ (r : Row). text_from closed (r ∷ past) steps' rest') (sym same) in
      let judges'' = subst (λ (r : Row). IsAnswerFrom closed (r ∷ past) steps' rest' b) (sym same) judges' in
      subst (λ (r : Row). AreOne (Some row ∷ steps) (Some r ∷ steps') a b) same (one_more (Some row) steps steps' a b (once_from closed (row ∷ past) steps steps' rest rest' a b next.1 next'' text' judges judges''))

-- whole texts

module _ (within : LeaveWithin) (octets : List ℕ) (a : Checked) (x : IsAnswerBehind octets a) where
  abbrev steps_of : List Step
  steps_of = all_steps x.version x.plan x.closed x.past

  whole_text : octets ≡ lines_text (plan_lines x.version x.plan) ++ text_from x.version x.plan [] [] steps_of x.rest
  whole_text =
      x.begins.text ∙ text_rows x.version x.plan x.closed x.past [] x.rest
      ∙ text_segments x.version x.plan x.closed (rows_before x.version x.plan x.past []) x.rest

  whole_next : AreNext x.version x.plan [] [] steps_of
  whole_next =
      let valid = x.begins.plan_is.valid in
      next_segments x.version x.plan within valid x.closed (rows_before x.version x.plan x.past []) x.begins.legal.2 x.begins.turned.1 x.begins.turned.0 x.begins.one
      (next_rows x.version x.plan x.closed x.past [] x.begins.legal.0 (said_in x.version x.plan within valid x.past x.closed x.begins.legal) tt)

  whole_judges : IsAnswerFrom x.version x.plan [] [] steps_of x.rest a
  whole_judges =
      answer_segments x.version x.plan x.closed (rows_before x.version x.plan x.past []) x.rest a (answer_rows x.version x.plan x.closed x.past [] x.rest a x.judges)

-- two answers behind one header
record IsFrom (version : Version) (plan : Plan) (steps : List Step) (rest : List ℕ) (a : Checked) : Type 0 where
  next : AreNext version plan [] [] steps
  judges : IsAnswerFrom version plan [] [] steps rest a

-- what two answers behind a header come to
record AreAlike (octets : List ℕ) (a b : Checked) (x : IsAnswerBehind octets a) (y : IsAnswerBehind octets b) : Type 0 where
  answers : a ≡ b
  versions : x.version ≡ y.version
  plans : x.plan ≡ y.plan
  closed_are : x.closed ≡ y.closed
  past_are : x.past ≡ y.past

behind_alike : LeaveWithin → (octets : List ℕ) (a b : Checked) (x : IsAnswerBehind octets a) (y : IsAnswerBehind octets b) → AreAlike octets a b x y
behind_alike within octets a b x y =
    let steps = steps_of within octets a x in
    let steps' = steps_of within octets b y in
    let same = one_plan x.version y.version x.plan y.plan (text_from x.version x.plan [] [] steps x.rest) (text_from y.version y.plan [] [] steps' y.rest) x.begins.plan_is y.begins.plan_is
    (sym (whole_text within octets a x) ∙ whole_text within octets b y) in
    let other : IsFrom y.version y.plan steps' y.rest b = record { next = whole_next within octets b y; judges = whole_judges within octets b y } in
    let other' : IsFrom x.version x.plan steps' y.rest b =
    subst (λ (v : Version). IsFrom v x.plan steps' y.rest b) (sym same.versions) (subst (λ (p : Plan). IsFrom y.version p steps' y.rest b) (sym same.plans) other) in
    let text : text_from x.version x.plan [] [] steps x.rest ≡ text_from x.version x.plan [] [] steps' y.rest =
    same.rests ∙ ap (λ (p : Plan). text_from y.version p [] [] steps' y.rest) (sym same.plans)
    ∙ ap (λ (v : Version). text_from v x.plan [] [] steps' y.rest) (sym same.versions) in
    let are = once_from x.version x.plan [] [] steps steps' x.rest y.rest a b (whole_next within octets a x) other'.next text (whole_judges within octets a x) other'.judges in
    record {
      answers = are.one;
      versions = same.versions;
      plans = same.plans;
      closed_are = sym (closed_all x.version x.plan x.closed x.past) ∙ ap (closed_of [] []) are.steps_are ∙ closed_all y.version y.plan y.closed y.past;
      past_are = sym (past_all x.version x.plan x.closed x.past) ∙ ap (past_of [] []) are.steps_are ∙ past_all y.version y.plan y.closed y.past;
    }

header_apart : LeaveWithin → (octets : List ℕ) (a b : Checked) → IsBadHeader octets a → IsAnswerBehind octets b → ⊥
header_apart within octets a b x y =
    not_bad octets x.0 y.version y.plan (text_from y.version y.plan [] [] (steps_of within octets b y) y.rest) x.1 y.begins.plan_is (whole_text within octets b y)

-- an answer of the octets that are seen
pub seen_once : LeaveWithin → (octets : List ℕ) (a b : Checked) → IsBadHeader octets a ⊎ IsAnswerBehind octets a → IsBadHeader octets b ⊎ IsAnswerBehind octets b → a ≡ b
seen_once within octets a b (inl x) (inl y) = x.2 ∙ ap BadLine (bad_once octets x.0 y.0 x.1 y.1) ∙ sym y.2
seen_once within octets a b (inl x) (inr y) = absurd (header_apart within octets a b x y)
seen_once within octets a b (inr x) (inl y) = absurd (header_apart within octets b a y x)
seen_once within octets a b (inr x) (inr y) = let are = behind_alike within octets a b x y in are.answers

pub one_answer : LeaveWithin → HasOneAnswer
one_answer within = λ octets a b x y. seen_once within (seen octets) a b x y

pub one_history : LeaveWithin → HasOneHistory
one_history within = λ octets a b x. (
  (λ bad. header_apart within octets b a bad x),
  (λ y. let are = behind_alike within octets a b x y in (are.versions, are.plans, are.closed_are, are.past_are)),
)
