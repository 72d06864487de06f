-- What is taken of control's ring: what is kept comes first, and behind a reply that couldn't be written it is passed over.
use Rattle.std.proofs.Common.{◌≡◌, ℕ, Bool, true, false, List, [], ◌∷◌, ◌++◌, refl, sym, ap, subst, ◌∙◌, append-nil, Option, Some, None}
use Rattle.std.specs.Prelude.{MatchOption}
use Rattle.std.proofs.lemmas.List.{map-append}
use Rattle.savi_kinds.specs.declared.plan.Plan.{Plan}
use Rattle.savi_kinds.specs.declared.entry.How.{How}
use Rattle.savi_kinds.specs.declared.entry.How.TheVariants as hows
use Rattle.hist_store.specs.Rows.{Row}
use Rattle.savi_history.specs.ControlInputs.{control_end, entered_lines}
use Rattle.savi_segments.specs.Unbroken.{unbroken}
use Rattle.intake_ring.specs.Sides.{taken_of}
use Rattle.control_reader.specs.Answered.{AnswersSo, waiting_line}
use Rattle.control_reader.specs.Heard.{HeardLine, all_heard, all_said, line_heard_of, lines_taken}
use Rattle.control_reader.specs.declared.arrival.LineArrival.{LineArrival}
use Rattle.live_session.specs.Standing.{Replies, RepliesOr}
use Rattle.live_control.specs.Sides.{ControlGoes, SideGoes, SideStands, heard_in}
use Rattle.live_control.specs.declared.side.ControlSide.{ControlSide}
use Rattle.live_control.proofs.Serving.{goes_stands, passed_more, stands_goes}

heard_append : (xs ys : List LineArrival) → all_heard (xs ++ ys) ≡ all_heard xs ++ all_heard ys
heard_append xs ys = map-append line_heard_of xs ys

-- what is kept comes first, and else what is taken

pub next_kept : (entered : List HeardLine) (taken : List LineArrival) (kept : Option LineArrival) (came : LineArrival) → kept ≡ Some came → all_heard taken ≡ entered ++ waiting_line (heard_in kept)
    → all_heard taken ≡ entered ++ waiting_line (heard_in (Some came))
next_kept entered taken kept came is was = was ∙ ap (λ (o : Option LineArrival). entered ++ waiting_line (heard_in o)) is

pub next_taken : (entered : List HeardLine) (taken now : List LineArrival) (kept result : Option LineArrival) → kept ≡ None
    → MatchOption result (now ≡ taken) (λ came. now ≡ taken ++ came ∷ []) → all_heard taken ≡ entered ++ waiting_line (heard_in kept) → all_heard now ≡ entered ++ waiting_line (heard_in result)
next_taken entered taken now kept None none same was = ap all_heard same ∙ was ∙ ap (λ (o : Option LineArrival). entered ++ waiting_line (heard_in o)) none
next_taken entered taken now kept (Some came) none more was =
    ap all_heard more
    ∙ heard_append taken (came ∷ [])
    ∙ ap (λ (l : List HeardLine). l ++ line_heard_of came ∷ []) (was ∙ ap (λ (o : Option LineArrival). entered ++ waiting_line (heard_in o)) none ∙ append-nil entered)

module _ {K : Type 0} (written : K → Option (List ℕ)) (faults : K → ℕ) (plan : Plan) (segments : List (List Row)) (first : K) where
  -- a side that goes on stands, and one that stands goes on where control hasn't ended

  pub side_stands : (side : ControlSide K) → SideGoes written faults plan segments first side → SideStands written faults plan segments first side
  side_stands side goes = record {
    stands = goes_stands written faults plan segments (lines_taken side.taker) (heard_in side.kept) first side.sink goes.goes;
    passes = λ over. let never : false ≡ true = sym goes.enters ∙ over in cc;
  }

  none_passed : (passes : Bool) (end : Option How) → end ≡ None → (passes ≡ true → end ≡ Some hows.Unwritten) → passes ≡ false
  none_passed true end none why = let never : None ≡ Some hows.Unwritten = sym none ∙ why refl in cc
  none_passed false end none why = refl

  pub side_goes : (side : ControlSide K) → control_end (unbroken segments) ≡ None → SideStands written faults plan segments first side → SideGoes written faults plan segments first side
  side_goes side unended stands = record {
    goes = stands_goes written faults plan segments (lines_taken side.taker) (heard_in side.kept) first side.sink unended stands.stands;
    enters = none_passed side.passes_over (control_end (unbroken segments)) unended stands.passes;
  }

  -- what is to be answered next of control that goes on
  pub goes_next : (old new : ControlSide K) (next : Option HeardLine) → new.sink ≡ old.sink
      → ((entered : List HeardLine) → lines_taken old.taker ≡ entered ++ waiting_line (heard_in old.kept) → lines_taken new.taker ≡ entered ++ waiting_line next)
      → ControlGoes written faults plan segments (lines_taken old.taker) (heard_in old.kept) first old.sink → ControlGoes written faults plan segments (lines_taken new.taker) next first new.sink
  goes_next old new next same step goes = record {
    open_end = goes.open_end;
    none = goes.none;
    all = step (all_said (entered_lines (unbroken segments))) goes.all;
    replied = subst (λ (k : K). Replies written faults plan segments first k) (sym same) goes.replied;
  }

  -- something was passed over, which is done only behind a reply that couldn't be written
  pub one_passed : (old new : ControlSide K) (came : LineArrival) → old.passes_over ≡ true → taken_of new.taker ≡ taken_of old.taker ++ came ∷ [] → new.kept ≡ old.kept → new.sink ≡ old.sink
      → SideStands written faults plan segments first old → SideStands written faults plan segments first new
  one_passed old new came over taken kept sink stands =
      let unwritten = stands.passes over in
      let answers = subst (λ (end : Option How). AnswersSo (entered_lines (unbroken segments)) end (lines_taken old.taker) (heard_in old.kept)) unwritten stands.stands.answers in
      let more = passed_more (entered_lines (unbroken segments)) (lines_taken old.taker) (lines_taken new.taker) (line_heard_of came ∷ []) (heard_in old.kept) (ap all_heard taken ∙ heard_append (taken_of old.taker) (came ∷ [])) answers in
      record {
        stands = record {
          answers = subst (λ (end : Option How). AnswersSo (entered_lines (unbroken segments)) end (lines_taken new.taker) (heard_in new.kept)) (sym unwritten)
              (subst (λ (o : Option LineArrival). AnswersSo (entered_lines (unbroken segments)) (Some hows.Unwritten) (lines_taken new.taker) (heard_in o)) (sym kept) more);
          replies = subst (λ (k : K). RepliesOr written faults (control_end (unbroken segments)) plan segments first k) (sym sink) stands.stands.replies;
        };
        passes = λ still. unwritten;
      }
