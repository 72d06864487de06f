-- Control's side, step after step.
use Rattle.std.proofs.Common.{◌≡◌, ℕ, true, false, List, [], ◌∷◌, refl, sym, ap, subst, ◌∙◌, Option, Some, None}
use Rattle.savi_kinds.specs.declared.plan.Plan.{Plan}
use Rattle.savi_kinds.specs.declared.entry.How.{How}
use Rattle.savi_kinds.specs.declared.entry.How.TheVariants as hows
use Rattle.cli_lang.specs.Arrivals.{Line}
use Rattle.hist_store.specs.Rows.{Row}
use Rattle.checkpoint.specs.Bases.{Base}
use Rattle.savi_history.specs.Endings.{is_unwritten_reason}
use Rattle.savi_history.specs.Legal.{IsLegal}
use Rattle.savi_history.specs.Passes.{control_pass, has_ended}
use Rattle.savi_segments.specs.Segments.{AreLegal, base_after}
use Rattle.control_reader.specs.Heard.{HeardLine, Said, Ended, lines_taken, reason_of}
use Rattle.control_reader.specs.declared.arrival.LinesEnd.{LinesEnd}
use Rattle.live_session.specs.Standing.{ControlStands}
use Rattle.live_turns.proofs.OpenEnds.{control_open}
use Rattle.live_control.specs.LineTurns.{AnswersLine, EndsControl, TellsSameLines}
use Rattle.live_control.specs.Sides.{ControlGoes, SideGoes, SideStands, StandsAs, heard_in}
use Rattle.live_control.specs.States.{IsUnended, has_stopped_answering, is_unwritten, kept_line_behind}
use Rattle.live_control.specs.declared.side.ControlSide.{ControlSide}
use Rattle.live_control.specs.declared.state.ControlState.{ControlState}
use Rattle.live_control.specs.declared.state.ControlState.TheVariants as states
use Rattle.live_control.proofs.Passing.{side_goes, side_stands}
use Rattle.live_control.proofs.Serving.{first_stands, goes_line, goes_same, input_ended, line_last}

unwritten_is : (how : How) → is_unwritten_reason how ≡ true → how ≡ hows.Unwritten
unwritten_is hows.Unwritten is = refl
unwritten_is hows.End is = let never : false ≡ true = is in cc
unwritten_is hows.Quit is = let never : false ≡ true = is in cc
unwritten_is (hows.Malformed at) is = let never : false ≡ true = is in cc
unwritten_is (hows.Overlong at) is = let never : false ≡ true = is in cc
unwritten_is hows.Failed is = let never : false ≡ true = is in cc
unwritten_is hows.Paused is = let never : false ≡ true = is in cc

module _ {K : Type 0} (written : K → Option (List ℕ)) (faults : K → ℕ) (plan : Plan) (first : K) where
  pub stands_as : (segments : List (List Row)) (state : ControlState) (side : ControlSide K) → StandsAs written faults plan segments state first side → SideStands written faults plan segments first side
  stands_as segments states.Open side goes = side_stands written faults plan segments first side goes
  stands_as segments states.Paused side goes = side_stands written faults plan segments first side goes
  stands_as segments (states.Ended how) side stands = stands

  pub goes_as : (segments : List (List Row)) (state : ControlState) (side : ControlSide K) → has_stopped_answering state ≡ false → StandsAs written faults plan segments state first side → SideGoes written faults plan segments first side
  goes_as segments states.Open side on goes = goes
  goes_as segments states.Paused side on goes = let never : true ≡ false = on in cc
  goes_as segments (states.Ended how) side on stands = let never : true ≡ false = on in cc

  module _ (base : Base) (before after : List Row) (earlier : List (List Row)) (from : base ≡ base_after plan earlier) (new : ControlSide K) where
    abbrev now : List (List Row)
    now = after ∷ earlier

    abbrev Was : List HeardLine → Option HeardLine → K → Type 0
    Was taken kept sink = ControlGoes written faults plan (before ∷ earlier) taken kept first sink

    -- by what was taken, and what is kept
    goes_at : (taken : List HeardLine) (kept : Option HeardLine) → lines_taken new.taker ≡ taken → heard_in new.kept ≡ kept → ControlGoes written faults plan now taken kept first new.sink
        → ControlGoes written faults plan now (lines_taken new.taker) (heard_in new.kept) first new.sink
    goes_at taken kept same_taken same_kept goes =
        subst (λ (t : List HeardLine × Option HeardLine). ControlGoes written faults plan now t.0 t.1 first new.sink) (λ i. (sym same_taken i, sym same_kept i)) goes

    stands_at : (taken : List HeardLine) (kept : Option HeardLine) → lines_taken new.taker ≡ taken → heard_in new.kept ≡ kept → ControlStands written faults plan now taken kept first new.sink
        → ControlStands written faults plan now (lines_taken new.taker) (heard_in new.kept) first new.sink
    stands_at taken kept same_taken same_kept stands =
        subst (λ (t : List HeardLine × Option HeardLine). ControlStands written faults plan now t.0 t.1 first new.sink) (λ i. (sym same_taken i, sym same_kept i)) stands

    -- a line was taken, and this became of it
    pub line_side : (line : Line) (state : ControlState) (taken : List HeardLine) (sink : K) → Was taken (Some (Said line)) sink → AnswersLine written faults plan base line state before after sink new.sink
        → lines_taken new.taker ≡ taken → heard_in new.kept ≡ kept_line_behind state (Said line) → new.passes_over ≡ is_unwritten state → StandsAs written faults plan now state first new
    line_side line states.Open taken sink goes answers same_taken same_kept passes = record {
      goes = goes_at taken None same_taken same_kept (goes_line written faults plan base before after earlier from line taken first sink new.sink goes answers);
      enters = passes;
    }
    line_side line states.Paused taken sink goes answers same_taken same_kept passes = record {
      goes = goes_at taken (Some (Said line)) same_taken same_kept
          (subst (λ (k : K). ControlGoes written faults plan now taken (Some (Said line)) first k) (sym answers.1) (goes_same written faults plan base before after earlier from taken (Some (Said line)) first sink answers.0 goes));
      enters = passes;
    }
    line_side line (states.Ended how) taken sink goes answers same_taken same_kept passes = record {
      stands = stands_at taken None same_taken same_kept (line_last written faults plan base before after earlier from line taken first sink new.sink goes how answers);
      passes = λ over. ap (λ (t : List Line × Option How). t.1) (answers.told earlier) ∙ ap (λ (h : How). Some h) (unwritten_is how (sym passes ∙ over));
    }

    -- the input has ended
    pub end_side : (end : LinesEnd) (taken : List HeardLine) (sink : K) → Was taken (Some (Ended (reason_of end))) sink → EndsControl plan base (reason_of end) before after
        → lines_taken new.taker ≡ taken → new.kept ≡ None → new.sink ≡ sink → new.passes_over ≡ false → SideStands written faults plan now first new
    end_side end taken sink goes ended same_taken none same_sink enters = record {
      stands = stands_at taken None same_taken (ap heard_in none)
          (subst (λ (k : K). ControlStands written faults plan now taken None first k) (sym same_sink) (input_ended written faults plan base before after earlier from taken first sink end ended goes));
      passes = λ over. let never : false ≡ true = sym enters ∙ over in cc;
    }

    -- nothing was taken, or entered
    pub look_side : (state : ControlState) (taken : List HeardLine) (kept : Option HeardLine) (sink : K) → IsUnended state → Was taken kept sink → TellsSameLines plan base before after
        → lines_taken new.taker ≡ taken → heard_in new.kept ≡ kept → new.sink ≡ sink → new.passes_over ≡ false → StandsAs written faults plan now state first new
    look_side state taken kept sink unended goes same same_taken same_kept same_sink enters = by_state state unended
      where
        side : SideGoes written faults plan now first new
        side = record {
          goes = goes_at taken kept same_taken same_kept
              (subst (λ (k : K). ControlGoes written faults plan now taken kept first k) (sym same_sink) (goes_same written faults plan base before after earlier from taken kept first sink same goes));
          enters = enters;
        }

        by_state : (s : ControlState) → IsUnended s → StandsAs written faults plan now s first new
        by_state states.Open unended = side
        by_state states.Paused unended = side
        by_state (states.Ended how) unended = absurd unended

  -- a pass that hasn't ended answers control that goes on

  pub first_side : (base : Base) (before : List (List Row)) (past : List Row) (side : ControlSide K) → past ≡ [] → base ≡ base_after plan before → has_ended base (control_pass plan) [] ≡ false → AreLegal plan before
      → SideStands written faults plan before first side → SideGoes written faults plan (past ∷ before) first side
  first_side base before past side none same running all stands =
      subst (λ (rows : List Row). SideGoes written faults plan (rows ∷ before) first side) (sym none)
      (side_goes written faults plan ([] ∷ before) first side (control_open plan [] before tt all (subst (λ (b : Base). has_ended b (control_pass plan) [] ≡ false) same running)) (record { stands = first_stands written faults plan before stands.stands; passes = stands.passes }))

  pub open_side : (base : Base) (before : List (List Row)) (past : List Row) (side : ControlSide K) → base ≡ base_after plan before → has_ended base (control_pass plan) past ≡ false → IsLegal plan base past → AreLegal plan before
      → SideStands written faults plan (past ∷ before) first side → SideGoes written faults plan (past ∷ before) first side
  open_side base before past side same running legal all stands =
      side_goes written faults plan (past ∷ before) first side
      (control_open plan past before (subst (λ (b : Base). IsLegal plan b past) same legal) all (subst (λ (b : Base). has_ended b (control_pass plan) past ≡ false) same running)) stands
