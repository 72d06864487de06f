-- What was taken and is kept, and what the segments tell of it, turn after turn.
use Rattle.std.proofs.Common.{◌≡◌, ℕ, Bool, true, false, not, List, [], ◌∷◌, ◌++◌, refl, sym, ap, subst, ◌∙◌, append-nil, Option, Some, None}
use Rattle.std.specs.Prelude.{MatchOption, box_value}
use Rattle.std.specs.declared.boxed.Box.{Box}
use Rattle.std.specs.Global.{Global}
use Rattle.std.proofs.lemmas.List.{map-append}
use Rattle.savi_kinds.specs.declared.plan.Plan.{Plan}
use Rattle.savi_kinds.specs.declared.entry.How.{How}
use Rattle.savi_kinds.specs.Arrivals.{Arrival}
use Rattle.hist_store.specs.Rows.{Row}
use Rattle.checkpoint.specs.Bases.{Base}
use Rattle.savi_history.specs.Legal.{IsLegal}
use Rattle.savi_history.specs.Passes.{has_ended, has_port, place_of}
use Rattle.savi_history.specs.PortInputs.{arrived, input_end}
use Rattle.savi_segments.specs.Segments.{AreLegal, base_after}
use Rattle.savi_segments.specs.Unbroken.{unbroken}
use Rattle.parcel_ring.specs.Handed.{Handed, Arrived, Ended}
use Rattle.port_reader.specs.Judging.{JudgesSo, waiting}
use Rattle.port_reader.specs.Rows.{all_handed}
use Rattle.live_session.specs.Standing.{InputStands}
use Rattle.live_input.specs.Entered.{EntersOr, TellsSame, told_of}
use Rattle.live_turns.proofs.OpenEnds.{input_open}
use Rattle.live_input.specs.Judged.{HasNotEnded, InputGoes, JudgesOne, StandsAs, has_stopped, kept_behind, kept_of, state_behind}
use Rattle.live_input.specs.declared.state.InputState.{InputState}
use Rattle.live_input.specs.declared.state.InputState.TheVariants as states

handed_append : (xs ys : List Arrival) → all_handed (xs ++ ys) ≡ all_handed xs ++ all_handed ys
handed_append xs ys = map-append (λ (x : Arrival). Arrived x) xs ys

module _ (port : ℕ) (segments : List (List Row)) (taken : List Handed) (kept : Option Handed) where
  -- an input that goes on stands
  pub goes_stands : InputGoes port segments taken kept → InputStands port segments taken kept
  goes_stands goes = subst (λ (end : Option How). JudgesSo (arrived port (unbroken segments)) end taken kept) (sym goes.open_end) goes.all

  -- and one that stands goes on, where it hasn't ended
  pub stands_goes : input_end port (unbroken segments) ≡ None → InputStands port segments taken kept → InputGoes port segments taken kept
  stands_goes unended stands = record {
    open_end = unended;
    all = subst (λ (end : Option How). JudgesSo (arrived port (unbroken segments)) end taken kept) unended stands;
  }

  pub stands_as : (state : InputState) → StandsAs state port segments taken kept → InputStands port segments taken kept
  stands_as states.Open goes = goes_stands goes
  stands_as states.Paused goes = goes_stands goes
  stands_as states.Ended stands = stands

-- what is told stays, and so does how the input stands
module _ (port : ℕ) (old new : List (List Row)) (taken : List Handed) where
  pub goes_same : (kept : Option Handed) → told_of port new ≡ told_of port old → InputGoes port old taken kept → InputGoes port new taken kept
  goes_same kept same goes = record {
    open_end = ap (λ (t : List Arrival × Option How). t.1) same ∙ goes.open_end;
    all = goes.all ∙ ap (λ (t : List Arrival × Option How). all_handed t.0 ++ waiting kept) (sym same);
  }

  goes_more : (x : Arrival) → told_of port new ≡ (arrived port (unbroken old) ++ x ∷ [], input_end port (unbroken old)) → InputGoes port old taken (Some (Arrived x)) → InputGoes port new taken None
  goes_more x told goes = record {
    open_end = ap (λ (t : List Arrival × Option How). t.1) told ∙ goes.open_end;
    all = goes.all
        ∙ sym (handed_append (arrived port (unbroken old)) (x ∷ []))
        ∙ ap (λ (t : List Arrival × Option How). all_handed t.0) (sym told)
        ∙ sym (append-nil (all_handed (arrived port (unbroken new))));
  }

  ends_so : (how : How) → told_of port new ≡ (arrived port (unbroken old), Some how) → InputGoes port old taken (Some (Ended how)) → InputStands port new taken None
  ends_so how told goes =
      subst (λ (t : List Arrival × Option How). JudgesSo t.0 t.1 taken None) (sym told) (goes.all, refl)

-- one was judged
pub judged : (port : ℕ) (handed : Handed) (state : InputState) (before after : List Row) (earlier : List (List Row)) (taken : List Handed) → JudgesOne port handed state before after
    → InputGoes port (before ∷ earlier) taken (Some handed) → StandsAs state port (after ∷ earlier) taken (kept_behind state handed)
judged port (Arrived x) states.Open before after earlier taken enters goes = goes_more port (before ∷ earlier) (after ∷ earlier) taken x (enters earlier) goes
judged port (Arrived x) states.Paused before after earlier taken same goes = goes_same port (before ∷ earlier) (after ∷ earlier) taken (Some (Arrived x)) (same earlier) goes
judged port (Arrived x) states.Ended before after earlier taken never goes = absurd never
judged port (Ended how) states.Open before after earlier taken never goes = absurd never
judged port (Ended how) states.Paused before after earlier taken never goes = absurd never
judged port (Ended how) states.Ended before after earlier taken ends goes = ends_so port (before ∷ earlier) (after ∷ earlier) taken how (ends earlier) goes

-- the pass goes on
pub goes_as : (port : ℕ) (segments : List (List Row)) (taken : List Handed) (kept : Option Handed) (state : InputState) → has_stopped state ≡ false → StandsAs state port segments taken kept → InputGoes port segments taken kept
goes_as port segments taken kept states.Open on goes = goes
goes_as port segments taken kept states.Paused on goes = let never : true ≡ false = on in cc
goes_as port segments taken kept states.Ended on stands = let never : true ≡ false = on in cc

-- an arrival that was entered, or wasn't
pub judged_arrival : (port : ℕ) (x : Arrival) (was : Bool) (state : InputState) (before after : List Row) → state ≡ state_behind was → EntersOr port x was before after → JudgesOne port (Arrived x) state before after
judged_arrival port x true state before after is enters = subst (λ (s : InputState). JudgesOne port (Arrived x) s before after) (sym is) enters
judged_arrival port x false state before after is same = subst (λ (s : InputState). JudgesOne port (Arrived x) s before after) (sym is) same

-- nothing was judged
pub not_judged : (port : ℕ) (before after : List Row) (earlier : List (List Row)) (taken : List Handed) (kept : Option Handed) (state : InputState) → HasNotEnded state → TellsSame port before after
    → InputGoes port (before ∷ earlier) taken kept → StandsAs state port (after ∷ earlier) taken kept
not_judged port before after earlier taken kept states.Open unended same goes = goes_same port (before ∷ earlier) (after ∷ earlier) taken kept (same earlier) goes
not_judged port before after earlier taken kept states.Paused unended same goes = goes_same port (before ∷ earlier) (after ∷ earlier) taken kept (same earlier) goes
not_judged port before after earlier taken kept states.Ended unended same goes = absurd unended

-- how an input stands behind a look at the room

pub stopped_behind : (paused : Bool) (state : InputState) → state ≡ state_behind (not paused) → paused ≡ has_stopped state
stopped_behind true state is = sym (ap has_stopped is)
stopped_behind false state is = sym (ap has_stopped is)

pub unended_behind : (room : Bool) (state : InputState) → state ≡ state_behind room → HasNotEnded state
unended_behind true state is = subst (λ (s : InputState). HasNotEnded s) (sym is) tt
unended_behind false state is = subst (λ (s : InputState). HasNotEnded s) (sym is) tt

-- what is kept is judged next, and else what is taken

pub next_kept : (entered taken : List Handed) (kept : Option (Box Handed Global)) (parcel : Box Handed Global) → kept ≡ Some parcel → taken ≡ entered ++ waiting (kept_of kept)
    → taken ≡ entered ++ waiting (kept_of (Some parcel))
next_kept entered taken kept parcel is was = was ∙ ap (λ (o : Option (Box Handed Global)). entered ++ waiting (kept_of o)) is

pub next_taken : (entered taken now : List Handed) (kept result : Option (Box Handed Global)) → kept ≡ None
    → MatchOption result (now ≡ taken) (λ parcel. now ≡ taken ++ box_value parcel ∷ []) → taken ≡ entered ++ waiting (kept_of kept) → now ≡ entered ++ waiting (kept_of result)
next_taken entered taken now kept None none same was = same ∙ was ∙ ap (λ (o : Option (Box Handed Global)). entered ++ waiting (kept_of o)) none
next_taken entered taken now kept (Some parcel) none more was =
    more
    ∙ ap (λ (l : List Handed). l ++ box_value parcel ∷ []) (was ∙ ap (λ (o : Option (Box Handed Global)). entered ++ waiting (kept_of o)) none ∙ append-nil entered)

-- what is to be judged next of an input that goes on
pub goes_next : (port : ℕ) (segments : List (List Row)) (taken now : List Handed) (kept next : Option (Box Handed Global))
    → ((entered : List Handed) → taken ≡ entered ++ waiting (kept_of kept) → now ≡ entered ++ waiting (kept_of next))
    → InputGoes port segments taken (kept_of kept) → InputGoes port segments now (kept_of next)
goes_next port segments taken now kept next step goes = record { open_end = goes.open_end; all = step (all_handed (arrived port (unbroken segments))) goes.all }

-- a pass that hasn't ended judges an input that goes on

pub first_goes : (plan : Plan) (base : Base) (port : ℕ) (before : List (List Row)) (past : List Row) (taken : List Handed) (kept : Option Handed) → past ≡ [] → has_port plan port ≡ true → base ≡ base_after plan before
    → has_ended base (place_of plan port) [] ≡ false → AreLegal plan before → InputStands port before taken kept → InputGoes port (past ∷ before) taken kept
first_goes plan base port before past taken kept none known same running all stands =
    subst (λ (rows : List Row). InputGoes port (rows ∷ before) taken kept) (sym none)
    (stands_goes port ([] ∷ before) taken kept (input_open plan [] before tt all port known (subst (λ (b : Base). has_ended b (place_of plan port) [] ≡ false) same running)) stands)

pub open_goes : (plan : Plan) (base : Base) (port : ℕ) (before : List (List Row)) (past : List Row) (taken : List Handed) (kept : Option Handed) → has_port plan port ≡ true → base ≡ base_after plan before
    → has_ended base (place_of plan port) past ≡ false → IsLegal plan base past → AreLegal plan before → InputStands port (past ∷ before) taken kept → InputGoes port (past ∷ before) taken kept
open_goes plan base port before past taken kept known same running legal all stands =
    stands_goes port (past ∷ before) taken kept
    (input_open plan past before (subst (λ (b : Base). IsLegal plan b past) same legal) all port known (subst (λ (b : Base). has_ended b (place_of plan port) past ≡ false) same running)) stands
