-- What a turn adds to what segments tell of its port's input, from what its pass had seen; and likewise a move.
use Rattle.std.proofs.Common.{◌≡◌, Bool, true, false, List, [], ◌∷◌, ◌++◌, ap, ◌∙◌, Option, Some}
use Rattle.savi_kinds.specs.declared.port.Port.{Port}
use Rattle.savi_kinds.specs.declared.plan.Plan.{Plan}
use Rattle.savi_kinds.specs.declared.entry.Who.TheVariants.{Ingress}
use Rattle.savi_kinds.specs.declared.entry.How.{How}
use Rattle.savi_kinds.specs.Ports.{number_of}
use Rattle.savi_kinds.specs.Arrivals.{Arrival}
use Rattle.savi_kinds.specs.Arrivals as arrivals
use Rattle.hist_store.specs.Rows.{Row}
use Rattle.checkpoint.specs.Bases.{Base}
use Rattle.savi_history.specs.Endings.{is_paused_reason}
use Rattle.savi_history.specs.Events.{Event, Frame, Long, Command, Tick, Drain, End}
use Rattle.savi_history.specs.Legal.{IsLegal}
use Rattle.savi_history.specs.Passes.{pass_of, place_of}
use Rattle.core_keep.specs.Seen.{IsLater}
use Rattle.live_turns.specs.TurnKinds.{DidEnd, DidInput, DidLook, DidPause, IsFrame, maker_of}
use Rattle.live_input.specs.Entered.{EndsInput, Enters, EntersEvent, TellsSame, told_of}
use Rattle.live_input.proofs.Told.{end_told, frame_told, long_told, pause_told, told_stays}

-- what was found, and what was made of it

module _ (plan : Plan) (base : Base) (found after : List Row) where
  paused_here : (port : Port) → DidPause (Ingress port) plan base found after → TellsSame (number_of port) found after
  paused_here port did earlier = ap (λ (past : List Row). told_of (number_of port) (past ∷ earlier)) did.1 ∙ pause_told plan base found port earlier

  pub enters_here : (event : Event) (was : Bool) → IsFrame event → DidInput event was plan base found after → EntersEvent event was found after
  enters_here (Frame port stamp octets) true is did = λ earlier.
      ap (λ (past : List Row). told_of (number_of port) (past ∷ earlier)) did.1 ∙ frame_told plan base found port earlier stamp octets
  enters_here (Frame port stamp octets) false is did = paused_here port did
  enters_here (Long port stamp len) true is did = λ earlier.
      ap (λ (past : List Row). told_of (number_of port) (past ∷ earlier)) did.1 ∙ long_told plan base found port earlier stamp len
  enters_here (Long port stamp len) false is did = paused_here port did
  enters_here (Command stamp line) was is did = absurd is
  enters_here (Tick stamp) was is did = absurd is
  enters_here (Drain port count) was is did = absurd is
  enters_here (End who how) was is did = absurd is

  pub ends_here : (port : Port) (how : How) → is_paused_reason how ≡ false → DidEnd (Ingress port) how plan base found after → EndsInput (number_of port) how found after
  ends_here port how unpaused did earlier = ap (λ (past : List Row). told_of (number_of port) (past ∷ earlier)) did ∙ end_told plan base found port earlier how unpaused

  pub looks_here : (port : Port) (paused : Bool) → DidLook (Ingress port) paused plan base found after → TellsSame (number_of port) found after
  looks_here port true did = paused_here port did
  looks_here port false did = λ earlier. ap (λ (past : List Row). told_of (number_of port) (past ∷ earlier)) did.1

-- what the pass had seen before its turn

module _ (plan : Plan) (base : Base) (before found after : List Row) (legal : IsLegal plan base found) where
  same_since : (port : Port) → IsLater (place_of plan (number_of port)) before found → TellsSame (number_of port) before found
  same_since port later earlier = told_stays plan base (number_of port) earlier before found legal later

  same_through : (port : Port) → IsLater (place_of plan (number_of port)) before found → TellsSame (number_of port) found after → TellsSame (number_of port) before after
  same_through port later same earlier = same earlier ∙ same_since port later earlier

  enters_through : (port : Port) (x : Arrival) → IsLater (place_of plan (number_of port)) before found → Enters (number_of port) x found after → Enters (number_of port) x before after
  enters_through port x later enters earlier =
      enters earlier ∙ ap (λ (t : List Arrival × Option How). (t.0 ++ x ∷ [], t.1)) (same_since port later earlier)

  pub enters_event : (event : Event) (was : Bool) → IsFrame event → IsLater (pass_of plan (maker_of event)) before found → DidInput event was plan base found after → EntersEvent event was before after
  enters_event (Frame port stamp octets) true is later did = enters_through port (arrivals.Frame stamp octets) later (enters_here plan base found after (Frame port stamp octets) true is did)
  enters_event (Frame port stamp octets) false is later did = same_through port later (enters_here plan base found after (Frame port stamp octets) false is did)
  enters_event (Long port stamp len) true is later did = enters_through port (arrivals.Long stamp len) later (enters_here plan base found after (Long port stamp len) true is did)
  enters_event (Long port stamp len) false is later did = same_through port later (enters_here plan base found after (Long port stamp len) false is did)
  enters_event (Command stamp line) was is later did = absurd is
  enters_event (Tick stamp) was is later did = absurd is
  enters_event (Drain port count) was is later did = absurd is
  enters_event (End who how) was is later did = absurd is

  pub ends_input : (port : Port) (how : How) → is_paused_reason how ≡ false → IsLater (place_of plan (number_of port)) before found → DidEnd (Ingress port) how plan base found after → EndsInput (number_of port) how before after
  ends_input port how unpaused later did earlier =
      ends_here plan base found after port how unpaused did earlier ∙ ap (λ (t : List Arrival × Option How). (t.0, Some how)) (same_since port later earlier)

  pub looks : (port : Port) (paused : Bool) → IsLater (place_of plan (number_of port)) before found → DidLook (Ingress port) paused plan base found after → TellsSame (number_of port) before after
  looks port paused later did = same_through port later (looks_here plan base found after port paused did)
