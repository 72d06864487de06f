-- Whether a pass has ended behind its turn, and that the turn made one entry of it at most.
use Rattle.std.proofs.Common.{◌≡◌, ℕ, Bool, true, false, not, List, length, refl, ap, ◌∙◌, inl, inr, ◌⊎◌}
use Rattle.savi_kinds.specs.declared.port.Port.{Port}
use Rattle.savi_kinds.specs.declared.plan.Plan.{Plan}
use Rattle.savi_kinds.specs.declared.entry.Who.{Who}
use Rattle.savi_kinds.specs.declared.entry.Who.TheVariants.{Ingress, Control, Ticker, Egress}
use Rattle.savi_kinds.specs.declared.entry.How.{How}
use Rattle.savi_kinds.specs.declared.entry.How.TheVariants as hows
use Rattle.hist_store.specs.Rows.{Row}
use Rattle.checkpoint.specs.Bases.{Base}
use Rattle.savi_history.specs.Events.{Event, Frame, Long, Command, Tick, Drain, End}
use Rattle.savi_history.specs.Passes.{has_ended, pass_of}
use Rattle.savi_history.specs.Queues.{Item}
use Rattle.savi_history.specs.Replay.{closing, with_event}
use Rattle.savi_history.proofs.Waiting.{ended_now}
use Rattle.live_turns.specs.TurnKinds.{DidDrain, DidEnd, DidInput, DidLine, DidLook, DidTick, IsFrame, ends_egress, ends_ticker, maker_of}
use Rattle.live_turns.specs.declared.kinds.TickTurn.{TickTurn}
use Rattle.live_turns.specs.declared.kinds.TickTurn.TheVariants as ticks
use Rattle.live_turns.specs.declared.kinds.DrainTurn.{DrainTurn}
use Rattle.live_turns.specs.declared.kinds.DrainTurn.TheVariants as drains

-- whether the pass has ended behind its turn

module _ (plan : Plan) (base : Base) (past now : List Row) where
  behind_end : (who : Who) (how : How) → DidEnd who how plan base past now → has_ended base (pass_of plan who) now ≡ true
  behind_end who how did = ap (has_ended base (pass_of plan who)) did ∙ ended_now plan base past who how

  pub end_state : (who : Who) (how : How) → DidEnd who how plan base past now → has_ended base (pass_of plan who) now ≡ true
  end_state who how did = behind_end who how did

  pub look_state : (who : Who) (paused : Bool) → has_ended base (pass_of plan who) past ≡ false → DidLook who paused plan base past now → has_ended base (pass_of plan who) now ≡ paused
  look_state who true running did = behind_end who hows.Paused did.1
  look_state who false running did = ap (has_ended base (pass_of plan who)) did.1 ∙ running

  pub frame_state : (event : Event) (entered : Bool) → IsFrame event → has_ended base (pass_of plan (maker_of event)) past ≡ false → DidInput event entered plan base past now → has_ended base (pass_of plan (maker_of event)) now ≡ not entered
  frame_state event false frame running did = behind_end (maker_of event) hows.Paused did.1
  frame_state (Frame port stamp octets) true frame running did = ap (has_ended base (pass_of plan (Ingress port))) did.1 ∙ running
  frame_state (Long port stamp len) true frame running did = ap (has_ended base (pass_of plan (Ingress port))) did.1 ∙ running
  frame_state (Command stamp line) true frame running did = absurd frame
  frame_state (Tick stamp) true frame running did = absurd frame
  frame_state (Drain port count) true frame running did = absurd frame
  frame_state (End who how) true frame running did = absurd frame

  pub line_state : (stamp : ℕ) (line reply : List ℕ) (entered : Bool) → has_ended base (pass_of plan Control) past ≡ false → DidLine stamp line entered reply plan base past now → has_ended base (pass_of plan Control) now ≡ not entered
  line_state stamp line reply false running did = behind_end Control hows.Paused did.1
  line_state stamp line reply true running did = ap (has_ended base (pass_of plan Control)) did.0.1 ∙ running

  pub tick_state : (stamp : ℕ) (came : TickTurn) → has_ended base (pass_of plan Ticker) past ≡ false → DidTick stamp came plan base past now → has_ended base (pass_of plan Ticker) now ≡ ends_ticker came
  tick_state stamp ticks.Made running did = ap (has_ended base (pass_of plan Ticker)) did.2 ∙ running
  tick_state stamp ticks.Idle running did = ap (has_ended base (pass_of plan Ticker)) did.2 ∙ running
  tick_state stamp ticks.Full running did = ap (has_ended base (pass_of plan Ticker)) did.2 ∙ running
  tick_state stamp ticks.Ended running did = behind_end Ticker (closing past) did.2

  pub drain_state : (port : Port) (batch : List Item) (came : DrainTurn) → has_ended base (pass_of plan (Egress port)) past ≡ false → DidDrain port batch came plan base past now → has_ended base (pass_of plan (Egress port)) now ≡ ends_egress came
  drain_state port batch drains.Took running did = ap (has_ended base (pass_of plan (Egress port))) did.2 ∙ running
  drain_state port batch drains.Idle running did = ap (has_ended base (pass_of plan (Egress port))) did.3 ∙ running
  drain_state port batch drains.Ended running did = behind_end (Egress port) (closing past) did.3

  -- one entry of the pass at most
  abbrev pub MakesOne : Who → Type 0
  MakesOne who = (now ≡ past) ⊎ ((event : Event) × (maker_of event ≡ who) × (now ≡ with_event plan base past event))

  pub end_one : (who : Who) (how : How) → DidEnd who how plan base past now → MakesOne who
  end_one who how did = inr (End who how, refl, did)

  pub look_one : (who : Who) (paused : Bool) → DidLook who paused plan base past now → MakesOne who
  look_one who true did = end_one who hows.Paused did.1
  look_one who false did = inl did.1

  pub frame_one : (event : Event) (entered : Bool) → DidInput event entered plan base past now → MakesOne (maker_of event)
  frame_one event true did = inr (event, refl, did.1)
  frame_one event false did = end_one (maker_of event) hows.Paused did.1

  pub line_one : (stamp : ℕ) (line reply : List ℕ) (entered : Bool) → DidLine stamp line entered reply plan base past now → MakesOne Control
  line_one stamp line reply true did = inr (Command stamp line, refl, did.0.1)
  line_one stamp line reply false did = end_one Control hows.Paused did.1

  pub tick_one : (stamp : ℕ) (came : TickTurn) → DidTick stamp came plan base past now → MakesOne Ticker
  tick_one stamp ticks.Made did = inr (Tick stamp, refl, did.2)
  tick_one stamp ticks.Idle did = inl did.2
  tick_one stamp ticks.Full did = inl did.2
  tick_one stamp ticks.Ended did = end_one Ticker (closing past) did.2

  pub drain_one : (port : Port) (batch : List Item) (came : DrainTurn) → DidDrain port batch came plan base past now → MakesOne (Egress port)
  drain_one port batch drains.Took did = inr (Drain port (length batch), refl, did.2)
  drain_one port batch drains.Idle did = inl did.3
  drain_one port batch drains.Ended did = end_one (Egress port) (closing past) did.3
