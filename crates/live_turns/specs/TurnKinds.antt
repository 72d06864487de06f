-- What a turn did, by its kind: from the history that it found to that which it left. It makes one entry at most.
use Rattle.std.specs.Prelude.{◌≡◌, ◌≢◌, ℕ, ◌+◌, ◌<◌, ◌≤◌, Bool, true, false, List, [], length}
use Rattle.savi_kinds.specs.declared.port.Port.{Port}
use Rattle.savi_kinds.specs.declared.plan.Plan.{Plan}
use Rattle.savi_kinds.specs.declared.entry.Who.{Who}
use Rattle.savi_kinds.specs.declared.entry.Who.TheVariants.{Ingress, Control, Ticker, Egress}
use Rattle.savi_kinds.specs.declared.entry.How.{How}
use Rattle.savi_kinds.specs.declared.entry.How.TheVariants as hows
use Rattle.savi_kinds.specs.Ports.{number_of}
use Rattle.hist_store.specs.Rows.{Row}
use Rattle.checkpoint.specs.Bases.{Base}
use Rattle.savi_history.specs.Events.{Event, Frame, Long, Command, Tick, Drain, End}
use Rattle.savi_history.specs.Legal.{InputsEnded}
use Rattle.savi_history.specs.Limits.{has_room}
use Rattle.savi_history.specs.Moments.{moment_at}
use Rattle.savi_history.specs.Passes.{AllEnded, ticker_pass}
use Rattle.savi_history.specs.Queues.{Item, queue}
use Rattle.savi_history.specs.Replay.{closing, with_event}
use Rattle.savi_history.specs.Shown.{shown}
use Rattle.savi_history.specs.Ticks.{HasChangedBy}
use Rattle.live_session.specs.Ticking.{IsPassedOver}
use Rattle.live_turns.specs.declared.kinds.TickTurn.{TickTurn}
use Rattle.live_turns.specs.declared.kinds.TickTurn.TheVariants as ticks
use Rattle.live_turns.specs.declared.kinds.DrainTurn.{DrainTurn}
use Rattle.live_turns.specs.declared.kinds.DrainTurn.TheVariants as drains

-- whose pass enters an event
abbrev pub maker_of : Event → Who
maker_of (Frame port stamp octets) = Ingress port
maker_of (Long port stamp len) = Ingress port
maker_of (Command stamp line) = Control
maker_of (Tick stamp) = Ticker
maker_of (Drain port count) = Egress port
maker_of (End who how) = who

-- the event is a frame of at most 1,518 octets, or a longer one of which only the length is told
abbrev pub IsFrame : Event → Type 0
IsFrame (Frame port stamp octets) = length octets ≤ 1518
IsFrame (Long port stamp len) = 1518 < len
IsFrame (Command stamp line) = ⊥
IsFrame (Tick stamp) = ⊥
IsFrame (Drain port count) = ⊥
IsFrame (End who how) = ⊥

-- A pass was ended.
abbrev pub DidEnd : Who → How → Plan → Base → List Row → List Row → Type 0
DidEnd who how plan base found now = now ≡ with_event plan base found (End who how)

-- there was no room for an input, and its pass is paused
abbrev pub DidPause : Who → Plan → Base → List Row → List Row → Type 0
DidPause who plan base found now = (has_room plan found ≡ false) × DidEnd who hows.Paused plan base found now

-- the pass is that of an input: of a port, or of control
abbrev pub IsInputPass : Who → Type 0
IsInputPass (Ingress port) = Unit {0}
IsInputPass Control = Unit {0}
IsInputPass Ticker = ⊥
IsInputPass (Egress port) = ⊥

-- A pass that had nothing to enter was paused for want of room; or there was room, and nothing was done.
abbrev pub DidLook : Who → Bool → Plan → Base → List Row → List Row → Type 0
DidLook who true plan base found now = DidPause who plan base found now
DidLook who false plan base found now = (has_room plan found ≡ true) × (now ≡ found)

-- An input was entered; or there was no room for it, and its pass is paused.
abbrev pub DidInput : Event → Bool → Plan → Base → List Row → List Row → Type 0
DidInput event true plan base found now = (has_room plan found ≡ true) × (now ≡ with_event plan base found event)
DidInput event false plan base found now = DidPause (maker_of event) plan base found now

-- A line was entered, and this is the reply to it; or there was no room for it, and control is paused.
abbrev pub DidLine : ℕ → List ℕ → Bool → List ℕ → Plan → Base → List Row → List Row → Type 0
DidLine stamp line true reply plan base found now =
    DidInput (Command stamp line) true plan base found now × (reply ≡ shown plan base now)
DidLine stamp line false reply plan base found now = DidInput (Command stamp line) false plan base found now

-- The ticker made a tick; or it passed one over, and goes on exactly while an input may come, and tells where that is for
-- want of room. It is paused where an input is.
abbrev pub DidTick : ℕ → TickTurn → Plan → Base → List Row → List Row → Type 0
DidTick stamp ticks.Made plan base found now =
    (has_room plan found ≡ true) × HasChangedBy plan base found (moment_at base found stamp)
    × (now ≡ with_event plan base found (Tick stamp))
DidTick stamp ticks.Idle plan base found now =
    IsPassedOver plan base found stamp × (¬ InputsEnded plan base found) × (now ≡ found)
DidTick stamp ticks.Full plan base found now =
    (has_room plan found ≡ false) × (¬ InputsEnded plan base found) × (now ≡ found)
DidTick stamp ticks.Ended plan base found now =
    IsPassedOver plan base found stamp × InputsEnded plan base found × DidEnd Ticker (closing found) plan base found now

-- whether the ticker has ended in such a turn
abbrev pub ends_ticker : TickTurn → Bool
ends_ticker ticks.Made = false
ends_ticker ticks.Idle = false
ends_ticker ticks.Full = false
ends_ticker ticks.Ended = true

-- whatever may be queued: an input hasn't ended, or the ticker
abbrev pub MayQueue : Plan → Base → List Row → Type 0
MayQueue plan base past = ¬ AllEnded base (ticker_pass plan + 1) past

-- An egress took all that waited; or nothing waits, and it goes on exactly while anything may be queued. It is paused where
-- an input is.
abbrev pub DidDrain : Port → List Item → DrainTurn → Plan → Base → List Row → List Row → Type 0
DidDrain port batch drains.Took plan base found now =
    (queue plan base (number_of port) found ≢ []) × (batch ≡ queue plan base (number_of port) found)
    × (now ≡ with_event plan base found (Drain port (length batch)))
DidDrain port batch drains.Idle plan base found now =
    (queue plan base (number_of port) found ≡ []) × (batch ≡ []) × MayQueue plan base found × (now ≡ found)
DidDrain port batch drains.Ended plan base found now =
    (queue plan base (number_of port) found ≡ []) × (batch ≡ []) × AllEnded base (ticker_pass plan + 1) found
    × DidEnd (Egress port) (closing found) plan base found now

-- whether an egress has ended in such a turn
abbrev pub ends_egress : DrainTurn → Bool
ends_egress drains.Took = false
ends_egress drains.Idle = false
ends_egress drains.Ended = true
