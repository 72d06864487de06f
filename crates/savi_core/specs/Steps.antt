-- What may be put to a switch, and what it does then.
use Rattle.std.specs.Prelude.{◌≡◌, ◌≢◌, ℕ, ◌<◌, ◌≤◌, min, true, false, List, [], length, take}
use Rattle.savi_kinds.specs.declared.port.Port.{Port}
use Rattle.savi_kinds.specs.declared.entry.Who.TheVariants.{Ingress, Control, Ticker}
use Rattle.savi_kinds.specs.declared.entry.Entry.{Entry}
use Rattle.frame_class.specs.Seen.{IsSeen}
use Rattle.savi_history.specs.Limits.{has_room}
use Rattle.savi_history.specs.Moments.{moment_at}
use Rattle.savi_history.specs.Offers.{due_by}
use Rattle.savi_history.specs.Ticks.{HasChangedBy}
use Rattle.savi_history.specs.Queues.{Item}
use Rattle.savi_history.specs.Events as events
use Rattle.savi_history.specs.Events.{row_of}
use Rattle.savi_history.specs.Legal.{IsOpen, MayEnd}
use Rattle.savi_core.specs.declared.event.Event.{Event}
use Rattle.savi_core.specs.declared.event.Event.TheVariants as given
use Rattle.savi_core.specs.declared.event.Stepped.{Stepped}
use Rattle.savi_core.specs.declared.event.Stepped.TheVariants.{Done, Full, Nothing}
use Rattle.savi_core.specs.Machines.{Machine, base_of, with_event, queue_at}

-- the event that is put to the switch
abbrev pub event_of : Event → events.Event
event_of (given.Frame port stamp octets seen) = events.Frame port stamp octets.now
event_of (given.Long port stamp len) = events.Long port stamp len
event_of (given.Command stamp line) = events.Command stamp line.now
event_of (given.Tick stamp) = events.Tick stamp
event_of (given.End who how) = events.End who how

-- what is given with a frame is what is seen of its octets
abbrev pub IsSeenRightly : Event → Type 0
IsSeenRightly (given.Frame port stamp octets seen) = IsSeen octets.now seen.now
IsSeenRightly (given.Long port stamp len) = Unit {0}
IsSeenRightly (given.Command stamp line) = Unit {0}
IsSeenRightly (given.Tick stamp) = Unit {0}
IsSeenRightly (given.End who how) = Unit {0}

-- an event that may be put to the switch: its pass is open, and it has the size or the reason of its kind
abbrev pub MayStep : Machine → events.Event → Type 0
MayStep m (events.Frame port stamp octets) = IsOpen m.plan (base_of m) m.past (Ingress port) × (length octets ≤ 1518)
MayStep m (events.Long port stamp len) = IsOpen m.plan (base_of m) m.past (Ingress port) × (1518 < len)
MayStep m (events.Command stamp line) = IsOpen m.plan (base_of m) m.past Control × (length line ≤ 120)
MayStep m (events.Tick stamp) = IsOpen m.plan (base_of m) m.past Ticker
MayStep m (events.Drain port count) = ⊥
MayStep m (events.End who how) = IsOpen m.plan (base_of m) m.past who × MayEnd m.plan (base_of m) m.past who how

-- there is room for the event: an end needs none
abbrev pub HasRoomFor : Machine → events.Event → Type 0
HasRoomFor m (events.Frame port stamp octets) = has_room m.plan m.past ≡ true
HasRoomFor m (events.Long port stamp len) = has_room m.plan m.past ≡ true
HasRoomFor m (events.Command stamp line) = has_room m.plan m.past ≡ true
HasRoomFor m (events.Tick stamp) = has_room m.plan m.past ≡ true
HasRoomFor m (events.Drain port count) = Unit {0}
HasRoomFor m (events.End who how) = Unit {0}

-- there is no room for the event
abbrev pub HasNoRoomFor : Machine → events.Event → Type 0
HasNoRoomFor m (events.Frame port stamp octets) = has_room m.plan m.past ≡ false
HasNoRoomFor m (events.Long port stamp len) = has_room m.plan m.past ≡ false
HasNoRoomFor m (events.Command stamp line) = has_room m.plan m.past ≡ false
HasNoRoomFor m (events.Tick stamp) = has_room m.plan m.past ≡ false
HasNoRoomFor m (events.Drain port count) = ⊥
HasNoRoomFor m (events.End who how) = ⊥

-- the moment of a tick with this stamp
abbrev pub tick_moment : Machine → ℕ → ℕ
tick_moment m stamp = moment_at (base_of m) m.past stamp

-- the event is worth an entry: for a tick some address has another state by its moment
abbrev pub IsDue : Machine → events.Event → Type 0
IsDue m (events.Frame port stamp octets) = Unit {0}
IsDue m (events.Long port stamp len) = Unit {0}
IsDue m (events.Command stamp line) = Unit {0}
IsDue m (events.Tick stamp) = HasChangedBy m.plan (base_of m) m.past (tick_moment m stamp)
IsDue m (events.Drain port count) = Unit {0}
IsDue m (events.End who how) = Unit {0}

-- the event is a tick by whose moment no address has another state, and no probe is due
abbrev pub IsIdle : Machine → events.Event → Type 0
IsIdle m (events.Frame port stamp octets) = ⊥
IsIdle m (events.Long port stamp len) = ⊥
IsIdle m (events.Command stamp line) = ⊥
IsIdle m (events.Tick stamp) =
    (¬ HasChangedBy m.plan (base_of m) m.past (tick_moment m stamp)) × (due_by m.plan (base_of m) m.past (tick_moment m stamp) ≡ [])
IsIdle m (events.Drain port count) = ⊥
IsIdle m (events.End who how) = ⊥

-- the entry of the event's row
abbrev pub entry_of : Machine → events.Event → Entry
entry_of m event = (row_of m.plan (base_of m) m.past event).entry

-- The row of the event is in front of the history; or there was no room for it, or it was an idle tick, and nothing has
-- changed.
abbrev pub Did : Machine → events.Event → Machine → Stepped → Type 0
Did old event new (Done entry) = HasRoomFor old event × IsDue old event × (new ≡ with_event old event) × (entry ≡ entry_of old event)
Did old event new (Full len) = HasNoRoomFor old event × (new ≡ old) × (len ≡ length old.past)
Did old event new Nothing = HasRoomFor old event × IsIdle old event × (new ≡ old)

-- how many items are taken of a queue
abbrev pub taken_count : Machine → Port → ℕ → ℕ
taken_count m port most = min most (length (queue_at m port))

-- So many items of the queue's front were taken, or nothing waits and nothing has changed.
abbrev pub Drained : Machine → Port → ℕ → Machine → List Item → Stepped → Type 0
Drained old port most new batch (Done entry) =
    (queue_at old port ≢ [])
    × (batch ≡ take (taken_count old port most) (queue_at old port))
    × (new ≡ with_event old (events.Drain port (taken_count old port most)))
    × (entry ≡ entry_of old (events.Drain port (taken_count old port most)))
Drained old port most new batch (Full len) = ⊥
Drained old port most new batch Nothing = (queue_at old port ≡ []) × (batch ≡ []) × (new ≡ old)
