-- The rows that a list of events makes, legal or not, and the same with a tick put in front of them.
use Rattle.std.specs.Prelude.{◌≡◌, ℕ, ◌≤◌, List, [], ◌∷◌, Option, Some, None, IfSome}
use Rattle.savi_kinds.specs.declared.plan.Plan.{Plan}
use Rattle.hist_store.specs.Rows.{Row}
use Rattle.checkpoint.specs.Bases.{Base}
use Rattle.savi_history.specs.Moments.{moment_at}
use Rattle.savi_history.specs.Events.{Event, Frame, Long, Command, Tick, Drain, End, row_of}

-- the past with the rows of these events in front of it, the newest first
abbrev pub rows_by : Plan → Base → List Row → List Event → List Row
rows_by plan base past [] = past
rows_by plan base past (event ∷ events) = row_of plan base (rows_by plan base past events) event ∷ rows_by plan base past events

-- each row is the row of some event, which might come or not
abbrev pub AreRows : Plan → Base → List Row → Type 0
AreRows plan base [] = Unit {0}
AreRows plan base (r ∷ past) = ((event : Event) × (r ≡ row_of plan base past event)) × AreRows plan base past

-- the stamp of an event, where it has one
abbrev pub stamp_of : Event → Option ℕ
stamp_of (Frame port stamp octets) = Some stamp
stamp_of (Long port stamp len) = Some stamp
stamp_of (Command stamp line) = Some stamp
stamp_of (Tick stamp) = Some stamp
stamp_of (Drain port count) = None
stamp_of (End who how) = None

-- the first of two that is there
abbrev pub first_of : Option ℕ → Option ℕ → Option ℕ
first_of (Some stamp) other = Some stamp
first_of None other = other

-- the stamp of the oldest of these events that has one, the newest event first
abbrev pub first_stamp : List Event → Option ℕ
first_stamp [] = None
first_stamp (event ∷ events) = first_of (first_stamp events) (stamp_of event)

-- a tick with this stamp, right after the past, comes no later than the next event with a stamp
abbrev pub ComesFirst : Base → List Row → ℕ → List Event → Type 0
ComesFirst base past stamp events = IfSome (first_stamp events) (λ next. moment_at base past stamp ≤ moment_at base past next)

-- the rows of these events where such a tick comes before them
abbrev pub with_tick : Plan → Base → List Row → ℕ → List Event → List Row
with_tick plan base past stamp events = rows_by plan base (row_of plan base past (Tick stamp) ∷ past) events
