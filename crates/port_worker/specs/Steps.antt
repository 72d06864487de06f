-- What the turn of a port does to the history, before the queues are drained.
use Rattle.std.specs.Prelude.{◌≡◌, ◌≤◌, ℕ, Bool, true, false, List, Option}
use Rattle.savi_kinds.specs.declared.port.Port.{Port}
use Rattle.savi_kinds.specs.declared.plan.Plan.{Plan}
use Rattle.savi_kinds.specs.declared.entry.Who.TheVariants.{Ingress}
use Rattle.savi_kinds.specs.declared.entry.How.{How}
use Rattle.savi_kinds.specs.Arrivals.{Arrival}
use Rattle.hist_store.specs.Rows.{Row}
use Rattle.checkpoint.specs.Bases.{Base}
use Rattle.savi_history.specs.Limits.{has_room}
use Rattle.savi_history.specs.ControlInputs.{is_quit}
use Rattle.savi_history.specs.Events.{End}
use Rattle.port_worker.specs.declared.port_ends.Ahead.{Ahead}
use Rattle.port_worker.specs.declared.port_ends.Ahead.TheVariants as ahead
use Rattle.port_worker.specs.declared.port_ends.PortEnds.{PortEnds}
use Rattle.port_worker.specs.SentFrames.{TookMore}
use Rattle.savi_history.specs.Turns.{Turn, Arrives, Commands, Ends}
use Rattle.savi_history.specs.Replay.{event_of, with_event}

-- whether the input of a turn ends with it, even where all can be written: an ending, or `quit`
abbrev pub ends_input : Turn → Bool
ends_input (Arrives port arrival) = false
ends_input (Commands line) = is_quit line
ends_input (Ends who how) = true

-- whether something comes in by a turn, which needs room: an arrival or a line
abbrev pub comes_in : Turn → Bool
comes_in (Arrives port arrival) = true
comes_in (Commands line) = true
comes_in (Ends who how) = false

-- there is room for what comes in by a turn; an ending needs none
abbrev pub HasRoomFor : Plan → List Row → Turn → Type 0
HasRoomFor plan past (Arrives port arrival) = has_room plan past ≡ true
HasRoomFor plan past (Commands line) = has_room plan past ≡ true
HasRoomFor plan past (Ends who how) = Unit {0}

-- An arrival was entered; or the input ended, and its end is all that the turn makes.
abbrev pub Enters : Plan → Base → Port → Turn → List Row → Bool → List Row → Type 0
Enters plan base port turn old true new = (arrival : Arrival) × (turn ≡ Arrives port arrival) × (new ≡ with_event plan base old (event_of port arrival))
Enters plan base port turn old false new = (how : How) × (turn ≡ Ends (Ingress port) how) × (new ≡ with_event plan base old (End (Ingress port) how))

-- One port before and after a step: only its sink, which took octets behind what it held, and what is known of its input
-- have changed.
pub record IsStepped {S K C : Type 0} (written : K → Option (List ℕ)) (faults : K → ℕ) (old new : PortEnds S K C) : Type 0 where
  pub same : new ≡ record old { ends = record old.ends { sink = new.ends.sink }; ahead = new.ahead }
  pub later : faults old.ends.sink ≤ faults new.ends.sink
  pub took : TookMore (written old.ends.sink) (written new.ends.sink)

-- what is known of the input behind a turn
abbrev pub ahead_after : Bool → Ahead
ahead_after true = ahead.Done
ahead_after false = ahead.Unread
