-- What happened to addresses, as a list of marks, the newest first.
use Rattle.std.specs.Prelude.{ℕ, ◌==◌, ◌&&◌, Bool, List, [], ◌∷◌, filter, map}
use Rattle.fcfs_states.specs.declared.event.Ev.{Ev}
use Rattle.fcfs_states.specs.FirstCome.{TimedEvent}
use Rattle.savi_access.specs.Bases.{AddrBase}

-- an event on an address of a VLAN, with its moment and whether its port had room
pub record Named : Type 0 where
  pub vlan : ℕ
  pub address : ℕ
  pub moment : ℕ
  pub event : Ev
  pub room : Bool

abbrev pub named_moment : Named → ℕ
named_moment named = named.moment

-- the same without the address
abbrev pub mark_of : Named → TimedEvent
mark_of named = record { moment = named.moment; event = named.event; room = named.room }

-- whether a mark names this address of this VLAN
abbrev pub names : ℕ → ℕ → Named → Bool
names vlan a named = named.vlan == vlan && named.address == a

-- the marks that name an address
abbrev pub marks_on : ℕ → ℕ → List Named → List TimedEvent
marks_on vlan a past = map mark_of (filter (names vlan a) past)

-- the moment of the newest mark, or of what came before all of them
abbrev pub last_moment : AddrBase → List Named → ℕ
last_moment base [] = base.moment
last_moment base (named ∷ past) = named.moment
