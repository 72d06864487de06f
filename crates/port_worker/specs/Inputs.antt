-- The input of a port: what is known of it, and what the octets that are left will still give.
use Rattle.std.specs.Prelude.{◌≡◌, ◌≢◌, ℕ, suc, ◌<◌, ◌≤◌, ◌^◌, true, List, ◌∷◌, take, Option, Some, None, IfSome}
use Rattle.savi_kinds.specs.declared.port.Port.{Port}
use Rattle.savi_kinds.specs.declared.entry.Who.TheVariants.{Ingress}
use Rattle.savi_kinds.specs.declared.entry.How.TheVariants as hows
use Rattle.savi_kinds.specs.Arrivals.{Arrival, Input}
use Rattle.savi_kinds.specs.Arrivals as arrivals
use Rattle.pcap_io.specs.Runs.{ended}
use Rattle.savi_ends.specs.Faults.{Rose}
use Rattle.savi_ends.specs.Octets.{Takes}
use Rattle.pcap_io.specs.Readers.{State, Ended, Comes, HasReadOne, HasEnded, HasFailed}
use Rattle.savi_history.specs.Turns.{Turn, Arrives, Ends}
use Rattle.port_worker.specs.declared.port_ends.Ahead.{Ahead}
use Rattle.port_worker.specs.declared.port_ends.Ahead.TheVariants as ahead
use Rattle.port_worker.specs.declared.port_ends.PortEnds.{PortEnds}

-- the turn at a port by what was read: a frame's octets are the first of the buffer
abbrev pub turn_ahead : Port → List ℕ → Ahead → Option Turn
turn_ahead port buf ahead.Unread = None
turn_ahead port buf (ahead.Frame stamp len) = Some (Arrives port (arrivals.Frame stamp (take len buf)))
turn_ahead port buf (ahead.Long stamp len) = Some (Arrives port (arrivals.Long stamp len))
turn_ahead port buf ahead.End = Some (Ends (Ingress port) hows.End)
turn_ahead port buf (ahead.Malformed at) = Some (Ends (Ingress port) (hows.Malformed at))
turn_ahead port buf ahead.Failed = Some (Ends (Ingress port) hows.Failed)
turn_ahead port buf ahead.Done = None

-- the turn that was read and isn't entered yet
abbrev pub turn_of : {S K C : Type 0} → PortEnds S K C → Option Turn
turn_of p = turn_ahead p.port p.buf p.ahead

abbrev pub moment_ahead : Ahead → Option ℕ
moment_ahead ahead.Unread = None
moment_ahead (ahead.Frame stamp len) = Some (suc stamp)
moment_ahead (ahead.Long stamp len) = Some (suc stamp)
moment_ahead ahead.End = Some 0
moment_ahead (ahead.Malformed at) = Some 0
moment_ahead ahead.Failed = Some 0
moment_ahead ahead.Done = None

-- when that turn comes: an ending at once, and an arrival by its stamp
abbrev pub turn_moment : {S K C : Type 0} → PortEnds S K C → Option ℕ
turn_moment p = moment_ahead p.ahead

-- an input with one more arrival in front
abbrev pub with_arrival : Arrival → Input → Input
with_arrival a input = record { arrivals = a ∷ input.arrivals; ending = input.ending }

-- the reader goes on only where no read has failed
abbrev pub IsReadable : State → Type 0
IsReadable state = state ≢ Ended hows.Failed

-- a frame has at most 1,518 octets, and a longer one more; a place is a number of 64 bits
abbrev pub IsSoundAhead : State → Ahead → Type 0
IsSoundAhead state ahead.Unread = IsReadable state
IsSoundAhead state (ahead.Frame stamp len) = (len ≤ 1518) × IsReadable state
IsSoundAhead state (ahead.Long stamp len) = (1518 < len) × IsReadable state
IsSoundAhead state ahead.End = Unit {0}
IsSoundAhead state (ahead.Malformed at) = at < 2 ^ 64
IsSoundAhead state ahead.Failed = Unit {0}
IsSoundAhead state ahead.Done = Unit {0}

-- The next input was read, or the input has ended.
abbrev pub IsReadAhead : Ahead → Type 0
IsReadAhead ahead.Unread = ⊥
IsReadAhead (ahead.Frame stamp len) = Unit {0}
IsReadAhead (ahead.Long stamp len) = Unit {0}
IsReadAhead ahead.End = Unit {0}
IsReadAhead (ahead.Malformed at) = Unit {0}
IsReadAhead ahead.Failed = Unit {0}
IsReadAhead ahead.Done = Unit {0}

-- With these octets left in the source this input comes, what was read of it in front. Behind a read that failed none
-- comes, whatever is left.
abbrev pub WillGive : State → List ℕ → Ahead → List ℕ → Input → Type 0
WillGive state buf ahead.Unread octets input = Comes state true octets input
WillGive state buf (ahead.Frame stamp len) octets input = (later : Input) × (input ≡ with_arrival (arrivals.Frame stamp (take len buf)) later) × Comes state true octets later
WillGive state buf (ahead.Long stamp len) octets input = (later : Input) × (input ≡ with_arrival (arrivals.Long stamp len) later) × Comes state true octets later
WillGive state buf ahead.End octets input = input ≡ ended hows.End
WillGive state buf (ahead.Malformed at) octets input = input ≡ ended (hows.Malformed at)
WillGive state buf ahead.Failed octets input = ⊥
WillGive state buf ahead.Done octets input = Unit {0}

-- This input is still to come at the port, where its source tells what is left.
abbrev pub WillCome : {S K C : Type 0} → (S → Option (List ℕ)) → PortEnds S K C → Input → Type 0
WillCome left p input = IfSome (left p.ends.source) (λ octets. WillGive p.reader p.buf p.ahead octets input)

-- The octets that were taken from the source for what is known next are that arrival, or the input ends with them, or a
-- read failed behind them.
abbrev pub IsReadAs : State → State → List ℕ → List ℕ → Option (List ℕ) → Ahead → Type 0
IsReadAs old new gave buf left ahead.Unread = ⊥
IsReadAs old new gave buf left (ahead.Frame stamp len) = HasReadOne old new gave (arrivals.Frame stamp (take len buf))
IsReadAs old new gave buf left (ahead.Long stamp len) = HasReadOne old new gave (arrivals.Long stamp len)
IsReadAs old new gave buf left ahead.End = HasEnded old new gave left hows.End
IsReadAs old new gave buf left (ahead.Malformed at) = HasEnded old new gave left (hows.Malformed at)
IsReadAs old new gave buf left ahead.Failed = HasFailed old new gave
IsReadAs old new gave buf left ahead.Done = ⊥

abbrev pub ReadsAhead : {S K C : Type 0} → (S → Option (List ℕ)) → PortEnds S K C → PortEnds S K C → Type 0
ReadsAhead left old new =
    (gave : List ℕ) × Takes (left old.ends.source) (left new.ends.source) gave × IsReadAs old.reader new.reader gave new.buf (left new.ends.source) new.ahead

-- One port before and after a read of what comes next: what comes now comes before, the source gave up octets from its
-- front, and the clock wasn't read.
pub record IsLooked {S K C : Type 0} (left : S → Option (List ℕ)) (faults : S → ℕ) (old new : PortEnds S K C) : Type 0 where
  pub port : new.port ≡ old.port
  pub sink : new.ends.sink ≡ old.ends.sink
  pub clock : new.ends.clock ≡ old.ends.clock
  pub known : IsReadAhead new.ahead
  pub sound : IsSoundAhead new.reader new.ahead
  pub later : faults old.ends.source ≤ faults new.ends.source
  pub gave : (octets : List ℕ) × Takes (left old.ends.source) (left new.ends.source) octets
  pub comes : (input : Input) → WillCome left new input → WillCome left old input
  pub same : IsReadAhead old.ahead → new ≡ old
  pub done : new.ahead ≡ ahead.Done → old.ahead ≡ ahead.Done
  pub read : old.ahead ≡ ahead.Unread → ReadsAhead left old new
  pub failed : old.ahead ≡ ahead.Unread → new.ahead ≡ ahead.Failed → Rose (faults old.ends.source) (faults new.ends.source)
  pub still : new.ahead ≢ ahead.Failed → faults new.ends.source ≡ faults old.ends.source
