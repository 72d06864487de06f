-- The input of control: what is known of it, and what was read of it.
use Rattle.std.specs.Prelude.{◌≡◌, ◌≢◌, ℕ, suc, ◌<◌, ◌≤◌, ◌^◌, false, List, [], take, Option, Some, None}
use Rattle.savi_kinds.specs.declared.entry.Who.TheVariants.{Control}
use Rattle.savi_kinds.specs.declared.entry.How.TheVariants as hows
use Rattle.savi_ends.specs.Faults.{Rose}
use Rattle.savi_ends.specs.Octets.{Takes}
use Rattle.cli_lang.specs.Arrivals.{Line}
use Rattle.cli_lang.specs.Readers.{State, Running, Ended, Comes, HasReadOne, HasEnded, ended}
use Rattle.savi_history.specs.Turns.{Turn, Commands, Ends}
use Rattle.port_worker.specs.declared.control_ends.LineAhead.{LineAhead}
use Rattle.port_worker.specs.declared.control_ends.LineAhead.TheVariants as ahead
use Rattle.port_worker.specs.declared.control_ends.ControlEnds.{ControlEnds}

-- a line that was read: its command is the first octets of the buffer
abbrev pub line_read : ℕ → ℕ → List ℕ → Line
line_read stamp len buf = record { stamp = stamp; command = take len buf }

-- the turn of control by what was read
abbrev pub line_turn_ahead : List ℕ → LineAhead → Option Turn
line_turn_ahead buf ahead.Unread = None
line_turn_ahead buf (ahead.Line stamp len) = Some (Commands (line_read stamp len buf))
line_turn_ahead buf ahead.End = Some (Ends Control hows.End)
line_turn_ahead buf (ahead.Malformed at) = Some (Ends Control (hows.Malformed at))
line_turn_ahead buf (ahead.Overlong at) = Some (Ends Control (hows.Overlong at))
line_turn_ahead buf ahead.Failed = Some (Ends Control hows.Failed)
line_turn_ahead buf ahead.Done = None

-- the turn that was read and isn't entered yet
abbrev pub control_turn_of : {S K C : Type 0} → ControlEnds S K C → Option Turn
control_turn_of c = line_turn_ahead c.buf c.ahead

abbrev pub line_moment_ahead : LineAhead → Option ℕ
line_moment_ahead ahead.Unread = None
line_moment_ahead (ahead.Line stamp len) = Some (suc stamp)
line_moment_ahead ahead.End = Some 0
line_moment_ahead (ahead.Malformed at) = Some 0
line_moment_ahead (ahead.Overlong at) = Some 0
line_moment_ahead ahead.Failed = Some 0
line_moment_ahead ahead.Done = None

-- when that turn comes: an ending at once, and a line by its stamp
abbrev pub control_moment : {S K C : Type 0} → Option (ControlEnds S K C) → Option ℕ
control_moment None = None
control_moment (Some c) = line_moment_ahead c.ahead

-- the reader goes on only where no read has failed
abbrev pub IsHearing : State → Type 0
IsHearing state = state ≢ Ended hows.Failed

-- a line has at most 120 octets; a place is a number of 64 bits
abbrev pub IsLineSound : State → LineAhead → Type 0
IsLineSound state ahead.Unread = IsHearing state
IsLineSound state (ahead.Line stamp len) = (len ≤ 120) × IsHearing state
IsLineSound state ahead.End = Unit {0}
IsLineSound state (ahead.Malformed at) = at < 2 ^ 64
IsLineSound state (ahead.Overlong at) = at < 2 ^ 64
IsLineSound state ahead.Failed = Unit {0}
IsLineSound state ahead.Done = Unit {0}

-- the same of control's ends, where there are any
abbrev pub IsControlSound : {S K C : Type 0} → Option (ControlEnds S K C) → Type 0
IsControlSound None = Unit {0}
IsControlSound (Some c) = IsLineSound c.reader c.ahead

-- The next line was read, or the input has ended.
abbrev pub IsLineKnown : LineAhead → Type 0
IsLineKnown ahead.Unread = ⊥
IsLineKnown (ahead.Line stamp len) = Unit {0}
IsLineKnown ahead.End = Unit {0}
IsLineKnown (ahead.Malformed at) = Unit {0}
IsLineKnown (ahead.Overlong at) = Unit {0}
IsLineKnown ahead.Failed = Unit {0}
IsLineKnown ahead.Done = Unit {0}

-- nothing was read yet
abbrev pub IsUnheard : {S K C : Type 0} → ControlEnds S K C → Type 0
IsUnheard c = (c.ahead ≡ ahead.Unread) × (c.reader ≡ Running 0 [])

abbrev pub IsControlUnheard : {S K C : Type 0} → Option (ControlEnds S K C) → Type 0
IsControlUnheard None = Unit {0}
IsControlUnheard (Some c) = IsUnheard c

-- The octets that were taken from the source for what is known next are that line, or the input ends with them, or a read
-- failed behind them.
abbrev pub IsHeardAs : State → State → List ℕ → List ℕ → Option (List ℕ) → LineAhead → Type 0
IsHeardAs old new gave buf left ahead.Unread = ⊥
IsHeardAs old new gave buf left (ahead.Line stamp len) = HasReadOne false old new gave left (line_read stamp len buf)
IsHeardAs old new gave buf left ahead.End = HasEnded false old new gave left hows.End
IsHeardAs old new gave buf left (ahead.Malformed at) = HasEnded false old new gave left (hows.Malformed at)
IsHeardAs old new gave buf left (ahead.Overlong at) = HasEnded false old new gave left (hows.Overlong at)
IsHeardAs old new gave buf left ahead.Failed = (new ≡ Ended hows.Failed) × Comes false false old gave (ended hows.Failed)
IsHeardAs old new gave buf left ahead.Done = ⊥

-- Control before and after a read of what comes next: the source gave up octets from its front, which are what is known now,
-- and the clock wasn't read.
pub record IsHeard {S K C : Type 0} (left : S → Option (List ℕ)) (faults : S → ℕ) (old new : ControlEnds S K C) : Type 0 where
  pub sink : new.ends.sink ≡ old.ends.sink
  pub clock : new.ends.clock ≡ old.ends.clock
  pub known : IsLineKnown new.ahead
  pub sound : IsLineSound new.reader new.ahead
  pub later : faults old.ends.source ≤ faults new.ends.source
  pub gave : (octets : List ℕ) × Takes (left old.ends.source) (left new.ends.source) octets
  pub same : IsLineKnown old.ahead → new ≡ old
  pub read : old.ahead ≡ ahead.Unread → (octets : List ℕ) × Takes (left old.ends.source) (left new.ends.source) octets × IsHeardAs old.reader new.reader octets new.buf (left new.ends.source) new.ahead
  pub done : new.ahead ≡ ahead.Done → old.ahead ≡ ahead.Done
  pub failed : old.ahead ≡ ahead.Unread → new.ahead ≡ ahead.Failed → Rose (faults old.ends.source) (faults new.ends.source)
  pub still : new.ahead ≢ ahead.Failed → faults new.ends.source ≡ faults old.ends.source

-- the same of control's ends, where there are any
abbrev pub IsControlHeard : {S K C : Type 0} → (S → Option (List ℕ)) → (S → ℕ) → Option (ControlEnds S K C) → Option (ControlEnds S K C) → Type 0
IsControlHeard left faults None None = Unit {0}
IsControlHeard left faults (Some old) (Some new) = IsHeard left faults old new
IsControlHeard left faults None (Some new) = ⊥
IsControlHeard left faults (Some old) None = ⊥

abbrev pub IsControlKnown : {S K C : Type 0} → Option (ControlEnds S K C) → Type 0
IsControlKnown None = Unit {0}
IsControlKnown (Some c) = IsLineKnown c.ahead
