-- What a reader of an input may give.
use Rattle.std.specs.Prelude.{◌<◌, ◌≤◌, length, All, Option, IfSome}
use Rattle.savi_kinds.specs.declared.entry.How.{How}
use Rattle.savi_kinds.specs.declared.entry.How.TheVariants as hows
use Rattle.savi_kinds.specs.Arrivals.{Arrival, Frame, Long, Input}
use Rattle.cli_lang.specs.Arrivals.{Line}
use Rattle.cli_lang.specs.Arrivals as control
use Rattle.savi_history.specs.Legal.{IsU32, IsU64}

-- a frame of at most 1,518 octets, or a longer one; numbers of 64 and 32 bits
abbrev pub IsArrival : Arrival → Type 0
IsArrival (Frame stamp octets) = IsU64 stamp × (length octets ≤ 1518)
IsArrival (Long stamp len) = IsU64 stamp × (1518 < len) × IsU32 len

-- the end, a place at fault, or a failed read
abbrev pub IsEnding : How → Type 0
IsEnding hows.End = Unit {0}
IsEnding hows.Quit = ⊥
IsEnding (hows.Malformed at) = IsU64 at
IsEnding (hows.Overlong at) = ⊥
IsEnding hows.Failed = Unit {0}
IsEnding hows.Unwritten = ⊥
IsEnding hows.Paused = ⊥

pub record IsInput (input : Input) : Type 0 where
  pub arrivals : All IsArrival input.arrivals
  pub ending : IsEnding input.ending

-- a command of at most 120 octets; a stamp of 64 bits
abbrev pub IsLineInRange : Line → Type 0
IsLineInRange line = IsU64 line.stamp × (length line.command ≤ 120)

-- the end, a place at fault, a place of a line that is too long, or a failed read
abbrev pub IsControlEnding : How → Type 0
IsControlEnding hows.End = Unit {0}
IsControlEnding hows.Quit = ⊥
IsControlEnding (hows.Malformed at) = IsU64 at
IsControlEnding (hows.Overlong at) = IsU64 at
IsControlEnding hows.Failed = Unit {0}
IsControlEnding hows.Unwritten = ⊥
IsControlEnding hows.Paused = ⊥

pub record IsControlInput (input : control.Input) : Type 0 where
  pub arrivals : All IsLineInRange input.arrivals
  pub ending : IsControlEnding input.ending

-- where control has an input, a reader of lines may give it
abbrev pub IsControl : Option control.Input → Type 0
IsControl input = IfSome input (λ lines. IsControlInput lines)
