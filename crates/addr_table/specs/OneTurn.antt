-- One turn of ageing: what is due first, if it is due by t, comes to pass at its own moment.
use Rattle.std.specs.Prelude.{ℕ, ◌≡◌, ◌<◌, Option, Some, None, List, [], ◌++◌}
use Rattle.fcfs_states.specs.Ageing.{probes_behind}
use Rattle.addr_table.specs.declared.passed.Passed.{Passed}
use Rattle.savi_access.specs.declared.sent.SentProbe.{SentProbe}
use Rattle.addr_table.specs.Addresses.{Addresses}
use Rattle.savi_access.specs.Ages.{aged_rows, AllStill}
use Rattle.savi_access.specs.Sends.{sent_of, sends}
use Rattle.addr_table.specs.Turns.{turns_left}

-- the probe of a turn, where there is one
abbrev pub turn_probes : Passed → List SentProbe
turn_probes passed = sent_of passed.address.0 (probes_behind passed.due passed.probe [])

-- nothing is due by t
pub record IsQuiet (t : ℕ) (table : Addresses) : Type 0 where
  pub none : sends table.times t table.rows ≡ []
  pub aged : aged_rows table.times t table.rows ≡ table.rows
  pub still : AllStill table.times t table.rows

-- one turn was made: its probe is the first of those to come, and less may still fall due
pub record TurnsOnce (t : ℕ) (old new : Addresses) (passed : Passed) : Type 0 where
  pub sends : sends old.times t old.rows ≡ turn_probes passed ++ sends old.times t new.rows
  pub rows : aged_rows old.times t new.rows ≡ aged_rows old.times t old.rows
  pub rest : new ≡ record old { rows = new.rows }
  pub fewer : turns_left new.rows < turns_left old.rows

abbrev pub Turns : ℕ → Addresses → Addresses → Option Passed → Type 0
Turns t old new None = (new ≡ old) × IsQuiet t old
Turns t old new (Some passed) = TurnsOnce t old new passed
