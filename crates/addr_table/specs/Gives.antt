-- What one call gives of the probes that are due.
use Rattle.std.specs.Prelude.{ℕ, ◌≡◌, Option, Some, None, [], ◌∷◌}
use Rattle.savi_access.specs.declared.sent.SentProbe.{SentProbe}
use Rattle.addr_table.specs.Addresses.{Addresses}
use Rattle.savi_access.specs.Ages.{aged_rows, AllStill}
use Rattle.savi_access.specs.Sends.{sends}

-- one probe is given, the first of those that are due by t, and all others are still to come
pub record GivesOne (t : ℕ) (old new : Addresses) (sent : SentProbe) : Type 0 where
  pub first : sends old.times t old.rows ≡ sent ∷ sends old.times t new.rows
  pub rows : aged_rows old.times t new.rows ≡ aged_rows old.times t old.rows
  pub rest : new ≡ record old { rows = new.rows }

-- none is due by t, and all rows are aged to t
pub record GivesNone (t : ℕ) (old new : Addresses) : Type 0 where
  pub none : sends old.times t old.rows ≡ []
  pub aged : new ≡ record old { rows = aged_rows old.times t old.rows }
  pub still : AllStill old.times t new.rows

-- the one or the other
abbrev pub GivesProbe : ℕ → Addresses → Addresses → Option SentProbe → Type 0
GivesProbe t old new None = GivesNone t old new
GivesProbe t old new (Some sent) = GivesOne t old new sent
