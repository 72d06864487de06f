-- The moments of a history, in ms. They never fall: an entry with a stamp has the stamp for its moment, unless that is
-- before the last entry's, and every other entry has the last one's.
use Rattle.std.specs.Prelude.{ℕ, ◌^◌, min, max, List, [], ◌∷◌}
use Rattle.hist_store.specs.Rows.{Row}
use Rattle.checkpoint.specs.Bases.{Base}

abbrev pub last_moment : Base → List Row → ℕ
last_moment base [] = base.moment
last_moment base (r ∷ past) = r.entry.moment

abbrev pub moment_at : Base → List Row → ℕ → ℕ
moment_at base past stamp = max (last_moment base past) (min stamp (2 ^ 62))
