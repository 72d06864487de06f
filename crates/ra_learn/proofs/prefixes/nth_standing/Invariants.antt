use Rattle.std.proofs.Common.{◌≡◌, drop}
use Rattle.std.specs.List.{slice_get}
use Rattle.ra_learn.specs.Tables.{prefixes_at}
use Rattle.ra_learn.proofs.prefixes.nth_standing.Given as goal

abbrev pub invariant-loop-prefix : goal.invariant-loop-prefix
invariant-loop-prefix l = slice_get (prefixes_at l.t l.prefixes) l.i ≡ slice_get (prefixes_at l.t (drop l.prefix-index l.prefixes)) l.left
