use Rattle.std.proofs.Common.{◌≡◌, drop}
use Rattle.std.specs.List.{slice_get}
use Rattle.ra_learn.specs.Tables.{routers_at}
use Rattle.ra_learn.proofs.routers.nth_standing.Given as goal

abbrev pub invariant-loop-router : goal.invariant-loop-router
invariant-loop-router l = slice_get (routers_at l.t l.routers) l.i ≡ slice_get (routers_at l.t (drop l.router-index l.routers)) l.left
