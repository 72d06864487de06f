use Rattle.std.proofs.Common.{◌≡◌, take}
use Rattle.ra_learn.specs.Tables.{with_prefixes}
use Rattle.ra_learn.proofs.learner.Learner.set_prefixes.Given as goal

abbrev pub invariant-loop-one : goal.invariant-loop-one
invariant-loop-one l = l.self ≡ record l.fn.self { tables = with_prefixes l.t (take l.one-index l.advertised) l.fn.self.tables }
