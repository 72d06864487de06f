use Rattle.std.proofs.Common.{refl}
use Rattle.savi_core.specs.Machines.{base_of}
use Rattle.journal_check.proofs.OpenPasses.{may_other}
use Rattle.journal_check.proofs.coming.may_end.Goals as goal

pub returns-in_default : goal.returns-in_default
returns-in_default c = let m = c.args.core.now in (λ yes. may_other m.plan (base_of m) m.past c.args.who c.args.how c.requires.reason c.requires.numbers c.in_default.not-End c.in_default.not-Paused, λ may. refl)
