use Rattle.std.proofs.Common.{ℕ, Option, subst}
use Rattle.savi_access.specs.Rules.{AccessRules}
use Rattle.savi_access.specs.Judged.{message_by}
use Rattle.savi_access.specs.Plans.{rules_of}
use Rattle.access_table.specs.Steps.{ComesTo}
use Rattle.access_table.proofs.table.AccessTable.message.Goals as goal

pub returns-in-Some-clause-judged : goal.returns-in-Some-clause-judged
returns-in-Some-clause-judged c = λ base past is.
    let r : AccessRules = rules_of c.args.plan.now in
    subst (λ (s : Option ℕ). ComesTo r base c.args.t c.event.new.self c.event.result (message_by r base c.args.self.now.vlan c.args.port c.args.t past c.args.read.now s)) c.in-Some.ensures (c.event.ensures.judged c.args.port base past is)
