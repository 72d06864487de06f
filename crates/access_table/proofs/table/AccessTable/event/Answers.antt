use Rattle.savi_access.specs.Plans.{rules_of}
use Rattle.access_table.proofs.Stepping.{answers_follow}
use Rattle.access_table.proofs.table.AccessTable.event.Goals as goal

pub returns-in-Some-clause-judged : goal.returns-in-Some-clause-judged
returns-in-Some-clause-judged c = λ port base past is.
    answers_follow (rules_of c.args.plan.now) c.args.self.now.vlan c.args.t base past port c.args.self.now c.tell.new.self c.args.a.0 c.args.ev c.args.off_link c.in-Some.answer c.answered.result
    c.in-Some.ensures.heard.0 (c.in-Some.ensures.heard.1 base past port is c.requires.vlan) c.answered.ensures.verdict c.answered.ensures.probe
