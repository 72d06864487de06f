use Rattle.std.proofs.Common.{Option, subst}
use Rattle.v4_snoop.specs.Snooped.{HasSnooped, Snooped}
use Rattle.audit_run.specs.Auditing.{HasSeen}
use Rattle.audit_run.proofs.auditor.Auditor.judge.Goals as goal

pub returns-in-Some-clause-reason : goal.returns-in-Some-clause-reason
returns-in-Some-clause-reason g c = λ plan past comes seen.
    let has : HasSnooped plan past c.in-Some.snoop = subst (λ (o : Option Snooped). HasSeen plan past o) c.in-Some.is seen in
    c.judge.ensures.reason plan past has comes.later comes.vlan

pub returns-in-Some-clause-seen : goal.returns-in-Some-clause-seen
returns-in-Some-clause-seen g c = λ plan past comes seen.
    let has : HasSnooped plan past c.in-Some.snoop = subst (λ (o : Option Snooped). HasSeen plan past o) c.in-Some.is seen in
    c.judge.ensures.knows plan past has comes.later comes.vlan

pub returns-in-None-clause-reason : goal.returns-in-None-clause-reason
returns-in-None-clause-reason g c = λ plan past comes seen. absurd (subst (λ (o : Option Snooped). HasSeen plan past o) c.in-None.is seen)

pub returns-in-None-clause-seen : goal.returns-in-None-clause-seen
returns-in-None-clause-seen g c = λ plan past comes seen. absurd (subst (λ (o : Option Snooped). HasSeen plan past o) c.in-None.is seen)
