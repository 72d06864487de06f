use Rattle.std.proofs.Common.{Some, None, refl, ap}
use Rattle.savi_access.specs.Rules.{AccessRules}
use Rattle.savi_access.specs.Frames.{asking_duid}
use Rattle.access_table.specs.declared.judgement.Judgement.{Judgement}
use Rattle.savi_access.specs.Plans.{rules_of}
use Rattle.access_table.proofs.Stepping.{asks_for}
use Rattle.access_table.proofs.table.AccessTable.to_server.Goals as goal

pub returns-in-Ok-clause-judged : goal.returns-in-Ok-clause-judged
returns-in-Ok-clause-judged c =
    let r : AccessRules = rules_of c.args.plan.now in
    asks_for r c.args.self.now.vlan c.args.t c.args.port c.args.self.now c.ask.new.self c.args.dhcp.now (asking_duid c.args.dhcp.now) c.in-Some.duid.now None c.passed-in-Ok.result c.in-Some.ensures.duid c.in-Ok.ensures.refusal refl
    (λ base past is. record {
      verdict = ap (λ (j : Judgement). j.verdict) c.passed-in-Ok.ensures;
      probe = ap (λ (j : Judgement). j.probe) c.passed-in-Ok.ensures;
      kept = c.in-Ok.ensures.asked r c.requires.port base past is;
    })

pub returns-in-Err-clause-judged : goal.returns-in-Err-clause-judged
returns-in-Err-clause-judged c =
    let r : AccessRules = rules_of c.args.plan.now in
    asks_for r c.args.self.now.vlan c.args.t c.args.port c.args.self.now c.ask.new.self c.args.dhcp.now (asking_duid c.args.dhcp.now) c.in-Some.duid.now (Some c.in-Err.rule) c.dropped.result c.in-Some.ensures.duid c.in-Err.ensures.refusal refl
    (λ base past is. record {
      verdict = ap (λ (j : Judgement). j.verdict) c.dropped.ensures;
      probe = ap (λ (j : Judgement). j.probe) c.dropped.ensures;
      kept = c.in-Err.ensures.refused r base past is;
    })
