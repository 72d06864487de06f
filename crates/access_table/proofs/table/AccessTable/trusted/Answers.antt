use Rattle.std.proofs.Common.{ℕ, Option, sym, subst}
use Rattle.frame_class.specs.declared.classes.Class.{Class}
use Rattle.fcfs_states.specs.declared.event.Ev.TheVariants.{TpDad, TpNa}
use Rattle.savi_access.specs.Rules.{AccessRules}
use Rattle.savi_access.specs.Frames.{advertised, dhcp_to}
use Rattle.savi_access.specs.Judged.{trusted, heard_or, to_client_or_other}
use Rattle.savi_access.specs.Plans.{rules_of}
use Rattle.access_table.specs.Steps.{ComesTo}
use Rattle.access_table.proofs.table.AccessTable.trusted.Goals as goal

pub returns-in-Some-clause-judged : goal.returns-in-Some-clause-judged
returns-in-Some-clause-judged c = λ port base past is.
    let r : AccessRules = rules_of c.args.plan.now in
    subst (λ (class : Class). ComesTo r base c.args.t c.event.new.self c.event.result (trusted r base c.args.self.now.vlan port c.args.t past class)) (sym c.in-Ip6.is)
    (subst (λ (s : Option ℕ). ComesTo r base c.args.t c.event.new.self c.event.result (heard_or r base c.args.self.now.vlan port c.args.t past s TpDad (heard_or r base c.args.self.now.vlan port c.args.t past (advertised c.in-Ip6.read) TpNa (to_client_or_other r base c.args.self.now.vlan port c.args.t past (dhcp_to 546 c.in-Ip6.read))))) c.in-Some.ensures
    (c.event.ensures.judged port base past is))

pub returns-in-Some-advertised_target-clause-judged : goal.returns-in-Some-advertised_target-clause-judged
returns-in-Some-advertised_target-clause-judged c = λ port base past is.
    let r : AccessRules = rules_of c.args.plan.now in
    let new = c.event-in-Some-advertised_target.new.self in
    let result = c.event-in-Some-advertised_target.result in
    subst (λ (class : Class). ComesTo r base c.args.t new result (trusted r base c.args.self.now.vlan port c.args.t past class)) (sym c.in-Ip6.is)
    (subst (λ (s : Option ℕ). ComesTo r base c.args.t new result (heard_or r base c.args.self.now.vlan port c.args.t past s TpDad (heard_or r base c.args.self.now.vlan port c.args.t past (advertised c.in-Ip6.read) TpNa (to_client_or_other r base c.args.self.now.vlan port c.args.t past (dhcp_to 546 c.in-Ip6.read))))) c.in_default-dad_target.ensures
    (subst (λ (s : Option ℕ). ComesTo r base c.args.t new result (heard_or r base c.args.self.now.vlan port c.args.t past s TpNa (to_client_or_other r base c.args.self.now.vlan port c.args.t past (dhcp_to 546 c.in-Ip6.read)))) c.in-Some-advertised_target.ensures
    (c.event-in-Some-advertised_target.ensures.judged port base past is)))
