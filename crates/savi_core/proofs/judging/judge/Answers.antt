use Rattle.std.proofs.Common.{◌≡◌, ◌<◌, Bool, true, false, Option, Some, None, IfSome, ℕ, List, length, get_or, set, sym, ap, subst, ◌∙◌, arith}
use Rattle.std.proofs.lemmas.List.{get_or_default, length-map}
use Rattle.savi_kinds.specs.declared.plan.Plan.{Plan}
use Rattle.savi_kinds.specs.declared.plan.Role.TheVariants.{Trusted}
use Rattle.savi_kinds.specs.declared.port.PortSet.{PortSet}
use Rattle.savi_kinds.specs.declared.verdict.Rule.TheVariants.{PortDown}
use Rattle.savi_kinds.specs.declared.verdict.Verdict.TheVariants.{Drop}
use Rattle.savi_kinds.specs.Ports.{number_of}
use Rattle.savi_kinds.specs.Vlans.{vlans_of}
use Rattle.ra_guard.specs.GuardOf.{guard_of}
use Rattle.savi_access.specs.Judged.{drops}
use Rattle.savi_access.specs.Plans.{rules_of}
use Rattle.savi_history.specs.Marks.{untold}
use Rattle.savi_history.specs.Offers.{offer_of}
use Rattle.savi_core.specs.Judges.{Ages, Judges}
use Rattle.savi_core.specs.declared.vlan_set.VlanSet.{VlanSet}
use Rattle.savi_core.specs.Rings.{rings_after_probe, shut_in}
use Rattle.savi_core.specs.VlanSets.{vlan_at_place, vlan_of_place, vlans_of_sets}
use Rattle.savi_core.proofs.Judgements.{ages_by, asked_here, judged_shut, judged_untold, own_here, ready_then, stations_then, unasked_here}
use Rattle.savi_core.proofs.Shutting.{shut_aged}
use Rattle.savi_core.proofs.Together.{same_vlans}
use Rattle.savi_core.proofs.judging.judge.Goals as goal

pub returns-then-is_shut-clause-judged : goal.returns-then-is_shut-clause-judged
returns-then-is_shut-clause-judged c = λ base past states order.
    let plan = c.args.ports.now in
    let r = rules_of c.args.ports.now in
    let from = c.args.from in
    let t = c.args.t in
    let port = c.args.origin.port in
    let class = c.args.class.now in
    let sets = c.age.new.sets in
    let old = c.args.queues.now in
    let rings = c.age.new.queues in
    let aged : Ages (rules_of c.args.ports.now) c.args.from c.args.t c.age.new.sets c.args.queues.now c.age.new.queues base past =
    ages_by c.plan-plan.result.now plan from t c.args.sets.now sets old rings c.plan-plan.ensures.plan c.age.ensures.aged base past states order in
    let shut : shut_in c.args.queues.now.shut (number_of c.args.origin.port) ≡ true =
    ap (λ (set : PortSet). shut_in set (number_of c.args.origin.port)) (sym (shut_aged r from t sets old rings base past aged)) ∙ sym c.is_shut.ensures ∙ c.if-is_shut.true in
    subst (λ (b : Bool). Judges (rules_of c.args.ports.now) c.args.from c.args.t b c.args.origin.port (vlan_of_place c.args.ports.now c.args.origin.set) c.args.class.now c.age.new.sets c.args.queues.now c.age.new.queues (Drop PortDown) base past) (sym shut)
    (judged_shut r from t port class sets old rings base past aged (vlan_of_place plan c.args.origin.set))

pub returns-in_default-clause-judged : goal.returns-in_default-clause-judged
returns-in_default-clause-judged c = λ base past states order.
    let plan = c.args.ports.now in
    let r = rules_of c.args.ports.now in
    let from = c.args.from in
    let t = c.args.t in
    let port = c.args.origin.port in
    let class = c.args.class.now in
    let sets = c.age.new.sets in
    let old = c.args.queues.now in
    let rings = c.age.new.queues in
    let rule = c.rule_without_vlan.result in
    let aged : Ages (rules_of c.args.ports.now) c.args.from c.args.t c.age.new.sets c.args.queues.now c.age.new.queues base past =
    ages_by c.plan-plan.result.now plan from t c.args.sets.now sets old rings c.plan-plan.ensures.plan c.age.ensures.aged base past states order in
    let unshut : shut_in c.args.queues.now.shut (number_of c.args.origin.port) ≡ false =
    ap (λ (set : PortSet). shut_in set (number_of c.args.origin.port)) (sym (shut_aged r from t sets old rings base past aged)) ∙ sym c.is_shut.ensures ∙ c.if-is_shut.false in
    let told : untold past (guard_of Trusted c.args.ports.now.drop_unknown c.args.class.now) ≡ drops c.rule_without_vlan.result past =
    subst (λ (p : Plan). untold past (guard_of Trusted p.drop_unknown c.args.class.now) ≡ drops c.rule_without_vlan.result past) c.plan-plan.ensures.plan (c.rule_without_vlan.ensures past) in
    subst (λ (v : Option ℕ). Judges (rules_of c.args.ports.now) c.args.from c.args.t (shut_in c.args.queues.now.shut (number_of c.args.origin.port)) c.args.origin.port v c.args.class.now c.age.new.sets c.args.queues.now c.age.new.queues (Drop c.rule_without_vlan.result) base past)
    (sym (ap (vlan_of_place c.args.ports.now) c.in_default.is))
    (subst (λ (b : Bool). Judges (rules_of c.args.ports.now) c.args.from c.args.t b c.args.origin.port None c.args.class.now c.age.new.sets c.args.queues.now c.age.new.queues (Drop c.rule_without_vlan.result) base past) (sym unshut)
    (judged_untold r from t port class sets old rings base past aged rule told))

pub judge-judgement-requires-clause-own : goal.judge-judgement-requires-clause-own
judge-judgement-requires-clause-own c =
    let plan = c.args.ports.now in
    let lent = c.plan-plan.result.now in
    let t = c.args.t in
    let sets = c.age.new.sets in
    let place = c.in-Some.set in
    let here : VlanSet = get_or c.age.new.sets c.in-Some.set c.index-sets-set.result in
    let vlans : vlans_of_sets c.age.new.sets ≡ vlans_of c.args.ports.now = same_vlans c.args.sets.now sets c.age.ensures.rest ∙ c.requires.vlans in
    let within : c.in-Some.set < length (vlans_of c.args.ports.now) = subst (λ (o : Option ℕ). IfSome o (λ s. s < length (vlans_of c.args.ports.now))) c.in-Some.is c.requires.origin.within in
    let at : here ≡ get_or c.age.new.sets c.in-Some.set here =
    get_or_default sets place c.index-sets-set.result here (omega (arith, within, ap length vlans, length-map sets (λ (s : VlanSet). s.access.vlan))) in
    own_here plan sets vlans place within here at lent c.args.origin c.plan-plan.ensures.plan c.requires.origin c.in-Some.is

pub returns-in-Some-probe-clause-ready : goal.returns-in-Some-probe-clause-ready
returns-in-Some-probe-clause-ready c =
    let plan = c.args.ports.now in
    let lent = c.plan-plan.result.now in
    let t = c.args.t in
    let sets = c.age.new.sets in
    let place = c.in-Some.set in
    let here : VlanSet = get_or c.age.new.sets c.in-Some.set c.index-sets-set.result in
    let vlans : vlans_of_sets c.age.new.sets ≡ vlans_of c.args.ports.now = same_vlans c.args.sets.now sets c.age.ensures.rest ∙ c.requires.vlans in
    let within : c.in-Some.set < length (vlans_of c.args.ports.now) = subst (λ (o : Option ℕ). IfSome o (λ s. s < length (vlans_of c.args.ports.now))) c.in-Some.is c.requires.origin.within in
    let at : here ≡ get_or c.age.new.sets c.in-Some.set here =
    get_or_default sets place c.index-sets-set.result here (omega (arith, within, ap length vlans, length-map sets (λ (s : VlanSet). s.access.vlan))) in
    ready_then plan sets vlans place within here at lent c.args.origin.port c.args.class.now t c.plan-plan.ensures.plan c.judge-judgement.new.self c.judge-judgement.ensures.vlan c.judge-judgement.result c.judge-judgement.ensures.judged c.judge-judgement.ensures.ready c.age.ensures.ready

pub returns-in-Some-probe-clause-rest : goal.returns-in-Some-probe-clause-rest
returns-in-Some-probe-clause-rest c =
    let plan = c.args.ports.now in
    let lent = c.plan-plan.result.now in
    let t = c.args.t in
    let sets = c.age.new.sets in
    let place = c.in-Some.set in
    let here : VlanSet = get_or c.age.new.sets c.in-Some.set c.index-sets-set.result in
    let vlans : vlans_of_sets c.age.new.sets ≡ vlans_of c.args.ports.now = same_vlans c.args.sets.now sets c.age.ensures.rest ∙ c.requires.vlans in
    let within : c.in-Some.set < length (vlans_of c.args.ports.now) = subst (λ (o : Option ℕ). IfSome o (λ s. s < length (vlans_of c.args.ports.now))) c.in-Some.is c.requires.origin.within in
    let at : here ≡ get_or c.age.new.sets c.in-Some.set here =
    get_or_default sets place c.index-sets-set.result here (omega (arith, within, ap length vlans, length-map sets (λ (s : VlanSet). s.access.vlan))) in
    stations_then plan sets vlans place within here at lent c.args.origin.port c.args.class.now t c.plan-plan.ensures.plan c.judge-judgement.new.self c.judge-judgement.ensures.vlan c.judge-judgement.result c.judge-judgement.ensures.judged ∙ c.age.ensures.rest

pub returns-in-Some-probe-clause-judged : goal.returns-in-Some-probe-clause-judged
returns-in-Some-probe-clause-judged c = λ base past states order.
    let plan = c.args.ports.now in
    let lent = c.plan-plan.result.now in
    let t = c.args.t in
    let sets = c.age.new.sets in
    let place = c.in-Some.set in
    let here : VlanSet = get_or c.age.new.sets c.in-Some.set c.index-sets-set.result in
    let vlans : vlans_of_sets c.age.new.sets ≡ vlans_of c.args.ports.now = same_vlans c.args.sets.now sets c.age.ensures.rest ∙ c.requires.vlans in
    let within : c.in-Some.set < length (vlans_of c.args.ports.now) = subst (λ (o : Option ℕ). IfSome o (λ s. s < length (vlans_of c.args.ports.now))) c.in-Some.is c.requires.origin.within in
    let at : here ≡ get_or c.age.new.sets c.in-Some.set here =
    get_or_default sets place c.index-sets-set.result here (omega (arith, within, ap length vlans, length-map sets (λ (s : VlanSet). s.access.vlan))) in
    let r = rules_of c.args.ports.now in
    let from = c.args.from in
    let old = c.args.queues.now in
    let rings = c.age.new.queues in
    let aged : Ages (rules_of c.args.ports.now) c.args.from c.args.t c.age.new.sets c.args.queues.now c.age.new.queues base past =
    ages_by lent plan from t c.args.sets.now sets old rings c.plan-plan.ensures.plan c.age.ensures.aged base past states order in
    let unshut : shut_in c.args.queues.now.shut (number_of c.args.origin.port) ≡ false =
    ap (λ (set : PortSet). shut_in set (number_of c.args.origin.port)) (sym (shut_aged r from t sets old rings base past aged)) ∙ sym c.is_shut.ensures ∙ c.if-is_shut.false in
    let then : List VlanSet = set sets place (record here { access = c.judge-judgement.new.self }) in
    subst (λ (v : Option ℕ). Judges (rules_of c.args.ports.now) c.args.from c.args.t (shut_in c.args.queues.now.shut (number_of c.args.origin.port)) c.args.origin.port v c.args.class.now then c.args.queues.now c.take.new.self c.judge-judgement.result.verdict base past)
    (sym (ap (vlan_of_place c.args.ports.now) c.in-Some.is))
    (subst (λ (b : Bool). Judges (rules_of c.args.ports.now) c.args.from c.args.t b c.args.origin.port (Some (vlan_at_place c.args.ports.now c.in-Some.set)) c.args.class.now then c.args.queues.now c.take.new.self c.judge-judgement.result.verdict base past) (sym unshut)
    (asked_here plan sets vlans place within here at lent c.args.origin.port c.args.class.now t c.plan-plan.ensures.plan c.judge-judgement.new.self c.judge-judgement.ensures.vlan c.judge-judgement.result c.judge-judgement.ensures.judged from old rings base past aged c.in-Some-probe.sent c.take.new.self c.in-Some-probe.is
    (c.take.ensures ∙ ap (λ (v : ℕ). rings_after_probe c.age.new.queues (offer_of v c.in-Some-probe.sent)) c.vlan.ensures)))

pub returns-in_default-probe-clause-ready : goal.returns-in_default-probe-clause-ready
returns-in_default-probe-clause-ready c =
    let plan = c.args.ports.now in
    let lent = c.plan-plan.result.now in
    let t = c.args.t in
    let sets = c.age.new.sets in
    let place = c.in-Some.set in
    let here : VlanSet = get_or c.age.new.sets c.in-Some.set c.index-sets-set.result in
    let vlans : vlans_of_sets c.age.new.sets ≡ vlans_of c.args.ports.now = same_vlans c.args.sets.now sets c.age.ensures.rest ∙ c.requires.vlans in
    let within : c.in-Some.set < length (vlans_of c.args.ports.now) = subst (λ (o : Option ℕ). IfSome o (λ s. s < length (vlans_of c.args.ports.now))) c.in-Some.is c.requires.origin.within in
    let at : here ≡ get_or c.age.new.sets c.in-Some.set here =
    get_or_default sets place c.index-sets-set.result here (omega (arith, within, ap length vlans, length-map sets (λ (s : VlanSet). s.access.vlan))) in
    ready_then plan sets vlans place within here at lent c.args.origin.port c.args.class.now t c.plan-plan.ensures.plan c.judge-judgement.new.self c.judge-judgement.ensures.vlan c.judge-judgement.result c.judge-judgement.ensures.judged c.judge-judgement.ensures.ready c.age.ensures.ready

pub returns-in_default-probe-clause-rest : goal.returns-in_default-probe-clause-rest
returns-in_default-probe-clause-rest c =
    let plan = c.args.ports.now in
    let lent = c.plan-plan.result.now in
    let t = c.args.t in
    let sets = c.age.new.sets in
    let place = c.in-Some.set in
    let here : VlanSet = get_or c.age.new.sets c.in-Some.set c.index-sets-set.result in
    let vlans : vlans_of_sets c.age.new.sets ≡ vlans_of c.args.ports.now = same_vlans c.args.sets.now sets c.age.ensures.rest ∙ c.requires.vlans in
    let within : c.in-Some.set < length (vlans_of c.args.ports.now) = subst (λ (o : Option ℕ). IfSome o (λ s. s < length (vlans_of c.args.ports.now))) c.in-Some.is c.requires.origin.within in
    let at : here ≡ get_or c.age.new.sets c.in-Some.set here =
    get_or_default sets place c.index-sets-set.result here (omega (arith, within, ap length vlans, length-map sets (λ (s : VlanSet). s.access.vlan))) in
    stations_then plan sets vlans place within here at lent c.args.origin.port c.args.class.now t c.plan-plan.ensures.plan c.judge-judgement.new.self c.judge-judgement.ensures.vlan c.judge-judgement.result c.judge-judgement.ensures.judged ∙ c.age.ensures.rest

pub returns-in_default-probe-clause-judged : goal.returns-in_default-probe-clause-judged
returns-in_default-probe-clause-judged c = λ base past states order.
    let plan = c.args.ports.now in
    let lent = c.plan-plan.result.now in
    let t = c.args.t in
    let sets = c.age.new.sets in
    let place = c.in-Some.set in
    let here : VlanSet = get_or c.age.new.sets c.in-Some.set c.index-sets-set.result in
    let vlans : vlans_of_sets c.age.new.sets ≡ vlans_of c.args.ports.now = same_vlans c.args.sets.now sets c.age.ensures.rest ∙ c.requires.vlans in
    let within : c.in-Some.set < length (vlans_of c.args.ports.now) = subst (λ (o : Option ℕ). IfSome o (λ s. s < length (vlans_of c.args.ports.now))) c.in-Some.is c.requires.origin.within in
    let at : here ≡ get_or c.age.new.sets c.in-Some.set here =
    get_or_default sets place c.index-sets-set.result here (omega (arith, within, ap length vlans, length-map sets (λ (s : VlanSet). s.access.vlan))) in
    let r = rules_of c.args.ports.now in
    let from = c.args.from in
    let old = c.args.queues.now in
    let rings = c.age.new.queues in
    let aged : Ages (rules_of c.args.ports.now) c.args.from c.args.t c.age.new.sets c.args.queues.now c.age.new.queues base past =
    ages_by lent plan from t c.args.sets.now sets old rings c.plan-plan.ensures.plan c.age.ensures.aged base past states order in
    let unshut : shut_in c.args.queues.now.shut (number_of c.args.origin.port) ≡ false =
    ap (λ (set : PortSet). shut_in set (number_of c.args.origin.port)) (sym (shut_aged r from t sets old rings base past aged)) ∙ sym c.is_shut.ensures ∙ c.if-is_shut.false in
    let then : List VlanSet = set sets place (record here { access = c.judge-judgement.new.self }) in
    subst (λ (v : Option ℕ). Judges (rules_of c.args.ports.now) c.args.from c.args.t (shut_in c.args.queues.now.shut (number_of c.args.origin.port)) c.args.origin.port v c.args.class.now then c.args.queues.now c.age.new.queues c.judge-judgement.result.verdict base past)
    (sym (ap (vlan_of_place c.args.ports.now) c.in-Some.is))
    (subst (λ (b : Bool). Judges (rules_of c.args.ports.now) c.args.from c.args.t b c.args.origin.port (Some (vlan_at_place c.args.ports.now c.in-Some.set)) c.args.class.now then c.args.queues.now c.age.new.queues c.judge-judgement.result.verdict base past) (sym unshut)
    (unasked_here plan sets vlans place within here at lent c.args.origin.port c.args.class.now t c.plan-plan.ensures.plan c.judge-judgement.new.self c.judge-judgement.ensures.vlan c.judge-judgement.result c.judge-judgement.ensures.judged from old rings base past aged c.in_default-probe.is))
