use Rattle.std.proofs.Common.{◌≡◌, List, Option, Some, None, sym, ap, ◌∙◌, subst}
use Rattle.savi_kinds.specs.declared.plan.Role.{Role}
use Rattle.savi_kinds.specs.declared.plan.Role.TheVariants as roles
use Rattle.savi_kinds.specs.declared.verdict.Rule.{Rule}
use Rattle.savi_kinds.specs.Ports.{number_of}
use Rattle.ra_guard.specs.Guard.{Applies, IsFirst}
use Rattle.ra_guard.specs.GuardOf.{is_validating}
use Rattle.savi_access.specs.Rules.{AccessRules}
use Rattle.savi_access.specs.Marks.{Mark}
use Rattle.savi_access.specs.Judged.{Judged, judged_by}
use Rattle.access_table.specs.declared.judgement.Judgement.{Judgement}
use Rattle.savi_access.specs.Plans.{rules_of, role_of}
use Rattle.access_table.proofs.Following.{comes_plainly, judged_first, judged_next, judged_off, judged_host, trusted_role, validating_role}
use Rattle.access_table.proofs.table.AccessTable.judge.Goals as goal

abbrev the_judged : Judgement → List Mark → Judged
the_judged j past = record { verdict = j.verdict; marks = past; probe = j.probe }

pub returns-in-Some-clause-judged : goal.returns-in-Some-clause-judged
returns-in-Some-clause-judged c =
    let r : AccessRules = rules_of c.args.plan.now in
    let class = c.args.class.now in
    judged_first r c.args.self.now.vlan c.args.t c.args.port class (Some c.in-Some.rule) (subst (λ (role : Role). (other : Option Rule) → IsFirst (Applies role c.args.plan.now.drop_unknown class) other → other ≡ Some c.in-Some.rule) c.role_of-role.ensures c.in-Some.ensures.only) c.args.self.now c.args.self.now c.dropped.result
    (comes_plainly r c.args.self.now.vlan c.args.t c.args.port c.args.self.now c.dropped.result (λ base past. judged_by r base c.args.self.now.vlan c.args.port c.args.t past class (Some c.in-Some.rule))
    (λ base past. ap (λ (j : Judgement). the_judged j past) (sym c.dropped.ensures)))

pub returns-then-not-plan-clause-judged : goal.returns-then-not-plan-clause-judged
returns-then-not-plan-clause-judged c =
    let r : AccessRules = rules_of c.args.plan.now in
    let class = c.args.class.now in
    judged_first r c.args.self.now.vlan c.args.t c.args.port class None (subst (λ (role : Role). (other : Option Rule) → IsFirst (Applies role c.args.plan.now.drop_unknown class) other → other ≡ None) c.role_of-role.ensures c.in_default.ensures.only) c.args.self.now c.args.self.now c.passed.result
    (judged_off r c.args.self.now.vlan c.args.t c.args.port class c.args.self.now c.passed.result c.if-not-plan.true c.passed.ensures)

pub returns-then-not-is_validating-clause-judged : goal.returns-then-not-is_validating-clause-judged
returns-then-not-is_validating-clause-judged c =
    let r : AccessRules = rules_of c.args.plan.now in
    let class = c.args.class.now in
    judged_first r c.args.self.now.vlan c.args.t c.args.port class None (subst (λ (role : Role). (other : Option Rule) → IsFirst (Applies role c.args.plan.now.drop_unknown class) other → other ≡ None) c.role_of-role.ensures c.in_default.ensures.only) c.args.self.now c.trusted.new.self c.trusted.result
    (judged_next r c.args.self.now.vlan c.args.t c.args.port class roles.Trusted c.args.self.now c.trusted.new.self c.trusted.result c.if-not-plan.false (sym c.role_of-role.ensures ∙ trusted_role c.role_of-role.result (sym c.is_validating.ensures ∙ c.if-not-is_validating.true)) (c.trusted.ensures.judged c.args.port))

pub validated-requires : goal.validated-requires
validated-requires c = record {
  plan = c.requires.plan;
  port = c.requires.own (validating_role (role_of c.args.plan.now (number_of c.args.port)) (ap is_validating (sym c.role_of-role.ensures) ∙ sym c.is_validating.ensures ∙ c.if-not-is_validating.false));
  moment = c.requires.moment;
  ready = c.requires.ready;
}

pub returns : goal.returns
returns c =
    let r : AccessRules = rules_of c.args.plan.now in
    let class = c.args.class.now in
    let role : Role = c.role_of-role.result in
    record {
      vlan = c.validated.ensures.vlan;
      ready = c.validated.ensures.ready;
      judged =
          judged_first r c.args.self.now.vlan c.args.t c.args.port class None (subst (λ (role : Role). (other : Option Rule) → IsFirst (Applies role c.args.plan.now.drop_unknown class) other → other ≡ None) c.role_of-role.ensures c.in_default.ensures.only) c.args.self.now c.validated.new.self c.validated.result
          (judged_next r c.args.self.now.vlan c.args.t c.args.port class role c.args.self.now c.validated.new.self c.validated.result c.if-not-plan.false (sym c.role_of-role.ensures)
          (judged_host r c.args.self.now.vlan c.args.t c.args.port class role c.args.self.now c.validated.new.self c.validated.result (sym c.is_validating.ensures ∙ c.if-not-is_validating.false) c.validated.ensures.judged));
    }
