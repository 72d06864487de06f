use Rattle.std.proofs.Common.{subst, List, All, arith}
use Rattle.std.proofs.lemmas.List.{take_all}
use Rattle.std.proofs.lemmas.List.Elements.{All-map}
use Rattle.savi_kinds.specs.declared.plan.PrefixPlan.{PrefixPlan}
use Rattle.savi_kinds.specs.declared.address.Prefix.{Prefix}
use Rattle.savi_kinds.specs.Prefixes.{first_of}
use Rattle.savi_history.specs.Journals.{IsAddress}
use Rattle.journal_write.proofs.journal.know_addresses.Goals as goal

pub returns : goal.returns
returns c =
    let all = subst (λ (plans : List PrefixPlan). All (λ (plan : PrefixPlan). IsAddress plan.prefix.net.0) plans) (take_all c.loop-plan.plan-index c.args.prefixes.now (omega (arith, c.loop-plan-test.false))) c.loop-plan.invariant in
    All-map (λ (net : Prefix). IsAddress (first_of net)) (λ (plan : PrefixPlan). plan.prefix) c.args.prefixes.now all
