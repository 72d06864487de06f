use Rattle.std.proofs.Common.{ℕ, ◌<◌, zero, suc, length, List, [], ◌∷◌, All, slice_index_or, sym, subst, arith}
use Rattle.std.proofs.lemmas.List.Elements.{All-head, All-tail}
use Rattle.savi_kinds.specs.declared.plan.PrefixPlan.{PrefixPlan}
use Rattle.savi_kinds.specs.ValidPlan.{IsPlanPrefix, nets_of}
use Rattle.access_table.proofs.plans.method_of.Goals as goal

each_valid : (prefixes : List PrefixPlan) → All IsPlanPrefix (nets_of prefixes) → (i : ℕ) (d : PrefixPlan) → i < length prefixes → IsPlanPrefix (slice_index_or prefixes i d).prefix
each_valid [] all i d within = absurd (omega (arith, within))
each_valid (p ∷ prefixes) all zero d within = All-head IsPlanPrefix p.prefix (nets_of prefixes) all
each_valid (p ∷ prefixes) all (suc i) d within = each_valid prefixes (All-tail IsPlanPrefix p.prefix (nets_of prefixes) all) i d (omega (arith, within))

pub lies_in-requires-then-p-vlan-clause-short : goal.lies_in-requires-then-p-vlan-clause-short
lies_in-requires-then-p-vlan-clause-short c = (each_valid c.as_slice-p-items.result.now (subst (λ (ps : List PrefixPlan). All IsPlanPrefix (nets_of ps)) (sym c.as_slice-p-items.ensures) c.requires.plan_prefixes) c.loop-p.p-index _ c.loop-p-test.true).prefix.short

pub lies_in-requires-then-p-vlan-clause-long : goal.lies_in-requires-then-p-vlan-clause-long
lies_in-requires-then-p-vlan-clause-long c = (each_valid c.as_slice-p-items.result.now (subst (λ (ps : List PrefixPlan). All IsPlanPrefix (nets_of ps)) (sym c.as_slice-p-items.ensures) c.requires.plan_prefixes) c.loop-p.p-index _ c.loop-p-test.true).prefix.long
