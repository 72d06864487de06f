use Rattle.savi_conf.specs.Requirements.{HaveApartRanges, TellsPlanPrefix}
use Rattle.savi_conf.proofs.Listed.{seen_all, seen_pairs}
use Rattle.savi_conf.proofs.PartsLemmas.{view_of}
use Rattle.savi_conf.proofs.parts.Parts.has_prefix_ranges.Goals as goal

pub returns-then-tell_plan_prefixes : goal.returns-then-tell_plan_prefixes
returns-then-tell_plan_prefixes c =
    let planned = seen_all TellsPlanPrefix (λ t. view_of t) c.args.self.now.prefixes.now _ c.tell_plan_prefixes.result c.requires.prefixes c.tell_plan_prefixes.ensures in
    let apart = seen_pairs HaveApartRanges (λ t. view_of t) c.args.self.now.prefixes.now _ c.have_apart_ranges.result c.requires.prefixes c.have_apart_ranges.ensures in
    (λ yes. record { planned = planned.0 c.if-tell_plan_prefixes.true; apart = apart.0 yes }, λ ranges. apart.1 ranges.apart)

pub returns-else-tell_plan_prefixes : goal.returns-else-tell_plan_prefixes
returns-else-tell_plan_prefixes c =
    let planned = seen_all TellsPlanPrefix (λ t. view_of t) c.args.self.now.prefixes.now _ c.tell_plan_prefixes.result c.requires.prefixes c.tell_plan_prefixes.ensures in
    (λ yes. absurd cc, λ ranges. planned.1 ranges.planned)
