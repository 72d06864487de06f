use Rattle.savi_conf.specs.declared.fault.Fault.TheVariants.{PrefixRanges}
use Rattle.savi_conf.specs.Parts.{document_of}
use Rattle.savi_conf.specs.Requirements.{HaveApartRanges, TellsPlanPrefix}
use Rattle.savi_conf.specs.Told.{CanSayPrefix}
use Rattle.savi_conf.proofs.Listed.{All-unmap, AllPairs-unmap}
use Rattle.savi_conf.proofs.MetLemmas.{prefixes_said}
use Rattle.savi_conf.proofs.PartsLemmas.{view_of}
use Rattle.savi_conf.proofs.read.prefixes_of.Goals as goal

pub prefix_plans-requires-clause-each : goal.prefix_plans-requires-clause-each
prefix_plans-requires-clause-each c =
    let parts = c.args.parts.now in
    All-unmap CanSayPrefix (λ t. view_of t) parts.prefixes.now (rw c.requires.parts.prefixes (prefixes_said parts.replay (document_of parts) c.requires.meets))

pub prefix_plans-requires-clause-planned : goal.prefix_plans-requires-clause-planned
prefix_plans-requires-clause-planned c =
    let parts = c.args.parts.now in
    All-unmap TellsPlanPrefix (λ t. view_of t) parts.prefixes.now (rw c.requires.parts.prefixes (c.requires.meets PrefixRanges).planned)

pub prefix_plans-requires-clause-apart : goal.prefix_plans-requires-clause-apart
prefix_plans-requires-clause-apart c =
    let parts = c.args.parts.now in
    AllPairs-unmap HaveApartRanges (λ t. view_of t) parts.prefixes.now (rw c.requires.parts.prefixes (c.requires.meets PrefixRanges).apart)

pub returns-clause-order : goal.returns-clause-order
returns-clause-order c = rw c.new.ensures c.in_ok-prefix_plans.ensures.order
