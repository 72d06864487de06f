use Rattle.savi_conf.specs.Requirements.{HasTrunkRole}
use Rattle.savi_conf.proofs.Listed.{seen_all}
use Rattle.savi_conf.proofs.PartsLemmas.{view_of}
use Rattle.savi_conf.proofs.parts.Parts.has_trunk_roles.Goals as goal

pub returns : goal.returns
returns c = seen_all HasTrunkRole (λ t. view_of t) c.args.self.now.ports.now _ c.have_trunk_roles.result c.requires.ports c.have_trunk_roles.ensures
