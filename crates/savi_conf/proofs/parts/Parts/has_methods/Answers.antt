use Rattle.std.proofs.Common.{codes}
use Rattle.toml.specs.View.{table_view}
use Rattle.savi_kinds.specs.PlanWords.{method_word}
use Rattle.savi_conf.specs.Words.{HasWord}
use Rattle.savi_conf.proofs.Listed.{seen_all}
use Rattle.savi_conf.proofs.parts.Parts.has_methods.Goals as goal

pub returns : goal.returns
returns c = seen_all (HasWord (codes "method") method_word) (λ t. table_view t.now) c.args.self.now.prefixes.now _ c.have_methods.result c.requires.prefixes c.have_methods.ensures
