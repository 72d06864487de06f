use Rattle.std.proofs.Common.{codes}
use Rattle.toml.specs.View.{table_view}
use Rattle.savi_kinds.specs.PlanWords.{format_word}
use Rattle.savi_conf.specs.Words.{HasWord}
use Rattle.savi_conf.proofs.Listed.{seen_all}
use Rattle.savi_conf.proofs.parts.Parts.has_formats.Goals as goal

pub returns : goal.returns
returns c = seen_all (HasWord (codes "format") format_word) (λ t. table_view t.now) c.args.self.now.ports.now _ c.have_formats.result c.requires.ports c.have_formats.ensures
