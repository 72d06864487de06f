use Rattle.std.proofs.Common.{IfSome, codes, arith}
use Rattle.savi_conf.specs.Documents.{text_at}
use Rattle.savi_conf.specs.Requirements.{IsSomePrefix}
use Rattle.savi_conf.proofs.Listed.{seen_all}
use Rattle.savi_conf.proofs.PartsLemmas.{view_of, length-seen}
use Rattle.savi_conf.proofs.parts.Parts.has_prefix_texts.Goals as goal

pub returns-then-self-le-PREFIXES_MOST : goal.returns-then-self-le-PREFIXES_MOST
returns-then-self-le-PREFIXES_MOST c =
    let texts = seen_all (λ t. IfSome (text_at (codes "prefix") t) IsSomePrefix) (λ t. view_of t) c.args.self.now.prefixes.now _ c.have_prefix_texts.result c.requires.prefixes c.have_prefix_texts.ensures in (
      λ yes. record { count = omega (arith, length-seen c.args.self.now.prefixes.now _ c.requires.prefixes); texts = texts.0 yes },
      λ has. texts.1 has.texts,
    )
