use Rattle.std.proofs.Common.{◌≢◌, Some, codes}
use Rattle.savi_conf.specs.Documents.{text_at}
use Rattle.savi_conf.proofs.Listed.{seen_all}
use Rattle.savi_conf.proofs.PartsLemmas.{view_of}
use Rattle.savi_conf.proofs.parts.Parts.fits_command.Goals as goal

pub returns-else-not-self : goal.returns-else-not-self
returns-else-not-self c =
    let none = seen_all (λ port. text_at (codes "format") port ≢ Some (codes "stream")) (λ t. view_of t) c.args.self.now.ports.now _ c.have_no_stream.result c.requires.ports c.have_no_stream.ensures in
    (λ yes _. none.0 yes, λ fits. none.1 (fits c.if-not-self.false))
