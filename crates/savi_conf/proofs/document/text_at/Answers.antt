use Rattle.std.proofs.Common.{◌∙◌}
use Rattle.savi_conf.proofs.document.text_at.Goals as goal

pub returns-in-Some : goal.returns-in-Some
returns-in-Some c = c.as_str.ensures ∙ rw (← c.in-Some.ensures)

pub returns-in-None : goal.returns-in-None
returns-in-None c = rw (← c.in-None.ensures)
