use Rattle.savi_conf.proofs.parts.Parts.has_few_vlans.Goals as goal

pub returns : goal.returns
returns c = rw (← c.requires.vlans) c.are_few_vlans.ensures
