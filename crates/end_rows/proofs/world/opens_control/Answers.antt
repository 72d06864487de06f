use Rattle.end_rows.proofs.world.opens_control.Goals as goal

pub keep_control-requires : goal.keep_control-requires
keep_control-requires g c = (_, c.in-Ok.ensures.opens.out)
