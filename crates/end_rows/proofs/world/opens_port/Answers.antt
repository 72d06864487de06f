use Rattle.std.proofs.Common.{refl}
use Rattle.savi_ends.specs.Places.{port_key}
use Rattle.end_rows.proofs.world.opens_port.Goals as goal

pub keep_port-requires : goal.keep_port-requires
keep_port-requires g c = (port_key c.args.plan.now, refl, c.in-Ok.ensures.opens.out)
