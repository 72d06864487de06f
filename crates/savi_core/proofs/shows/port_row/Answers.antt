use Rattle.std.proofs.Common.{arith}
use Rattle.savi_kinds.specs.Ports.{number_of}
use Rattle.savi_core.proofs.Places.{place_within}
use Rattle.savi_core.proofs.shows.port_row.Goals as goal

pub len-requires : goal.len-requires
len-requires c =
    omega (arith, c.requires.lanes, c.place_of.ensures.place, place_within c.args.ports.now (number_of c.args.port.now.number) c.requires.known)
