use Rattle.v4_snoop.proofs.Slots.{one_of}
use Rattle.v4_snoop.proofs.leases.Leases.get.Goals as goal

pub returns-in-Some : goal.returns-in-Some
returns-in-Some c = one_of c.requires c.args.key c.in-Some.slot c.held.result c.in-Some.ensures c.held.ensures
