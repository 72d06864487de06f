use Rattle.std.proofs.Common.{ap, arith}
use Rattle.addr_table.specs.Addresses.{Addresses}
use Rattle.addr_table.proofs.table.AddrTable.count.Goals as goal

pub returns-clause-most : goal.returns-clause-most
returns-clause-most c = omega (arith, c.count.ensures, c.self.invariant.0.within c.args.port, ap (λ (table : Addresses). table.per_port) c.self.view_is)
