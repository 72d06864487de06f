use Rattle.std.proofs.Common.{subst}
use Rattle.addr_table.specs.Addresses.{Addresses}
use Rattle.savi_access.specs.Keeps.{IsWithinRules}
use Rattle.addr_table.proofs.table.AddrTable.row.Goals as goal

pub returns-clause-kept : goal.returns-clause-kept
returns-clause-kept c = subst (λ (all : Addresses). IsWithinRules all.times all.per_port all.rows) c.self.view_is c.self.invariant.0
