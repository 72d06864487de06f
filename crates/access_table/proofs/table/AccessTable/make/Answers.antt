use Rattle.access_table.proofs.Starts.{starts, starts_ready}
use Rattle.access_table.proofs.table.AccessTable.make.Goals as goal

pub returns-clause-start : goal.returns-clause-start
returns-clause-start c = starts c.args.plan.now c.requires (record { vlan = c.args.vlan; addresses = c.in_ok-make.field-0; requests = c.in_ok-make-2.field-0 }) c.in_ok-make.ensures c.in_ok-make-2.ensures

pub returns-clause-ready : goal.returns-clause-ready
returns-clause-ready c = starts_ready c.args.plan.now c.requires (record { vlan = c.args.vlan; addresses = c.in_ok-make.field-0; requests = c.in_ok-make-2.field-0 }) c.in_ok-make.ensures
