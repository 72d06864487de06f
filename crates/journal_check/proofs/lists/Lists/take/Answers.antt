use Rattle.journal_check.proofs.ListsRead.{listed_as, port_listed, prefix_listed}
use Rattle.journal_check.proofs.lists.Lists.take.Goals as goal

pub returns-in-Port : goal.returns-in-Port
returns-in-Port c =
    let ports = c.args.self.now.ports.items in
    let prefixes = c.args.self.now.prefixes.items in
    listed_as c.args.line.now ports prefixes _ _ c.add_port.new.self.ports.items c.add_port.new.self.prefixes.items c.add_port.ensures.ports c.add_port.ensures.prefixes
    (port_listed ports prefixes c.in-Port.number c.in-Port.role c.in-Port.format c.in-Port.vlan c.args.line.now c.requires c.in-Port.ensures.0 c.in-Port.ensures.1)

pub returns-in-Prefix : goal.returns-in-Prefix
returns-in-Prefix c =
    let ports = c.args.self.now.ports.items in
    let prefixes = c.args.self.now.prefixes.items in
    listed_as c.args.line.now ports prefixes _ _ c.add_prefix.new.self.ports.items c.add_prefix.new.self.prefixes.items c.add_prefix.ensures.ports c.add_prefix.ensures.prefixes
    (prefix_listed ports prefixes c.in-Prefix.plan c.args.line.now c.requires c.in-Prefix.ensures.0 c.in-Prefix.ensures.1)
