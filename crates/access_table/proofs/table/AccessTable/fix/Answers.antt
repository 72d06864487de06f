use Rattle.fcfs_states.specs.declared.event.Ev.TheVariants.{Fix}
use Rattle.savi_access.specs.Plans.{rules_of}
use Rattle.access_table.proofs.Commands.{told_on_link}
use Rattle.access_table.proofs.table.AccessTable.fix.Goals as goal

pub returns-clause-told : goal.returns-clause-told
returns-clause-told c =
    told_on_link (rules_of c.args.plan.now) c.args.t c.args.self.now c.tell.new.self c.args.a.0 (Fix c.args.port) c.args.port c.tell.result
    c.requires.on_link c.requires.vlan c.tell.ensures.heard
