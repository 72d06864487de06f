use Rattle.savi_access.specs.Rows.{state_in}
use Rattle.fcfs_states.specs.declared.event.Ev.TheVariants.{Clear}
use Rattle.savi_access.specs.Plans.{rules_of, method_in}
use Rattle.access_table.proofs.Commands.{told_on_link, on_link_by_state}
use Rattle.access_table.proofs.table.AccessTable.clear.Goals as goal

pub returns-clause-told : goal.returns-clause-told
returns-clause-told c = λ port.
    told_on_link (rules_of c.args.plan.now) c.args.t c.args.self.now c.tell.new.self c.args.a.0 Clear port c.tell.result
    (on_link_by_state (method_in c.args.plan.now c.args.self.now.vlan c.args.a.0) (state_in c.args.self.now.addresses.rows c.args.a.0) (c.requires.ready.sound c.args.a.0) c.requires.state)
    tt c.tell.ensures.heard
