use Rattle.std.proofs.Common.{subst, refl}
use Rattle.savi_kinds.specs.declared.plan.Plan.{Plan}
use Rattle.fcfs_states.specs.declared.event.Ev.TheVariants.{Clear}
use Rattle.savi_access.specs.Marks.{event_told}
use Rattle.savi_access.specs.Plans.{rules_of}
use Rattle.access_table.specs.Kept.{Kept, IsAgedTo}
use Rattle.access_table.specs.Steps.{Moves}
use Rattle.savi_history.proofs.Commanding.{some_port}
use Rattle.savi_core.specs.declared.vlan_set.VlanSet.{VlanSet}
use Rattle.savi_core.proofs.Ordering.{cleared_there, may_clear, ready_one, stations_one}
use Rattle.savi_core.proofs.SetPlaces.{set_at}
use Rattle.savi_core.proofs.commands.clear.Goals as goal

pub clear-requires-clause-state : goal.clear-requires-clause-state
clear-requires-clause-state c =
    may_clear c.args.ports.now c.args.sets.now c.requires.vlans c.in-Some.set c.in-Some.ensures.within c.args.vlan c.args.address.0 c.index-sets-set.result c.in-Some.ensures.found c.requires.granted

pub returns-in-Some-clause-ready : goal.returns-in-Some-clause-ready
returns-in-Some-clause-ready c =
    ready_one c.args.ports.now c.args.sets.now c.requires.vlans c.in-Some.set c.in-Some.ensures.within (record (set_at c.args.sets.now c.in-Some.set c.index-sets-set.result) { access = c.clear.new.self }) c.args.t
    (subst (λ (p : Plan). IsAgedTo (rules_of p) c.args.t c.clear.new.self) c.plan.ensures.plan c.clear.ensures.ready) c.requires.ready

pub returns-in-Some-clause-stations : goal.returns-in-Some-clause-stations
returns-in-Some-clause-stations c =
    stations_one c.args.ports.now c.args.sets.now c.requires.vlans c.in-Some.set c.in-Some.ensures.within (record (set_at c.args.sets.now c.in-Some.set c.index-sets-set.result) { access = c.clear.new.self }) c.index-sets-set.result c.clear.ensures.vlan refl

pub returns-in-Some-clause-told : goal.returns-in-Some-clause-told
returns-in-Some-clause-told c =
    let plan = c.args.ports.now in
    let a = c.args.address.0 in
    let set : VlanSet = set_at c.args.sets.now c.in-Some.set c.index-sets-set.result in
    let table : Kept = set.access in
    let moves =
    subst (λ (p : Plan). Moves (rules_of p) c.args.t table c.clear.new.self (λ base past. event_told (rules_of p) base table.vlan c.args.t past a Clear)) c.plan.ensures.plan (c.clear.ensures.told some_port) in
    cleared_there plan c.args.sets.now c.requires.vlans c.in-Some.set c.in-Some.ensures.within (record set { access = c.clear.new.self }) c.args.t a c.index-sets-set.result c.args.vlan c.in-Some.ensures.found moves
