use Rattle.std.proofs.Common.{subst, refl}
use Rattle.savi_kinds.specs.declared.plan.Plan.{Plan}
use Rattle.fcfs_states.specs.declared.event.Ev.TheVariants.{Fix}
use Rattle.savi_access.specs.Marks.{event_told}
use Rattle.savi_access.specs.Plans.{rules_of}
use Rattle.access_table.specs.Kept.{Kept, IsAgedTo}
use Rattle.access_table.specs.Steps.{Moves}
use Rattle.savi_core.specs.declared.vlan_set.VlanSet.{VlanSet}
use Rattle.savi_core.proofs.Ordering.{fixed_there, may_fix, ready_one, stations_one}
use Rattle.savi_core.proofs.SetPlaces.{set_at}
use Rattle.savi_core.proofs.commands.fix.Goals as goal

pub fix-requires-clause-fixable : goal.fix-requires-clause-fixable
fix-requires-clause-fixable c =
    may_fix c.args.ports.now c.args.sets.now c.requires.vlans c.in-Some.set c.in-Some.ensures.within c.args.port c.args.address.0 c.index-sets-set.result (λ n d inside. (c.requires.ready n d inside).made.per_port) c.in-Some.ensures.vlan c.requires.granted

pub returns-in-Some-clause-ready : goal.returns-in-Some-clause-ready
returns-in-Some-clause-ready c =
    ready_one c.args.ports.now c.args.sets.now c.requires.vlans c.in-Some.set c.in-Some.ensures.within (record (set_at c.args.sets.now c.in-Some.set c.index-sets-set.result) { access = c.fix.new.self }) c.args.t
    (subst (λ (p : Plan). IsAgedTo (rules_of p) c.args.t c.fix.new.self) c.plan.ensures.plan c.fix.ensures.ready) c.requires.ready

pub returns-in-Some-clause-stations : goal.returns-in-Some-clause-stations
returns-in-Some-clause-stations c =
    stations_one c.args.ports.now c.args.sets.now c.requires.vlans c.in-Some.set c.in-Some.ensures.within (record (set_at c.args.sets.now c.in-Some.set c.index-sets-set.result) { access = c.fix.new.self }) c.index-sets-set.result c.fix.ensures.vlan refl

pub returns-in-Some-clause-told : goal.returns-in-Some-clause-told
returns-in-Some-clause-told c =
    let plan = c.args.ports.now in
    let a = c.args.address.0 in
    let set : VlanSet = set_at c.args.sets.now c.in-Some.set c.index-sets-set.result in
    let table : Kept = set.access in
    let moves =
    subst (λ (p : Plan). Moves (rules_of p) c.args.t table c.fix.new.self (λ base past. event_told (rules_of p) base table.vlan c.args.t past a (Fix c.args.port))) c.plan.ensures.plan c.fix.ensures.told in
    fixed_there plan c.args.sets.now c.requires.vlans c.in-Some.set c.in-Some.ensures.within (record set { access = c.fix.new.self }) c.args.t a c.index-sets-set.result c.args.port c.in-Some.ensures.vlan moves
