use Rattle.std.proofs.Common.{not, cond, Option, Some, None, sym, ◌∙◌, ap, subst}
use Rattle.v4_snoop.specs.declared.reason.Reason.TheVariants as reasons
use Rattle.v4_snoop.specs.declared.told.Granted.{Granted}
use Rattle.v4_snoop.specs.Following.{finds_no_room, granted_to}
use Rattle.v4_snoop.specs.KeptLeases.{HoldsLive}
use Rattle.v4_snoop.specs.Snooped.{KnowsClients}
use Rattle.v4_snoop.proofs.Knowing.{knows_leases, room_found, holds_granted}
use Rattle.v4_snoop.proofs.snoop.Snoop.grant.Goals.{then-bind, else-bind}
use Rattle.v4_snoop.proofs.snoop.Snoop.grant.Goals as goal

pub returns-after-bind-clause-reason : goal.returns-after-bind-clause-reason
returns-after-bind-clause-reason c = λ plan clients knows.
    let inside = subst (KnowsClients plan c.args.t clients) (sym c.self.view_is) knows in
    let room = room_found inside c.args.vlan c.args.mac c.args.asker c.in-Some.granted c.new-lease.result c.bind.result c.new-lease.ensures c.bind.ensures.room in
    let said = ap (λ (granted : Option Granted). cond (finds_no_room plan.per_port c.args.vlan c.args.t (Some c.args.asker) granted clients.leases) (Some reasons.PortFull) None) (sym c.in-Some.is) in
    elim c.if-bind.branch [
      | then-bind w ↦ w.result-is ∙ ap (λ b. cond (not b) (Some reasons.PortFull) None) (sym w.if-bind.true ∙ room) ∙ said
      | else-bind w ↦ w.result-is ∙ ap (λ b. cond (not b) (Some reasons.PortFull) None) (sym w.if-bind.false ∙ room) ∙ said
    ]

pub returns-after-bind-clause-knows : goal.returns-after-bind-clause-knows
returns-after-bind-clause-knows c = λ plan clients knows.
    let inside = subst (KnowsClients plan c.args.t clients) (sym c.self.view_is) knows in
    let room = room_found inside c.args.vlan c.args.mac c.args.asker c.in-Some.granted c.new-lease.result c.bind.result c.new-lease.ensures c.bind.ensures.room in
    let holds = holds_granted inside c.args.vlan c.args.mac c.args.asker c.in-Some.granted c.new-lease.result c.bind.result c.bind.new.self c.new-lease.ensures room c.bind.ensures.bound c.bind.ensures.full in
    let P : Option Granted → Type 0 = λ granted. HoldsLive c.args.t (granted_to plan.per_port c.args.vlan c.args.mac c.args.t c.args.asker granted clients.leases) c.bind.new.self.slots.items in
    knows_leases inside c.bind.new.self (granted_to plan.per_port c.args.vlan c.args.mac c.args.t c.args.asker c.args.granted clients.leases) c.bind.ensures.per_port (subst P (sym c.in-Some.is) holds)
