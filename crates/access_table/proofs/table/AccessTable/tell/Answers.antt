use Rattle.std.proofs.Common.{◌≡◌, Some, is_some, refl, ap, sym, ◌∙◌, subst}
use Rattle.savi_access.specs.Rooms.{IsFixable}
use Rattle.savi_access.specs.Rules.{AccessRules}
use Rattle.savi_access.specs.Plans.{rules_of, method_in}
use Rattle.access_table.specs.Kept.{Kept, IsAgedTo}
use Rattle.access_table.specs.Steps.{Hears}
use Rattle.access_table.proofs.Standing.{event_answer, event_stands, event_ready}
use Rattle.access_table.proofs.table.AccessTable.tell.Goals as goal

pub returns-clause-ready : goal.returns-clause-ready
returns-clause-ready c =
    let r : AccessRules = rules_of c.args.plan.now in
    let old : Kept = record { vlan = c.self.inside.vlan; addresses = c.self.inside.addresses; requests = c.self.inside.requests } in
    let new : Kept = record { vlan = c.self.inside.vlan; addresses = c.event.new.self; requests = c.self.inside.requests } in
    event_ready r c.args.t old new c.args.a.0 c.in_ok-method.method _ (subst (IsAgedTo r c.args.t) (sym c.self.view_is) c.requires.ready) (sym c.method_of.ensures ∙ c.in_ok-method.was) refl c.event.ensures.rows c.event.ensures.still c.event.ensures.sound

pub returns-clause-heard : goal.returns-clause-heard
returns-clause-heard c =
    let r : AccessRules = rules_of c.args.plan.now in
    let t = c.args.t in
    let m = c.in_ok-method.method in
    let at_first : Kept = record { vlan = c.self.inside.vlan; addresses = c.self.inside.addresses; requests = c.self.inside.requests } in
    let new : Kept = record { vlan = c.self.inside.vlan; addresses = c.event.new.self; requests = c.self.inside.requests } in
    let found : method_in c.args.plan.now c.self.inside.vlan c.args.a.0 ≡ Some m = sym c.method_of.ensures ∙ c.in_ok-method.was in
    subst (λ (old : Kept). Hears r t old new c.args.a.0 c.args.ev (Some c.event.result)) c.self.view_is (
      ap is_some found,
      λ base past port is own. record {
        answer = c.event.ensures.answer ∙ event_answer r base past t c.requires.moment at_first is c.args.a.0 c.args.ev m port found;
        kept = event_stands r base past t c.requires.moment at_first is c.args.a.0 c.args.ev m port found c.requires.lease (subst (λ (old : Kept). IsFixable old.addresses.per_port old.addresses.rows c.args.a.0 c.args.ev) (sym c.self.view_is) c.requires.fixable) own new refl c.event.ensures.rows refl;
      },
    )
