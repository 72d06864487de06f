use Rattle.std.proofs.Common.{◌≡◌, ◌∷◌, ◌∙◌, Option, Some, None, IfSome, refl, sym, subst}
use Rattle.savi_kinds.specs.declared.port.Port.{Port}
use Rattle.dhcp_states.specs.Requests.{open_at}
use Rattle.savi_access.specs.Rules.{AccessRules}
use Rattle.savi_access.specs.Marks.{Met}
use Rattle.access_table.specs.Kept.{Kept}
use Rattle.access_table.specs.Steps.{Moves}
use Rattle.access_table.proofs.Standing.{same_stands, met_stands, none_without}
use Rattle.access_table.proofs.table.AccessTable.meet.Goals as goal

if_some : {Q : Port → Type 0} (result : Option Port) → ((q : Port) → result ≡ Some q → Q q) → IfSome result Q
if_some None then = tt
if_some (Some q) then = then q refl

pub returns-clause-none : goal.returns-clause-none
returns-clause-none c =
    let new : Kept = record { vlan = c.self.inside.vlan; addresses = c.self.inside.addresses; requests = c.reply.new.self } in
    subst (λ (old : Kept). c.reply.result ≡ None → (r : AccessRules) → Moves r c.args.t old new (λ base past. past)) c.self.view_is
    (λ none r base past is. same_stands r base past c.args.t (record { vlan = c.self.inside.vlan; addresses = c.self.inside.addresses; requests = c.self.inside.requests }) new is refl refl
    (c.reply.ensures.met ∙ none_without c.args.tid c.args.duid.now (open_at c.args.t c.self.inside.requests) (sym c.reply.ensures.port ∙ none)))

pub returns-clause-met : goal.returns-clause-met
returns-clause-met c =
    let new : Kept = record { vlan = c.self.inside.vlan; addresses = c.self.inside.addresses; requests = c.reply.new.self } in
    subst (λ (old : Kept). IfSome c.reply.result (λ port. (r : AccessRules) → Moves r c.args.t old new (λ base past. Met old.vlan c.args.t c.args.tid c.args.duid.now ∷ past))) c.self.view_is
    (if_some c.reply.result (λ q found r base past is. met_stands r base past c.args.t c.requires.moment (record { vlan = c.self.inside.vlan; addresses = c.self.inside.addresses; requests = c.self.inside.requests }) is c.args.tid c.args.duid.now q (sym c.reply.ensures.port ∙ found) new refl refl c.reply.ensures.met))
