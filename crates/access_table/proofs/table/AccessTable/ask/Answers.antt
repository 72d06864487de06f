use Rattle.std.proofs.Common.{◌≡◌, ◌∷◌, Option, Some, None, Result, Ok, Err, OnOk, refl, sym, subst}
use Rattle.std.specs.Result.{result_err}
use Rattle.savi_kinds.specs.declared.verdict.Rule.{Rule}
use Rattle.savi_kinds.specs.Ports.{number_of}
use Rattle.dhcp_states.specs.Requests.{request_of}
use Rattle.savi_access.specs.Rules.{AccessRules}
use Rattle.savi_access.specs.Marks.{Asked}
use Rattle.access_table.specs.Kept.{Kept}
use Rattle.access_table.specs.Steps.{Moves}
use Rattle.access_table.proofs.Standing.{asked_stands}
use Rattle.access_table.proofs.table.AccessTable.ask.Goals as goal

on_ok : {P Q : Type 0} (result : Result (Unit {0}) Rule) (o : Option Rule) → result_err result ≡ o → OnOk result P → (o ≡ None → P → Q) → OnOk result Q
on_ok (Ok u) o is holds then = then (sym is) holds
on_ok (Err e) o is holds then = tt

pub returns-clause-asked : goal.returns-clause-asked
returns-clause-asked c =
    let new : Kept = record { vlan = c.self.inside.vlan; addresses = c.self.inside.addresses; requests = c.request.new.self } in
    let port = c.args.port in
    let tid = c.args.tid in
    let duid = c.args.duid.now in
    subst (λ (old : Kept). OnOk c.request.result ((r : AccessRules) → r.addresses.vlan_of (number_of port) ≡ Some old.vlan → Moves r c.args.t old new (λ base past. Asked old.vlan (request_of port tid duid c.args.t) ∷ past))) c.self.view_is
    (on_ok c.request.result _ c.request.ensures.refusal c.request.ensures.asked
    (λ free opened. λ r own base past is. asked_stands r base past c.args.t c.requires.moment (record { vlan = c.self.inside.vlan; addresses = c.self.inside.addresses; requests = c.self.inside.requests }) is port tid duid own free new refl refl opened))
