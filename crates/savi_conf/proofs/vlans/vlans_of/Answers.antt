use Rattle.std.proofs.Common.{SFits, w64, rules, ℤ, List, [], ◌∷◌, ◌++◌, ap, sym, to_z-of_z, ◌∙◌}
use Rattle.toml.specs.View.{table_view}
use Rattle.savi_conf.proofs.VlansSaid.{access_numbers, trunk_numbers}
use Rattle.savi_conf.proofs.vlans.vlans_of.Goals as goal

pub returns-in-Some : goal.returns-in-Some
returns-in-Some c = sym (trunk_numbers (table_view c.args.port.now) c.in-Some.numbers.items (rw c.in-Some.is at c.in_ok-numbers.ensures))

pub returns-in_ok-push-in-None : goal.returns-in_ok-push-in-None
returns-in_ok-push-in-None c =
    let fits : SFits w64 c.vlan.result = search rules in
    let pushed = simp to_z-of_z at c.in_ok-push-in-None.ensures.items in
    pushed ∙ ap (λ (zs : List ℤ). zs ++ c.vlan.result ∷ []) c.new-numbers.ensures.items ∙ ap (λ (z : ℤ). z ∷ []) c.vlan.ensures
    ∙ sym (access_numbers (table_view c.args.port.now) (rw c.in-None.is at c.in_ok-numbers.ensures))
