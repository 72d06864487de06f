use Rattle.std.proofs.Common.{ℕ, List, ◌++◌, codes, decimal, sym, ap, ◌∙◌, append_assoc, append-nil}
use Rattle.hist_store.specs.TextOfLines.{spaced}
use Rattle.hist_store.proofs.VlanLines.{nothing_said, number_said}
use Rattle.hist_store.proofs.vlan_fields.put_vlan.Goals as goal

pub returns-then-vlan-eq-DEFAULT_VLAN-clause-text : goal.returns-then-vlan-eq-DEFAULT_VLAN-clause-text
returns-then-vlan-eq-DEFAULT_VLAN-clause-text c =
    sym (append-nil c.args.into.now.items) ∙ ap (λ (fields : List (List ℕ)). c.args.into.now.items ++ spaced fields) (sym (nothing_said c.args.vlan c.if-vlan-eq-DEFAULT_VLAN.true))

pub returns-clause-text : goal.returns-clause-text
returns-clause-text c =
    let digits = decimal c.args.vlan in
    c.put_vlan_number.ensures.text ∙ ap (λ (t : List ℕ). t ++ digits) c.put_octets.ensures.text
    ∙ append_assoc c.args.into.now.items (codes " vlan ") digits
    ∙ ap (λ (t : List ℕ). c.args.into.now.items ++ (codes " vlan " ++ t)) (sym (append-nil digits))
    ∙ ap (λ (fields : List (List ℕ)). c.args.into.now.items ++ spaced fields) (sym (number_said c.args.vlan c.if-vlan-eq-DEFAULT_VLAN.false))
