use Rattle.std.proofs.Common.{ℕ, List, [], ◌++◌, codes, sym, ap, ◌∙◌, append_assoc, append-nil, arith}
use Rattle.std.proofs.lemmas.List.Elements.{All-head}
use Rattle.savi_kinds.specs.Vlans.{IsVlan}
use Rattle.hist_store.specs.VlanTexts.{vlans_text}
use Rattle.hist_store.proofs.vlan_fields.put_port_vlans.Goals as goal

pub put_vlan-requires : goal.put_vlan-requires
put_vlan-requires c =
    let vlans = rw c.in-Access.is at c.requires.vlans in
    record { vlan = All-head IsVlan c.in-Access.number [] vlans; room = omega (arith, c.requires.room) }

pub returns-in-Access-clause-text : goal.returns-in-Access-clause-text
returns-in-Access-clause-text c = rw c.in-Access.is c.put_vlan.ensures.text

pub put_numbers-requires : goal.put_numbers-requires
put_numbers-requires c = record {
  vlans = rw c.as_slice.ensures.value (rw c.in-Trunk.is at c.requires.vlans);
  room = omega (arith, c.requires.room, c.put_octets.ensures.size, c.as_slice.ensures.fits);
}

pub returns-in-Trunk-clause-text : goal.returns-in-Trunk-clause-text
returns-in-Trunk-clause-text c =
    let numbers = vlans_text c.in-Trunk.numbers.items in
    rw c.in-Trunk.is (c.put_numbers.ensures.text ∙ ap (λ (ns : List ℕ). c.put_octets.new.into.items ++ vlans_text ns) c.as_slice.ensures.value ∙ ap (λ (t : List ℕ). t ++ numbers) c.put_octets.ensures.text
    ∙ append_assoc c.args.into.now.items (codes " trunk ") numbers
    ∙ ap (λ (t : List ℕ). c.args.into.now.items ++ (codes " trunk " ++ t)) (sym (append-nil numbers)))

pub returns-in-Trunk-clause-size : goal.returns-in-Trunk-clause-size
returns-in-Trunk-clause-size c = omega (arith, c.put_octets.ensures.size, c.put_numbers.ensures.size, c.as_slice.ensures.fits)
