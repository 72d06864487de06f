use Rattle.std.proofs.Common.{get_or, set, None, refl, sym, ◌∙◌, ap, arith, inl, inr, length-set, get_or-set_same, get_or-set_other}
use Rattle.std.proofs.lemmas.Bool.{cases_eq}
use Rattle.savi_kinds.specs.Vlans.{vlan_among}
use Rattle.v4_snoop.proofs.port_vlans.access_vlans.Goals as goal

pub loop-number-init : goal.loop-number-init
loop-number-init c = record { size = refl; filled = λ n vlan below is. absurd (omega (arith, below)) }

pub loop-number-preserved : goal.loop-number-preserved
loop-number-preserved c =
    let vlans = c.loop-number.vlans in
    let number = c.loop-number.number in
    let own = c.own_vlan.result in
    record {
      size = length-set vlans number own ∙ c.loop-number.invariant.size;
      filled = λ n vlan below is.
          elim (cases_eq n number) [
            | inl same ↦
                ap (λ k. get_or (set vlans number own) k None) same
                ∙ get_or-set_same vlans number own None (omega (arith, c.loop-number-test.true, c.loop-number.invariant.size))
                ∙ c.own_vlan.ensures vlan (ap (vlan_among c.args.ports.now) (sym same) ∙ is)
            | inr other ↦ get_or-set_other vlans number n own None other ∙ c.loop-number.invariant.filled n vlan (omega (arith, below, other)) is
          ];
    }

pub returns : goal.returns
returns c = λ n vlan small is. c.loop-number.invariant.filled n vlan (omega (arith, small, c.loop-number-test.false)) is
