use Rattle.std.proofs.Common.{sym, ◌∙◌, ap}
use Rattle.savi_kinds.specs.Ports.{number_of}
use Rattle.savi_kinds.specs.Vlans.{vlan_among}
use Rattle.savi_history.specs.Vlans.{vlan_at_port}
use Rattle.v4_snoop.proofs.AtPorts.{access_of, named_by_tag, none_by_tag}
use Rattle.v4_snoop.proofs.snoop.Snoop.vlan_of.Goals as goal

pub returns-in-None : goal.returns-in-None
returns-in-None c = λ plan vlan known is.
    let port = vlan_among plan.ports (number_of c.args.p) in
    c.own_vlan.ensures ∙ known (number_of c.args.p) vlan c.args.p.high (access_of port vlan (ap (vlan_at_port port) (sym c.in-None.is) ∙ is))

pub returns-in-Vid : goal.returns-in-Vid
returns-in-Vid c = λ plan vlan known is.
    let port = vlan_among plan.ports (number_of c.args.p) in
    named_by_tag port c.in-Vid.vlan vlan (ap (vlan_at_port port) (sym c.in-Vid.is) ∙ is)

pub returns-in-Bad : goal.returns-in-Bad
returns-in-Bad c = λ plan vlan known is.
    let port = vlan_among plan.ports (number_of c.args.p) in
    none_by_tag port vlan (ap (vlan_at_port port) (sym c.in-Bad.is) ∙ is)
