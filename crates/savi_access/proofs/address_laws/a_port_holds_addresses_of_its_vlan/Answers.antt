use Rattle.savi_access.proofs.StatesKept.{base_times, base_tables}
use Rattle.savi_access.proofs.OwnPorts.{own_at, none_elsewhere, all_vlans, own_room}
use Rattle.savi_access.proofs.address_laws.a_port_holds_addresses_of_its_vlan.Goals as goal

pub returns : goal.returns
returns c = record {
  own = λ r base past t vlan a port is right held. own_at r base (base_times r base is) is.ports past t vlan a port right held;
  others = λ r base past t vlan port is right other. none_elsewhere r base (base_times r base is) is.ports (base_tables r base is) past t vlan port right other;
  whole = λ r base past t vlan port vlans is right own once. all_vlans r base (base_times r base is) is.ports (base_tables r base is) past t vlan port vlans right own once;
  room = λ r base past named p right port. own_room r base past named p right port;
}
