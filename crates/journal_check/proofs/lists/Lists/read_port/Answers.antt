use Rattle.std.proofs.Common.{refl, sym, ◌∙◌, true≢false, rules}
use Rattle.std.proofs.lemmas.Bool.{eqb-true}
use Rattle.std.proofs.lemmas.List.{nil_from_length}
use Rattle.savi_kinds.specs.declared.plan.PortPlan.{PortPlan}
use Rattle.journal_check.specs.ListLines.{port_by}
use Rattle.journal_check.proofs.FewVlans.{next_has, next_may, vlans_are}
use Rattle.journal_check.proofs.LastListed.{IsLastPort, last_port_next, next_port_last}
use Rattle.journal_check.proofs.lists.Lists.read_port.Goals as goal

pub returns-in_err-number-clause-none : goal.returns-in_err-number-clause-none
returns-in_err-number-clause-none c = rw c.from_residual.ensures (λ next may e.
    let ports = c.args.self.now.ports.items in
    let last : IsLastPort ports c.last_port.result = (c.last_port.ensures.none, c.last_port.ensures.some) in
    let are = vlans_are ports next may.vlans may.vlan_count in
    let stands = next_port_last ports c.last_port.result next.number last may.above in
    c.in_err-number.ensures.whole next.number next.role next.format next.vlan are stands e)

pub returns-then-may_have_vlans-clause-read : goal.returns-then-may_have_vlans-clause-read
returns-then-may_have_vlans-clause-read c =
    let ports = c.args.self.now.ports.items in
    let last : IsLastPort ports c.last_port.result = (c.last_port.ensures.none, c.last_port.ensures.some) in
    let read = c.in_ok-number.ensures.read in
    let next : PortPlan = port_by c.in_ok-number.number c.in_ok-number.role c.in_ok-number.format c.in_ok-number.vlan in
    let has = next_has ports next read.1 (rw c.as_slice.ensures.value at c.if-may_have_vlans.ensures.0 refl) in (
      record {
        few = search rules;
        no_prefix = nil_from_length c.args.self.now.prefixes.items (sym c.args.self.now.prefixes.ok.0 ∙ eqb-true c.args.self.now.prefixes.len 0 (sym c.if-not-is_empty.ensures));
        above = last_port_next ports c.last_port.result c.in_ok-number.number last read.2;
        vlans = has.0;
        vlan_count = has.1;
      },
      read.0,
    )

pub returns-else-may_have_vlans-clause-none : goal.returns-else-may_have_vlans-clause-none
returns-else-may_have_vlans-clause-none c = λ next may e.
    let ports = c.args.self.now.ports.items in
    let last : IsLastPort ports c.last_port.result = (c.last_port.ensures.none, c.last_port.ensures.some) in
    let are = vlans_are ports next may.vlans may.vlan_count in
    let stands = next_port_last ports c.last_port.result next.number last may.above in
    let same = c.in_ok-number.ensures.whole next.number next.role next.format next.vlan are stands e in
    true≢false (sym (c.if-may_have_vlans.ensures.1 (rw (c.as_slice.ensures.value, same.1, same.3) (next_may ports next may.vlans may.vlan_count))))
