use Rattle.std.proofs.Common.{◌≡◌, Option, Some, None, ◌∙◌, ap, subst}
use Rattle.std.specs.Option.{option_and_then}
use Rattle.savi_kinds.specs.Ports.{number_of}
use Rattle.savi_kinds.specs.Vlans.{vlan_among}
use Rattle.savi_history.specs.Vlans.{vlan_at_port, vlan_of_frame}
use Rattle.v4_snoop.specs.Reasons.{PassedFrame, VlanFrame, passed_at, reason_in_vlan, clients_if, known_clients}
use Rattle.v4_snoop.specs.Snooped.{KnowsClients}
use Rattle.v4_snoop.proofs.AtPorts.{value_of, passed_as}
use Rattle.v4_snoop.proofs.Knowing.{Knows-later}
use Rattle.v4_snoop.proofs.snoop.Snoop.judge.Goals as goal

pub returns-in-Some-clause-reason : goal.returns-in-Some-clause-reason
returns-in-Some-clause-reason c = λ plan past snooped later has.
    let passed : PassedFrame = passed_at c.args.p c.args.t c.args.frame.now in
    let knows = snooped.knows c.args.t later in
    let (vlan, is) = value_of (vlan_of_frame plan (number_of c.args.p) c.args.frame.now) has in
    let found : Some c.in-Some.vlan ≡ Some vlan = c.in-Some.ensures plan vlan knows.vlans (ap (vlan_at_port (vlan_among plan.ports (number_of c.args.p))) c.tag-tag.ensures ∙ is) in
    let same : c.in-Some.vlan ≡ vlan = cc in
    c.see.ensures.reason plan (known_clients plan past) knows
    ∙ ap (option_and_then (reason_in_vlan plan (known_clients plan past))) (passed_as plan passed c.in-Some.vlan vlan c.inner_header-eth.result c.inner_payload-payload.result.now is same c.inner_header-eth.ensures c.inner_payload-payload.ensures)

pub returns-in-Some-clause-knows : goal.returns-in-Some-clause-knows
returns-in-Some-clause-knows c = λ plan past snooped later has.
    let passed : PassedFrame = passed_at c.args.p c.args.t c.args.frame.now in
    let knows = snooped.knows c.args.t later in
    let (vlan, is) = value_of (vlan_of_frame plan (number_of c.args.p) c.args.frame.now) has in
    let found : Some c.in-Some.vlan ≡ Some vlan = c.in-Some.ensures plan vlan knows.vlans (ap (vlan_at_port (vlan_among plan.ports (number_of c.args.p))) c.tag-tag.ensures ∙ is) in
    let same : c.in-Some.vlan ≡ vlan = cc in
    let P : Option VlanFrame → Type 0 = λ one. KnowsClients plan c.args.t (clients_if plan (known_clients plan past) one) c.see.new.self in
    record {
      knows = λ u after.
          Knows-later after
          (subst P (passed_as plan passed c.in-Some.vlan vlan c.inner_header-eth.result c.inner_payload-payload.result.now is same c.inner_header-eth.ensures c.inner_payload-payload.ensures) (c.see.ensures.knows plan (known_clients plan past) knows));
    }

pub returns-in-None-clause-reason : goal.returns-in-None-clause-reason
returns-in-None-clause-reason c = λ plan past snooped later has.
    let (vlan, is) = value_of (vlan_of_frame plan (number_of c.args.p) c.args.frame.now) has in
    let no : None ≡ Some vlan = c.in-None.ensures plan vlan (snooped.knows c.args.t later).vlans (ap (vlan_at_port (vlan_among plan.ports (number_of c.args.p))) c.tag-tag.ensures ∙ is) in
    cc

pub returns-in-None-clause-knows : goal.returns-in-None-clause-knows
returns-in-None-clause-knows c = λ plan past snooped later has.
    let (vlan, is) = value_of (vlan_of_frame plan (number_of c.args.p) c.args.frame.now) has in
    let no : None ≡ Some vlan = c.in-None.ensures plan vlan (snooped.knows c.args.t later).vlans (ap (vlan_at_port (vlan_among plan.ports (number_of c.args.p))) c.tag-tag.ensures ∙ is) in
    cc
