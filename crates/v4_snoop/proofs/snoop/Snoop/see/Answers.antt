use Rattle.std.proofs.Common.{◌≢◌, arith, sym, ◌∙◌, ap, subst}
use Rattle.savi_kinds.specs.Ports.{number_of}
use Rattle.v4_snoop.specs.Following.{Clients}
use Rattle.v4_snoop.specs.Reasons.{VlanFrame, validates}
use Rattle.v4_snoop.specs.Judged.{arp_reason}
use Rattle.v4_snoop.specs.Snooped.{KnowsClients}
use Rattle.v4_snoop.proofs.AtPorts.{frame_with}
use Rattle.v4_snoop.proofs.Judging.{arp_comes_to, other_comes_to, packet_comes_to}
use Rattle.v4_snoop.proofs.snoop.Snoop.see.Goals as goal

pub returns-in-2054-clause-reason : goal.returns-in-2054-clause-reason
returns-in-2054-clause-reason c = λ plan clients knows.
    let one : VlanFrame = frame_with c.args.vlan c.args.p c.args.t c.args.eth c.args.payload.now in
    c.arp_reason.ensures plan clients knows
    ∙ ap (λ mac. arp_reason clients (validates plan (number_of c.args.p)) c.args.vlan (number_of c.args.p) c.args.t mac c.args.payload.now) c.number_of_mac.ensures
    ∙ sym (arp_comes_to plan clients one c.in-2054.is).reason_is

pub returns-in-2054-clause-knows : goal.returns-in-2054-clause-knows
returns-in-2054-clause-knows c = λ plan clients knows.
    let one : VlanFrame = frame_with c.args.vlan c.args.p c.args.t c.args.eth c.args.payload.now in
    let P : Clients → Type 0 = λ after. KnowsClients plan c.args.t after c.args.self.now in
    subst P (sym (arp_comes_to plan clients one c.in-2054.is).after_is) knows

pub returns-in-2048-clause-reason : goal.returns-in-2048-clause-reason
returns-in-2048-clause-reason c = λ plan clients knows.
    let one : VlanFrame = frame_with c.args.vlan c.args.p c.args.t c.args.eth c.args.payload.now in
    c.see_packet.ensures.reason plan clients knows ∙ sym (packet_comes_to plan clients one c.in-2048.is).reason_is

pub returns-in-2048-clause-knows : goal.returns-in-2048-clause-knows
returns-in-2048-clause-knows c = λ plan clients knows.
    let one : VlanFrame = frame_with c.args.vlan c.args.p c.args.t c.args.eth c.args.payload.now in
    let P : Clients → Type 0 = λ after. KnowsClients plan c.args.t after c.see_packet.new.self in
    subst P (sym (packet_comes_to plan clients one c.in-2048.is).after_is) (c.see_packet.ensures.knows plan clients knows)

pub returns-in_default-clause-reason : goal.returns-in_default-clause-reason
returns-in_default-clause-reason c = λ plan clients knows.
    let one : VlanFrame = frame_with c.args.vlan c.args.p c.args.t c.args.eth c.args.payload.now in
    let no_arp : c.args.eth.kind ≢ 0x0806 = omega arith in
    let no_ip : c.args.eth.kind ≢ 0x0800 = omega arith in
    sym (other_comes_to plan clients one no_arp no_ip).reason_is

pub returns-in_default-clause-knows : goal.returns-in_default-clause-knows
returns-in_default-clause-knows c = λ plan clients knows.
    let one : VlanFrame = frame_with c.args.vlan c.args.p c.args.t c.args.eth c.args.payload.now in
    let no_arp : c.args.eth.kind ≢ 0x0806 = omega arith in
    let no_ip : c.args.eth.kind ≢ 0x0800 = omega arith in
    let P : Clients → Type 0 = λ after. KnowsClients plan c.args.t after c.args.self.now in
    subst P (sym (other_comes_to plan clients one no_arp no_ip).after_is) knows
