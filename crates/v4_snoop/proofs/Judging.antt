-- The table of reasons by what a frame of a VLAN carries.
use Rattle.std.proofs.Common.{◌≡◌, ◌≢◌, ℕ, ◌==◌, ◌&&◌, not, Bool, true, false, cond, Option, Some, None, refl, ap, arith}
use Rattle.std.specs.Option.{option_or}
use Rattle.std.proofs.lemmas.Bool.{eq-eqb, ne_eqb}
use Rattle.savi_kinds.specs.Ports.{number_of}
use Rattle.savi_kinds.specs.declared.plan.Plan.{Plan}
use Rattle.v4_snoop.specs.declared.reason.Reason.{Reason}
use Rattle.v4_snoop.specs.declared.reason.Reason.TheVariants as reasons
use Rattle.v4_snoop.specs.declared.told.Told.{Told}
use Rattle.v4_snoop.specs.Packets.{is_readable, udp_ports}
use Rattle.v4_snoop.specs.Tellings.{told_in}
use Rattle.v4_snoop.specs.Following.{Clients, after_telling, lacks_place, lacks_room}
use Rattle.v4_snoop.specs.Reasons.{VlanFrame, validates, is_host_port, source_mac, goes_to_udp, is_false_source, reason_in_vlan, clients_in_vlan, is_heeded}
use Rattle.v4_snoop.specs.Judged.{arp_reason, packet_reason, shortage, after_packet}

either : (b : Bool) (clients : Clients) → cond b clients clients ≡ clients
either true clients = refl
either false clients = refl

-- what a frame comes to
pub record ComesTo (plan : Plan) (clients : Clients) (one : VlanFrame) (reason : Option Reason) (after : Clients) : Type 0 where
  pub reason_is : reason_in_vlan plan clients one ≡ reason
  pub after_is : clients_in_vlan plan clients one ≡ after

-- a frame that carries ARP
pub arp_comes_to : (plan : Plan) (clients : Clients) (one : VlanFrame) → one.header.kind ≡ 0x0806 → ComesTo plan clients one (arp_reason clients (validates plan (number_of one.port)) one.vlan (number_of one.port) one.moment (source_mac one) one.payload) clients
arp_comes_to plan clients one is =
    let arp : (one.header.kind == 0x0806) ≡ true = eq-eqb one.header.kind 0x0806 is in
    let ip : (one.header.kind == 0x0800) ≡ false = ne_eqb one.header.kind 0x0800 (λ e. omega (arith, is, e)) in
    record {
      reason_is = rw (arp, ip) refl;
      after_is = rw (arp, ip) (either _ clients);
    }

-- one that carries neither
pub other_comes_to : (plan : Plan) (clients : Clients) (one : VlanFrame) → one.header.kind ≢ 0x0806 → one.header.kind ≢ 0x0800 → ComesTo plan clients one None clients
other_comes_to plan clients one no_arp no_ip =
    let arp : (one.header.kind == 0x0806) ≡ false = ne_eqb one.header.kind 0x0806 no_arp in
    let ip : (one.header.kind == 0x0800) ≡ false = ne_eqb one.header.kind 0x0800 no_ip in
    record { reason_is = rw (arp, ip) refl; after_is = rw (arp, ip) refl }

first_reasons : (a b c : Bool) (x y z : Reason) (rest : Option Reason) → cond a (Some x) (cond b (Some y) (cond c (Some z) rest)) ≡ option_or (cond a (Some x) (cond b (Some y) (cond c (Some z) None))) rest
first_reasons true b c x y z rest = refl
first_reasons false true c x y z rest = refl
first_reasons false false true x y z rest = refl
first_reasons false false false x y z rest = refl

-- a reason that is found first, and what there is behind none
pub reason_first : (reason : Reason) (found rest : Option Reason) → Some reason ≡ found → Some reason ≡ option_or found rest
reason_first reason found rest is = ap (λ r. option_or r rest) is

pub behind_none : (found rest : Option Reason) → None ≡ found → rest ≡ option_or found rest
behind_none found rest none = ap (λ r. option_or r rest) none

heeded : (a b c d e : Bool) (most vlan : ℕ) (one : VlanFrame) (told : Told) (clients : Clients) → cond (is_heeded (cond a (Some reasons.IpBad) (cond b (Some reasons.Server) (cond c (Some reasons.IpSource) (cond d (Some reasons.RequestFull) (cond e (Some reasons.PortFull) None)))))) (after_telling most vlan one.port one.moment told clients) clients ≡ after_packet most vlan one.port one.moment (cond a (Some reasons.IpBad) (cond b (Some reasons.Server) (cond c (Some reasons.IpSource) None))) told clients
heeded true b c d e most vlan one told clients = refl
heeded false true c d e most vlan one told clients = refl
heeded false false true d e most vlan one told clients = refl
heeded false false false true e most vlan one told clients = refl
heeded false false false false true most vlan one told clients = refl
heeded false false false false false most vlan one told clients = refl

-- one that carries a packet
pub packet_comes_to : (plan : Plan) (clients : Clients) (one : VlanFrame) → one.header.kind ≡ 0x0800
    → let validated = validates plan (number_of one.port) in
    let hosts = is_host_port plan (number_of one.port) in
    let reason = packet_reason clients validated hosts one.vlan (number_of one.port) one.moment one.payload in
    let told = told_in validated hosts one.payload in
    ComesTo plan clients one (option_or reason (shortage plan.per_port one.vlan one.port one.moment told clients)) (after_packet plan.per_port one.vlan one.port one.moment reason told clients)
packet_comes_to plan clients one is =
    let arp : (one.header.kind == 0x0806) ≡ false = ne_eqb one.header.kind 0x0806 (λ e. omega (arith, is, e)) in
    let ip : (one.header.kind == 0x0800) ≡ true = eq-eqb one.header.kind 0x0800 is in
    let number : ℕ = number_of one.port in
    let told : Told = told_in (validates plan (number_of one.port)) (is_host_port plan (number_of one.port)) one.payload in
    let bad : Bool = validates plan (number_of one.port) && not (is_readable one.payload) in
    let served : Bool = is_host_port plan (number_of one.port) && goes_to_udp 68 (udp_ports one.payload) in
    let wrong : Bool = validates plan (number_of one.port) && is_false_source clients one.vlan (number_of one.port) one.moment one.payload in
    record {
      reason_is = rw (arp, ip) (first_reasons bad served wrong reasons.IpBad reasons.Server reasons.IpSource (shortage plan.per_port one.vlan one.port one.moment told clients));
      after_is = rw (arp, ip) (heeded bad served wrong (lacks_place one.vlan one.port one.moment told clients) (lacks_room plan.per_port one.vlan one.moment told clients) plan.per_port one.vlan one told clients);
    }
