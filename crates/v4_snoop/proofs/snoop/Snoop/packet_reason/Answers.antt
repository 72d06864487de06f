use Rattle.std.proofs.Common.{◌≡◌, ◌&&◌, true, false, refl, sym, ◌∙◌, ap}
use Rattle.savi_kinds.specs.Ports.{number_of}
use Rattle.v4_snoop.specs.Packets.{is_readable, udp_ports}
use Rattle.v4_snoop.specs.Reasons.{is_false_source, goes_to_udp, is_host_port, validates}
use Rattle.v4_snoop.proofs.Knowing.{validates_is, no_host}
use Rattle.v4_snoop.proofs.snoop.Snoop.packet_reason.Goals as goal

pub returns-then-not-validates : goal.returns-then-not-validates
returns-then-not-validates c = λ plan clients knows.
    let no : validates plan (number_of c.args.p) ≡ false = sym (validates_is knows (number_of c.args.p) c.args.p.low) ∙ sym c.validates.ensures ∙ c.if-not-validates.true in
    let none : is_host_port plan (number_of c.args.p) ≡ false = no_host plan (number_of c.args.p) no in
    rw (no, none) refl

pub returns-then-not-is_readable : goal.returns-then-not-is_readable
returns-then-not-is_readable c = λ plan clients knows.
    let yes : validates plan (number_of c.args.p) ≡ true = sym (validates_is knows (number_of c.args.p) c.args.p.low) ∙ sym c.validates.ensures ∙ c.if-not-validates.false in
    let bad : is_readable c.args.packet.now ≡ false = sym c.is_readable.ensures.value ∙ c.if-not-is_readable.true in
    rw (yes, bad) refl

pub returns-then-is_served : goal.returns-then-is_served
returns-then-is_served c = λ plan clients knows.
    let yes : validates plan (number_of c.args.p) ≡ true = sym (validates_is knows (number_of c.args.p) c.args.p.low) ∙ sym c.validates.ensures ∙ c.if-not-validates.false in
    let good : is_readable c.args.packet.now ≡ true = sym c.is_readable.ensures.value ∙ c.if-not-is_readable.false in
    let served : (is_host_port plan (number_of c.args.p) && goes_to_udp 68 (udp_ports c.args.packet.now)) ≡ true =
    sym (ap (λ b. b && goes_to_udp 68 (udp_ports c.args.packet.now)) (knows.hosts (number_of c.args.p) c.args.p.low)) ∙ sym c.is_served.ensures ∙ c.if-is_served.true in
    rw (yes, good, served) refl

pub returns-then-is_false_source : goal.returns-then-is_false_source
returns-then-is_false_source c = λ plan clients knows.
    let yes : validates plan (number_of c.args.p) ≡ true = sym (validates_is knows (number_of c.args.p) c.args.p.low) ∙ sym c.validates.ensures ∙ c.if-not-validates.false in
    let good : is_readable c.args.packet.now ≡ true = sym c.is_readable.ensures.value ∙ c.if-not-is_readable.false in
    let alone : (is_host_port plan (number_of c.args.p) && goes_to_udp 68 (udp_ports c.args.packet.now)) ≡ false =
    sym (ap (λ b. b && goes_to_udp 68 (udp_ports c.args.packet.now)) (knows.hosts (number_of c.args.p) c.args.p.low)) ∙ sym c.is_served.ensures ∙ c.if-is_served.false in
    let wrong : is_false_source clients c.args.vlan (number_of c.args.p) c.args.t c.args.packet.now ≡ true = sym (c.is_false_source.ensures plan clients knows) ∙ c.if-is_false_source.true in
    rw (yes, good, alone, wrong) refl

pub returns : goal.returns
returns c = λ plan clients knows.
    let yes : validates plan (number_of c.args.p) ≡ true = sym (validates_is knows (number_of c.args.p) c.args.p.low) ∙ sym c.validates.ensures ∙ c.if-not-validates.false in
    let good : is_readable c.args.packet.now ≡ true = sym c.is_readable.ensures.value ∙ c.if-not-is_readable.false in
    let alone : (is_host_port plan (number_of c.args.p) && goes_to_udp 68 (udp_ports c.args.packet.now)) ≡ false =
    sym (ap (λ b. b && goes_to_udp 68 (udp_ports c.args.packet.now)) (knows.hosts (number_of c.args.p) c.args.p.low)) ∙ sym c.is_served.ensures ∙ c.if-is_served.false in
    let right : is_false_source clients c.args.vlan (number_of c.args.p) c.args.t c.args.packet.now ≡ false = sym (c.is_false_source.ensures plan clients knows) ∙ c.if-is_false_source.false in
    rw (yes, good, alone, right) refl
