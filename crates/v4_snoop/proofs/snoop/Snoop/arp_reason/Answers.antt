use Rattle.std.proofs.Common.{◌≡◌, true, false, refl, sym, ◌∙◌}
use Rattle.savi_kinds.specs.Ports.{number_of}
use Rattle.v4_snoop.specs.Reasons.{is_bad_arp, is_false_sender, validates}
use Rattle.v4_snoop.proofs.Knowing.{validates_is}
use Rattle.v4_snoop.proofs.snoop.Snoop.arp_reason.Goals as goal

pub returns-then-not-validates : goal.returns-then-not-validates
returns-then-not-validates c = λ plan clients knows.
    let no : validates plan (number_of c.args.p) ≡ false = sym (validates_is knows (number_of c.args.p) c.args.p.low) ∙ sym c.validates.ensures ∙ c.if-not-validates.true in
    rw no refl

pub returns-then-is_bad_arp : goal.returns-then-is_bad_arp
returns-then-is_bad_arp c = λ plan clients knows.
    let yes : validates plan (number_of c.args.p) ≡ true = sym (validates_is knows (number_of c.args.p) c.args.p.low) ∙ sym c.validates.ensures ∙ c.if-not-validates.false in
    let bad : is_bad_arp c.args.mac c.args.arp.now ≡ true = sym c.is_bad_arp.ensures.value ∙ c.if-is_bad_arp.true in
    rw (yes, bad) refl

pub returns-then-is_false_sender : goal.returns-then-is_false_sender
returns-then-is_false_sender c = λ plan clients knows.
    let yes : validates plan (number_of c.args.p) ≡ true = sym (validates_is knows (number_of c.args.p) c.args.p.low) ∙ sym c.validates.ensures ∙ c.if-not-validates.false in
    let good : is_bad_arp c.args.mac c.args.arp.now ≡ false = sym c.is_bad_arp.ensures.value ∙ c.if-is_bad_arp.false in
    let wrong : is_false_sender clients c.args.vlan (number_of c.args.p) c.args.t c.args.arp.now ≡ true = sym (c.is_false_sender.ensures plan clients knows) ∙ c.if-is_false_sender.true in
    rw (yes, good, wrong) refl

pub returns : goal.returns
returns c = λ plan clients knows.
    let yes : validates plan (number_of c.args.p) ≡ true = sym (validates_is knows (number_of c.args.p) c.args.p.low) ∙ sym c.validates.ensures ∙ c.if-not-validates.false in
    let good : is_bad_arp c.args.mac c.args.arp.now ≡ false = sym c.is_bad_arp.ensures.value ∙ c.if-is_bad_arp.false in
    let right : is_false_sender clients c.args.vlan (number_of c.args.p) c.args.t c.args.arp.now ≡ false = sym (c.is_false_sender.ensures plan clients knows) ∙ c.if-is_false_sender.false in
    rw (yes, good, right) refl
