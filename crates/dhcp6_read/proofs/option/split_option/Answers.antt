use Rattle.std.proofs.Common.{◌≡◌, length, take, drop, ap, ◌∙◌, arith}
use Rattle.std.proofs.lemmas.List.{take_rest, length-drop}
use Rattle.byteorder.specs.Endian.{big_number}
use Rattle.dhcp6_read.proofs.Rows.{begins_with}
use Rattle.dhcp6_read.proofs.option.split_option.Goals as goal

pub returns : goal.returns
returns c =
    let octets = c.args.octets.now in
    let len = c.from-len.result in
    let rest = take_rest octets 4 in
    let left = ap length rest in
    let number : len ≡ big_number 2 (drop 2 octets) = c.from-len.ensures ∙ c.read_u16.ensures ∙ ap (big_number 2) (take_rest octets 2) in
    begins_with octets c.split_at.result.0.now c.split_at.result.1.now len c.read_u16-code.result (omega arith) (omega (arith, left, length-drop 4 octets, c.if-rest-len.false)) number c.read_u16-code.ensures (c.split_at.ensures.front ∙ ap (take len) rest) (c.split_at.ensures.back ∙ ap (drop len) rest)
