use Rattle.std.proofs.Common.{◌≡◌, length, drop, ap, ◌∙◌, refl, arith}
use Rattle.std.proofs.lemmas.List.{drop_at}
use Rattle.v6_sum.specs.InternetChecksum.{checksum}
use Rattle.probe_write.specs.ProbeFrame.{no_address, solicited_node_of}
use Rattle.probe_write.proofs.ProbeOctets.{frame_is, length-solicitation}
use Rattle.probe_write.proofs.frame.probe.Goals as goal

pub returns-clause-octets : goal.returns-clause-octets
returns-clause-octets c =
    let got : c.unwrap.result ≡ c.append-10.new.frame.items = rw c.unwrap.ensures at c.into_inner.ensures.ok in
    got
    ∙ rw (c.append-10.ensures.items, c.append-9.ensures.items, c.append-8.ensures.items, c.append-7.ensures.items, c.append-6.ensures.items, c.append-5.ensures.items, c.append-4.ensures.items, c.append-3.ensures.items, c.append-2.ensures.items, c.append.ensures.items, c.new-frame.ensures, c.solicitation.ensures.octets, c.to_be_bytes.ensures, c.to_be_bytes-2.ensures, c.to_be_bytes-3.ensures, c.to_be_bytes-group.ensures, c.solicited_node.ensures) (frame_is c.args.mac c.args.target)

pub returns-clause-ok : goal.returns-clause-ok
returns-clause-ok c =
    let got : c.unwrap.result ≡ c.append-10.new.frame.items = rw c.unwrap.ensures at c.into_inner.ensures.ok in
    let full = rw c.unwrap.ensures at c.into_inner.ensures.variant in
    let whole : length c.append-10.new.frame.items ≡ 78 = full.0 refl in
    let part : length c.solicitation.result ≡ 24 = rw c.solicitation.ensures.octets (length-solicitation c.args.target (checksum no_address (solicited_node_of c.args.target) 58 _)) in
    let before : length c.append-9.new.frame.items ≡ 54 = omega (arith, whole, part, c.append-10.ensures.len) in
    let message : drop 54 c.unwrap.result ≡ c.solicitation.result = ap (drop 54) (got ∙ c.append-10.ensures.items) ∙ drop_at c.append-9.new.frame.items c.solicitation.result 54 before in
    rw message c.solicitation.ensures.ok
