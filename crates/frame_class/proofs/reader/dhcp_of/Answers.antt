use Rattle.std.proofs.Common.{ℕ, List, Option, sym, subst}
use Rattle.std.proofs.lemmas.List.{take_rest}
use Rattle.dhcp6_read.specs.declared.message.Dhcp.{Dhcp}
use Rattle.dhcp6_read.specs.Message.{Reads as ReadsDhcp}
use Rattle.frame_class.specs.Reading.{IsDhcpOf}
use Rattle.frame_class.proofs.Layers.{whole_dhcp}
use Rattle.frame_class.proofs.reader.dhcp_of.Goals as goal

pub returns : goal.returns
returns c =
    let message : List ℕ = c.args.message.now in
    let P : List ℕ → Type 0 = λ payload. ReadsDhcp payload c.dhcp.result in
    let reads = subst P (take_rest message 8) c.dhcp.ensures.reading in
    let Q : Option Dhcp → Type 0 = λ dhcp. IsDhcpOf message c.args.fragmented dhcp in
    subst Q (sym c.ok.ensures.value) (whole_dhcp message c.args.fragmented c.dhcp.result (c.is_for_dhcp.ensures.0 c.if-not-is_for_dhcp.false) reads)
