use Rattle.std.proofs.Common.{◌≡◌, ℕ, List, take, drop, ap, ◌∙◌}
use Rattle.std.proofs.lemmas.List.{take_rest}
use Rattle.byteorder.specs.Endian.{big_number}
use Rattle.eth_frame.specs.Tags.{kind_at}
use Rattle.eth_frame.proofs.Untagged.{untagged_header_is}
use Rattle.eth_frame.proofs.header.untagged_header.Goals as goal

pub returns : goal.returns
returns c =
    let frame : List ℕ = c.args.frame.now in
    let src : c.mac_of-src.result.0 ≡ take 6 (drop 6 frame) = c.mac_of-src.ensures ∙ ap (λ (l : List ℕ). take 6 l) (take_rest frame 6) in
    let kind : c.read_u16-kind.result ≡ kind_at 16 frame = c.read_u16-kind.ensures ∙ ap (λ (l : List ℕ). big_number 2 l) (take_rest frame 16) in
    untagged_header_is frame c.mac_of-dst.result.0 c.mac_of-src.result.0 c.read_u16-kind.result c.requires c.mac_of-dst.ensures src kind
