use Rattle.std.proofs.Common.{◌≡◌, ℕ, ◌%◌, List, drop, ap, ◌∙◌, bit_and}
use Rattle.std.proofs.lemmas.List.{take_rest}
use Rattle.std.proofs.lemmas.Nat.{and_mask}
use Rattle.byteorder.specs.Endian.{big_number}
use Rattle.eth_frame.proofs.tag_reader.vid_in.Goals as goal

pub returns : goal.returns
returns c =
    let frame : List ℕ = c.args.frame.now in
    let low : bit_and c.read_u16.result 4095 ≡ c.read_u16.result % 4096 = and_mask c.read_u16.result 12 in
    let control : c.read_u16.result ≡ big_number 2 (drop 14 frame) = c.read_u16.ensures ∙ ap (λ (l : List ℕ). big_number 2 l) (take_rest frame 14) in
    low ∙ ap (λ (n : ℕ). n % 4096) control
