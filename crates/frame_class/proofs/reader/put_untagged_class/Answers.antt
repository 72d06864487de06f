use Rattle.std.proofs.Common.{◌≤◌, ℕ, List, length, sym, ◌∙◌, subst, arith}
use Rattle.std.proofs.lemmas.List.{take_rest}
use Rattle.eth_frame.specs.Tags.{without_tag}
use Rattle.eth_frame.proofs.Untagged.{untagged_size, untagged_payload}
use Rattle.frame_class.specs.Reading.{HasHeader, IsTypedClass}
use Rattle.frame_class.proofs.Layers.{typed_class_is}
use Rattle.frame_class.proofs.reader.put_untagged_class.Goals as goal

pub returns : goal.returns
returns c =
    let frame : List ℕ = c.args.frame.now in
    let eth = c.untagged_header-eth.result in
    let class = c.put_class_by.new.class in
    let long : 14 ≤ length (without_tag frame) = omega (arith, untagged_size frame c.requires.whole, c.requires.whole) in
    let has : HasHeader (without_tag frame) eth = record { long = long; header = c.untagged_header-eth.ensures } in
    let P : List ℕ → Type 0 = λ payload. IsTypedClass eth payload class in
    typed_class_is (without_tag frame) eth class has
    (subst P (take_rest frame 18 ∙ sym (untagged_payload frame c.requires.whole)) c.put_class_by.ensures)
