use Rattle.std.proofs.Common.{ℕ, List, refl, subst}
use Rattle.std.proofs.lemmas.List.{take_rest}
use Rattle.frame_class.specs.Reading.{HasHeader, IsTypedClass}
use Rattle.frame_class.proofs.Layers.{typed_class_is}
use Rattle.frame_class.proofs.reader.put_class.Goals as goal

pub returns : goal.returns
returns c =
    let frame : List ℕ = c.args.frame.now in
    let P : List ℕ → Type 0 = λ payload. IsTypedClass c.in-Ok.eth payload c.put_class_by.new.class in
    let sizes = c.in-Ok.ensures.read.0 refl in
    let has : HasHeader frame c.in-Ok.eth = record { long = sizes.0; header = c.in-Ok.ensures.header } in
    typed_class_is frame c.in-Ok.eth c.put_class_by.new.class has (subst P (take_rest frame 14) c.put_class_by.ensures)
