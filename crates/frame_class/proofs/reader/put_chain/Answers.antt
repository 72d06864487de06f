use Rattle.std.proofs.Common.{ℕ, List, sym, subst}
use Rattle.v6_chain.specs.Kinds.{kind_of}
use Rattle.v6_chain.specs.Outcome.{IsWholeUpper}
use Rattle.frame_class.specs.Reading.{IsUpperClass}
use Rattle.frame_class.proofs.Layers.{message_is, upper_class_is}
use Rattle.frame_class.proofs.reader.put_chain.Goals as goal

pub put_upper-requires-clause-whole : goal.put_upper-requires-clause-whole
put_upper-requires-clause-whole c =
    let P : List ℕ → Type 0 = λ m. IsWholeUpper (kind_of c.in-Upper.proto) m in
    subst P (sym (message_is c.args.ip c.args.payload.now c.from.result c.from-in-Upper.result c.in-Upper.at c.from.ensures c.from-in-Upper.ensures)) c.in-Upper.ensures.within.1

pub returns-in-Upper : goal.returns-in-Upper
returns-in-Upper c =
    let ip = c.args.ip in
    let class = c.put_upper.new.class in
    let P : List ℕ → Type 0 = λ m. IsUpperClass c.args.eth ip c.in-Upper.proto m c.in-Upper.fragmented class in
    let is = message_is ip c.args.payload.now c.from.result c.from-in-Upper.result c.in-Upper.at c.from.ensures c.from-in-Upper.ensures in
    upper_class_is c.args.eth ip c.args.payload.now c.in-Upper.proto c.in-Upper.at c.in-Upper.fragmented class c.requires.packet c.in-Upper.ensures.outcome (subst P is c.put_upper.ensures)
