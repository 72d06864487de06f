use Rattle.std.proofs.Common.{◌≡◌, ◌<◌, [], length, sym, ◌∙◌, subst, arith}
use Rattle.std.proofs.lemmas.Bool.{eqb-true}
use Rattle.std.proofs.lemmas.Bool.Decides.{nat_tests}
use Rattle.std.proofs.lemmas.List.{nil_from_length}
use Rattle.journal_check.specs.Differing.{IsField}
use Rattle.journal_check.proofs.FieldsCut.{apart_by, same_by, here, on, not_empty}
use Rattle.journal_check.proofs.apart.+first_apart.Goals as goal

pub first_apart-requires : goal.first_apart-requires
first_apart-requires t c =
    let some : 0 < length c.args.want.now = grind (arith, nat_tests) in
    let less = c.cut_field.ensures.shorter some in
    (omega (arith, c.decreases, less), tt)

pub returns-then-ne : goal.returns-then-ne
returns-then-ne t c = λ wants haves field other s s' text text' is told told'.
    let w = c.cut_field.result in
    let h = c.cut_field-2.result in
    let differ = apart_by w.0.now h.0.now c.ne.result c.ne.ensures c.if-ne.true in
    let both = here field other c.args.want.now c.args.have.now w.0.now h.0.now w.1.now h.1.now c.cut_field.ensures.whole c.cut_field-2.ensures.whole wants haves s s' text text' is differ in
    (c.texts_apart.ensures.want (subst IsField (sym both.0) told) ∙ both.0, c.texts_apart.ensures.have (subst IsField (sym both.1) told') ∙ both.1)

pub returns-then-is_empty : goal.returns-then-is_empty
returns-then-is_empty t c = λ wants haves field other s s' text text' is told told'.
    let w = c.cut_field.result in
    let h = c.cut_field-2.result in
    let same = same_by w.0.now h.0.now c.ne.result c.ne.ensures c.if-ne.false in
    let none : c.args.want.now ≡ [] = nil_from_length c.args.want.now (eqb-true (length c.args.want.now) 0 (sym c.is_empty.ensures ∙ c.if-is_empty.true)) in
    absurd (not_empty field other c.args.want.now c.args.have.now w.0.now h.0.now w.1.now h.1.now c.cut_field.ensures.whole c.cut_field-2.ensures.whole wants haves s s' text text' is same none)

pub returns : goal.returns
returns t c = λ wants haves field other s s' text text' is told told'.
    let w = c.cut_field.result in
    let h = c.cut_field-2.result in
    let same = same_by w.0.now h.0.now c.ne.result c.ne.ensures c.if-ne.false in
    let more = on field other c.args.want.now c.args.have.now w.0.now h.0.now w.1.now h.1.now c.cut_field.ensures.whole c.cut_field-2.ensures.whole wants haves s s' text text' is same in
    c.first_apart.ensures more.wants more.haves field other more.spaceless more.spaceless' more.text more.text' more.apart told told'
