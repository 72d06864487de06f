use Rattle.std.proofs.Common.{◌≢◌, length, get_or, sym, ◌∙◌, arith}
use Rattle.std.proofs.lemmas.Bool.{eqb-true, eqb-false}
use Rattle.v4_snoop.proofs.OptionRows.{no_octets, ends_at}
use Rattle.v4_snoop.proofs.options.ends.Goals as goal

pub returns-then-is_empty-clause-ended : goal.returns-then-is_empty-clause-ended
returns-then-is_empty-clause-ended c = λ _. no_octets c.args.rest.now (eqb-true (length c.args.rest.now) 0 (sym c.is_empty.ensures ∙ c.if-is_empty.true))

pub returns-clause-ended : goal.returns-clause-ended
returns-clause-ended c = λ is. ends_at c.args.rest.now (eqb-true (get_or c.args.rest.now 0 0) 255 (sym c.has_code.ensures ∙ is))

pub returns-clause-code : goal.returns-clause-code
returns-clause-code c = λ isnt. eqb-false (get_or c.args.rest.now 0 0) 255 (sym c.has_code.ensures ∙ isnt)

pub has_code-requires : goal.has_code-requires
has_code-requires c =
    let some : length c.args.rest.now ≢ 0 = eqb-false (length c.args.rest.now) 0 (sym c.is_empty.ensures ∙ c.if-is_empty.false) in
    omega (arith, some)

pub returns-clause-some : goal.returns-clause-some
returns-clause-some c = λ _.
    let some : length c.args.rest.now ≢ 0 = eqb-false (length c.args.rest.now) 0 (sym c.is_empty.ensures ∙ c.if-is_empty.false) in
    omega (arith, some)
