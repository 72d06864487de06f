use Rattle.std.proofs.Common.{is_some, sym, ◌∙◌, ap}
use Rattle.std.proofs.lemmas.List.{take_rest}
use Rattle.v4_snoop.proofs.options.are_whole.Goals as goal

pub returns-in_default : goal.returns-in_default
returns-in_default c = sym (c.option.invariant ∙ ap (λ o. is_some o) c.in_default.ensures)

pub option-preserved : goal.option-preserved
option-preserved c = rw (take_rest c.option.rest.now c.in-Some.len) (c.option.invariant ∙ c.in-Some.ensures.whole)

pub returns : goal.returns
returns c = sym (c.option.invariant ∙ ap (λ o. is_some o) (c.ends.ensures.ended c.option-test.false))
