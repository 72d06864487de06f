use Rattle.std.proofs.Common.{sym, ◌∙◌, ap}
use Rattle.std.specs.Option.{option_and_then}
use Rattle.std.proofs.lemmas.List.{take_rest}
use Rattle.std.proofs.lemmas.Bool.{eqb-true, eqb-false}
use Rattle.v4_snoop.specs.DhcpOptions.{first_content}
use Rattle.v4_snoop.proofs.options.first_content.Goals as goal

pub returns-in_default : goal.returns-in_default
returns-in_default c = c.option.invariant.same ∙ ap (option_and_then (first_content c.args.wanted)) c.in_default.ensures

pub returns-then-has_code : goal.returns-then-has_code
returns-then-has_code c = c.option.invariant.same ∙ c.in-Some.ensures.here c.args.wanted c.requires.code (eqb-true _ c.args.wanted (sym c.has_code.ensures ∙ c.if-has_code.true)) c.option.invariant.whole

pub option-preserved : goal.option-preserved
option-preserved c = rw (take_rest c.option.rest.now c.in-Some.len) (record {
  whole = sym c.in-Some.ensures.whole ∙ c.option.invariant.whole;
  same = c.option.invariant.same ∙ c.in-Some.ensures.later c.args.wanted c.requires.code (eqb-false _ c.args.wanted (sym c.has_code.ensures ∙ c.if-has_code.false));
})

pub returns : goal.returns
returns c = c.option.invariant.same ∙ ap (option_and_then (first_content c.args.wanted)) (c.ends.ensures.ended c.option-test.false)
