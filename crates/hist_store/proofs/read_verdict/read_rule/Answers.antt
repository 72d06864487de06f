use Rattle.std.proofs.Common.{◌-◌, ◌<◌, Some, refl, sym, ap, ◌∙◌, arith}
use Rattle.savi_kinds.specs.Rules.{rule_number}
use Rattle.hist_store.specs.VerdictTexts.{rule_name}
use Rattle.hist_store.proofs.VerdictRead.{rule_by_name, rule_place, rule_low}
use Rattle.hist_store.proofs.read_verdict.read_rule.Goals as goal

pub returns-then-is_word-clause-whole : goal.returns-then-is_word-clause-whole
returns-then-is_word-clause-whole c = λ rule is. ap Some (rule_by_name _ rule (sym c.name_of.ensures.name ∙ sym (c.if-is_word.ensures.0 refl) ∙ is))

pub returns-clause-whole : goal.returns-clause-whole
returns-clause-whole c = λ rule is.
    let low : rule_number rule - 1 < 23 = rule_low rule in
    absurd (c.loop-rule.invariant (rule_number rule - 1) (omega (arith, low, c.loop-rule-test.false)) (is ∙ ap rule_name (sym (rule_place rule))))
