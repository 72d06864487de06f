use Rattle.std.proofs.Common.{ℕ, ◌≢◌, ◌<◌, get_or}
use Rattle.savi_kinds.specs.declared.verdict.Rule.TheVariants as rules
use Rattle.hist_store.specs.VerdictTexts.{rule_name}
use Rattle.hist_store.proofs.VerdictRead.{all_rules}
use Rattle.hist_store.proofs.read_verdict.read_rule.Given as goal

abbrev pub invariant-loop-rule : goal.invariant-loop-rule
invariant-loop-rule l = (k : ℕ) → k < l.rule-index → l.name ≢ rule_name (get_or all_rules k rules.PortDown)
