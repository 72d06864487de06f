use Rattle.mix_rules.specs.Premises.{AllMomentsFit}
use Rattle.state_rows.proofs.mix_rules_rows.ageing_of_both_methods.Given as goal

abbrev pub invariant-loop-at : goal.invariant-loop-at
invariant-loop-at g l = AllMomentsFit l.state
