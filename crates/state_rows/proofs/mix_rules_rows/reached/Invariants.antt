use Rattle.mix_rules.specs.States.{IsSoundFor}
use Rattle.mix_rules.specs.Premises.{AllMomentsFit}
use Rattle.state_rows.proofs.mix_rules_rows.reached.Given as goal

abbrev pub invariant-loop-event : goal.invariant-loop-event
invariant-loop-event g l = IsSoundFor l.m l.state × AllMomentsFit l.state
