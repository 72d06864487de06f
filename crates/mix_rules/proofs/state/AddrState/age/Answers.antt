use Rattle.std.proofs.Common.{rules, subst}
use Rattle.mix_rules.specs.States.{IsSoundFor}
use Rattle.mix_rules.specs.Ageing.{AgedAddr}
use Rattle.mix_rules.proofs.AgeingLemmas.{aged-sound}
use Rattle.mix_rules.proofs.state.AddrState.age.Goals as goal

pub returns-else-is_none-clause-value : goal.returns-else-is_none-clause-value
returns-else-is_none-clause-value c = search rules

pub returns-else-is_none-clause-sound : goal.returns-else-is_none-clause-sound
returns-else-is_none-clause-sound c = λ m sound. subst (λ (a : AgedAddr). IsSoundFor m a.state) (returns-else-is_none-clause-value c) (aged-sound c.args.k.now c.requires.times c.args.t m c.args.self.now sound)
