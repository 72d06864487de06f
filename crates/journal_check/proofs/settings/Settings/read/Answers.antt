use Rattle.std.proofs.Common.{◌≡◌, ℕ, sym, subst, arith}
use Rattle.journal_check.specs.SettingLines.{IsNotNext}
use Rattle.journal_check.proofs.settings.Settings.read.Goals as goal

pub returns-in_default-clause-bad : goal.returns-in_default-clause-bad
returns-in_default-clause-bad c = λ is.
    let last : c.args.number ≡ 10 = omega arith in
    subst (λ (n : ℕ). IsNotNext n c.args.line.now c.args.self.now) (sym last) (c.read_life.ensures.bad is)
