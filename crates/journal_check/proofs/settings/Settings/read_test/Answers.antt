use Rattle.journal_check.proofs.SettingsRead.{test_not}
use Rattle.journal_check.proofs.settings.Settings.read_test.Goals as goal

pub returns-then-test-self-clause-bad : goal.returns-then-test-self-clause-bad
returns-then-test-self-clause-bad c = λ is.
    test_not c.args.self.now c.args.line.now c.read_within.result c.in-Some.test c.requires c.in-Some.is c.if-test-self.true c.read_within.ensures.whole
