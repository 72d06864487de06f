use Rattle.std.proofs.Common.{codes, refl, lit≤, lit<}
use Rattle.savi_kinds.specs.declared.plan.Plan.{Plan}
use Rattle.hist_store.specs.JournalTexts.{setting}
use Rattle.journal_check.proofs.SettingsRead.{setting_not, no_value, with_per_port}
use Rattle.journal_check.proofs.settings.Settings.read_per_port.Goals as goal

pub returns-in-Some-clause-read : goal.returns-in-Some-clause-read
returns-in-Some-clause-read c = λ is. record {
  settings = with_per_port c.args.self.now c.in-Some.per_port c.requires c.in-Some.ensures.read.1;
  same = refl;
  next = setting (codes "per_port") c.in-Some.per_port;
  one_more = refl;
  text = c.in-Some.ensures.read.0;
}

pub returns-in-None-clause-bad : goal.returns-in-None-clause-bad
returns-in-None-clause-bad c = λ is.
    setting_not c.args.self.now 4 (codes "per_port") (λ (plan : Plan). plan.per_port) 1 64 c.args.line.now (lit≤ tt) (lit< tt) (λ version plan. refl) (λ plan valid. valid.per_port)
    (λ value fits inside e. no_value c.read_within.result value c.in-None.is (c.read_within.ensures.whole value fits inside e))
