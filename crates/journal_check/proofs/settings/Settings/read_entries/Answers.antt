use Rattle.std.proofs.Common.{codes, refl, lit≤, lit<}
use Rattle.savi_kinds.specs.declared.plan.Plan.{Plan}
use Rattle.hist_store.specs.JournalTexts.{setting}
use Rattle.journal_check.proofs.SettingsRead.{setting_not, no_value, with_entries}
use Rattle.journal_check.proofs.settings.Settings.read_entries.Goals as goal

pub returns-in-Some-clause-read : goal.returns-in-Some-clause-read
returns-in-Some-clause-read c = λ is. record {
  settings = with_entries c.args.self.now c.in-Some.entries c.requires c.in-Some.ensures.read.1;
  same = refl;
  next = setting (codes "entries") c.in-Some.entries;
  one_more = refl;
  text = c.in-Some.ensures.read.0;
}

pub returns-in-None-clause-bad : goal.returns-in-None-clause-bad
returns-in-None-clause-bad c = λ is.
    setting_not c.args.self.now 6 (codes "entries") (λ (plan : Plan). plan.entries) 4131 1000000 c.args.line.now (lit≤ tt) (lit< tt) (λ version plan. refl) (λ plan valid. valid.entries)
    (λ value fits inside e. no_value c.read_within.result value c.in-None.is (c.read_within.ensures.whole value fits inside e))
