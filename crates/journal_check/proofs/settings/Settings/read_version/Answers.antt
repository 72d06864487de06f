use Rattle.std.proofs.Common.{refl}
use Rattle.hist_store.specs.JournalTexts.{version_line}
use Rattle.journal_check.proofs.SettingsRead.{no_version, version_not, with_version}
use Rattle.journal_check.proofs.settings.Settings.read_version.Goals as goal

pub returns-in-Some-clause-read : goal.returns-in-Some-clause-read
returns-in-Some-clause-read c = λ is. record {
  settings = with_version c.args.self.now c.in-Some.version c.requires;
  same = refl;
  next = version_line c.in-Some.version;
  one_more = refl;
  text = c.in-Some.ensures.read;
}

pub returns-in-None-clause-bad : goal.returns-in-None-clause-bad
returns-in-None-clause-bad c = λ is.
    version_not c.args.self.now c.args.line.now (λ version e. no_version c.read_version_line.result version c.in-None.is (c.read_version_line.ensures.whole version e))
