use Rattle.std.proofs.Common.{◌≡◌, ◌%◌, codes, refl, arith}
use Rattle.hist_store.specs.JournalTexts.{setting}
use Rattle.journal_check.proofs.SettingsRead.{with_life}
use Rattle.journal_check.proofs.settings.Settings.read_life.Goals as goal

pub returns-else-life-ne0-clause-read : goal.returns-else-life-ne0-clause-read
returns-else-life-ne0-clause-read c = λ is.
    let whole : c.in-Some.life % 1000 ≡ 0 = omega arith in
    record {
      settings = with_life c.args.self.now c.in-Some.life c.requires c.in-Some.ensures.read.1 whole;
      same = refl;
      next = setting (codes "binding") c.in-Some.life;
      one_more = refl;
      text = c.in-Some.ensures.read.0;
    }
