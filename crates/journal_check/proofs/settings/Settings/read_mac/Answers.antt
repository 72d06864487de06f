use Rattle.std.proofs.Common.{refl, sym, ◌∙◌}
use Rattle.hist_store.specs.JournalTexts.{mac_line}
use Rattle.journal_check.proofs.SettingsRead.{with_mac}
use Rattle.journal_check.proofs.settings.Settings.read_mac.Goals as goal

pub returns-else-is_group-clause-read : goal.returns-else-is_group-clause-read
returns-else-is_group-clause-read c = λ is. record {
  settings = with_mac c.args.self.now c.in-Some.mac c.requires c.know_octets.ensures (sym c.is_group.ensures ∙ c.if-is_group.false);
  same = refl;
  next = mac_line c.in-Some.mac;
  one_more = refl;
  text = c.in-Some.ensures.read;
}
