use Rattle.std.specs.Prelude.{◌≡◌}
use Rattle.savi_ends.specs.Octets.{in_front}
use Rattle.hist_store.specs.TextOfLines.{lines_text}
use Rattle.journal_check.specs.Pieces.{GaveSome, HasPassed, to_come}
use Rattle.journal_check.specs.SettingLines.{AreSettings, before}
use Rattle.journal_check.proofs.header.read_settings.Given as goal

-- the text begins with the lines that were read
abbrev pub invariant-loop-number : goal.invariant-loop-number
invariant-loop-number g l = record {
  still : g.S.Source.faults l.source ≡ g.S.Source.faults l.initial.source;
  gave : GaveSome (g.S.Source.left l.initial.source) (g.S.Source.left l.source);
  passed : HasPassed l.initial.lines (g.S.Source.left l.initial.source) l.lines (g.S.Source.left l.source);
  settings : AreSettings l.settings;
  told : to_come l.initial.lines (g.S.Source.left l.initial.source) ≡ in_front (lines_text (before l.number l.settings)) (to_come l.lines (g.S.Source.left l.source));
}
