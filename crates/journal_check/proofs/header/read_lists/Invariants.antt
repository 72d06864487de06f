use Rattle.std.specs.Prelude.{◌≡◌, ◌+◌, ◌-◌, length}
use Rattle.savi_ends.specs.Octets.{in_front}
use Rattle.hist_store.specs.TextOfLines.{lines_text}
use Rattle.journal_check.specs.Pieces.{GaveSome, HasPassed, to_come}
use Rattle.journal_check.specs.ListLines.{AreLists, list_lines}
use Rattle.journal_check.proofs.header.read_lists.Given as goal

-- the text begins with the lines of the lists
abbrev pub invariant-listed : goal.invariant-listed
invariant-listed g l = record {
  still : g.S.Source.faults l.source ≡ g.S.Source.faults l.initial.source;
  gave : GaveSome (g.S.Source.left l.initial.source) (g.S.Source.left l.source);
  passed : HasPassed l.initial.lines (g.S.Source.left l.initial.source) l.lines (g.S.Source.left l.source);
  are : AreLists l.lists.ports.items l.lists.prefixes.items;
  told : to_come l.initial.lines (g.S.Source.left l.initial.source) ≡ in_front (lines_text (list_lines l.lists.ports.items l.lists.prefixes.items)) (to_come l.lines (g.S.Source.left l.source));
}

-- a plan has at most 16 ports and 32 prefixes
abbrev pub decreases-listed : goal.decreases-listed
decreases-listed g l = 48 - (length l.lists.ports.items + length l.lists.prefixes.items)
