use Rattle.std.specs.Prelude.{◌≡◌, ◌≤◌, ◌+◌, ◌-◌, take, length}
use Rattle.savi_ends.specs.Octets.{in_front}
use Rattle.hist_store.specs.TextOfLines.{lines_text}
use Rattle.checkpoint.specs.BaseLines.{base_lines}
use Rattle.savi_core.specs.Machines.{base_of}
use Rattle.journal_check.specs.Pieces.{GaveSome, to_come}
use Rattle.journal_check.proofs.openings.read_opening.Given as goal

-- so many lines were read
abbrev pub invariant-loop-wanted : goal.invariant-loop-wanted
invariant-loop-wanted g l = record {
  still : g.S.Source.faults l.source ≡ g.S.Source.faults l.initial.source;
  gave : GaveSome (g.S.Source.left l.initial.source) (g.S.Source.left l.source);
  within : l.i ≤ length (base_lines l.core.plan (base_of l.core));
  further : l.initial.lines.place + l.i ≤ l.lines.place;
  told : to_come l.initial.lines (g.S.Source.left l.initial.source)
      ≡ in_front (lines_text (take l.i (base_lines l.core.plan (base_of l.core)))) (to_come l.lines (g.S.Source.left l.source));
}

abbrev pub decreases-loop-wanted : goal.decreases-loop-wanted
decreases-loop-wanted g l = length (base_lines l.core.plan (base_of l.core)) - l.i
