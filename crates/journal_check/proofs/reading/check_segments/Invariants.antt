use Rattle.std.specs.Prelude.{◌≡◌, ◌≤◌, ◌+◌, ◌-◌, ◌^◌, length}
use Rattle.savi_ends.specs.Octets.{in_front}
use Rattle.journal_check.specs.Headers.{head_text}
use Rattle.journal_check.specs.Pieces.{GaveSome, to_come}
use Rattle.journal_check.proofs.Watching.{IsWatching}
use Rattle.journal_check.proofs.reading.check_segments.Given as goal

-- the text begins with the header, the segments that are closed and the lines of the entries that stand, which the watcher was
-- given, and the rest is to come
abbrev pub invariant-turns : goal.invariant-turns
invariant-turns g l = record {
  still : g.S.Source.faults l.source ≡ g.S.Source.faults l.initial.source;
  gave : GaveSome (g.S.Source.left l.initial.source) (g.S.Source.left l.source);
  lines : l.before.lines + length l.core.past ≤ l.lines.place + 64;
  segments : l.before.segments ≤ l.before.lines;
  entries : l.before.entries + length l.core.past ≤ l.lines.place;
  watching : IsWatching g.W.Watcher.sees l.version l.initial.core.plan l.core l.before
      (in_front (head_text l.version l.initial.core.plan) (to_come l.initial.lines (g.S.Source.left l.initial.source)))
      (to_come l.lines (g.S.Source.left l.source)) l.initial.watcher l.watcher;
}

-- each line that is taken has an octet, its line feed
abbrev pub decreases-turns : goal.decreases-turns
decreases-turns g l = 2 ^ 62 - l.lines.place
