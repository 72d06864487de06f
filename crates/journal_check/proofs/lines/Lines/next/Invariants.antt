use Rattle.std.specs.Prelude.{◌≡◌, ◌-◌, length}
use Rattle.savi_ends.specs.Octets.{in_front}
use Rattle.journal_check.specs.Feeds.{HasNoFeed}
use Rattle.journal_check.specs.Pieces.{GaveSome, octets_ahead}
use Rattle.journal_check.proofs.lines.Lines.next.Given as goal

-- what was taken so far is in the buffer, in front of what is to come
abbrev pub invariant-pieces : goal.invariant-pieces
invariant-pieces g l = record {
  still : g.S.Source.faults l.source ≡ g.S.Source.faults l.initial.source;
  gave : GaveSome (g.S.Source.left l.initial.source) (g.S.Source.left l.source);
  plain : HasNoFeed l.line.items;
  told : octets_ahead l.initial.self (g.S.Source.left l.initial.source) ≡ in_front l.line.items (octets_ahead l.self (g.S.Source.left l.source));
  place : l.self.place ≡ l.initial.self.place;
}

abbrev pub decreases-pieces : goal.decreases-pieces
decreases-pieces g l = 3400 - length l.line.items
