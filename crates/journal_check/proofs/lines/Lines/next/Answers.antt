use Rattle.std.proofs.Common.{ℕ, ◌-◌, ◌^◌, List, [], ◌∷◌, ◌++◌, length, length-append, refl, ap, sym, ◌∙◌, subst, arith}
use Rattle.savi_ends.specs.Octets.{in_front}
use Rattle.journal_check.specs.Feeds.{HasNoFeed}
use Rattle.journal_check.specs.Pieces.{held_octets, octets_ahead}
use Rattle.journal_check.proofs.FeedPlaces.{plain_append, in_front_none, none_at_end, none_if_long, told_part, told_whole}
use Rattle.journal_check.proofs.SeenTexts.{none_seen_of, passed_line}
use Rattle.journal_check.proofs.Given.{gave_more, gave_none}
use Rattle.journal_check.proofs.lines.Lines.next.Goals as goal

pub pieces-init : goal.pieces-init
pieces-init g c = record {
  still = refl;
  gave = gave_none (g.S.Source.left c.args.source.now);
  plain = subst HasNoFeed (sym c.clear.ensures) tt;
  told = sym (ap (λ (l : List ℕ). in_front l (octets_ahead c.args.self.now (g.S.Source.left c.args.source.now))) c.clear.ensures ∙ in_front_none (octets_ahead c.args.self.now (g.S.Source.left c.args.source.now)));
  place = refl;
}

pub pieces-preserved : goal.pieces-preserved
pieces-preserved g c =
    let was = c.pieces.invariant in
    let cut = c.in-Part.ensures.cut in
    let left = g.S.Source.left c.fill.new.source in
    record {
      still = c.in-More.ensures.still (λ same. cc) ∙ was.still;
      gave = gave_more _ _ _ was.gave c.fill.ensures.gave;
      plain = subst HasNoFeed (sym cut.2) (plain_append c.pieces.line.items (held_octets c.fill.new.self) was.plain cut.1);
      told = told_part c.pieces.line.items (held_octets c.fill.new.self) (held_octets c.cut.new.self) c.cut.new.line.items (octets_ahead c.args.self.now (g.S.Source.left c.args.source.now)) (octets_ahead c.pieces.self (g.S.Source.left c.pieces.source)) left was.told c.fill.ensures.same cut.2 cut.3;
      place = c.cut.ensures.place ∙ c.fill.ensures.place ∙ was.place;
    }

pub returns-in-Whole-clause-taken : goal.returns-in-Whole-clause-taken
returns-in-Whole-clause-taken g c =
    let was = c.pieces.invariant in
    let cut = c.in-Whole.ensures.cut in
    let left = g.S.Source.left c.fill.new.source in
    let first = c.args.self.now in
    let last = c.pass.new.self in
    let plain = subst HasNoFeed (sym cut.2) (plain_append c.pieces.line.items cut.0 was.plain cut.1) in
    let told = told_whole c.pieces.line.items cut.0 (held_octets c.fill.new.self) (held_octets c.cut.new.self) c.cut.new.line.items (octets_ahead first (g.S.Source.left c.args.source.now)) (octets_ahead c.pieces.self (g.S.Source.left c.pieces.source)) left
    was.told c.fill.ensures.same cut.2 cut.3 ∙ ap (λ (l : List ℕ). in_front (c.cut.new.line.items ++ 10 ∷ []) (in_front l left)) (sym c.pass.ensures.same) in
    let size = c.len.ensures in
    let place = c.cut.ensures.place ∙ c.fill.ensures.place ∙ was.place in
    let placed = first.placed in
    let placed' = last.placed in
    passed_line c.pass.result (2 ^ 62 - first.place) (2 ^ 62 - last.place) c.cut.new.line.items (octets_ahead first (g.S.Source.left c.args.source.now)) (octets_ahead last left) c.pass.ensures.never plain told
    (λ is. let end = c.pass.ensures.line is in omega (arith, size, place, placed, placed', end))
    (λ is. let far = c.pass.ensures.broken is in omega (arith, size, place, placed, far))

pub returns-in-Whole-clause-passed : goal.returns-in-Whole-clause-passed
returns-in-Whole-clause-passed g c = λ is.
    let was = c.pieces.invariant in
    let cut = c.in-Whole.ensures.cut in
    let left = g.S.Source.left c.fill.new.source in
    let first = c.args.self.now in
    let told = told_whole c.pieces.line.items cut.0 (held_octets c.fill.new.self) (held_octets c.cut.new.self) c.cut.new.line.items (octets_ahead first (g.S.Source.left c.args.source.now)) (octets_ahead c.pieces.self (g.S.Source.left c.pieces.source)) left
    was.told c.fill.ensures.same cut.2 cut.3 ∙ ap (λ (l : List ℕ). in_front (c.cut.new.line.items ++ 10 ∷ []) (in_front l left)) (sym c.pass.ensures.same) in
    let size = c.len.ensures in
    let parts = length-append c.cut.new.line.items (10 ∷ []) in
    let place = c.cut.ensures.place ∙ c.fill.ensures.place ∙ was.place in
    let end = c.pass.ensures.line is in
    (c.cut.new.line.items ++ 10 ∷ [], told, omega (arith, size, parts, place, end))

pub returns-in-Whole-clause-further : goal.returns-in-Whole-clause-further
returns-in-Whole-clause-further g c = λ is.
    let place = c.cut.ensures.place ∙ c.fill.ensures.place ∙ c.pieces.invariant.place in
    let end = c.pass.ensures.line is in
    omega (arith, place, end)

pub returns-in-Nothing-clause-taken : goal.returns-in-Nothing-clause-taken
returns-in-Nothing-clause-taken g c =
    let was = c.pieces.invariant in
    none_seen_of (2 ^ 62 - c.args.self.now.place) (octets_ahead c.args.self.now (g.S.Source.left c.args.source.now))
    (none_at_end c.pieces.line.items (octets_ahead c.args.self.now (g.S.Source.left c.args.source.now)) (octets_ahead c.pieces.self (g.S.Source.left c.pieces.source)) was.plain was.told (c.in-Nothing.ensures.nothing refl))

pub returns-in-Long-clause-taken : goal.returns-in-Long-clause-taken
returns-in-Long-clause-taken g c =
    let was = c.pieces.invariant in
    let cut = c.in-Long.ensures.cut in
    let left = g.S.Source.left c.fill.new.source in
    none_seen_of (2 ^ 62 - c.args.self.now.place) (octets_ahead c.args.self.now (g.S.Source.left c.args.source.now))
    (none_if_long c.pieces.line.items cut.0 cut.1 (octets_ahead c.args.self.now (g.S.Source.left c.args.source.now)) left (plain_append c.pieces.line.items cut.0 was.plain cut.2)
    (was.told ∙ ap (in_front c.pieces.line.items) (sym c.fill.ensures.same ∙ ap (λ (l : List ℕ). in_front l left) cut.3)) cut.4)

pub pieces-smaller : goal.pieces-smaller
pieces-smaller g c =
    let cut = c.in-Part.ensures.cut in
    let size = ap length cut.2 in
    let parts = length-append c.pieces.line.items (held_octets c.fill.new.self) in
    let some = cut.0 in
    let fits = cut.4 in
    omega (arith, size, parts, some, fits)

pub returns-in-Whole-clause-gave : goal.returns-in-Whole-clause-gave
returns-in-Whole-clause-gave g c = gave_more _ _ _ c.pieces.invariant.gave c.fill.ensures.gave

pub returns-in-Nothing-clause-gave : goal.returns-in-Nothing-clause-gave
returns-in-Nothing-clause-gave g c = gave_more _ _ _ c.pieces.invariant.gave c.fill.ensures.gave

pub returns-in-Failed-clause-gave : goal.returns-in-Failed-clause-gave
returns-in-Failed-clause-gave g c = gave_more _ _ _ c.pieces.invariant.gave c.fill.ensures.gave

pub returns-in-Long-clause-gave : goal.returns-in-Long-clause-gave
returns-in-Long-clause-gave g c = gave_more _ _ _ c.pieces.invariant.gave c.fill.ensures.gave
