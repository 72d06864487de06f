use Rattle.std.proofs.Common.{ℕ, List, ◌++◌, length, refl, ap, sym, ◌∙◌, subst, arith}
use Rattle.std.proofs.lemmas.Slice.{between_is}
use Rattle.journal_check.specs.Feeds.{HasNoFeed}
use Rattle.journal_check.proofs.FeedPlaces.{whole_cut, part_cut, some_held}
use Rattle.journal_check.proofs.lines.Lines.cut.Goals as goal

pub returns-then-len-size-clause-cut : goal.returns-then-len-size-clause-cut
returns-then-len-size-clause-cut c =
    let m = c.args.self.now in
    let part = c.line_front-part.result.now in
    let front = c.line_front-part.ensures.front in (
      part,
      c.line_front-part.ensures.plain,
      c.in-Ok.ensures.ok,
      whole_cut m.piece m.at m.end (length part) part front.0 front.1 front.2 refl c.if-len-size.true,
    )

pub returns-else-len-size-clause-cut : goal.returns-else-len-size-clause-cut
returns-else-len-size-clause-cut c =
    let m = c.args.self.now in
    let part = c.line_front-part.result.now in
    let front = c.line_front-part.ensures.front in
    let both = part_cut m.piece m.at m.end (length part) part front.0 front.1 refl c.if-len-size.false in (
      some_held m.piece m.at m.end c.requires (omega arith),
      subst HasNoFeed (sym both.0) c.line_front-part.ensures.plain,
      c.in-Ok.ensures.ok ∙ ap (λ (l : List ℕ). c.args.line.now.items ++ l) (sym both.0),
      both.1,
      grind (arith, c.in-Ok.ensures.len, c.try_extend_from_slice.ensures.variant),
    )

pub returns-in-Err-clause-cut : goal.returns-in-Err-clause-cut
returns-in-Err-clause-cut c =
    let m = c.args.self.now in
    let part = c.line_front-part.result.now in
    let front = c.line_front-part.ensures.front in (
      part,
      front.0,
      c.line_front-part.ensures.plain,
      sym (between_is m.piece m.at m.end) ∙ front.1,
      grind (arith, c.try_extend_from_slice.ensures.variant),
    )
