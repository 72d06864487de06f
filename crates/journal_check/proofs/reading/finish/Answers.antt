use Rattle.std.proofs.Common.{◌≡◌, ◌≢◌, ◌-◌, ◌^◌, ℕ, List, [], Option, IfSome, refl, ap, sym, ◌∙◌, subst, inl, inr}
use Rattle.savi_ends.specs.Octets.{NothingLeft}
use Rattle.journal_check.specs.Pieces.{held_octets, seen_if_told, to_come, octets_ahead}
use Rattle.journal_check.proofs.SeenTexts.{nothing_seen, some_seen}
use Rattle.journal_check.proofs.Given.{gave_none}
use Rattle.journal_check.proofs.reading.finish.Goals as goal

pub returns-then-has_pause-clause-ends : goal.returns-then-has_pause-clause-ends
returns-then-has_pause-clause-ends g c = (refl, inl (sym c.has_pause.ensures ∙ c.if-has_pause.true))

pub returns-then-has_pause-clause-gave : goal.returns-then-has_pause-clause-gave
returns-then-has_pause-clause-gave g c = gave_none (g.S.Source.left c.args.source.now)

pub returns-in-Nothing-clause-ends : goal.returns-in-Nothing-clause-ends
returns-in-Nothing-clause-ends g c =
    let lines = c.args.lines.now in (
      refl,
      sym c.has_pause.ensures ∙ c.if-has_pause.false,
      nothing_seen (2 ^ 62 - lines.place) (octets_ahead lines (g.S.Source.left c.args.source.now)) (c.in-Nothing.ensures.nothing refl),
    )

pub returns-in-More-clause-ends : goal.returns-in-More-clause-ends
returns-in-More-clause-ends g c =
    let lines = c.args.lines.now in
    let new = c.fill.new.self in
    let some = some_seen (2 ^ 62 - lines.place) (held_octets new) (g.S.Source.left c.fill.new.source) (c.in-More.ensures.some refl) in
    (refl, inr (sym c.has_pause.ensures ∙ c.if-has_pause.false, subst (λ (o : Option (List ℕ)). IfSome (seen_if_told (2 ^ 62 - lines.place) o) (λ octets. octets ≢ [])) c.in-More.ensures.same some))
