use Rattle.std.proofs.Common.{ℕ, List, ◌++◌, take, drop, ap, sym, ◌∙◌, subst, take-append-drop}
use Rattle.journal_check.specs.Feeds.{HasNoFeed, IsBehindLine}
use Rattle.journal_check.proofs.FeedPlaces.{front_plain, front_behind}
use Rattle.journal_check.proofs.feeds.line_front.Goals as goal

pub returns-clause-front : goal.returns-clause-front
returns-clause-front c =
    let octets = c.args.octets.now in
    let rest = drop c.feed_at.result octets in (
      rest,
      sym (ap (λ (l : List ℕ). l ++ rest) c.split_at.ensures.front ∙ take-append-drop c.feed_at.result octets),
      subst (λ (n : ℕ). IsBehindLine (drop n octets)) (sym c.feed_at.ensures.place) (front_behind octets),
    )

pub returns-clause-plain : goal.returns-clause-plain
returns-clause-plain c =
    let octets = c.args.octets.now in
    subst HasNoFeed (sym (c.split_at.ensures.front ∙ ap (λ (n : ℕ). take n octets) c.feed_at.ensures.place)) (front_plain octets)
