use Rattle.std.proofs.Common.{◌≡◌, true≢false, List, [], ◌∷◌, length, refl, ap, sym, ◌∙◌, arith}
use Rattle.std.proofs.lemmas.Bool.Decides.{nat_tests}
use Rattle.savi_history.specs.Queues.{Item, queue}
use Rattle.savi_kinds.specs.Ports.{number_of}
use Rattle.savi_core.specs.Machines.{base_of}
use Rattle.journal_check.proofs.coming.is_drained.Goals as goal

none_of : (items : List Item) → length items ≡ 0 → items ≡ []
none_of [] none = refl
none_of (item ∷ items) none = absurd (omega (arith, none))

pub returns-then-not-is_ticker_through : goal.returns-then-not-is_ticker_through
returns-then-not-is_ticker_through c = (
  λ no. absurd (true≢false (sym no)),
  λ both. absurd (true≢false (sym (c.is_ticker_through.ensures.1 both.0) ∙ c.if-not-is_ticker_through.true)),
)

pub returns : goal.returns
returns c =
    let m = c.args.core.now in
    let waits = queue m.plan (base_of m) (number_of c.args.port) m.past in (
      λ yes. let none : c.queued.result ≡ 0 = grind (arith, nat_tests) in (c.is_ticker_through.ensures.0 c.if-not-is_ticker_through.false, none_of waits (sym c.queued.ensures ∙ none)),
      λ both. let none : c.queued.result ≡ 0 = c.queued.ensures ∙ ap length both.1 in grind (arith, nat_tests),
    )
