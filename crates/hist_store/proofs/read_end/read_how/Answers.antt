use Rattle.std.proofs.Common.{List, ℕ, ◌∷◌, [], decimal, ap, sym, ◌∙◌, inl, inr}
use Rattle.hist_store.specs.TextOfLines.{spaced}
use Rattle.hist_store.proofs.FieldsRead.{spaceless}
use Rattle.hist_store.proofs.EndRead.{spelled, some_left, none_left}
use Rattle.hist_store.proofs.read_end.read_how.Goals as goal

pub returns-in_err-word-clause-whole : goal.returns-in_err-word-clause-whole
returns-in_err-word-clause-whole c = rw c.from_residual.ensures (λ how range is.
    let s = spelled how range in
    absurd (c.in_err-word.ensures.whole s.word s.rest (spaceless s.word s.is_word) (is ∙ ap spaced s.fields)))

pub returns-then-is_empty-clause-whole : goal.returns-then-is_empty-clause-whole
returns-then-is_empty-clause-whole c = λ how range is.
    let s = spelled how range in
    let cut = c.in_ok-word.ensures.whole s.word s.rest (spaceless s.word s.is_word) (is ∙ ap spaced s.fields) in
    elim s.either [
      | inl one ↦ c.read_reason.ensures.whole how (s.fields ∙ ap (λ (ws : List (List ℕ)). s.word ∷ ws) one ∙ ap (λ (t : List ℕ). t ∷ []) (sym cut.0))
      | inr two ↦ absurd (some_left c.in_ok-word.rest.now c.is_empty.result (decimal two.0) [] (cut.1 ∙ ap spaced two.2) c.is_empty.ensures c.if-is_empty.true)
    ]

pub returns-in_err-value-clause-whole : goal.returns-in_err-value-clause-whole
returns-in_err-value-clause-whole c = rw c.from_residual-in_err-value.ensures (λ how range is.
    let s = spelled how range in
    let cut = c.in_ok-word.ensures.whole s.word s.rest (spaceless s.word s.is_word) (is ∙ ap spaced s.fields) in
    elim s.either [
      | inl one ↦ absurd (none_left c.in_ok-word.rest.now c.is_empty.result (cut.1 ∙ ap spaced one) c.is_empty.ensures c.if-is_empty.false)
      | inr two ↦ absurd (c.in_err-value.ensures.whole two.0 [] two.1 (cut.1 ∙ ap spaced two.2))
    ])

pub returns-then-is_empty-2-clause-whole : goal.returns-then-is_empty-2-clause-whole
returns-then-is_empty-2-clause-whole c = λ how range is.
    let s = spelled how range in
    let cut = c.in_ok-word.ensures.whole s.word s.rest (spaceless s.word s.is_word) (is ∙ ap spaced s.fields) in
    elim s.either [
      | inl one ↦ absurd (none_left c.in_ok-word.rest.now c.is_empty.result (cut.1 ∙ ap spaced one) c.is_empty.ensures c.if-is_empty.false)
      | inr two ↦
          let value = c.in_ok-value.ensures.whole two.0 [] two.1 (cut.1 ∙ ap spaced two.2) in
          c.reason_with.ensures.whole how range (s.fields ∙ ap (λ (ws : List (List ℕ)). s.word ∷ ws) two.2 ∙ ap (λ (t : List ℕ). t ∷ decimal two.0 ∷ []) (sym cut.0) ∙ ap (λ (n : ℕ). c.in_ok-word.word.now ∷ decimal n ∷ []) (sym value.0))
    ]

pub returns-else-is_empty-2-clause-whole : goal.returns-else-is_empty-2-clause-whole
returns-else-is_empty-2-clause-whole c = λ how range is.
    let s = spelled how range in
    let cut = c.in_ok-word.ensures.whole s.word s.rest (spaceless s.word s.is_word) (is ∙ ap spaced s.fields) in
    elim s.either [
      | inl one ↦ absurd (none_left c.in_ok-word.rest.now c.is_empty.result (cut.1 ∙ ap spaced one) c.is_empty.ensures c.if-is_empty.false)
      | inr two ↦
          let value = c.in_ok-value.ensures.whole two.0 [] two.1 (cut.1 ∙ ap spaced two.2) in
          absurd (none_left c.in_ok-value.rest.now c.is_empty-2.result value.1 c.is_empty-2.ensures c.if-is_empty-2.false)
    ]
