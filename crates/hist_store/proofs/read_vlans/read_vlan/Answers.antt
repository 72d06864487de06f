use Rattle.std.proofs.Common.{ℕ, ◌≡◌, ◌≢◌, List, [], ◌∷◌, ◌++◌, codes, decimal, Some, sym, ap, ◌∙◌, arith, inl, inr}
use Rattle.std.proofs.lemmas.Bool.{cases_eq}
use Rattle.std.proofs.lemmas.List.{append-nil}
use Rattle.std.proofs.lemmas.Option.{none-some}
use Rattle.savi_kinds.proofs.MacGrammar.{left_none}
use Rattle.hist_store.specs.TextOfLines.{spaced}
use Rattle.hist_store.specs.VlanTexts.{vlan_fields}
use Rattle.hist_store.proofs.EndRead.{none_left, some_left}
use Rattle.hist_store.proofs.VlanLines.{nothing_said, number_said}
use Rattle.hist_store.proofs.read_vlans.read_vlan.Goals as goal

-- what is said of VLAN 1, and of another one
first_said : (vlan : ℕ) (text : List ℕ) → vlan ≡ 1 → text ≡ spaced (vlan_fields vlan) → text ≡ []
first_said vlan text first is = is ∙ ap spaced (nothing_said vlan first)

other_said : (vlan : ℕ) (text : List ℕ) → vlan ≢ 1 → text ≡ spaced (vlan_fields vlan) → text ≡ codes " vlan " ++ decimal vlan
other_said vlan text other is = is ∙ ap spaced (number_said vlan other) ∙ ap (λ (t : List ℕ). codes " vlan " ++ t) (append-nil (decimal vlan))

pub returns-then-is_empty-clause-read : goal.returns-then-is_empty-clause-read
returns-then-is_empty-clause-read c = (left_none _ c.is_empty.result c.is_empty.ensures c.if-is_empty.true, (omega arith, omega arith))

pub returns-then-is_empty-clause-whole : goal.returns-then-is_empty-clause-whole
returns-then-is_empty-clause-whole c = λ vlan is_vlan is.
    elim (cases_eq vlan 1) [
      | inl first ↦ ap Some (sym first)
      | inr other ↦ absurd (some_left _ c.is_empty.result (codes "vlan") (decimal vlan ∷ []) (is ∙ ap spaced (number_said vlan other)) c.is_empty.ensures c.if-is_empty.true)
    ]

pub returns-in_err-digits-clause-whole : goal.returns-in_err-digits-clause-whole
returns-in_err-digits-clause-whole c = rw c.from_residual.ensures (λ vlan is_vlan is.
    elim (cases_eq vlan 1) [
      | inl first ↦ absurd (none_left _ c.is_empty.result (first_said vlan _ first is) c.is_empty.ensures c.if-is_empty.false)
      | inr other ↦ absurd (c.in_err-digits.ensures.whole (decimal vlan) (other_said vlan _ other is))
    ])

pub returns-in_err-vlan-clause-whole : goal.returns-in_err-vlan-clause-whole
returns-in_err-vlan-clause-whole c = rw c.from_residual-in_err-vlan.ensures (λ vlan is_vlan is.
    elim (cases_eq vlan 1) [
      | inl first ↦ absurd (none_left _ c.is_empty.result (first_said vlan _ first is) c.is_empty.ensures c.if-is_empty.false)
      | inr other ↦ absurd (none-some vlan (c.in_err-vlan.ensures.whole vlan is_vlan (c.in_ok-digits.ensures.whole (decimal vlan) (other_said vlan _ other is))))
    ])

pub returns-then-vlan-eq-DEFAULT_VLAN-clause-whole : goal.returns-then-vlan-eq-DEFAULT_VLAN-clause-whole
returns-then-vlan-eq-DEFAULT_VLAN-clause-whole c = λ vlan is_vlan is.
    elim (cases_eq vlan 1) [
      | inl first ↦ absurd (none_left _ c.is_empty.result (first_said vlan _ first is) c.is_empty.ensures c.if-is_empty.false)
      | inr other ↦
          let same = c.in_ok-vlan.ensures.whole vlan is_vlan (c.in_ok-digits.ensures.whole (decimal vlan) (other_said vlan _ other is)) in
          let one : c.in_ok-vlan.vlan ≡ vlan = cc same in
          absurd (other (sym one ∙ c.if-vlan-eq-DEFAULT_VLAN.true))
    ]

pub returns-clause-read : goal.returns-clause-read
returns-clause-read c =
    let vlan = c.in_ok-vlan.vlan in (
      c.in_ok-digits.ensures.read ∙ ap (λ (t : List ℕ). codes " vlan " ++ t) (c.in_ok-vlan.ensures.read.0 ∙ sym (append-nil (decimal vlan))) ∙ sym (ap spaced (number_said vlan c.if-vlan-eq-DEFAULT_VLAN.false)),
      c.in_ok-vlan.ensures.read.1,
    )

pub returns-clause-whole : goal.returns-clause-whole
returns-clause-whole c = λ vlan is_vlan is.
    elim (cases_eq vlan 1) [
      | inl first ↦ absurd (none_left _ c.is_empty.result (first_said vlan _ first is) c.is_empty.ensures c.if-is_empty.false)
      | inr other ↦ c.in_ok-vlan.ensures.whole vlan is_vlan (c.in_ok-digits.ensures.whole (decimal vlan) (other_said vlan _ other is))
    ]
