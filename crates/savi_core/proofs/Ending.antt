-- How many passes are open, before and after the end of one.
use Rattle.std.proofs.Common.{ℕ, zero, suc, replicate, ◌≡◌, ◌+◌, ◌<◌, ◌≤◌, Bool, true, false, cond, List, length, get_or, set, inl, inr, refl, sym, ap, ◌∙◌, arith, get_or-set_same, get_or-set_other}
use Rattle.std.proofs.lemmas.Bool.{cases_eq, cond-true, cond-false}
use Rattle.savi_core.specs.PassMarks.{open_among}

pub none_ended : (n pass : ℕ) → get_or (replicate n false) pass false ≡ false
none_ended zero pass = refl
none_ended (suc n) zero = refl
none_ended (suc n) (suc pass) = none_ended n pass

pub all_open_among : (n : ℕ) → open_among (replicate 34 false) n ≡ n
all_open_among zero = refl
all_open_among (suc n) =
    let here : ◌≡◌ {A = ℕ} (cond (get_or (replicate 34 false) n false) 0 1) 1 = cond-false _ 0 1 (none_ended 34 n) in
    omega (arith, all_open_among n, here)

module _ (ended : List Bool) (pass : ℕ) where
  -- the end of a pass is that of no other
  open_else : (n : ℕ) → n ≤ pass → open_among (set ended pass true) n ≡ open_among ended n
  open_else zero below = refl
  open_else (suc n) below =
      let here : ◌≡◌ {A = ℕ} (cond (get_or (set ended pass true) n false) 0 1) (cond (get_or ended n false) 0 1) =
      ap (λ (b : Bool). cond b 0 1) (get_or-set_other ended pass n true false (λ same. absurd (omega (arith, below, same)))) in
      omega (arith, open_else n (omega (arith, below)), here)

  -- one fewer is open
  pub open_fewer : (n : ℕ) → pass < n → pass < length ended → get_or ended pass false ≡ false → open_among (set ended pass true) n + 1 ≡ open_among ended n
  open_fewer zero below within runs = absurd (omega (arith, below))
  open_fewer (suc n) below within runs =
      elim (cases_eq n pass) [
        | inl same ↦
            let before : ◌≡◌ {A = ℕ} (cond (get_or ended n false) 0 1) 1 = cond-false _ 0 1 (ap (λ (p : ℕ). get_or ended p false) same ∙ runs) in
            let after : ◌≡◌ {A = ℕ} (cond (get_or (set ended pass true) n false) 0 1) 0 = cond-true _ 0 1 (ap (λ (p : ℕ). get_or (set ended pass true) p false) same ∙ get_or-set_same ended pass true false within) in
            omega (arith, before, after, open_else n (omega (arith, same)))
        | inr other ↦
            let here : ◌≡◌ {A = ℕ} (cond (get_or (set ended pass true) n false) 0 1) (cond (get_or ended n false) 0 1) =
            ap (λ (b : Bool). cond b 0 1) (get_or-set_other ended pass n true false other) in
            omega (arith, here, open_fewer n (omega (arith, below, other)) within runs)
      ]

  -- the end of no input, or of one that has ended, changes nothing
  pub open_same : (n : ℕ) → pass < length ended → get_or ended pass false ≡ true → open_among (set ended pass true) n ≡ open_among ended n
  open_same zero within stops = refl
  open_same (suc n) within stops =
      let here : ◌≡◌ {A = ℕ} (cond (get_or (set ended pass true) n false) 0 1) (cond (get_or ended n false) 0 1) =
      ap (λ (b : Bool). cond b 0 1) (elim (cases_eq n pass) [
        | inl same ↦ ap (λ (p : ℕ). get_or (set ended pass true) p false) same ∙ get_or-set_same ended pass true false within ∙ sym (ap (λ (p : ℕ). get_or ended p false) same ∙ stops)
        | inr other ↦ get_or-set_other ended pass n true false other
      ]) in
      omega (arith, here, open_same n within stops)

  pub open_past : (n : ℕ) → n ≤ pass → open_among (set ended pass true) n ≡ open_among ended n
  open_past n below = open_else n below
