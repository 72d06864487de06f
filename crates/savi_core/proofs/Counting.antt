-- How much may still come.
use Rattle.std.proofs.Common.{ℕ, zero, suc, ◌≡◌, ◌+◌, ◌*◌, ◌<◌, ◌≤◌, Bool, true, false, List, [], ◌∷◌, length, get_or, cond, inl, inr, refl, sym, ap, ◌∙◌, arith, add-one}
use Rattle.std.proofs.lemmas.Bool.{cases_Bool, cases_eq, cond-true, cond-false}
use Rattle.savi_kinds.specs.declared.plan.Plan.{Plan}
use Rattle.hist_store.specs.Rows.{Row}
use Rattle.checkpoint.specs.Bases.{Base}
use Rattle.savi_history.specs.Passes.{has_ended, AllEnded}
use Rattle.savi_history.specs.Queues.{queue}
use Rattle.savi_core.specs.Counts.{open_below, count_waiting}

one_open : (b : Bool) → cond b 0 1 ≤ 1
one_open true = omega arith
one_open false = omega arith

pub open_below-le : (base : Base) (past : List Row) (n : ℕ) → open_below base past n ≤ n
open_below-le base past zero = omega arith
open_below-le base past (suc n) = omega (arith, open_below-le base past n, one_open (has_ended base n past))

fewer_open : (b b' : Bool) → (b ≡ true → b' ≡ true) → cond b' 0 1 ≤ cond b 0 1
fewer_open true b' stays = rw (stays refl) (omega arith)
fewer_open false b' stays = one_open b'

module _ (base : Base) (old new : List Row) (stays : (pass : ℕ) → has_ended base pass old ≡ true → has_ended base pass new ≡ true) where
  -- what has ended stays so
  pub open_below-later : (n : ℕ) → open_below base new n ≤ open_below base old n
  open_below-later zero = omega arith
  open_below-later (suc n) = omega (arith, open_below-later n, fewer_open (has_ended base n old) (has_ended base n new) (stays n))

  -- one pass more has ended
  pub open_below-ended : (pass n : ℕ) → pass < n → has_ended base pass old ≡ false → has_ended base pass new ≡ true → open_below base new n + 1 ≤ open_below base old n
  open_below-ended pass zero within was is = absurd (omega (arith, within))
  open_below-ended pass (suc n) within was is =
      elim (cases_eq pass n) [
        | inl here ↦
            let before : ◌≡◌ {A = ℕ} (cond (has_ended base n old) 0 1) 1 = cond-false _ 0 1 (ap (λ p. has_ended base p old) (sym here) ∙ was) in
            let after : ◌≡◌ {A = ℕ} (cond (has_ended base n new) 0 1) 0 = cond-true _ 0 1 (ap (λ p. has_ended base p new) (sym here) ∙ is) in
            omega (arith, open_below-later n, before, after)
        | inr other ↦
            let less : open_below base new n + 1 ≤ open_below base old n = open_below-ended pass n (omega (arith, within, other)) was is in
            omega (arith, less, fewer_open (has_ended base n old) (has_ended base n new) (stays n))
      ]

module _ (plan : Plan) (base : Base) (old new : List Row) (fewer : (number : ℕ) → length (queue plan base number new) ≤ length (queue plan base number old)) where
  pub waiting_at-later : (ns : List ℕ) → count_waiting plan base new ns ≤ count_waiting plan base old ns
  waiting_at-later [] = omega arith
  waiting_at-later (n ∷ ns) = omega (arith, waiting_at-later ns, fewer n)

  -- at one port at least one item less waits
  pub waiting_at-taken : (ns : List ℕ) (k : ℕ) → k < length ns → length (queue plan base (get_or ns k 0) new) < length (queue plan base (get_or ns k 0) old) → count_waiting plan base new ns + 1 ≤ count_waiting plan base old ns
  waiting_at-taken [] k within less = absurd (omega arith)
  waiting_at-taken (n ∷ ns) zero within less = omega (arith, waiting_at-later ns, less)
  waiting_at-taken (n ∷ ns) (suc k) within less =
      let rest : count_waiting plan base new ns + 1 ≤ count_waiting plan base old ns = waiting_at-taken ns k (omega (arith, within)) less in
      omega (arith, rest, fewer n)

pub waiting_at-le : (plan : Plan) (base : Base) (past : List Row) (most : ℕ) (ns : List ℕ) → ((k : ℕ) → k < length ns → length (queue plan base (get_or ns k 0) past) ≤ most) → count_waiting plan base past ns ≤ most * length ns
waiting_at-le plan base past most [] each = omega arith
waiting_at-le plan base past most (n ∷ ns) each =
    let here : length (queue plan base n past) ≤ most = each 0 (omega arith) in
    let rest : count_waiting plan base past ns ≤ most * length ns = waiting_at-le plan base past most ns (λ k within. each (suc k) (omega (arith, within))) in
    omega (arith, here, rest)

-- one pass is open
pub open_below-some : (base : Base) (past : List Row) (pass n : ℕ) → pass < n → has_ended base pass past ≡ false → 0 < open_below base past n
open_below-some base past pass zero within runs = absurd (omega (arith, within))
open_below-some base past pass (suc n) within runs =
    elim (cases_eq pass n) [
      | inl here ↦
          let open_here : ◌≡◌ {A = ℕ} (cond (has_ended base n past) 0 1) 1 = cond-false _ 0 1 (ap (λ p. has_ended base p past) (sym here) ∙ runs) in
          omega (arith, open_here)
      | inr other ↦
          let less : 0 < open_below base past n = open_below-some base past pass n (omega (arith, within, other)) runs in
          omega (arith, less)
    ]

-- a loop over the passes
pub open_more : (base : Base) (past : List Row) (pass left : ℕ) → has_ended base pass past ≡ false → left ≡ open_below base past pass → left + 1 ≡ open_below base past (pass + 1)
open_more base past pass left runs was =
    let open_here : ◌≡◌ {A = ℕ} (cond (has_ended base pass past) 0 1) 1 = cond-false _ 0 1 runs in
    rw (add-one pass) (omega (arith, was, open_here))

pub ended_more : (base : Base) (past : List Row) (pass left : ℕ) → has_ended base pass past ≡ true → left ≡ open_below base past pass → left ≡ open_below base past (pass + 1)
ended_more base past pass left ended was =
    let none_here : ◌≡◌ {A = ℕ} (cond (has_ended base pass past) 0 1) 0 = cond-true _ 0 1 ended in
    rw (add-one pass) (omega (arith, was, none_here))

-- something waits at a port
pub waiting_at-some : (plan : Plan) (base : Base) (past : List Row) (ns : List ℕ) (k : ℕ) → k < length ns → 0 < length (queue plan base (get_or ns k 0) past) → 0 < count_waiting plan base past ns
waiting_at-some plan base past [] k within some = absurd (omega arith)
waiting_at-some plan base past (n ∷ ns) zero within some = omega (arith, some)
waiting_at-some plan base past (n ∷ ns) (suc k) within some =
    let rest : 0 < count_waiting plan base past ns = waiting_at-some plan base past ns k (omega (arith, within)) some in
    omega (arith, rest)

-- where none of the passes below a number is open, each has ended
pub all_ended : (base : Base) (past : List Row) (n : ℕ) → open_below base past n ≡ 0 → AllEnded base n past
all_ended base past n none pass within =
    elim (cases_Bool (has_ended base pass past)) [
      | inl ended ↦ ended
      | inr runs ↦ absurd (omega (arith, none, open_below-some base past pass n within runs))
    ]

pub all_ended_more : (base : Base) (past : List Row) (n : ℕ) → AllEnded base n past → has_ended base n past ≡ true → AllEnded base (n + 1) past
all_ended_more base past n before here pass within =
    elim (cases_eq pass n) [
      | inl same ↦ ap (λ p. has_ended base p past) same ∙ here
      | inr other ↦ before pass (omega (arith, within, other))
    ]
