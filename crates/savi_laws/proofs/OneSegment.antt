-- A session with room for all that came in is of one segment.
use Rattle.std.proofs.Common.{◌≡◌, ℕ, ◌+◌, ◌*◌, ◌≤◌, Bool, true, false, List, [], ◌∷◌, ◌++◌, append-nil, length, sum_by, refl, sym, ap, subst, ◌∙◌, arith, if◌then◌else◌}
use Rattle.std.proofs.lemmas.Bool.{false≢true}
use Rattle.std.proofs.lemmas.List.Sums.{sum_by-cons}
use Rattle.savi_kinds.specs.declared.plan.Plan.{Plan}
use Rattle.savi_kinds.specs.ValidPlan.{IsValidPlan}
use Rattle.savi_kinds.specs.Vlans.{vlans_of}
use Rattle.hist_store.specs.Rows.{Row, held}
use Rattle.checkpoint.specs.Bases.{empty}
use Rattle.savi_history.specs.Endings.{has_paused_end}
use Rattle.savi_history.specs.Legal.{IsLegal}
use Rattle.savi_history.proofs.Starting.{empty_within}
use Rattle.savi_segments.specs.Segments.{AreLegal, HaveTurned, IsWholeSession, base_after, joined}
use Rattle.savi_laws.specs.Answered.{inputs, is_input}
use Rattle.savi_laws.specs.Budgets.{Suffices, causes, input_count, standing}
use Rattle.savi_laws.proofs.Enough.{none_full}
use Rattle.savi_laws.proofs.Pauses.{no_pause}

-- what came in of rows in front of others

inputs_at : (b : Bool) (r : Row) (xs rows : List Row) → length (inputs (xs ++ rows)) ≡ length (inputs xs) + length (inputs rows)
    → length (if b then r ∷ inputs (xs ++ rows) else inputs (xs ++ rows)) ≡ length (if b then r ∷ inputs xs else inputs xs) + length (inputs rows)
inputs_at true r xs rows step = omega (arith, step)
inputs_at false r xs rows step = step

pub count_both : (xs rows : List Row) → input_count (xs ++ rows) ≡ input_count xs + input_count rows
count_both [] rows = omega arith
count_both (r ∷ xs) rows = inputs_at (is_input r.entry.act) r xs rows (count_both xs rows)

held_both : (xs rows : List Row) → held (xs ++ rows) ≡ held xs + held rows
held_both [] rows = omega arith
held_both (r ∷ xs) rows = let more = held_both xs rows in omega (arith, more)

pub fewer : (i j x : ℕ) → j ≤ i → 4130 + (34 + 256 * i) ≤ x → 4130 + (34 + 256 * j) ≤ x
fewer i j x less low = omega (arith, less, low)

lighter : (h k x : ℕ) → k ≤ h → 1518 + h ≤ x → 1518 + k ≤ x
lighter h k x less low = omega (arith, less, low)

-- with room for more there is room for less
pub suffices_less : (plan : Plan) (i j h k : ℕ) → j ≤ i → k ≤ h → Suffices plan i h → Suffices plan j k
suffices_less plan i j h k less light suffices = record {
  entries = fewer i j plan.entries less suffices.entries;
  bytes = lighter h k plan.bytes light suffices.bytes;
}

-- at the start of a switch no address has a state
none_stand : (vlans : List ℕ) → sum_by (λ vlan. length (empty.rows vlan)) vlans ≡ 0
none_stand [] = refl
none_stand (vlan ∷ vlans) =
    let rest = none_stand vlans in
    let here : length (empty.rows vlan) ≡ 0 = refl in
    omega (arith, sum_by-cons (λ (v : ℕ). length (empty.rows v)) vlan vlans, here, rest)

module _ (plan : Plan) (valid : IsValidPlan plan) where
  -- no pass of the first segment is paused
  pub first_unpaused : (segment : List Row) → IsLegal plan empty segment → Suffices plan (input_count segment) (held segment) → has_paused_end segment ≡ false
  first_unpaused segment legal suffices =
      let none : standing plan empty ≡ 0 = none_stand (vlans_of plan) in
      none_full plan empty valid.port_count.1 (empty_within plan valid) segment legal
      (suffices_less plan (input_count segment) (causes plan empty segment) (held segment) (held segment) (omega (arith, none)) (omega arith) suffices)

  none_before : (segment : List Row) (before : List (List Row)) → AreLegal plan (segment ∷ before) → HaveTurned plan (segment ∷ before)
      → Suffices plan (input_count (joined (segment ∷ before))) (held (joined (segment ∷ before))) → before ≡ []
  none_before segment [] legal turned suffices = refl
  none_before segment (first ∷ rest) legal turned suffices =
      let count = count_both segment (joined (first ∷ rest)) in
      let size = held_both segment (joined (first ∷ rest)) in
      let less : Suffices plan (input_count (joined (first ∷ rest))) (held (joined (first ∷ rest))) =
      suffices_less plan (input_count (joined (segment ∷ first ∷ rest))) (input_count (joined (first ∷ rest))) (held (joined (segment ∷ first ∷ rest))) (held (joined (first ∷ rest))) (omega (arith, count)) (omega (arith, size)) suffices in
      let alone : rest ≡ [] = none_before first rest legal.2 turned.1 less in
      let count_first = count_both first (joined rest) in
      let size_first = held_both first (joined rest) in
      let unpaused = first_unpaused first (subst (λ (segments : List (List Row)). IsLegal plan (base_after plan segments) first) alone legal.2.0)
      (suffices_less plan (input_count (joined (first ∷ rest))) (input_count first) (held (joined (first ∷ rest))) (held first) (omega (arith, count_first)) (omega (arith, size_first)) less) in
      absurd (false≢true (sym (no_pause first unpaused) ∙ turned.0.1))

  last_alone : (segment : List Row) (before : List (List Row)) → before ≡ [] → IsLegal plan (base_after plan before) segment → Suffices plan (input_count (joined (segment ∷ before))) (held (joined (segment ∷ before)))
      → (length (segment ∷ before) ≡ 1) × (has_paused_end (joined (segment ∷ before)) ≡ false)
  last_alone segment before alone legal suffices =
      subst (λ (segments : List (List Row)). (length (segment ∷ segments) ≡ 1) × (has_paused_end (joined (segment ∷ segments)) ≡ false)) (sym alone) (refl, unpaused)
    where
      nothing_behind : segment ++ [] ≡ segment
      nothing_behind = append-nil segment

      enough : Suffices plan (input_count segment) (held segment)
      enough =
          let count = count_both segment (joined before) in
          let size = held_both segment (joined before) in
          suffices_less plan (input_count (joined (segment ∷ before))) (input_count segment) (held (joined (segment ∷ before))) (held segment) (omega (arith, count)) (omega (arith, size)) suffices

      unpaused : has_paused_end (segment ++ []) ≡ false
      unpaused =
          ap (λ (rows : List Row). has_paused_end rows) nothing_behind
          ∙ first_unpaused segment (subst (λ (segments : List (List Row)). IsLegal plan (base_after plan segments) segment) alone legal) enough

  pub one_segment : (segments : List (List Row)) → IsWholeSession plan segments → Suffices plan (input_count (joined segments)) (held (joined segments))
      → (length segments ≡ 1) × (has_paused_end (joined segments) ≡ false)
  one_segment [] whole suffices = absurd whole.closed
  one_segment (segment ∷ before) whole suffices = last_alone segment before (none_before segment before whole.legal whole.turned suffices) whole.legal.0 suffices
