-- What holds of the rows goes on to hold.
use Rattle.std.proofs.Common.{◌≡◌, ◌⊎◌, ℕ, ◌+◌, ◌*◌, ◌<◌, ◌≤◌, ◌==◌, Bool, true, false, Option, Some, None, IsSome, List, length, refl, sym, ◌∙◌, ap, subst, inl, inr, arith, rules}
use Rattle.std.proofs.lemmas.Bool.{cases_Bool, true≢false, ltb-true, eqb-true}
use Rattle.savi_kinds.specs.declared.port.Port.{Port}
use Rattle.savi_kinds.specs.declared.plan.Method.{Method}
use Rattle.savi_kinds.specs.Ports.{number_of}
use Rattle.fcfs_states.specs.declared.event.Ev.{Ev}
use Rattle.fcfs_states.specs.declared.event.Ev.TheVariants.{Sent, Dad, Na, TpDad, TpNa, Lease, Release, Fix, Clear}
use Rattle.fcfs_states.specs.declared.times.Times.{Times}
use Rattle.fcfs_states.specs.Premises.{AreTimes}
use Rattle.fcfs_states.specs.States.{Same}
use Rattle.mix_rules.specs.declared.state.AddrState.{AddrState}
use Rattle.mix_rules.specs.States.{nobody, has_state, IsHeldAt, is_held_at}
use Rattle.mix_rules.specs.Ageing.{AgedAddr, aged_state, due_next as due_of}
use Rattle.mix_rules.specs.Premises.{AllMomentsFit}
use Rattle.mix_rules.specs.Next.{next_state}
use Rattle.mix_rules.specs.Holders.{MakesHolder}
use Rattle.mix_rules.proofs.AgeingLemmas.{aged-sound}
use Rattle.mix_rules.proofs.HolderLemmas.{next-held, aged-held}
use Rattle.savi_access.specs.declared.row.Row.{Row}
use Rattle.savi_access.specs.Rows.{state_in, rows_of, with_state, count_at, IsTable}
use Rattle.savi_access.proofs.Held.{held_once, recounted}
use Rattle.savi_access.proofs.Parts.{rising_with, stand_with, state_cases}
use Rattle.savi_access.proofs.Pointwise.{changed_at}
use Rattle.timer_wheel.specs.Arms.{due_in, with_due}
use Rattle.addr_table.specs.Dues.{dues}
use Rattle.savi_access.specs.Keeps.{IsWithinPorts, IsWithinRules, IsSoundBy, AreSound}
use Rattle.savi_access.specs.Rooms.{room_for, may_hold_more, IsFixable}
use Rattle.addr_table.proofs.Arms.{arms-with, length-others, dues-at}
use Rattle.addr_table.proofs.States.{nobody-aged}
use Rattle.savi_access.proofs.Holding.{held-told, told-held}
use Rattle.savi_access.proofs.RowCounts.{rows_within}
use Rattle.addr_table.proofs.Splits.{lower, higher, own_parts, length-with, gone_is}

-- what holds of each address holds after a change of one
pub each_with : (P : AddrState → Type 0) (a : ℕ) (state : AddrState) (rows : List Row) → ((b : ℕ) → P (state_in rows b)) → P state → (b : ℕ) → P (state_in (with_state a state rows) b)
each_with P a state rows others mine b =
    elim (cases_Bool (a == b)) [
      | inl here ↦ subst P (sym (rw here at (changed_at a b state rows))) mine
      | inr other ↦ subst P (sym (rw other at (changed_at a b state rows))) (others b)
    ]

-- sound states stay so
pub aged-sound_by : (k : Times) (t : ℕ) → AreTimes k → (o : Option Method) (s : AddrState) → IsSoundBy o s → IsSoundBy o (aged_state k t s).state
aged-sound_by k t times None s none = ap (λ x. (aged_state k t x).state) none ∙ ap (λ (x : AgedAddr). x.state) (nobody-aged k times t)
aged-sound_by k t times (Some m) s sound = aged-sound k times t m s sound

pub sound_with : (method_of : ℕ → Option Method) (a : ℕ) (state : AddrState) (rows : List Row) → AreSound method_of rows → IsSoundBy (method_of a) state → AreSound method_of (with_state a state rows)
sound_with method_of a state rows others mine b =
    elim (cases_Bool (a == b)) [
      | inl here ↦
          let own : IsSoundBy (method_of b) state = subst (λ n. IsSoundBy (method_of n) state) (eqb-true a b here) mine in
          subst (IsSoundBy (method_of b)) (sym (rw here at (changed_at a b state rows))) own
      | inr other ↦ subst (IsSoundBy (method_of b)) (sym (rw other at (changed_at a b state rows))) (others b)
    ]

known : (state : AddrState) → (has_state state ≡ true) ⊎ (state ≡ nobody)
known state = elim (cases_Bool (has_state state)) [ inl stands ↦ inl stands | inr gone ↦ inr (gone_is state gone) ]

-- a port that holds an address anew had room for it
abbrev pub IsAllowed : ℕ → List Row → ℕ → AddrState → Type 0
IsAllowed per_port rows a state = (p : Port) → IsHeldAt state p → IsHeldAt (state_in rows a) p ⊎ (count_at (number_of p) rows < per_port)

within_with : (per_port : ℕ) (rows : List Row) (a : ℕ) (state : AddrState) → IsTable rows → IsWithinPorts per_port rows → IsAllowed per_port rows a state → IsWithinPorts per_port (with_state a state rows)
within_with per_port rows a state table within allowed p = by_test (is_held_at (number_of p) state) refl
  where
    counted : count_at (number_of p) (with_state a state rows) + held_once (number_of p) (state_in rows a) ≡ count_at (number_of p) rows + held_once (number_of p) state
    counted = recounted (number_of p) a state rows table.rising table.stand (known state)

    by_holder : held_once (number_of p) state ≡ 1 → IsHeldAt (state_in rows a) p ⊎ (count_at (number_of p) rows < per_port) → count_at (number_of p) (with_state a state rows) ≤ per_port
    by_holder once (inl held) =
        let was : held_once (number_of p) (state_in rows a) ≡ 1 = rw (told-held (state_in rows a) p held) refl in
        omega (arith, counted, once, was, within p)
    by_holder once (inr room) = omega (arith, counted, once, room)

    by_test : (b : Bool) → is_held_at (number_of p) state ≡ b → count_at (number_of p) (with_state a state rows) ≤ per_port
    by_test true is = by_holder (rw is refl) (allowed p (held-told state p is))
    by_test false is = let none : held_once (number_of p) state ≡ 0 = rw is refl in omega (arith, counted, none, within p)

pub kept_with : (k : Times) (per_port : ℕ) (rows : List Row) (a : ℕ) (state : AddrState) → IsWithinRules k per_port rows → AllMomentsFit state → IsAllowed per_port rows a state → IsWithinRules k per_port (with_state a state rows)
kept_with k per_port rows a state kept fits allowed =
    record {
      table = record { rising = rising_with a state rows kept.table.rising; stand = stand_with a state rows kept.table.stand };
      times = kept.times;
      fit = each_with AllMomentsFit a state rows kept.fit fits;
      within = within_with per_port rows a state kept.table kept.within allowed;
    }

-- ageing makes no holder
pub aged-allowed : (k : Times) (per_port : ℕ) (rows : List Row) (a t : ℕ) → AreTimes k → IsAllowed per_port rows a (aged_state k t (state_in rows a)).state
aged-allowed k per_port rows a t times p held = inl (aged-held k t (state_in rows a) p times held)

-- an event makes one only where it has room
room_of : (per_port : ℕ) (rows : List Row) (r p : Port) → Same r p → may_hold_more per_port rows r ≡ true → count_at (number_of p) rows < per_port
room_of per_port rows r p same room = subst (λ n. count_at n rows < per_port) same (ltb-true (count_at (number_of r) rows) per_port room)

made : (per_port : ℕ) (rows : List Row) (a : ℕ) (event : Ev) (p : Port) → IsFixable per_port rows a event → ¬ IsHeldAt (state_in rows a) p → MakesHolder p (room_for per_port rows event) event → count_at (number_of p) rows < per_port
made per_port rows a (Sent r) p fixable free makes = room_of per_port rows r p makes.0 makes.1
made per_port rows a (Dad r) p fixable free makes = room_of per_port rows r p makes.0 makes.1
made per_port rows a (Na r) p fixable free makes = absurd makes
made per_port rows a TpDad p fixable free makes = absurd makes
made per_port rows a TpNa p fixable free makes = absurd makes
made per_port rows a (Lease r valid) p fixable free makes = room_of per_port rows r p makes.0 makes.1
made per_port rows a (Release r) p fixable free makes = absurd makes
made per_port rows a (Fix f) p (inl room) free makes = room_of per_port rows f p makes room
made per_port rows a (Fix f) p (inr held) free makes = absurd (free (held-told (state_in rows a) p (subst (λ n. is_held_at n (state_in rows a) ≡ true) makes (told-held (state_in rows a) f held))))
made per_port rows a Clear p fixable free makes = absurd makes

pub event-allowed : (m : Method) (k : Times) (t per_port : ℕ) (rows : List Row) (a : ℕ) (event : Ev) → IsFixable per_port rows a event → IsAllowed per_port rows a (next_state m k t (room_for per_port rows event) (state_in rows a) event).1
event-allowed m k t per_port rows a event fixable p held = by_test (is_held_at (number_of p) (state_in rows a)) refl
  where
    by_test : (b : Bool) → is_held_at (number_of p) (state_in rows a) ≡ b → IsHeldAt (state_in rows a) p ⊎ (count_at (number_of p) rows < per_port)
    by_test true is = inl (held-told (state_in rows a) p is)
    by_test false is =
        let free : ¬ IsHeldAt (state_in rows a) p = λ was. true≢false (sym (told-held (state_in rows a) p was) ∙ is) in
        inr (made per_port rows a event p fixable free (next-held m k t (room_for per_port rows event) (state_in rows a) event p free held))

-- there is a place for the row and the pair of an address that has a state, or may get one
module _ (k : Times) (per_port : ℕ) (rows : List Row) (a : ℕ) (state : AddrState) (kept : IsWithinRules k per_port rows) (kept_new : IsWithinRules k per_port (with_state a state rows)) (some : (has_state (state_in rows a) ≡ true) ⊎ (has_state state ≡ true)) where
  one_row : (s : AddrState) → has_state s ≡ true → length (rows_of a s) ≡ 1
  one_row s stands = rw stands refl

  place : length (lower a rows) + length (higher a rows) < 16 * per_port
  place = by_one some
    where
      by_one : (has_state (state_in rows a) ≡ true) ⊎ (has_state state ≡ true) → length (lower a rows) + length (higher a rows) < 16 * per_port
      by_one (inl stands) = omega (arith, rows_within per_port rows kept.table.stand kept.within, ap length (own_parts a rows kept.table), length-with a (state_in rows a) rows, one_row (state_in rows a) stands)
      by_one (inr stands) = omega (arith, rows_within per_port (with_state a state rows) kept_new.table.stand kept_new.within, length-with a state rows, one_row state stands)

  pub row_place : (most : ℕ) → most ≡ 16 * per_port → (has_state (state_in rows a) ≡ true) ⊎ (length rows < most)
  row_place most is =
      elim (state_cases rows a kept.table.stand) [
        | inl stands ↦ inl stands
        | inr none ↦
            let gone : length (rows_of a (state_in rows a)) ≡ 0 = rw none refl in
            inr (omega (arith, is, place, ap length (own_parts a rows kept.table), length-with a (state_in rows a) rows, gone))
      ]

  pub pair_place : (most : ℕ) → most ≡ 16 * per_port → IsSome (due_in (dues k rows) a) ⊎ (length (dues k rows) < most)
  pair_place most is = by_due (due_of k (state_in rows a)) refl
    where
      by_due : (d : Option ℕ) → due_of k (state_in rows a) ≡ d → IsSome (due_in (dues k rows) a) ⊎ (length (dues k rows) < most)
      by_due None none = inr (omega (arith, is, place, ap (λ rs. length (dues k rs)) (own_parts a rows kept.table), length-others k a (state_in rows a) rows none))
      by_due (Some due) some = inl (subst IsSome (sym (dues-at k rows kept.table.rising a ∙ some)) (search rules))

  -- once the pair was taken out
  pub taken_place : (most : ℕ) → most ≡ 16 * per_port → length (with_due a None (dues k rows)) < most
  taken_place most is = omega (arith, is, place, ap length (arms-with k a nobody rows), length-others k a nobody rows refl)
