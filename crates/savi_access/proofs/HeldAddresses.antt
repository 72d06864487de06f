-- The room of an event, counted over addresses, is the one that the rows of its VLAN give.
use Rattle.std.proofs.Common.{◌≡◌, ℕ, ◌+◌, ◌<◌, ◌≤◌, ◌==◌, ◌↔◌, Bool, true, false, cond, if◌then◌else◌, Option, Some, None, IsSomeAnd, List, [], ◌∷◌, map, filter, length, count_by, refl, sym, ap, ◌∙◌, subst, inl, inr, arith}
use Rattle.std.specs.List.{AllByRecursion}
use Rattle.std.proofs.lemmas.List.{length-map}
use Rattle.std.proofs.lemmas.Bool.{cases_Bool, eqb-true, eq-eqb, ltb-true, lt-ltb}
use Rattle.std.proofs.lemmas.List.Sums.{length-filter}
use Rattle.savi_kinds.specs.declared.port.Port.{Port}
use Rattle.savi_kinds.specs.Ports.{number_of}
use Rattle.savi_kinds.proofs.Filters.{count_by-cons}
use Rattle.savi_kinds.proofs.Orders.{rising-head, rising-tail}
use Rattle.fcfs_states.specs.declared.event.Ev.{Ev}
use Rattle.fcfs_states.specs.Premises.{AreTimes}
use Rattle.mix_rules.specs.States.{is_held_at}
use Rattle.savi_access.specs.declared.row.Row.{Row}
use Rattle.savi_access.specs.Rows.{address_of, state_in, is_at, count_at}
use Rattle.savi_kinds.specs.Orders.{IsRising}
use Rattle.savi_access.proofs.Parts.{other_address}
use Rattle.savi_access.specs.Rooms.{port_of, may_hold_more, may_hold_more_at, room_for}
use Rattle.savi_access.specs.Bases.{AreTables}
use Rattle.savi_access.specs.Tables.{rows_at}
use Rattle.savi_access.proofs.TablesOf.{table_at, states_at}
use Rattle.savi_access.specs.Rules.{AccessRules, AccessBase}
use Rattle.savi_access.specs.Marks.{Mark, told}
use Rattle.savi_access.specs.Cases.{AreHeld, HasRoom, IsRoom}
use Rattle.savi_access.proofs.States.{true_not_false}

-- how often a number stands in a list
abbrev pub times_in : List ℕ → ℕ → ℕ
times_in xs a = count_by (λ b. b == a) xs

times_in-cons : (x : ℕ) (xs : List ℕ) (a : ℕ) → times_in (x ∷ xs) a ≡ cond (x == a) 1 0 + times_in xs a
times_in-cons x xs a = count_by-cons (λ b. b == a) x xs

-- a list without one of its numbers, once
without : ℕ → List ℕ → List ℕ
without x [] = []
without x (y ∷ ys) = if y == x then ys else y ∷ without x ys

yes_once : (b : Bool) → b ≡ true → ◌≡◌ {A = ℕ} (cond b 1 0) 1
yes_once b is = rw is refl

no_never : (b : Bool) → b ≡ false → ◌≡◌ {A = ℕ} (cond b 1 0) 0
no_never b not = rw not refl

one_at : (x : ℕ) → ◌≡◌ {A = ℕ} (cond (x == x) 1 0) 1
one_at x = yes_once (x == x) (eq-eqb x x refl)

without-length : (x : ℕ) (ys : List ℕ) → 1 ≤ times_in ys x → length (without x ys) + 1 ≡ length ys
unfolding without
without-length x [] some = absurd (omega (arith, some))
without-length x (y ∷ ys) some =
    elim (cases_Bool (y == x)) [
      | inl is ↦ rw is (omega arith)
      | inr not ↦
          let rest : times_in (y ∷ ys) x ≡ cond (y == x) 1 0 + times_in ys x = times_in-cons y ys x in
          let none : ◌≡◌ {A = ℕ} (cond (y == x) 1 0) 0 = no_never (y == x) not in
          rw not (omega (arith, without-length x ys (omega (arith, some, rest, none))))
    ]

without-times : (x : ℕ) (ys : List ℕ) (a : ℕ) → 1 ≤ times_in ys x → times_in (without x ys) a + cond (x == a) 1 0 ≡ times_in ys a
unfolding without
without-times x [] a some = absurd (omega (arith, some))
without-times x (y ∷ ys) a some =
    elim (cases_Bool (y == x)) [
      | inl is ↦
          let same : ◌≡◌ {A = ℕ} (cond (y == a) 1 0) (cond (x == a) 1 0) = ap (λ (n : ℕ). cond {A = ℕ} (n == a) 1 0) (eqb-true y x is) in
          rw is (omega (arith, times_in-cons y ys a, same))
      | inr not ↦
          let rest : times_in (y ∷ ys) x ≡ cond (y == x) 1 0 + times_in ys x = times_in-cons y ys x in
          let none : ◌≡◌ {A = ℕ} (cond (y == x) 1 0) 0 = no_never (y == x) not in
          let fewer : times_in (without x ys) a + cond (x == a) 1 0 ≡ times_in ys a = without-times x ys a (omega (arith, some, rest, none)) in
          rw not (omega (arith, times_in-cons y ys a, times_in-cons y (without x ys) a, fewer))
    ]

-- lists in which each number stands as often are of one length
pub same_length : (xs ys : List ℕ) → ((a : ℕ) → times_in xs a ≡ times_in ys a) → length xs ≡ length ys
same_length [] [] same = refl
same_length [] (y ∷ ys) same = absurd (omega (arith, same y, times_in-cons y ys y, one_at y))
same_length (x ∷ xs) ys same =
    let some : 1 ≤ times_in ys x = omega (arith, same x, times_in-cons x xs x, one_at x) in
    let rest : length xs ≡ length (without x ys) = same_length xs (without x ys) (λ a. omega (arith, same a, times_in-cons x xs a, without-times x ys a some)) in
    omega (arith, rest, without-length x ys some)

-- the addresses of the rows that a port holds
abbrev pub held_in_rows : ℕ → List Row → List ℕ
held_in_rows number rows = map address_of (filter (is_at number) rows)

none_later : (number a : ℕ) (rows : List Row) → AllByRecursion (λ row. a < address_of row) rows → times_in (held_in_rows number rows) a ≡ 0
none_later number a [] higher = refl
none_later number a (row ∷ rows) higher =
    elim (cases_Bool (is_at number row)) [
      | inl is ↦
          let apart : ◌≡◌ {A = ℕ} (cond (address_of row == a) 1 0) 0 = no_never (address_of row == a) (other_address (address_of row) a (λ same. omega (arith, higher.0, same))) in
          rw is (omega (arith, times_in-cons (address_of row) (held_in_rows number rows) a, apart, none_later number a rows higher.1))
      | inr not ↦ rw not (none_later number a rows higher.1)
    ]

-- each address stands there once where the port holds it
held_once_each : (number a : ℕ) (rows : List Row) → IsRising address_of rows → times_in (held_in_rows number rows) a ≡ (if is_held_at number (state_in rows a) then 1 else 0)
held_once_each number a [] rising = refl
held_once_each number a (row ∷ rows) rising =
    elim (cases_Bool (address_of row == a)) [
      | inl here ↦
          let later : AllByRecursion (λ later. a < address_of later) rows = subst (λ n. AllByRecursion (λ later. n < address_of later) rows) (eqb-true (address_of row) a here) (rising-head address_of row rows rising) in
          elim (cases_Bool (is_at number row)) [
            | inl is ↦ rw (here, is) (own here (none_later number a rows later))
            | inr not ↦ rw (here, not) (none_later number a rows later)
          ]
      | inr apart ↦
          elim (cases_Bool (is_at number row)) [
            | inl is ↦ rw (apart, is) (other apart (held_once_each number a rows (rising-tail address_of row rows rising)))
            | inr not ↦ rw (apart, not) (held_once_each number a rows (rising-tail address_of row rows rising))
          ]
    ]
  where
    own : (address_of row == a) ≡ true → times_in (held_in_rows number rows) a ≡ 0 → times_in (address_of row ∷ held_in_rows number rows) a ≡ 1
    own here none =
        let one : ◌≡◌ {A = ℕ} (cond (address_of row == a) 1 0) 1 = yes_once (address_of row == a) here in
        omega (arith, times_in-cons (address_of row) (held_in_rows number rows) a, one, none)

    other : (address_of row == a) ≡ false → {n : ℕ} → times_in (held_in_rows number rows) a ≡ n → times_in (address_of row ∷ held_in_rows number rows) a ≡ n
    other apart rest =
        let none : ◌≡◌ {A = ℕ} (cond (address_of row == a) 1 0) 0 = no_never (address_of row == a) apart in
        omega (arith, times_in-cons (address_of row) (held_in_rows number rows) a, none, rest)

held-length : (number : ℕ) (rows : List Row) → length (held_in_rows number rows) ≡ count_at number rows
held-length number rows = length-map (filter (is_at number) rows) address_of ∙ length-filter (is_at number) rows

module _ (r : AccessRules) (base : AccessBase) (vlan : ℕ) (port : Port) (t : ℕ) (times : AreTimes r.addresses.times) (tables : AreTables base.addresses) where
  rows_held : (past : List Mark) (p : Port) → AreHeld r base vlan port t past p (held_in_rows (number_of p) (rows_at r.addresses base.addresses (told past) t vlan))
  rows_held past p a =
      held_once_each (number_of p) a (rows_at r.addresses base.addresses (told past) t vlan) (table_at r.addresses base.addresses tables (told past) t vlan).rising
      ∙ ap (λ s. if is_held_at (number_of p) s then 1 else 0) (states_at r.addresses base.addresses tables times (told past) t vlan a)

  room_of_port : (past : List Mark) (p : Port) → ((may_hold_more r.addresses.per_port (rows_at r.addresses base.addresses (told past) t vlan) p ≡ true) ↔ HasRoom r base vlan port t past p)
  room_of_port past p = (
    λ room. (held_in_rows (number_of p) rows, rows_held past p, omega (arith, held-length (number_of p) rows, ltb-true (count_at (number_of p) rows) r.addresses.per_port room)),
    λ has. lt-ltb (count_at (number_of p) rows) r.addresses.per_port (omega (arith, held-length (number_of p) rows, same_length has.0 (held_in_rows (number_of p) rows) (λ a. has.1 a ∙ sym (rows_held past p a)), has.2)),
  )
    where
      rows : List Row
      rows = rows_at r.addresses base.addresses (told past) t vlan

  -- the room of an event
  pub room_is : (past : List Mark) (event : Ev) → IsRoom r base vlan port t past event (room_for r.addresses.per_port (rows_at r.addresses base.addresses (told past) t vlan) event)
  room_is past event = by_port (port_of event)
    where
      by_port : (o : Option Port) → ((may_hold_more_at r.addresses.per_port (rows_at r.addresses base.addresses (told past) t vlan) o ≡ true) ↔ IsSomeAnd o (HasRoom r base vlan port t past))
      by_port None = (λ is. true_not_false false is refl, λ never. absurd never)
      by_port (Some p) = room_of_port past p

  -- is one
  pub one_room : (past : List Mark) (event : Ev) (room other : Bool) → IsRoom r base vlan port t past event room → IsRoom r base vlan port t past event other → room ≡ other
  one_room past event true true is also = refl
  one_room past event true false is also = absurd (true_not_false false (also.1 (is.0 refl)) refl)
  one_room past event false true is also = absurd (true_not_false false (is.1 (also.0 refl)) refl)
  one_room past event false false is also = refl
