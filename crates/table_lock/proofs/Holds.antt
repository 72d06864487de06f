-- The steps at a seat whose slots are known by an equation, and how a history grew in a turn.
use Rattle.std.proofs.Common.{◌≡◌, ℕ, ◌+◌, ◌%◌, ◌^◌, ◌<◌, ◌≤◌, inl, inr, List, [], ◌∷◌, ◌++◌, length, nat_lt, sym, refl, ap, ◌∙◌, subst, arith, Option, Some, length-append}
use Rattle.std.proofs.lemmas.Bool.{lt-ltb, le-ltb}
use Rattle.atomic_table.specs.Table.{Allows}
use Rattle.table_lock.specs.declared.board.Stage.TheVariants.{Idle, Waiting, Out}
use Rattle.table_lock.specs.declared.board.View.{View}
use Rattle.table_lock.specs.Entries.{Entry, EntryList, mine}
use Rattle.table_lock.specs.Rule.{Map, Has, Keeps}
use Rattle.table_lock.specs.Plays.{Sat, Called, at_stage, ticket_of, looked, made, passed}
use Rattle.table_lock.specs.Views.{at_turn}
use Rattle.table_lock.specs.Turns.{IsGrown, IsOrGrowsBy}
use Rattle.table_lock.proofs.Steps.{blank, looks, makes, passes}

module _ {V : Type 0} (history : V → EntryList) (fixed : V → List ℕ) (F : List ℕ) (N slots id : ℕ) (m : Sat V) where
  pub looks_at : (t : ℕ) → m.0.stage ≡ Waiting t → m.1 ≡ [] → Allows (Keeps history fixed F N) slots id m 1 (λ n. n) (looked history fixed (blank history fixed F N) m)
  looks_at t is slot = subst (λ (c : List (ℕ × Option V)). Allows (Keeps history fixed F N) slots id (m.0, c) 1 (λ n. n) (looked history fixed (blank history fixed F N) (m.0, c))) (sym slot)
      (looks history fixed F N slots id m.0 t is)

  pub makes_at : (t : ℕ) (x : V) (e : Entry) → m.0.stage ≡ Out t → m.1 ≡ (0, Some x) ∷ [] → history x ≡ m.0.seen ++ e ∷ [] → m.0.number ≡ Some e.0 → length (history x) < 2 ^ 63
      → Allows (Keeps history fixed F N) slots id m 2 (λ n. (n + 1) % 2 ^ 64) (made history (blank history fixed F N) m)
  makes_at t x e is slot grows by small = subst (λ (c : List (ℕ × Option V)). Allows (Keeps history fixed F N) slots id (m.0, c) 2 (λ n. (n + 1) % 2 ^ 64) (made history (blank history fixed F N) (m.0, c))) (sym slot)
      (makes history fixed F N slots id m.0 t x e is grows by small)

  pub passes_at : (t : ℕ) (x : V) → m.0.stage ≡ Out t → m.1 ≡ (0, Some x) ∷ [] → history x ≡ m.0.seen → fixed x ≡ m.0.fixed
      → Allows (Keeps history fixed F N) slots id m 1 (λ n. (n + 1) % 2 ^ 64) (passed (blank history fixed F N) m)
  passes_at t x is slot all same = subst (λ (c : List (ℕ × Option V)). Allows (Keeps history fixed F N) slots id (m.0, c) 1 (λ n. (n + 1) % 2 ^ 64) (passed (blank history fixed F N) (m.0, c))) (sym slot)
      (passes history fixed F N slots id m.0 t x is all same)

-- by the two lengths one knows whether an entry was made
pub grown : (number : ℕ) (before now : EntryList) → IsOrGrowsBy number before now → length now < 2 ^ 63 → IsGrown number before now (nat_lt (length before) (length now))
grown number before now (inl same) small =
    let e = ap length same in
    let at_most : length now ≤ length before = omega arith in
    subst (λ b. IsGrown number before now b) (sym (le-ltb (length before) (length now) at_most)) same
grown number before now (inr g) small =
    let e = ap length g.2 ∙ length-append before (g.0 ∷ []) in
    let more : length before < length now = omega arith in
    subst (λ b. IsGrown number before now b) (sym (lt-ltb (length before) (length now) more)) (g.0, g.1, g.2, small)

-- what a list of slots has in the one taken last
abbrev last_taken : {X : Type 0} → List (ℕ × X) → X → X
last_taken [] d = d
last_taken (z ∷ zs) d = z.1

pub held_is : {X : Type 0} (l rest : List (ℕ × X)) (x y : X) → l ≡ (0, x) ∷ rest → l ≡ (0, y) ∷ [] → x ≡ y
held_is {X} l rest x y a b = ap (λ (z : List (ℕ × X)). last_taken z x) (sym a ∙ b)

module _ {V : Type 0} (history : V → EntryList) (fixed : V → List ℕ) (number r : ℕ) (v u : View) (m : Sat V) (idle : v ≡ at_turn number Idle v) (waits : u ≡ at_stage v (Waiting r)) (k : Called history fixed u m) where
  -- a pass that has entered finds just the entries that it made
  pub entered_own : mine number (history k.value) ≡ mine number v.seen
  entered_own = sym (k.own number (mine number v.seen) (subst (λ (x : Map). Has x number (mine number v.seen)) (sym (ap (λ (x : View). x.mine) waits ∙ ap (λ (x : View). x.mine) idle)) (0, refl)))

  pub entered_view : m.0 ≡ at_turn number (Out r) (record v { seen = history k.value })
  entered_view = k.view_is
      ∙ (ap (λ (x : View). record x { stage = Out (ticket_of x.stage); seen = history k.value }) waits
      ∙ (ap (λ (x : View). record x { stage = Out r; seen = history k.value }) idle
      ∙ ap (λ (x : EntryList). record { number = Some number; stage = Out r; seats = v.seats; seen = history k.value; mine = (number, x) ∷ []; fixed = v.fixed; told = [] }) (sym entered_own)))
