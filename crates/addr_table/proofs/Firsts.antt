-- What is due first of all rows.
use Rattle.std.proofs.Common.{◌≡◌, ℕ, ◌<◌, ◌≤◌, nat_le, Option, Some, None, List, [], ◌∷◌, ◌++◌, refl, sym, ◌∙◌, ap, subst, inl, inr, arith}
use Rattle.std.specs.List.{AllByRecursion}
use Rattle.std.proofs.lemmas.Bool.{cases_Bool, cases_eq, leb-true, leb-false, eq-eqb}
use Rattle.savi_kinds.specs.declared.address.Addr.{Addr}
use Rattle.fcfs_states.specs.declared.times.Times.{Times}
use Rattle.mix_rules.specs.States.{nobody}
use Rattle.mix_rules.specs.Ageing.{due_next, sooner_moment}
use Rattle.savi_access.specs.declared.row.Row.{Row}
use Rattle.savi_kinds.specs.Orders.{IsRising}
use Rattle.savi_kinds.proofs.Orders.{rising-head, rising-tail}
use Rattle.savi_access.specs.Rows.{address_of, state_in}
use Rattle.savi_access.proofs.Parts.{none_there, other_address, all_weaker}
use Rattle.timer_wheel.specs.declared.armed.Armed.{Armed}
use Rattle.timer_wheel.specs.Arms.{pair_for, sooner, first_armed, due_within}
use Rattle.timer_wheel.proofs.Pointwise.{IsNoLater}
use Rattle.addr_table.specs.Dues.{dues, due_until}
use Rattle.addr_table.specs.Dues as moments

-- what is due first of all, the least by moment and then by address
abbrev pub first_due : Times → List Row → Option (ℕ × Addr)
first_due k rows = first_armed (dues k rows)

abbrev some_or : {X : Type 0} → X → Option X → X
some_or d None = d
some_or d (Some x) = x

pub some-same : {X : Type 0} (x y : X) → Some x ≡ Some y → x ≡ y
some-same x y same = ap (some_or x) same

pub never-some : {X : Type 0} {x : X} → Some x ≡ None → ⊥
never-some is = cc

module _ (k : Times) where
  -- nothing is due in a row sooner than at this moment for this address
  abbrev pub IsNoSooner : ℕ → ℕ → Row → Type 0
  IsNoSooner due a row = (n : ℕ) → due_next k row.state ≡ Some n → IsNoLater due a n (address_of row)

  abbrev pub IsNeverDue : Row → Type 0
  IsNeverDue row = due_next k row.state ≡ None

  pub record IsFirst (due a : ℕ) (rows : List Row) : Type 0 where
    pub own : due_next k (state_in rows a) ≡ Some due
    pub least : AllByRecursion (IsNoSooner due a) rows

  abbrev armed_for : Row → ℕ → Armed
  armed_for row n = record { address = record { 0 = address_of row }; due = n }

  -- a row in front of others, where nothing is due first
  sooner-some : (armed : Armed) (o : Option (ℕ × Addr)) → sooner armed o ≡ None → ⊥
  sooner-some armed None is = never-some is
  sooner-some armed (Some f) is = elim (cases_Bool (nat_le armed.due f.0)) [ inl sooner_one ↦ never-some (rw sooner_one at is) | inr not_so ↦ never-some (rw not_so at is) ]

  none_cons : (row : Row) (rows : List Row) (d : Option ℕ) → first_armed (pair_for (address_of row) d ++ dues k rows) ≡ None → (d ≡ None) × (first_due k rows ≡ None)
  none_cons row rows None none = (refl, none)
  none_cons row rows (Some n) none = absurd (sooner-some (armed_for row n) (first_due k rows) none)

  pub first_none : (rows : List Row) → first_due k rows ≡ None → AllByRecursion IsNeverDue rows
  first_none [] none = tt
  first_none (row ∷ rows) none =
      let both : (due_next k row.state ≡ None) × (first_due k rows ≡ None) = none_cons row rows (due_next k row.state) none in
      (both.0, first_none rows both.1)

  -- what is due is due for a row
  has_row : (a due : ℕ) (row : Row) (rows : List Row) → IsRising address_of (row ∷ rows) → due_next k (state_in rows a) ≡ Some due → state_in (row ∷ rows) a ≡ state_in rows a
  has_row a due row rows rising own = rw (other_address (address_of row) a apart) refl
    where
      apart : address_of row ≡ a → ⊥
      apart same =
          let none : state_in rows a ≡ nobody = none_there a rows (subst (λ n. AllByRecursion (λ other. n < address_of other) rows) same (rising-head address_of row rows rising)) in
          let never : due_next k (state_in rows a) ≡ None = ap (due_next k) none in
          cc

  -- a row that is due no later than what is first of those behind it
  head_first : (row : Row) (rows : List Row) (n : ℕ) → IsRising address_of (row ∷ rows) → due_next k row.state ≡ Some n → AllByRecursion (λ other. (m : ℕ) → due_next k other.state ≡ Some m → n ≤ m) rows → IsFirst n (address_of row) (row ∷ rows)
  head_first row rows n rising is later =
      record {
        own = rw (eq-eqb (address_of row) (address_of row) refl) is;
        least = (λ m e. let same : n ≡ m = some-same n m (sym is ∙ e) in inr (same, (omega arith)), behind rows (rising-head address_of row rows rising) later);
      }
    where
      behind : (others : List Row) → AllByRecursion (λ other. address_of row < address_of other) others → AllByRecursion (λ other. (m : ℕ) → due_next k other.state ≡ Some m → n ≤ m) others → AllByRecursion (IsNoSooner n (address_of row)) others
      behind [] high late = tt
      behind (other ∷ others) high late =
          (λ m e. let most : n ≤ m = late.0 m e in elim (cases_eq n m) [ inl same ↦ inr (same, (omega (arith, high.0))) | inr apart ↦ inl (omega (arith, most, apart)) ], behind others high.1 late.1)

  no_sooner_than : (due a : ℕ) (n : ℕ) → n ≤ due → (rows : List Row) → AllByRecursion (IsNoSooner due a) rows → AllByRecursion (λ other. (m : ℕ) → due_next k other.state ≡ Some m → n ≤ m) rows
  no_sooner_than due a n most rows least =
      all_weaker (IsNoSooner due a) (λ other. (m : ℕ) → due_next k other.state ≡ Some m → n ≤ m)
      (λ other h m e. elim (h m e) [ inl less ↦ omega (arith, less, most) | inr same ↦ omega (arith, same.0, most) ]) rows least

  never_sooner : (n : ℕ) (rows : List Row) → AllByRecursion IsNeverDue rows → AllByRecursion (λ other. (m : ℕ) → due_next k other.state ≡ Some m → n ≤ m) rows
  never_sooner n rows never = all_weaker IsNeverDue (λ other. (m : ℕ) → due_next k other.state ≡ Some m → n ≤ m) (λ other h m e. let both : None ≡ Some m = sym h ∙ e in cc) rows never

  -- the least of all is that of the row in front or of those behind it
  first_cons : (row : Row) (rows : List Row) → IsRising address_of (row ∷ rows) → (n : ℕ) → due_next k row.state ≡ Some n → ((due : ℕ) (a : Addr) → first_due k rows ≡ Some (due, a) → IsFirst due a.0 rows) → (o : Option (ℕ × Addr)) → first_due k rows ≡ o → (due : ℕ) (a : Addr) → sooner (armed_for row n) o ≡ Some (due, a) → IsFirst due a.0 (row ∷ rows)
  first_cons row rows rising n is later None rest due a first =
      let same : (n, row.address) ≡ (due, a) = some-same (n, row.address) (due, a) first in
      subst (λ (p : ℕ × Addr). IsFirst p.0 p.1.0 (row ∷ rows)) same (head_first row rows n rising is (never_sooner n rows (first_none rows rest)))
  first_cons row rows rising n is later (Some f) rest due a first =
      elim (cases_Bool (nat_le n f.0)) [
        | inl sooner_one ↦
            let same : (n, row.address) ≡ (due, a) = some-same (n, row.address) (due, a) (rw sooner_one at first) in
            let most : n ≤ f.0 = leb-true n f.0 sooner_one in
            let behind : IsFirst f.0 f.1.0 rows = later f.0 f.1 rest in
            subst (λ (p : ℕ × Addr). IsFirst p.0 p.1.0 (row ∷ rows)) same (head_first row rows n rising is (no_sooner_than f.0 f.1.0 n most rows behind.least))
        | inr not_so ↦
            let same : f ≡ (due, a) = some-same f (due, a) (rw not_so at first) in
            let less : f.0 < n = leb-false n f.0 not_so in
            let behind : IsFirst f.0 f.1.0 rows = later f.0 f.1 rest in
            subst (λ (p : ℕ × Addr). IsFirst p.0 p.1.0 (row ∷ rows)) same
            (record {
              own = ap (due_next k) (has_row f.1.0 f.0 row rows rising behind.own) ∙ behind.own;
              least = (λ m e. let at : n ≡ m = some-same n m (sym is ∙ e) in inl (omega (arith, less, at)), behind.least);
            })
      ]

  first_row : (row : Row) (rows : List Row) → IsRising address_of (row ∷ rows) → ((due : ℕ) (a : Addr) → first_due k rows ≡ Some (due, a) → IsFirst due a.0 rows) → (d : Option ℕ) → due_next k row.state ≡ d → (due : ℕ) (a : Addr) → first_armed (pair_for (address_of row) d ++ dues k rows) ≡ Some (due, a) → IsFirst due a.0 (row ∷ rows)
  first_row row rows rising later None is due a first =
      let behind : IsFirst due a.0 rows = later due a first in
      record {
        own = ap (due_next k) (has_row a.0 due row rows rising behind.own) ∙ behind.own;
        least = (λ m e. let both : None ≡ Some m = sym is ∙ e in cc, behind.least);
      }
  first_row row rows rising later (Some n) is due a first = first_cons row rows rising n is later (first_due k rows) refl due a first

  pub first_is : (rows : List Row) → IsRising address_of rows → (due : ℕ) (a : Addr) → first_due k rows ≡ Some (due, a) → IsFirst due a.0 rows
  first_is [] rising due a first = cc
  first_is (row ∷ rows) rising due a first = first_row row rows rising (first_is rows (rising-tail address_of row rows rising)) (due_next k row.state) refl due a first

  -- where nothing is due by t, each row is due later, if at all
  pub all_late : (t : ℕ) (rows : List Row) → IsRising address_of rows → (o : Option (ℕ × Addr)) → first_due k rows ≡ o → due_within t o ≡ None → AllByRecursion (λ row. (n : ℕ) → due_next k row.state ≡ Some n → t < n) rows
  all_late t rows rising None first none = all_weaker IsNeverDue (λ row. (n : ℕ) → due_next k row.state ≡ Some n → t < n) (λ row h n e. let both : None ≡ Some n = sym h ∙ e in cc) rows (first_none rows first)
  all_late t rows rising (Some f) first none =
      elim (cases_Bool (nat_le f.0 t)) [
        | inl by ↦ absurd (never-some (rw by at none))
        | inr late ↦
            let after : t < f.0 = leb-false f.0 t late in
            all_weaker (λ row. (n : ℕ) → due_next k row.state ≡ Some n → f.0 ≤ n) (λ row. (n : ℕ) → due_next k row.state ≡ Some n → t < n) (λ row h n e. let most : f.0 ≤ n = h n e in omega (arith, most, after)) rows
            (no_sooner_than f.0 f.1.0 f.0 (omega arith) rows (first_is rows rising f.0 f.1 first).least)
      ]

-- what is due by t is due first
pub first_by : (t : ℕ) (o : Option (ℕ × Addr)) (due : ℕ) (a : Addr) → due_within t o ≡ Some (due, a) → (o ≡ Some (due, a)) × (due ≤ t)
first_by t None due a is = absurd (never-some (sym is))
first_by t (Some f) due a is =
    elim (cases_Bool (nat_le f.0 t)) [
      | inl by ↦
          let same : f ≡ (due, a) = some-same f (due, a) (rw by at is) in
          let early : f.0 ≤ t = leb-true f.0 t by in
          let at : f.0 ≡ due = ap (λ (g : ℕ × Addr). g.0) same in
          (ap Some same, omega (arith, early, at))
      | inr late ↦ absurd (never-some (sym (rw late at is)))
    ]

-- the moment of a pair
abbrev pub moment_in : Option (ℕ × Addr) → Option ℕ
moment_in None = None
moment_in (Some first) = Some first.0

until_same : (t : ℕ) (o : Option (ℕ × Addr)) → due_until t (moment_in o) ≡ moment_in (due_within t o)
until_same t None = refl
until_same t (Some f) = elim (cases_Bool (nat_le f.0 t)) [ inl by ↦ rw by refl | inr late ↦ rw late refl ]

soonest : (armed : Armed) (o : Option (ℕ × Addr)) → sooner_moment (Some armed.due) (moment_in o) ≡ moment_in (sooner armed o)
soonest armed None = refl
soonest armed (Some f) = elim (cases_Bool (nat_le armed.due f.0)) [ inl so ↦ rw so refl | inr not_so ↦ rw not_so refl ]

module _ (k : Times) where
  moment_cons : (row : Row) (rows : List Row) (d : Option ℕ) → moments.first_due k rows ≡ moment_in (first_due k rows) → sooner_moment d (moments.first_due k rows) ≡ moment_in (first_armed (pair_for (address_of row) d ++ dues k rows))
  moment_cons row rows None same = same
  moment_cons row rows (Some n) same = ap (sooner_moment (Some n)) same ∙ soonest (record { address = record { 0 = address_of row }; due = n }) (first_due k rows)

  -- the moment at which something is due first is that of the pair that is due first
  pub first_moment : (rows : List Row) → moments.first_due k rows ≡ moment_in (first_due k rows)
  first_moment [] = refl
  first_moment (row ∷ rows) = moment_cons row rows (due_next k row.state) (first_moment rows)

  -- what a wheel with these moments answers
  pub asked : (t : ℕ) (rows : List Row) (arms : List Armed) → arms ≡ dues k rows → (o : Option (ℕ × Addr)) → o ≡ due_within t (first_armed arms) → due_until t (moments.first_due k rows) ≡ moment_in o
  asked t rows arms armed o is =
      ap (due_until t) (first_moment rows) ∙ until_same t (first_due k rows)
      ∙ ap moment_in (ap (λ arms. due_within t (first_armed arms)) (sym armed) ∙ sym is)

  pub moment_asked : (t : ℕ) (rows : List Row) (arms : List Armed) → arms ≡ dues k rows → (o : Option (ℕ × Addr)) → o ≡ due_within t (first_armed arms) → moment_in o ≡ moment_in (due_within t (first_due k rows))
  moment_asked t rows arms armed o is = ap moment_in (is ∙ ap (λ arms. due_within t (first_armed arms)) armed)
