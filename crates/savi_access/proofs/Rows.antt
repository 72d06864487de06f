-- Tables as maps from addresses to states.
use Rattle.std.proofs.Common.{◌≡◌, ℕ, ◌<◌, ◌≤◌, true, false, List, [], ◌∷◌, refl, sym, ◌∙◌, ap, subst, inl, inr, arith}
use Rattle.std.specs.List.{AllByRecursion}
use Rattle.std.proofs.lemmas.Bool.{cases_lt, cases_eq, eq-eqb, false≢true}
use Rattle.mix_rules.specs.States.{has_state}
use Rattle.savi_access.specs.declared.row.Row.{Row}
use Rattle.savi_kinds.specs.Orders.{IsRising}
use Rattle.savi_kinds.proofs.Orders.{rising-head, rising-tail}
use Rattle.savi_access.specs.Rows.{address_of, state_in, address_row, AllStand}
use Rattle.savi_access.proofs.Parts.{other_address, none_there, all_weaker}

-- the first row's address has its state
pub head_state : (row : Row) (rows : List Row) → state_in (row ∷ rows) (address_of row) ≡ row.state
head_state row rows = rw (eq-eqb (address_of row) (address_of row) refl) refl

none_has_state : (rows : List Row) (a : ℕ) → AllByRecursion (λ row. a < address_of row) rows → has_state (state_in rows a) ≡ false
none_has_state rows a higher = ap has_state (none_there a rows higher)

-- a row that stands has its address in any table with the same states: no such table begins above it
not_above : (row : Row) (rows : List Row) (other : Row) (others : List Row) → has_state row.state ≡ true → AllByRecursion (λ later. address_of other < address_of later) others → state_in (row ∷ rows) (address_of row) ≡ state_in (other ∷ others) (address_of row) → address_of other ≤ address_of row
not_above row rows other others stands higher same =
    elim (cases_lt (address_of row) (address_of other)) [
      | inl above ↦
          let all : AllByRecursion (λ later. address_of row < address_of later) (other ∷ others) = (above, all_weaker (λ later. address_of other < address_of later) (λ later. address_of row < address_of later) (λ later h. omega (arith, h, above)) others higher) in
          let none : has_state row.state ≡ false = ap has_state (sym (head_state row rows) ∙ same) ∙ none_has_state (other ∷ others) (address_of row) all in
          absurd (false≢true (sym none ∙ stands))
      | inr not ↦ not
    ]

pub one_table : (rows others : List Row) → IsRising address_of rows → AllStand rows → IsRising address_of others → AllStand others → ((a : ℕ) → state_in rows a ≡ state_in others a) → rows ≡ others
one_table [] [] rising stand risings stands same = refl
one_table [] (other ∷ others) rising stand risings stands same =
    absurd (false≢true (ap has_state (same (address_of other) ∙ head_state other others) ∙ stands.0))
one_table (row ∷ rows) [] rising stand risings stands same =
    absurd (false≢true (ap has_state (sym (same (address_of row)) ∙ head_state row rows) ∙ stand.0))
one_table (row ∷ rows) (other ∷ others) rising stand risings stands same =
    let low : address_of other ≤ address_of row = not_above row rows other others stand.0 (rising-head address_of other others risings) (same (address_of row)) in
    let high : address_of row ≤ address_of other = not_above other others row rows stands.0 (rising-head address_of row rows rising) (sym (same (address_of other))) in
    let one : address_of row ≡ address_of other = omega (arith, low, high) in
    let state : row.state ≡ other.state = sym (head_state row rows) ∙ same (address_of row) ∙ ap (state_in (other ∷ others)) one ∙ head_state other others in
    let first : row ≡ other = ap (λ n. address_row n row.state) one ∙ ap (address_row (address_of other)) state in
    ap (λ r. r ∷ rows) first ∙ ap (λ rest. other ∷ rest) (one_table rows others (rising-tail address_of row rows rising) stand.1 (rising-tail address_of other others risings) stands.1 (tails one state))
  where
    later_none : (r : Row) (rs : List Row) (a : ℕ) → (address_of r ≡ a → ⊥) → state_in (r ∷ rs) a ≡ state_in rs a
    later_none r rs a apart = rw (other_address (address_of r) a apart) refl

    tails : address_of row ≡ address_of other → row.state ≡ other.state → (a : ℕ) → state_in rows a ≡ state_in others a
    tails one state a =
        elim (cases_eq (address_of row) a) [
          | inl here ↦
              let mine : AllByRecursion (λ later. a < address_of later) rows = subst (λ n. AllByRecursion (λ later. n < address_of later) rows) here (rising-head address_of row rows rising) in
              let yours : AllByRecursion (λ later. a < address_of later) others = subst (λ n. AllByRecursion (λ later. n < address_of later) others) (sym one ∙ here) (rising-head address_of other others risings) in
              none_there a rows mine ∙ sym (none_there a others yours)
          | inr apart ↦ sym (later_none row rows a apart) ∙ same a ∙ later_none other others a (λ is. apart (one ∙ is))
        ]
