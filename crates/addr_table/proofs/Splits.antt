-- What is added up over rows, once one address has a state.
use Rattle.std.proofs.Common.{◌≡◌, ℕ, ◌+◌, false, List, [], ◌∷◌, ◌++◌, filter, length, append-nil, sym, ◌∙◌, ap, inl, inr, arith, rules}
use Rattle.std.specs.List.{flat_map}
use Rattle.std.proofs.lemmas.Bool.{cases_Bool}
use Rattle.std.proofs.lemmas.List.{length-append}
use Rattle.mix_rules.specs.declared.state.AddrState.{AddrState}
use Rattle.mix_rules.specs.States.{nobody, has_state}
use Rattle.savi_access.specs.declared.row.Row.{Row}
use Rattle.savi_kinds.specs.Orders.{is_below, is_above}
use Rattle.savi_access.specs.Rows.{address_of, state_in, address_row, rows_of, with_state, IsTable}
use Rattle.savi_access.proofs.Parts.{parts}
use Rattle.addr_table.specs.Turns.{turns_of, turns_left}
use Rattle.addr_table.proofs.Lists.{flat_map-append}

-- the rows of lower and of higher addresses
abbrev pub lower : ℕ → List Row → List Row
lower a rows = filter (is_below address_of a) rows

abbrev pub higher : ℕ → List Row → List Row
higher a rows = filter (is_above address_of a) rows

pub gone_is : (state : AddrState) → has_state state ≡ false → state ≡ nobody
gone_is state gone = search rules

pub own_parts : (a : ℕ) (rows : List Row) → IsTable rows → rows ≡ with_state a (state_in rows a) rows
own_parts a rows table = parts a rows table.rising table.stand

-- a list of something for each row: what the row of an address gives, between those of the others
pub flat-with : {Y : Type 0} (f : Row → List Y) (g : AddrState → List Y) (a : ℕ) → ((s : AddrState) → f (address_row a s) ≡ g s) → g nobody ≡ [] → (state : AddrState) (rows : List Row) → flat_map f (with_state a state rows) ≡ flat_map f (lower a rows) ++ (g state ++ flat_map f (higher a rows))
flat-with f g a is none state rows =
    flat_map-append f (lower a rows) (rows_of a state ++ higher a rows)
    ∙ ap (λ rest. flat_map f (lower a rows) ++ rest) (flat_map-append f (rows_of a state) (higher a rows) ∙ ap (λ own. own ++ flat_map f (higher a rows)) own)
  where
    own : flat_map f (rows_of a state) ≡ g state
    own =
        elim (cases_Bool (has_state state)) [
          | inl stands ↦ rw stands (append-nil (f (address_row a state)) ∙ is state)
          | inr gone ↦ rw gone (sym none ∙ sym (ap g (gone_is state gone)))
        ]

pub turns_left-append : (xs ys : List Row) → turns_left (xs ++ ys) ≡ turns_left xs + turns_left ys
turns_left-append [] ys = omega arith
turns_left-append (x ∷ xs) ys = omega (arith, turns_left-append xs ys)

pub turns_left-own : (a : ℕ) (state : AddrState) → turns_left (rows_of a state) ≡ turns_of state
turns_left-own a state =
    elim (cases_Bool (has_state state)) [
      | inl stands ↦ rw stands (omega arith)
      | inr gone ↦ rw gone (sym (ap turns_of (gone_is state gone)))
    ]

pub turns_left-with : (a : ℕ) (state : AddrState) (rows : List Row) → turns_left (with_state a state rows) ≡ turns_left (lower a rows) + (turns_of state + turns_left (higher a rows))
turns_left-with a state rows = omega (arith, turns_left-append (lower a rows) (rows_of a state ++ higher a rows), turns_left-append (rows_of a state) (higher a rows), turns_left-own a state)

pub length-with : (a : ℕ) (state : AddrState) (rows : List Row) → length (with_state a state rows) ≡ length (lower a rows) + (length (rows_of a state) + length (higher a rows))
length-with a state rows = omega (arith, length-append (lower a rows) (rows_of a state ++ higher a rows), length-append (rows_of a state) (higher a rows))
