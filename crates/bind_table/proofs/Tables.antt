-- A table as a whole after a change.
use Rattle.std.proofs.Common.{◌≡◌, ◌⊎◌, ℕ, ◌-◌, ◌^◌, ◌≤◌, ◌<◌, true, Some, None, List, length, get_or, sym, ◌∙◌, ap, subst, arith}
use Rattle.slab.specs.Slab.{Slab, get}
use Rattle.addr_index.specs.Indexes.{Index, key_in}
use Rattle.savi_kinds.specs.declared.port.PortSet.{PortSet}
use Rattle.mix_rules.specs.States.{has_state}
use Rattle.savi_access.specs.declared.row.Row.{Row}
use Rattle.savi_access.specs.Rows.{state_in, address_row}
use Rattle.bind_table.specs.Places.{count_below}
use Rattle.bind_table.specs.Bindings.{Bindings}
use Rattle.savi_access.proofs.Held.{held_once, held_least, held_most}
use Rattle.bind_table.specs.Kept.{rows_under, IsKept, HasRoom, HasHolders}
use Rattle.bind_table.proofs.Around.{stands_within, belongs_within, room_for}
use Rattle.bind_table.proofs.Keys.{rows_told, keys_length}
use Rattle.bind_table.proofs.KeptChanges.{row_by_key, stands_by_key, belongs_without_key}

-- the rows of a table are those that belong to its parts
pub whole_kept : (slab : Slab Row) (index : Index) (keys counts : List ℕ) (rows : List Row) (held : List PortSet) (keys_room most : ℕ) → IsKept slab index keys counts rows → HasRoom slab index keys_room most (length rows) → HasHolders slab held → IsKept slab index keys counts (rows_under slab keys) × HasRoom slab index keys_room most (length (rows_under slab keys)) × HasHolders slab held
whole_kept slab index keys counts rows held keys_room most kept room holders =
    subst (λ xs. IsKept slab index keys counts xs × HasRoom slab index keys_room most (length xs) × HasHolders slab held) (sym (rows_told (get slab) keys rows kept.told)) (kept, room, holders)

abbrev pub table_of : List Row → ℕ → Bindings
table_of rows most = record { rows = rows; most = most }

pub whole_view : (slab : Slab Row) (index : Index) (keys counts : List ℕ) (rows : List Row) (most : ℕ) → IsKept slab index keys counts rows → table_of (rows_under slab keys) most ≡ table_of rows most
whole_view slab index keys counts rows most kept = ap (λ xs. table_of xs most) (rows_told (get slab) keys rows kept.told)

-- what is kept for a port counts the address of a row, and is at most the number of rows
pub counts_least : (slab : Slab Row) (index : Index) (keys counts : List ℕ) (rows : List Row) (a : ℕ) → IsKept slab index keys counts rows → (port : ℕ) → 1 ≤ port → port ≤ 16 → held_once port (state_in rows a) ≤ get_or counts (port - 1) 0
counts_least slab index keys counts rows a kept port low high = omega (arith, kept.counted port low high, held_least port a rows kept.rising kept.stand)

pub counts_most : (slab : Slab Row) (index : Index) (keys counts : List ℕ) (rows : List Row) (keys_room most : ℕ) → IsKept slab index keys counts rows → HasRoom slab index keys_room most (length rows) → (port : ℕ) → 1 ≤ port → port ≤ 16 → get_or counts (port - 1) 0 ≤ 2 ^ 20
counts_most slab index keys counts rows keys_room most kept room port low high = omega (arith, kept.counted port low high, held_most port rows, room.within, room.limit)

-- the state of the row under the key of an address
pub state_under : (slab : Slab Row) (index : Index) (keys counts : List ℕ) (rows : List Row) (a key : ℕ) (row : Row) → IsKept slab index keys counts rows → key_in index a ≡ Some key → get slab key ≡ Some row → row.state ≡ state_in rows a
state_under slab index keys counts rows a key row kept is there =
    let told : Some row ≡ Some (address_row a (state_in rows a)) = sym there ∙ row_by_key slab index keys counts rows a key kept is in
    let same : row ≡ address_row a (state_in rows a) = cc in
    ap (λ (r : Row). r.state) same

-- an address that the index doesn't have may get a row
pub room_left : (slab : Slab Row) (index : Index) (keys counts : List ℕ) (table : Bindings) (a most : ℕ) → table_of (rows_under slab keys) most ≡ table → IsKept slab index keys counts (rows_under slab keys) → key_in index a ≡ None → (has_state (state_in table.rows a) ≡ true) ⊎ (length table.rows < table.most) → length (rows_under slab keys) < most
room_left slab index keys counts table a most view kept is room =
    room_for a (rows_under slab keys) (count_below a (rows_under slab keys)) most (belongs_without_key slab index keys counts (rows_under slab keys) a kept is)
    (subst (λ (t : Bindings). (has_state (state_in t.rows a) ≡ true) ⊎ (length t.rows < t.most)) (sym view) room)

-- where its key goes
pub place_within : (slab : Slab Row) (index : Index) (keys counts : List ℕ) (rows : List Row) (a i : ℕ) → IsKept slab index keys counts rows → key_in index a ≡ None → i ≡ count_below a rows → i ≤ length keys
place_within slab index keys counts rows a i kept is place =
    omega (arith, place, belongs_within a rows (count_below a rows) kept.rising kept.stand (belongs_without_key slab index keys counts rows a kept is), keys_length (get slab) keys rows kept.told)

-- where it is
pub place_below : (slab : Slab Row) (index : Index) (keys counts : List ℕ) (rows : List Row) (a key i : ℕ) → IsKept slab index keys counts rows → key_in index a ≡ Some key → i ≡ count_below a rows → i < length keys
place_below slab index keys counts rows a key i kept is place =
    omega (arith, place, stands_within a rows (count_below a rows) kept.rising kept.stand (stands_by_key slab index keys counts rows a key kept is), keys_length (get slab) keys rows kept.told)
