-- Where an index keeps its entries: in places, each of which has an entry or is empty.
use Rattle.std.specs.Prelude.{ℕ, ◌≡◌, ◌≢◌, ◌+◌, ◌*◌, ◌^◌, ◌<◌, ◌≤◌, Bool, if◌then◌else◌, Option, Some, None, List, length, find, slice_index_or}
use Rattle.std.specs.List.{filter_map}
use Rattle.std.specs.Option.{option_map}
use Rattle.addr_index.specs.declared.entry.Entry.{Entry}
use Rattle.addr_index.specs.Indexes.{is_of, HasOneEach}
use Rattle.addr_index.specs.Homes.{home_of}
use Rattle.addr_index.specs.Ways.{IsOnWay, IsOffWay}

-- the entry of an address, given by its upper and its lower 64 bits, and its key, where there is one
abbrev pub entry_if : Bool → ℕ → ℕ → ℕ → Option Entry
entry_if is_taken high low key = if is_taken then Some (record { address = high * 2 ^ 64 + low; key = key }) else None

-- what a place has
abbrev pub in_place : List (Option Entry) → ℕ → Option Entry
in_place places place = slice_index_or places place None

-- the entries that the places have
abbrev pub entries_of : List (Option Entry) → List Entry
entries_of places = filter_map (λ place. place) places

-- no place is empty on the way to an entry from the home of its address, among so many places
abbrev pub IsReached : ℕ → List (Option Entry) → Type 0
IsReached count places = (place passed : ℕ) (entry : Entry) → in_place places place ≡ Some entry → IsOnWay (home_of entry.address count) place passed → passed < count → in_place places passed ≢ None

-- none but the gap, and that on the way to no entry from the gap up to `at`
abbrev pub IsReachedBut : ℕ → ℕ → ℕ → List (Option Entry) → Type 0
IsReachedBut count gap at places = (place passed : ℕ) (entry : Entry) → in_place places place ≡ Some entry → IsOnWay (home_of entry.address count) place passed → passed < count → in_place places passed ≡ None → (passed ≡ gap) × IsOffWay gap at place

-- the place of an address
pub record IsPlaceOf (address : ℕ) (places : List (Option Entry)) (place : ℕ) : Type 0 where
  pub within : place < length places
  pub there : option_map (λ entry. entry.address) (in_place places place) ≡ Some address

-- an empty place to which a search for an address that has none leads
pub record IsRoomFor (address : ℕ) (places : List (Option Entry)) (place : ℕ) : Type 0 where
  pub within : place < length places
  pub empty : in_place places place ≡ None
  pub reached : (passed : ℕ) → IsOnWay (home_of address (length places)) place passed → passed < length places → in_place places passed ≢ None
  pub absent : find (is_of address) (entries_of places) ≡ None

-- the places have the same entries as before
pub record HasSameEntries (old new : List (Option Entry)) : Type 0 where
  pub found : (address : ℕ) → find (is_of address) (entries_of new) ≡ find (is_of address) (entries_of old)
  pub count : length (entries_of new) ≡ length (entries_of old)
  pub distinct : HasOneEach (entries_of new)

-- the places of an index with room for so many entries
pub record IsPlaceTable (places : List (Option Entry)) (most : ℕ) : Type 0 where
  pub reached : IsReached (length places) places
  pub distinct : HasOneEach (entries_of places)
  pub room : length (entries_of places) ≤ most
  pub some : 1 ≤ most
  -- half of the places stay empty at least
  pub sparse : 2 * most ≤ length places
  pub limit : length places ≤ 2 ^ 22
