-- What is kept of rows: each under a key of a slab, its key in the index of addresses and, in order of address, in a list;
-- and how many addresses each port holds.
use Rattle.std.specs.Prelude.{ℕ, ◌≡◌, ◌-◌, ◌^◌, ◌==◌, ◌≤◌, ◌<◌, if◌then◌else◌, Option, Some, None, List, [], ◌∷◌, length, slice_index, slice_index_or}
use Rattle.std.specs.List.{filter_map}
use Rattle.slab.specs.Slab.{Slab, get, slab_len}
use Rattle.addr_index.specs.Indexes.{Index, key_in}
use Rattle.savi_kinds.specs.declared.port.PortSet.{PortSet}
use Rattle.savi_kinds.specs.PortSets.{no_ports}
use Rattle.mix_rules.specs.declared.state.AddrState.{AddrState}
use Rattle.savi_access.specs.declared.row.Row.{Row}
use Rattle.savi_kinds.specs.Orders.{IsRising}
use Rattle.savi_access.specs.Rows.{address_of, AllStand, count_at}
use Rattle.bind_table.specs.Counts.{AreHolders}

-- the rows that stand under these keys
abbrev pub rows_under : Slab Row → List ℕ → List Row
rows_under slab keys = filter_map (get slab) keys

-- each of these keys has its row
abbrev pub HaveRows : (ℕ → Option Row) → List ℕ → List Row → Type 0
HaveRows row_at [] [] = Unit {0}
HaveRows row_at [] (row ∷ rows) = ⊥
HaveRows row_at (key ∷ keys) [] = ⊥
HaveRows row_at (key ∷ keys) (row ∷ rows) = (row_at key ≡ Some row) × HaveRows row_at keys rows

-- the key of the row of an address, where each row has its key
abbrev pub key_of : List ℕ → List Row → ℕ → Option ℕ
key_of [] rows a = None
key_of (key ∷ keys) [] a = None
key_of (key ∷ keys) (row ∷ rows) a = if address_of row == a then Some key else key_of keys rows a

-- the parts belong together
pub record IsKept (slab : Slab Row) (index : Index) (keys counts : List ℕ) (rows : List Row) : Type 0 where
  pub told : HaveRows (get slab) keys rows
  pub rising : IsRising address_of rows
  pub stand : AllStand rows
  pub indexed : (a : ℕ) → key_in index a ≡ key_of keys rows a
  pub counted : (port : ℕ) → 1 ≤ port → port ≤ 16 → slice_index counts (port - 1) ≡ count_at port rows
  pub slab_size : slab_len slab ≡ length rows
  pub index_size : length index.entries ≡ length rows

-- there is room for as many rows as the table has at most, so that no call needs memory; and each key fits 32 bits
pub record HasRoom (slab : Slab Row) (index : Index) (keys_room most size : ℕ) : Type 0 where
  pub within : size ≤ most
  pub slab_room : most ≤ slab.capacity
  pub index_room : most ≤ index.most
  pub order_room : most ≤ keys_room
  pub limit : most ≤ 2 ^ 20
  pub narrow : slab.capacity ≤ 2 ^ 32

-- under this key the ports are kept that hold an address of this state
pub record HasPorts (held : List PortSet) (key : ℕ) (state : AddrState) : Type 0 where
  pub within : key < length held
  pub are : AreHolders state (slice_index_or held key no_ports)

-- beside each row are the ports that hold its address, and there is room for those of as many rows as may come
pub record HasHolders (slab : Slab Row) (held : List PortSet) : Type 0 where
  pub rows : (key : ℕ) (row : Row) → get slab key ≡ Some row → HasPorts held key row.state
  pub room : slab.capacity ≤ length held
