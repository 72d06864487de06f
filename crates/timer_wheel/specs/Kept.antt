-- What is kept of a wheel beside its rows: the key of each address, the rings of the buckets, and a cursor.
use Rattle.std.specs.Prelude.{ℕ, ◌≡◌, ◌+◌, ◌^◌, ◌≤◌, ◌<◌, Option, Some, List, length}
use Rattle.slab.specs.Slab.{Slab, slab_len}
use Rattle.addr_index.specs.Indexes.{Index, key_in}
use Rattle.timer_wheel.specs.declared.armed.Armed.{Armed}
use Rattle.timer_wheel.specs.Rows.{armed_at}
use Rattle.timer_wheel.specs.Rings.{IsRinged, slice_of}

-- a row with this address is under this key
pub record HasRow (slots : List (Option Armed)) (key a : ℕ) : Type 0 where
  pub armed : Armed
  pub there : armed_at slots key ≡ Some armed
  pub address : armed.address.0 ≡ a

-- each row is in the ring of its one bucket, and there are as many nodes as keys may come
pub record IsWired (rows : Slab Armed) (later earlier : List ℕ) : Type 0 where
  pub ringed : IsRinged rows.slots later earlier
  pub within : (key : ℕ) (armed : Armed) → armed_at rows.slots key ≡ Some armed → key < rows.capacity
  pub fits : (key : ℕ) (armed : Armed) → armed_at rows.slots key ≡ Some armed → armed.address.0 < 2 ^ 128
  pub later_nodes : length later ≡ 1024 + rows.capacity
  pub earlier_nodes : length earlier ≡ 1024 + rows.capacity
  pub limit : 1024 + rows.capacity ≤ 2 ^ 32

-- the index has the key of each row, by its address, and no other
pub record IsIndexed (rows : Slab Armed) (index : Index) : Type 0 where
  pub indexed : (key : ℕ) (armed : Armed) → armed_at rows.slots key ≡ Some armed → key_in index armed.address.0 ≡ Some key
  pub told : (a key : ℕ) → key_in index a ≡ Some key → HasRow rows.slots key a
  pub count : length index.entries ≡ slab_len rows

-- there is room for the rows that may be armed
pub record HasRoom (rows : Slab Armed) (index : Index) (most : ℕ) : Type 0 where
  pub count : slab_len rows ≤ most
  pub row_room : most ≤ rows.capacity
  pub index_room : most ≤ index.most

-- no row is due in a slice before the cursor
abbrev pub IsEarly : List (Option Armed) → ℕ → Type 0
IsEarly slots cursor = (key : ℕ) (armed : Armed) → armed_at slots key ≡ Some armed → cursor ≤ slice_of armed

pub record IsKept (rows : Slab Armed) (index : Index) (later earlier : List ℕ) (cursor most : ℕ) : Type 0 where
  pub wired : IsWired rows later earlier
  pub indexed : IsIndexed rows index
  pub room : HasRoom rows index most
  pub early : IsEarly rows.slots cursor
  pub cursor_fits : cursor ≤ 2 ^ 58
