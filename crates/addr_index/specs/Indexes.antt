-- An index of IPv6 addresses: for each address that it holds, one key.
use Rattle.std.specs.Prelude.{ℕ, ◌==◌, ◌≤◌, Bool, Option, List, find, count_by}
use Rattle.std.specs.Option.{option_map}
use Rattle.addr_index.specs.declared.entry.Entry.{Entry}

-- what an index holds, in no stated order, and how many entries it has room for
pub record Index : Type 0 where
  pub entries : List Entry
  pub most : ℕ

-- whether an entry is that of an address
abbrev pub is_of : ℕ → Entry → Bool
is_of address entry = entry.address == address

-- the key of an address
abbrev pub key_in : Index → ℕ → Option ℕ
key_in index address = option_map (λ entry. entry.key) (find (is_of address) index.entries)

-- no two entries have one address
abbrev pub HasOneEach : List Entry → Type 0
HasOneEach entries = (address : ℕ) → count_by (is_of address) entries ≤ 1
