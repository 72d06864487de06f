-- The keys of a configuration: those of the document, of each port and of each prefix, by the kind of their values.
use Rattle.std.specs.Prelude.{ℕ, List, [], ◌∷◌, ◌++◌, ◌≡◌, Bool, true, false, codes, IsSome, IsSomeAnd, IfSome, All, Contains}
use Rattle.toml.specs.Data.{Data, integer, Items, no_items, item, Members, get_member, as_str, as_integer, as_array}
use Rattle.toml.specs.Text.{are_tables}
use Rattle.savi_conf.specs.Documents.{keys_in}

-- The keys that a table may have, by the kind of the value, and those that it has to have. The arrays are of tables, the
-- lists of integers.
pub record Keys : Type 0 where
  pub texts : List (List ℕ)
  pub integers : List (List ℕ)
  pub arrays : List (List ℕ)
  pub lists : List (List ℕ)
  pub required : List (List ℕ)

abbrev pub top_keys : Keys
top_keys = record {
  texts = codes "mac" ∷ codes "journal" ∷ codes "control" ∷ codes "control_out" ∷ codes "savi" ∷ codes "unknown" ∷ [];
  integers = codes "per_port" ∷ codes "depth" ∷ codes "entries" ∷ codes "bytes" ∷ codes "probe_gap_ms" ∷ codes "test_ms" ∷ codes "binding_s" ∷ [];
  arrays = codes "port" ∷ codes "prefix" ∷ [];
  lists = [];
  required = codes "mac" ∷ codes "journal" ∷ codes "port" ∷ [];
}

abbrev pub port_keys : Keys
port_keys = record {
  texts = codes "role" ∷ codes "format" ∷ codes "input" ∷ codes "output" ∷ [];
  integers = codes "number" ∷ codes "vlan" ∷ [];
  arrays = [];
  lists = codes "trunk" ∷ [];
  required = codes "number" ∷ codes "role" ∷ codes "input" ∷ codes "output" ∷ [];
}

abbrev pub prefix_keys : Keys
prefix_keys = record {
  texts = codes "prefix" ∷ codes "method" ∷ [];
  integers = codes "vlan" ∷ [];
  arrays = [];
  lists = [];
  required = codes "prefix" ∷ codes "method" ∷ [];
}

-- all keys that the table may have
abbrev pub known_keys : Keys → List (List ℕ)
known_keys keys = keys.texts ++ keys.integers ++ keys.arrays ++ keys.lists

-- the table may have the key
pub record IsKnown (keys : Keys) (key : List ℕ) : Type 0 where
  pub among : Contains (known_keys keys) key

-- each key of the table is one that it may have
pub record HasOnly (keys : Keys) (t : Members) : Type 0 where
  pub each : All (IsKnown keys) (keys_in t)

abbrev pub are_integers : Items → Bool
are_integers no_items = true
are_integers (item (integer z) rest) = are_integers rest
are_integers (item _ rest) = false

-- the value is a text; an integer; an array of tables; an array of integers
abbrev pub IsText : Data → Type 0
IsText value = IsSome (as_str value)

abbrev pub IsInteger : Data → Type 0
IsInteger value = IsSome (as_integer value)

abbrev pub IsTables : Data → Type 0
IsTables value = IsSomeAnd (as_array value) (λ items. are_tables items ≡ true)

abbrev pub IsIntegers : Data → Type 0
IsIntegers value = IsSomeAnd (as_array value) (λ items. are_integers items ≡ true)

-- each value that is there has the kind of its key
pub record HasKinds (keys : Keys) (t : Members) : Type 0 where
  pub texts : All (λ key. IfSome (get_member key t) IsText) keys.texts
  pub integers : All (λ key. IfSome (get_member key t) IsInteger) keys.integers
  pub arrays : All (λ key. IfSome (get_member key t) IsTables) keys.arrays
  pub lists : All (λ key. IfSome (get_member key t) IsIntegers) keys.lists

-- each required key is there
pub record HasRequired (keys : Keys) (t : Members) : Type 0 where
  pub each : All (λ key. IsSome (get_member key t)) keys.required
