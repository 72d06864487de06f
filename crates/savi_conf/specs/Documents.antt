-- What stands at the keys of a table of TOML.
use Rattle.std.specs.Prelude.{ℕ, ℤ, List, [], ◌∷◌, Option, option_and_then, option_map, unwrap_or}
use Rattle.std.specs.Option.{option_map_or}
use Rattle.toml.specs.Data.{Data, integer, array, table, Items, no_items, item, Members, no_members, member, get_member, as_str, as_integer, as_array}

-- the text at a key, where there is one
abbrev pub text_at : List ℕ → Members → Option (List ℕ)
text_at key t = option_and_then as_str (get_member key t)

-- the integer at a key, where there is one
abbrev pub integer_at : List ℕ → Members → Option ℤ
integer_at key t = option_and_then as_integer (get_member key t)

-- the text or the integer at a key, or what stands for it where there is none
abbrev pub text_or : List ℕ → List ℕ → Members → List ℕ
text_or key default t = unwrap_or (text_at key t) default

abbrev pub integer_or : List ℕ → ℤ → Members → ℤ
integer_or key default t = unwrap_or (integer_at key t) default

-- those of some items that are integers, in order
abbrev pub integers_among : Items → List ℤ
integers_among no_items = []
integers_among (item (integer z) rest) = z ∷ integers_among rest
integers_among (item _ rest) = integers_among rest

-- the integers of the array at a key, where there is one
abbrev pub integers_at : List ℕ → Members → Option (List ℤ)
integers_at key t = option_map integers_among (option_and_then as_array (get_member key t))

-- those of some items that are tables, in order
abbrev pub tables_among : Items → List Members
tables_among no_items = []
tables_among (item (table t) rest) = t ∷ tables_among rest
tables_among (item _ rest) = tables_among rest

-- the tables that a value holds, in order: those of an array, or the one that it is
abbrev pub tables_of : Data → List Members
tables_of (array items) = tables_among items
tables_of (table t) = t ∷ []
tables_of _ = []

-- the tables at a key, in order
abbrev pub tables_at : List ℕ → Members → List Members
tables_at key t = option_map_or tables_of (get_member key t) []

-- the keys of a table
abbrev pub keys_in : Members → List (List ℕ)
keys_in no_members = []
keys_in (member key value rest) = key ∷ keys_in rest
