-- The tables among the items of an array, one more item at a time.
use Rattle.std.proofs.Common.{◌≡◌, ℕ, ◌+◌, ◌<◌, ◌&&◌, List, [], ◌∷◌, ◌++◌, length, take, drop, get_or, refl, ap, ◌∙◌, Some, None, is_some}
use Rattle.std.proofs.lemmas.List.{take_more, append-nil}
use Rattle.std.specs.Option.{option_map_or}
use Rattle.toml.specs.Data.{Data, string, integer, float, boolean, datetime, array, table, Items, no_items, item, Members, as_table, push_item}
use Rattle.toml.specs.View.{view, items_view}
use Rattle.toml.specs.declared.value.Value.{Value}
use Rattle.toml.proofs.Views.{items_view-push, items_view-drop}
use Rattle.toml.specs.Text.{are_tables}
use Rattle.savi_conf.specs.Documents.{tables_among}

-- the table that a value is, as a list of at most one
abbrev pub table_in : Data → List Members
table_in d = option_map_or (λ t. t ∷ []) (as_table d) []

pub tables_among-push : (ds : Items) (d : Data) → tables_among (push_item ds d) ≡ tables_among ds ++ table_in d
tables_among-push no_items (string s) = refl
tables_among-push no_items (integer z) = refl
tables_among-push no_items (float x) = refl
tables_among-push no_items (boolean b) = refl
tables_among-push no_items (datetime t) = refl
tables_among-push no_items (array e) = refl
tables_among-push no_items (table t) = refl
tables_among-push (item (string s) ds) d = tables_among-push ds d
tables_among-push (item (integer z) ds) d = tables_among-push ds d
tables_among-push (item (float x) ds) d = tables_among-push ds d
tables_among-push (item (boolean b) ds) d = tables_among-push ds d
tables_among-push (item (datetime t) ds) d = tables_among-push ds d
tables_among-push (item (array e) ds) d = tables_among-push ds d
tables_among-push (item (table t) ds) d = ap (λ ts. t ∷ ts) (tables_among-push ds d)

-- the tables among one more value
pub among_next : (vs : List Value) (i : ℕ) (v : Value) → i < length vs → v ≡ get_or vs i v → tables_among (items_view (take (i + 1) vs)) ≡ tables_among (items_view (take i vs)) ++ table_in (view v)
among_next vs i v within is =
    let more : take (i + 1) vs ≡ take i vs ++ v ∷ [] = rw (take_more vs i v within, ← is) in
    rw (more, items_view-push (take i vs) v, tables_among-push (items_view (take i vs)) (view v))

-- a value that is a table comes last, and another one changes nothing
pub among_table : (vs : List Value) (i : ℕ) (v : Value) (t : Members) → i < length vs → v ≡ get_or vs i v → Some t ≡ as_table (view v) → tables_among (items_view (take (i + 1) vs)) ≡ tables_among (items_view (take i vs)) ++ t ∷ []
among_table vs i v t within is found = among_next vs i v within is ∙ rw (← found)

pub among_other : (vs : List Value) (i : ℕ) (v : Value) → i < length vs → v ≡ get_or vs i v → None ≡ as_table (view v) → tables_among (items_view (take (i + 1) vs)) ≡ tables_among (items_view (take i vs))
among_other vs i v within is found = among_next vs i v within is ∙ rw (← found, append-nil)

-- all are tables from an index on, where the value there is one, and all behind it are
are_tables-first : (d : Data) (ds : Items) → are_tables (item d ds) ≡ (is_some (as_table d) && are_tables ds)
are_tables-first (string s) ds = refl
are_tables-first (integer z) ds = refl
are_tables-first (float x) ds = refl
are_tables-first (boolean b) ds = refl
are_tables-first (datetime t) ds = refl
are_tables-first (array e) ds = refl
are_tables-first (table t) ds = refl

pub are_tables-drop : (vs : List Value) (i : ℕ) (v : Value) → i < length vs → v ≡ get_or vs i v → are_tables (items_view (drop i vs)) ≡ (is_some (as_table (view v)) && are_tables (items_view (drop (i + 1) vs)))
are_tables-drop vs i v within is =
    let here : items_view (drop i vs) ≡ item (view v) (items_view (drop (i + 1) vs)) = items_view-drop vs i v within ∙ rw (← is) in
    rw here (are_tables-first (view v) (items_view (drop (i + 1) vs)))
