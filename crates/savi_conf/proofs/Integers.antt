-- The integers among the items of an array, one more item at a time.
use Rattle.std.proofs.Common.{◌≡◌, ◌↔◌, ℕ, ℤ, ◌+◌, ◌<◌, ◌&&◌, Bool, IsTrue, IsSome, List, [], ◌∷◌, ◌++◌, length, take, drop, get_or, refl, sym, ap, ◌∙◌, Option, Some, None, is_some}
use Rattle.std.specs.Prelude.{option_map}
use Rattle.std.proofs.lemmas.Bool.{false≢true}
use Rattle.std.proofs.lemmas.List.{take_more, append-nil}
use Rattle.std.specs.Option.{option_map_or}
use Rattle.toml.specs.Data.{Data, string, integer, float, boolean, datetime, array, table, Items, no_items, item, as_array, as_integer, push_item}
use Rattle.toml.specs.View.{view, items_view}
use Rattle.toml.specs.declared.value.Value.{Value}
use Rattle.toml.proofs.Views.{items_view-push, items_view-drop}
use Rattle.savi_conf.specs.Documents.{integers_among}
use Rattle.savi_conf.specs.Keys.{are_integers}

-- the integer that a value is, as a list of at most one
abbrev integer_in : Data → List ℤ
integer_in d = option_map_or (λ z. z ∷ []) (as_integer d) []

integers_among-push : (ds : Items) (d : Data) → integers_among (push_item ds d) ≡ integers_among ds ++ integer_in d
integers_among-push no_items (string s) = refl
integers_among-push no_items (integer z) = refl
integers_among-push no_items (float x) = refl
integers_among-push no_items (boolean b) = refl
integers_among-push no_items (datetime t) = refl
integers_among-push no_items (array e) = refl
integers_among-push no_items (table t) = refl
integers_among-push (item (string s) ds) d = integers_among-push ds d
integers_among-push (item (integer z) ds) d = ap (λ zs. z ∷ zs) (integers_among-push ds d)
integers_among-push (item (float x) ds) d = integers_among-push ds d
integers_among-push (item (boolean b) ds) d = integers_among-push ds d
integers_among-push (item (datetime t) ds) d = integers_among-push ds d
integers_among-push (item (array e) ds) d = integers_among-push ds d
integers_among-push (item (table t) ds) d = integers_among-push ds d

-- the integers among one more value
among_next : (vs : List Value) (i : ℕ) (v : Value) → i < length vs → v ≡ get_or vs i v → integers_among (items_view (take (i + 1) vs)) ≡ integers_among (items_view (take i vs)) ++ integer_in (view v)
among_next vs i v within is =
    let more : take (i + 1) vs ≡ take i vs ++ v ∷ [] = rw (take_more vs i v within, ← is) in
    rw (more, items_view-push (take i vs) v, integers_among-push (items_view (take i vs)) (view v))

-- a value that is an integer comes last, and another one changes nothing
pub among_integer : (vs : List Value) (i : ℕ) (v : Value) (z : ℤ) → i < length vs → v ≡ get_or vs i v → Some z ≡ as_integer (view v) → integers_among (items_view (take (i + 1) vs)) ≡ integers_among (items_view (take i vs)) ++ z ∷ []
among_integer vs i v z within is found = among_next vs i v within is ∙ rw (← found)

pub among_no_integer : (vs : List Value) (i : ℕ) (v : Value) → i < length vs → v ≡ get_or vs i v → None ≡ as_integer (view v) → integers_among (items_view (take (i + 1) vs)) ≡ integers_among (items_view (take i vs))
among_no_integer vs i v within is found = among_next vs i v within is ∙ rw (← found, append-nil)

-- all are integers from an index on, where the value there is one, and all behind it are
are_integers-first : (d : Data) (ds : Items) → are_integers (item d ds) ≡ (is_some (as_integer d) && are_integers ds)
are_integers-first (string s) ds = refl
are_integers-first (integer z) ds = refl
are_integers-first (float x) ds = refl
are_integers-first (boolean b) ds = refl
are_integers-first (datetime t) ds = refl
are_integers-first (array e) ds = refl
are_integers-first (table t) ds = refl

pub are_integers-drop : (vs : List Value) (i : ℕ) (v : Value) → i < length vs → v ≡ get_or vs i v → are_integers (items_view (drop i vs)) ≡ (is_some (as_integer (view v)) && are_integers (items_view (drop (i + 1) vs)))
are_integers-drop vs i v within is =
    let here : items_view (drop i vs) ≡ item (view v) (items_view (drop (i + 1) vs)) = items_view-drop vs i v within ∙ rw (← is) in
    rw here (are_integers-first (view v) (items_view (drop (i + 1) vs)))

-- whether a value is an array is whether its integers are told
pub array_tells : (d : Data) (is_array : Bool) → is_array ≡ is_some (as_array d) → IsTrue is_array ↔ IsSome (option_map integers_among (as_array d))
array_tells d b is = told (as_array d) b is
  where
    told : (o : Option Items) (b : Bool) → b ≡ is_some o → IsTrue b ↔ IsSome (option_map integers_among o)
    told None b is = (λ yes. absurd (false≢true (sym is ∙ yes)), λ none. absurd (false≢true none))
    told (Some items) b is = (λ _. refl, λ _. is)
