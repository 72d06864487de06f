-- The keys of a table as the code has them.
use Rattle.std.specs.Prelude.{ℕ, List, ◌++◌, map, IfSome, All, Contains}
use Rattle.toml.specs.Data.{Members, get_member}
use Rattle.savi_conf.specs.Keys.{Keys, IsText, IsInteger, IsTables}
use Rattle.savi_conf.specs.declared.keys.KeyNames.{KeyNames}

unfoldable pub keys_of : KeyNames → Keys
keys_of names = record {
  texts = map (λ key. key.now) names.texts.now;
  integers = map (λ key. key.now) names.integers.now;
  arrays = map (λ key. key.now) names.arrays.now;
  lists = map (λ key. key.now) names.lists.now;
  required = map (λ key. key.now) names.required.now;
}

-- those of another value than a list
abbrev pub other_keys : Keys → List (List ℕ)
other_keys keys = keys.texts ++ keys.integers ++ keys.arrays

pub record IsOtherKey (keys : Keys) (key : List ℕ) : Type 0 where
  pub among : Contains (other_keys keys) key

-- each value of theirs has the kind of its key
pub record HasOtherKinds (keys : Keys) (t : Members) : Type 0 where
  pub texts : All (λ key. IfSome (get_member key t) IsText) keys.texts
  pub integers : All (λ key. IfSome (get_member key t) IsInteger) keys.integers
  pub arrays : All (λ key. IfSome (get_member key t) IsTables) keys.arrays
