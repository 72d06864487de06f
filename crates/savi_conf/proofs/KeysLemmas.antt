-- Which keys a table may have, seen through the words of the code and through the table's own keys.
use Rattle.std.proofs.Common.{◌≡◌, ℕ, List, [], ◌∷◌, ◌++◌, map, refl, ap, ◌⊎◌, inl, inr, Bor, String, Global, string_bytes}
use Rattle.std.specs.List.{Any, Contains}
use Rattle.std.specs.Map.{keys_of as keys_among}
use Rattle.std.proofs.lemmas.List.Elements.{Contains-append_left, Contains-append_right, Contains-append_cases}
use Rattle.toml.specs.View.{members_view}
use Rattle.toml.specs.declared.value.Value.{Value}
use Rattle.savi_conf.specs.Documents.{keys_in}
use Rattle.savi_conf.specs.Keys.{IsKnown}
use Rattle.savi_conf.specs.KeyNames.{IsOtherKey, keys_of}
use Rattle.savi_conf.specs.declared.keys.KeyNames.{KeyNames}
use Rattle.savi_conf.proofs.Listed.{Contains-map, Contains-unmap}

-- the keys of a table are the texts of its map's keys
pub keys_in-view : (es : List (String Global × Value)) → keys_in (members_view es) ≡ map (λ k. string_bytes k) (keys_among es)
keys_in-view [] = refl
keys_in-view (e ∷ es) = ap (λ ks. string_bytes e.0 ∷ ks) (keys_in-view es)

-- a word that is among those of one kind is one of another value than a list
abbrev pub IsAmong : List (Bor (List ℕ)) → List ℕ → Type 0
IsAmong words key = Any (λ w. w.now ≡ key) words

-- the words of a kind as texts
abbrev told : List (Bor (List ℕ)) → List (List ℕ)
told words = map (λ w. w.now) words

pub other-texts : (names : KeyNames) (key : List ℕ) → IsAmong names.texts.now key → IsOtherKey (keys_of names) key
unfolding keys_of
other-texts names key among =
    record { among = Contains-append_left (told names.texts.now ++ told names.integers.now) (told names.arrays.now) key (Contains-append_left (told names.texts.now) (told names.integers.now) key (Contains-map (λ w. w.now) names.texts.now key among)) }

pub other-integers : (names : KeyNames) (key : List ℕ) → IsAmong names.integers.now key → IsOtherKey (keys_of names) key
unfolding keys_of
other-integers names key among =
    record { among = Contains-append_left (told names.texts.now ++ told names.integers.now) (told names.arrays.now) key (Contains-append_right (told names.texts.now) (told names.integers.now) key (Contains-map (λ w. w.now) names.integers.now key among)) }

pub other-arrays : (names : KeyNames) (key : List ℕ) → IsAmong names.arrays.now key → IsOtherKey (keys_of names) key
unfolding keys_of
other-arrays names key among =
    record { among = Contains-append_right (told names.texts.now ++ told names.integers.now) (told names.arrays.now) key (Contains-map (λ w. w.now) names.arrays.now key among) }

-- and each such word is among those of one kind
in_two : (names : KeyNames) (key : List ℕ) → Contains (told names.texts.now) key ⊎ Contains (told names.integers.now) key → IsAmong names.texts.now key ⊎ IsAmong names.integers.now key
in_two names key (inl t) = inl (Contains-unmap (λ w. w.now) names.texts.now key t)
in_two names key (inr i) = inr (Contains-unmap (λ w. w.now) names.integers.now key i)

pub other-cases : (names : KeyNames) (key : List ℕ) → IsOtherKey (keys_of names) key → (IsAmong names.texts.now key ⊎ IsAmong names.integers.now key) ⊎ IsAmong names.arrays.now key
unfolding keys_of
other-cases names key is =
    elim (Contains-append_cases (told names.texts.now ++ told names.integers.now) (told names.arrays.now) key is.among) [
      | inl two ↦ inl (in_two names key (Contains-append_cases (told names.texts.now) (told names.integers.now) key two))
      | inr a ↦ inr (Contains-unmap (λ w. w.now) names.arrays.now key a)
    ]

-- with the lists
pub known-others : (names : KeyNames) (key : List ℕ) → IsOtherKey (keys_of names) key → IsKnown (keys_of names) key
unfolding keys_of
known-others names key other =
    record { among = Contains-append_left (told names.texts.now ++ told names.integers.now ++ told names.arrays.now) (told names.lists.now) key other.among }

pub known-lists : (names : KeyNames) (key : List ℕ) → IsAmong names.lists.now key → IsKnown (keys_of names) key
unfolding keys_of
known-lists names key among =
    record { among = Contains-append_right (told names.texts.now ++ told names.integers.now ++ told names.arrays.now) (told names.lists.now) key (Contains-map (λ w. w.now) names.lists.now key among) }

pub known-cases : (names : KeyNames) (key : List ℕ) → IsKnown (keys_of names) key → IsOtherKey (keys_of names) key ⊎ IsAmong names.lists.now key
unfolding keys_of
known-cases names key is =
    elim (Contains-append_cases (told names.texts.now ++ told names.integers.now ++ told names.arrays.now) (told names.lists.now) key is.among) [
      | inl other ↦ inl (record { among = other })
      | inr list ↦ inr (Contains-unmap (λ w. w.now) names.lists.now key list)
    ]
