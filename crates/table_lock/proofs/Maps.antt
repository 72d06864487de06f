-- The maps from numbers of passes to their entries, and the entries of one pass after one more entry.
use Rattle.std.proofs.Common.{◌≡◌, ◌≢◌, ℕ, zero, suc, ◌<◌, ◌⊎◌, inl, inr, [], ◌∷◌, ◌++◌, length, sym, ap, ◌∙◌, eqb, eq-eqb, ne_eqb, cond, arith}
use Rattle.std.proofs.lemmas.List.{append-nil}
use Rattle.std.proofs.lemmas.List.Elements.{filter-append}
use mathlib.Core.Option.{some, some-injective, some-ne-none}
use lib.ListN.{get_elem?, length-map}
use Rattle.atomic_table.proofs.Lists.{at_map, at_longer}
use Rattle.table_lock.specs.Entries.{Entry, EntryList, mine}
use Rattle.table_lock.specs.Rule.{Map, Has}
use Rattle.table_lock.specs.Plays.{entry_added}
use Rattle.table_lock.proofs.Lists.{at_right, at_either, map_back, at_below}

pub mine_more : (i : ℕ) (H : EntryList) (e : Entry) → e.0 ≡ i → mine i (H ++ e ∷ []) ≡ mine i H ++ e ∷ []
mine_more i H e is = filter-append (λ (x : Entry). eqb x.0 i) H (e ∷ []) ∙ ap (λ b. mine i H ++ cond b (e ∷ []) []) (eq-eqb e.0 i is)

pub mine_same : (i : ℕ) (H : EntryList) (e : Entry) → e.0 ≢ i → mine i (H ++ e ∷ []) ≡ mine i H
mine_same i H e not = filter-append (λ (x : Entry). eqb x.0 i) H (e ∷ []) ∙ (ap (λ b. mine i H ++ cond b (e ∷ []) []) (ne_eqb e.0 i not) ∙ append-nil (mine i H))

abbrev list_at : Entry → ℕ × EntryList → EntryList
list_at e x = cond (eqb x.0 e.0) (x.1 ++ e ∷ []) x.1

pub has_added : (e : Entry) (m : Map) (i : ℕ) (es : EntryList) → Has m i es → Has (entry_added e m) i (cond (eqb i e.0) (es ++ e ∷ []) es)
has_added e m i es h = (h.0, at_map (λ (x : ℕ × EntryList). (x.0, list_at e x)) m h.0 (i, es) h.1)

pub added_has : (e : Entry) (m : Map) (i : ℕ) (es : EntryList) → Has (entry_added e m) i es → (old : EntryList) × Has m i old × (es ≡ cond (eqb i e.0) (old ++ e ∷ []) old)
added_has e m i es h =
    let t = map_back (λ (x : ℕ × EntryList). (x.0, list_at e x)) m h.0 (i, es) h.1 in
    let number : t.0.0 ≡ i = ap (λ (x : ℕ × EntryList). x.0) t.2 in
    (t.0.1, (h.0, t.1 ∙ ap (λ (j : ℕ). some (j, t.0.1)) number), ap (λ (x : ℕ × EntryList). x.1) (sym t.2) ∙ ap (λ (j : ℕ). cond (eqb j e.0) (t.0.1 ++ e ∷ []) t.0.1) number)

pub length-added : (e : Entry) (m : Map) → length (entry_added e m) ≡ length m
length-added e m = length-map m (λ (x : ℕ × EntryList). (x.0, list_at e x))

pub has_left : (m m' : Map) (i : ℕ) (es : EntryList) → Has m i es → Has (m ++ m') i es
has_left m m' i es h = (h.0, at_longer m m' h.0 (i, es) h.1)

pub has_right : (m m' : Map) (i : ℕ) (es : EntryList) → Has m' i es → Has (m ++ m') i es
has_right m m' i es h = at_right m m' h.0 (i, es) h.1

pub has_either : (m m' : Map) (i : ℕ) (es : EntryList) → Has (m ++ m') i es → Has m i es ⊎ Has m' i es
has_either m m' i es h = go (at_either m m' h.0 (i, es) h.1)
  where
    go : (get_elem? m h.0 ≡ some (i, es)) ⊎ ((j : ℕ) × (get_elem? m' j ≡ some (i, es))) → Has m i es ⊎ Has m' i es
    go (inl t) = inl (h.0, t)
    go (inr t) = inr t

pub has_some : (m : Map) (i : ℕ) (es : EntryList) → Has m i es → 0 < length m
has_some m i es h = let b = at_below m h.0 (i, es) h.1 in omega arith

-- a map with one key
pub has_only : (n : ℕ) (xs : EntryList) (i : ℕ) (es : EntryList) → Has ((n, xs) ∷ []) i es → (n ≡ i) × (xs ≡ es)
has_only n xs i es (zero, e) = let p = some-injective (n, xs) (i, es) e in (ap (λ (x : ℕ × EntryList). x.0) p, ap (λ (x : ℕ × EntryList). x.1) p)
has_only n xs i es (suc k, e) = absurd (some-ne-none (i, es) (sym e))
