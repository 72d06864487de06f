-- The lines of the entries that are kept, one more at a time.
use Rattle.std.proofs.Common.{◌≡◌, ℕ, ◌+◌, ◌<◌, Bool, true, false, List, [], ◌∷◌, ◌++◌, length, get_or, take, refl, sym, ◌∙◌, ap, append_assoc, append-nil}
use Rattle.std.specs.List.{filter, flat_map}
use Rattle.std.proofs.lemmas.List.Elements.{filter_more}
use Rattle.std.proofs.lemmas.List.Concat.{flat_map-append}

module _ {A : Type 0} (line : A → List ℕ) (keeps : A → Bool) (xs : List A) (i : ℕ) (d : A) (within : i < length xs) where
  -- behind the lines of those before it comes its own, where it is kept
  pub line_kept : keeps (get_or xs i d) ≡ true → (old text : List ℕ) → text ≡ old ++ flat_map line (filter keeps (take i xs)) → text ++ line (get_or xs i d) ≡ old ++ flat_map line (filter keeps (take (i + 1) xs))
  line_kept kept old text known =
      let x : A = get_or xs i d in
      let before : List A = filter keeps (take i xs) in
      let more : filter keeps (take (i + 1) xs) ≡ before ++ x ∷ [] = filter_more keeps xs i d within ∙ ap (λ xs. before ++ xs) (rw kept refl) in
      ap (λ text. text ++ line x) known
      ∙ append_assoc old (flat_map line before) (line x)
      ∙ ap (λ rest. old ++ (flat_map line before ++ rest)) (sym (append-nil (line x)))
      ∙ ap (λ lines. old ++ lines) (sym (flat_map-append line before (x ∷ [])))
      ∙ ap (λ kept. old ++ flat_map line kept) (sym more)

  -- and nothing where it isn't
  pub line_left_out : keeps (get_or xs i d) ≡ false → (old text : List ℕ) → text ≡ old ++ flat_map line (filter keeps (take i xs)) → text ≡ old ++ flat_map line (filter keeps (take (i + 1) xs))
  line_left_out left old text known =
      let before : List A = filter keeps (take i xs) in
      let more : filter keeps (take (i + 1) xs) ≡ before ++ [] = filter_more keeps xs i d within ∙ ap (λ xs. before ++ xs) (rw left refl) in
      known ∙ ap (λ kept. old ++ flat_map line kept) (sym (more ∙ append-nil before))
