-- Words with a colon between each two.
use Rattle.std.proofs.Common.{ℕ, ◌≡◌, List, [], ◌∷◌, ◌++◌, sym, ap, append-nil}
use Rattle.std.specs.List.{join_with_byte}
use Rattle.savi_kinds.specs.MacText.{colon}

-- each word behind a colon
abbrev pub behind : List (List ℕ) → List ℕ
behind [] = []
behind (word ∷ words) = colon ∷ (word ++ behind words)

pub joined-behind : (word : List ℕ) (words : List (List ℕ)) → join_with_byte colon (word ∷ words) ≡ word ++ behind words
joined-behind word [] = sym (append-nil word)
joined-behind word (next ∷ words) = ap (λ t. word ++ (colon ∷ t)) (joined-behind next words)
