-- The words of a line: what stands between its spaces, an empty word too.
use Rattle.std.specs.Prelude.{ℕ, ◌==◌, List, [], ◌∷◌, if◌then◌else◌}
use Rattle.savi_kinds.specs.Characters.{space}
use Rattle.savi_kinds.specs.AddrOf.{begun_with}

abbrev pub words_of : List ℕ → List (List ℕ)
words_of [] = [] ∷ []
words_of (c ∷ line) = if c == space then [] ∷ words_of line else begun_with c (words_of line)
