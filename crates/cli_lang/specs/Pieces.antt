-- What the parts of a line say of it.
use Rattle.std.specs.Prelude.{◌≡◌, ℕ, ◌<◌, List, [], ◌∷◌, length}
use Rattle.cli_lang.specs.declared.words.Words.{Words}
use Rattle.cli_lang.specs.declared.words.Words.TheVariants as words

-- these are the words
abbrev pub AreWords : Words → List (List ℕ) → Type 0
AreWords (words.One first) all = all ≡ first.now ∷ []
AreWords (words.Two first second) all = all ≡ first.now ∷ second.now ∷ []
AreWords (words.Three first second third) all = all ≡ first.now ∷ second.now ∷ third.now ∷ []
AreWords words.More all = 3 < length all
