-- The words of a configuration: a text at a key is the word of something.
use Rattle.std.specs.Prelude.{ℕ, List, IfSome, ◌≡◌}
use Rattle.toml.specs.Data.{Members}
use Rattle.savi_conf.specs.Documents.{text_at}

-- the text is one of the words
abbrev pub IsWordOf : {A : Type 0} → (A → List ℕ) → List ℕ → Type 0
IsWordOf {A} word text = (meaning : A) × (text ≡ word meaning)

-- the text at a key, where there is one, is one of the words
abbrev pub HasWord : {A : Type 0} → List ℕ → (A → List ℕ) → Members → Type 0
HasWord key word t = IfSome (text_at key t) (IsWordOf word)
