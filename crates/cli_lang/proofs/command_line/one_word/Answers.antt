use Rattle.std.proofs.Common.{List, ℕ, ◌∷◌, [], refl, ap, inl}
use Rattle.cli_lang.specs.Commands.{Quit}
use Rattle.cli_lang.proofs.command_line.one_word.Goals as goal

pub returns-then-is : goal.returns-then-is
returns-then-is c = inl (Quit, ap (λ (w : List ℕ). w ∷ []) (c.if-is.ensures.0 refl), refl)
