use Rattle.std.proofs.Common.{List, ℕ, ◌∷◌, [], refl, ap, inl, codes}
use Rattle.cli_lang.specs.Commands.{ShowBindings, ShowPorts, ShowCounters, ShowStations}
use Rattle.cli_lang.proofs.command_line.show.Goals as goal

pub returns-then-is : goal.returns-then-is
returns-then-is c = inl (ShowBindings, ap (λ (w : List ℕ). codes "show" ∷ w ∷ []) (c.if-is.ensures.0 refl), refl)

pub returns-then-is-2 : goal.returns-then-is-2
returns-then-is-2 c = inl (ShowPorts, ap (λ (w : List ℕ). codes "show" ∷ w ∷ []) (c.if-is-2.ensures.0 refl), refl)

pub returns-then-is-3 : goal.returns-then-is-3
returns-then-is-3 c = inl (ShowCounters, ap (λ (w : List ℕ). codes "show" ∷ w ∷ []) (c.if-is-3.ensures.0 refl), refl)

pub returns-then-is-4 : goal.returns-then-is-4
returns-then-is-4 c = inl (ShowStations, ap (λ (w : List ℕ). codes "show" ∷ w ∷ []) (c.if-is-4.ensures.0 refl), refl)
