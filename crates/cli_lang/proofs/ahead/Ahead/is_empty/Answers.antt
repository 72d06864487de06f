use Rattle.std.proofs.Common.{◌≤◌, length, sym, ◌∙◌, arith, eq-eqb}
use Rattle.std.proofs.lemmas.Bool.{eqb-true}
use Rattle.cli_lang.proofs.AheadHeld.{held_none, none_held}
use Rattle.cli_lang.proofs.ahead.Ahead.is_empty.Goals as goal

pub returns : goal.returns
returns c =
    let inside = c.self.inside in
    let within : inside.end ≤ length inside.buffer = omega (arith, c.self.told, c.self.invariant.1) in (
      λ same. sym c.self.view_is ∙ held_none inside.at inside.end inside.buffer within (eqb-true inside.at inside.end same),
      λ none. eq-eqb inside.at inside.end (none_held inside.at inside.end inside.buffer c.self.invariant.0 within (c.self.view_is ∙ none)),
    )
