use Rattle.std.proofs.Common.{List, ℕ, ◌≡◌, ◌∷◌, [], refl, ap, inl, inr, Option, Some, None, IfNone}
use Rattle.savi_kinds.specs.declared.address.Addr.{Addr}
use Rattle.cli_lang.specs.Commands.{Static, IsNoAddr}
use Rattle.cli_lang.proofs.command_line.three_words.Goals as goal

no_addr : (text : List ℕ) (o : Option Addr) → ((a : Addr) → o ≡ Some a → ⊥) → IfNone o (IsNoAddr text) → IsNoAddr text
no_addr text None none only = only
no_addr text (Some a) none only = absurd (none a refl)

pub returns-in_default : goal.returns-in_default
returns-in_default c =
    let word = ap (λ (w : List ℕ). w ∷ c.args.address.now ∷ c.args.number.now ∷ []) (c.if-not-is.ensures.0 refl) in
    inl (Static c.args.address.now c.args.number.now, word, inl (no_addr _ _ c.in_default.not-Some c.read_addr.ensures.only, refl))

pub returns-in-Some-read_port : goal.returns-in-Some-read_port
returns-in-Some-read_port c =
    let word = ap (λ (w : List ℕ). w ∷ c.args.address.now ∷ c.args.number.now ∷ []) (c.if-not-is.ensures.0 refl) in
    inl (Static c.args.address.now c.args.number.now, word, inr (c.in-Some.address, c.in-Some.ensures.read, (c.in-Some-read_port.port, c.in-Some-read_port.ensures.read, refl)))

pub returns-in-None : goal.returns-in-None
returns-in-None c =
    let word = ap (λ (w : List ℕ). w ∷ c.args.address.now ∷ c.args.number.now ∷ []) (c.if-not-is.ensures.0 refl) in
    inl (Static c.args.address.now c.args.number.now, word, inr (c.in-Some.address, c.in-Some.ensures.read, (c.in-None.ensures.only, refl)))
