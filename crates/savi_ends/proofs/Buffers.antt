-- A buffer whose middle was written, and its front.
use Rattle.std.proofs.Common.{◌≡◌, ℕ, ◌+◌, ◌≤◌, List, ◌++◌, length, take, sym, ap, ◌∙◌, arith, length-append, length-take-le}
use Rattle.std.proofs.lemmas.List.{take-append-le}
use Rattle.std.proofs.Math.Seq.{take-append-add}

pub take_over : (at n : ℕ) (buf piece post : List ℕ) → at ≤ length buf → n ≤ length piece → take (at + n) (take at buf ++ (piece ++ post)) ≡ take at buf ++ take n piece
take_over at n buf piece post within fits =
    let whole : List ℕ = take at buf ++ (piece ++ post) in
    ap (λ (k : ℕ). take (k + n) whole) (sym (length-take-le at buf within))
    ∙ take-append-add (take at buf) (piece ++ post) n
    ∙ ap (λ (l : List ℕ). take at buf ++ l) (take-append-le n piece post fits)

pub within_over : (at n : ℕ) (buf piece post : List ℕ) → at ≤ length buf → n ≤ length piece → at + n ≤ length (take at buf ++ (piece ++ post))
within_over at n buf piece post within fits =
    omega (arith, length-append (take at buf) (piece ++ post), length-append piece post, length-take-le at buf within)
