-- The number of a port in decimal.
use Rattle.std.proofs.Common.{ℕ, ◌≡◌, ◌↔◌, ◌^◌, ◌<◌, ◌≤◌, List, Option, Some, None, IfNone, IsSome, decimal, sym, ◌∙◌, true≢false, arith}
use Rattle.std.proofs.lemmas.Fmt.{decimal_injective}
use Rattle.savi_kinds.specs.declared.port.Port.{Port}
use Rattle.cli_lang.specs.Commands.{IsNoPort}

-- a number outside of those of ports is none of them
no_port : (text : List ℕ) (m : ℕ) → m < 2 ^ 64 → text ≡ decimal m → (1 ≤ m → m ≤ 16 → ⊥) → IsNoPort text
no_port text m small spelled none n low high other =
    let same : m ≡ n = decimal_injective m n small (omega arith) (sym spelled ∙ other) in
    none (omega arith) (omega arith)

pub no_new_port : (text : List ℕ) (n : ℕ) (o : Option Port) → n < 2 ^ 64 → text ≡ decimal n → IsSome o ↔ ((1 ≤ n) × (n ≤ 16)) → IfNone o (IsNoPort text)
no_new_port text n None small spelled some = no_port text n small spelled (λ low high. true≢false (sym (some.1 (low, high))))
no_new_port text n (Some port) small spelled some = tt
