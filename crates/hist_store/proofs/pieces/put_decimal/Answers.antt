use Rattle.std.proofs.Common.{◌≡◌, ◌++◌, ◌<◌, List, ℕ, length, decimal, sym, ap, ◌∙◌, arith}
use Rattle.std.proofs.lemmas.Fmt.{decimal_digit}
use Rattle.hist_store.proofs.pieces.put_decimal.Goals as goal

-- a number below ten is its digit
one_digit : (n : ℕ) → n < 10 → length (decimal n) ≡ 1
one_digit n low = ap length (decimal_digit n low)

pub push-requires : goal.push-requires
push-requires c = omega (arith, one_digit c.args.n (omega (arith, c.if-n-lt10.true)), c.requires)

pub returns-then-n-lt10-clause-text : goal.returns-then-n-lt10-clause-text
returns-then-n-lt10-clause-text c = c.push.ensures.items ∙ ap (λ (t : List ℕ). c.args.into.now.items ++ t) (sym (decimal_digit c.args.n (omega (arith, c.if-n-lt10.true))))

pub returns-then-n-lt10-clause-size : goal.returns-then-n-lt10-clause-size
returns-then-n-lt10-clause-size c = omega (arith, one_digit c.args.n (omega (arith, c.if-n-lt10.true)), c.push.ensures.len)
