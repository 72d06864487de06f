use Rattle.std.proofs.Common.{◌≡◌, ◌<◌, ◌≤◌, ◌^◌, ℕ, nat_lt, true, refl, ap, sym, subst, inl, ◌∙◌, lit<, arith}
use Rattle.std.proofs.lemmas.Bool.Decides.{nat_tests}
use Rattle.std.proofs.Math.Nat.{pow-le-pow_right}
use Rattle.pcapng_io.specs.Options.{units_of}
use Rattle.pcapng_io.proofs.OptionParts.{units_positive}
use Rattle.pcapng_io.proofs.options.units_in.Goals as goal

pub pow-requires : goal.pow-requires
pow-requires c =
    let within : 10 ^ c.from.result ≤ 10 ^ 38 = pow-le-pow_right {n = 10} (lit< tt) {i = c.from.result} {j = 38} (omega arith) in
    let most : 10 ^ 38 < 2 ^ 128 = lit< tt in
    omega (arith, within, most)

pub returns-in-0-to-38-clause-some : goal.returns-in-0-to-38-clause-some
returns-in-0-to-38-clause-some c =
    let small : nat_lt c.args.resolution 128 ≡ true = grind (arith, nat_tests) in
    let is : c.pow.result ≡ units_of c.args.resolution = c.pow.ensures ∙ ap (λ (n : ℕ). 10 ^ n) c.from.ensures ∙ rw small refl in
    (is, subst (λ (n : ℕ). 0 < n) (sym is) (units_positive c.args.resolution), (refl, inl (omega arith)))
