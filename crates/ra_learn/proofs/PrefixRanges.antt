-- How many addresses a prefix has.
use Rattle.std.proofs.Common.{◌≡◌, ℕ, ◌-◌, ◌*◌, ◌%◌, ◌^◌, ◌<◌, ◌≤◌, arith}
use Rattle.std.proofs.lemmas.Nat.{pow_below}
use Rattle.std.proofs.Math.Pow.{pow_mono}

pub size-fits : (bits : ℕ) → 1 ≤ bits → 1 * 2 ^ (128 - bits) % 340282366920938463463374607431768211456 ≡ 2 ^ (128 - bits)
size-fits bits low = let below : 2 ^ (128 - bits) < 2 ^ 128 = pow_below (128 - bits) 128 (omega arith) in omega (arith, below)

pub size-most : (bits : ℕ) → 1 ≤ bits → 2 ^ (128 - bits) ≤ 170141183460469231731687303715884105728
size-most bits low = pow_mono {i = 128 - bits} {j = 127} (omega arith)
