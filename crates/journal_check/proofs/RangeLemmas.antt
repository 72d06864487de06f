-- The last address of a prefix is an address.
use Rattle.std.proofs.Common.{◌≡◌, ℕ, ◌+◌, ◌-◌, ◌*◌, ◌/◌, ◌%◌, ◌^◌, ◌<◌, ◌≤◌, sym, arith}
use Rattle.std.proofs.lemmas.Nat.{pow-add, pow_pos, pow_below, div-add-mod'}
use Rattle.std.proofs.Math.Nat.{div-lt_iff_lt-mul, mul-le-mul_right}

-- a number of so many parts of a size that is below another one is a whole part below it
aligned : (net size count : ℕ) → 0 < size → net < count * size → net % size ≡ 0 → net + size ≤ count * size
aligned net size count some below whole =
    let parts : net / size < count = (div-lt_iff_lt-mul some).1 below in
    let most : (net / size + 1) * size ≤ count * size = mul-le-mul_right size (omega arith) in
    omega (arith, most, div-add-mod' net size, whole)

-- the addresses of a prefix are below 2 ^ 128
pub past-fits : (net len : ℕ) → 1 ≤ len → len ≤ 128 → net < 2 ^ 128 → net % 2 ^ (128 - len) ≡ 0 → net + 2 ^ (128 - len) ≤ 2 ^ 128
past-fits net len low high below whole =
    let split : 2 ^ 128 ≡ 2 ^ len * 2 ^ (128 - len) = let sum : len + (128 - len) ≡ 128 = omega arith in sym (rw (← pow-add, sum)) in
    rw split (aligned net (2 ^ (128 - len)) (2 ^ len) (pow_pos (128 - len)) (rw (← split) below) whole)

pub size-fits : (len : ℕ) → 1 ≤ len → 1 * 2 ^ (128 - len) % 340282366920938463463374607431768211456 ≡ 2 ^ (128 - len)
size-fits len low = let below : 2 ^ (128 - len) < 2 ^ 128 = pow_below (128 - len) 128 (omega arith) in omega (arith, below)
