-- The home of an address: the place at which a search for it begins.
use Rattle.std.specs.Prelude.{ℕ, ◌-◌, ◌*◌, ◌/◌, ◌%◌, ◌^◌, bit_and, bit_xor}

-- the halves of a product of two 64-bit words, laid over each other
abbrev pub folded : ℕ → ℕ
folded product = bit_xor (product % 2 ^ 64) (product / 2 ^ 64)

-- 32 bits that depend on all of an address: the folded product of both its halves, each under a mask so that one that is 0
-- doesn't make it 0, and of the product of that with an odd number the upper half
abbrev pub mixed : ℕ → ℕ
mixed address =
    let word = folded (bit_xor (address / 2 ^ 64) 0x243f6a8885a308d3 * bit_xor (address % 2 ^ 64) 0x9e3779b97f4a7c15) in
    word * 0xbf58476d1ce4e5b9 % 2 ^ 64 / 2 ^ 32

-- the home of an address among so many places, a power of two: as many of its mixed bits as number the places
unfoldable pub home_of : ℕ → ℕ → ℕ
home_of address places = bit_and (mixed address) (places - 1)
