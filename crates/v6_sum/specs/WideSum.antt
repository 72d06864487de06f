-- Sums that are kept wider than 16 bits and have their carries added at the end (RFC 1071 section 2 (C)).
use Rattle.std.specs.Prelude.{◌≡◌, ℕ, ◌+◌, ◌*◌, List, sum}
use Rattle.v6_sum.specs.InternetChecksum.{words_of}

-- the plain sum of the 16-bit words of a list of octets
unfoldable pub plain_sum : List ℕ → ℕ
plain_sum octets = sum (words_of octets)

-- two sums that are one word once their carries are added at the bottom: they differ by a multiple of
-- 2 ^ 16 - 1, and are zero together
pub record IsSameFolded (a b : ℕ) : Type 0 where
  pub more_a : ℕ
  pub more_b : ℕ
  pub apart : a + 65535 * more_a ≡ b + 65535 * more_b
  pub zero_a : a ≡ 0 → b ≡ 0
  pub zero_b : b ≡ 0 → a ≡ 0
