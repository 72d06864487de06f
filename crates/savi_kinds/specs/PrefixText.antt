-- The text of a prefix (RFC 4291 section 2.3): an address, '/', and the length in decimal without a leading zero.
use Rattle.std.specs.Prelude.{ℕ, ◌≡◌, ◌≤◌, List, ◌++◌, codes, decimal}
use Rattle.savi_kinds.specs.declared.address.Prefix.{Prefix}
use Rattle.savi_kinds.specs.AddrText.{IsAddrText, addr_text}
use Rattle.savi_kinds.specs.Prefixes.{IsPrefix}

-- the length of a prefix, from 1 to 128 bits, in decimal
abbrev pub IsLengthText : List ℕ → ℕ → Type 0
IsLengthText text n = (text ≡ decimal n) × (1 ≤ n) × (n ≤ 128)

-- The text writes this prefix. Its length is from 1 to 128, and its address has no bit set past it.
pub record IsPrefixText (text : List ℕ) (p : Prefix) : Type 0 where
  pub address : List ℕ
  pub net : IsAddrText address p.net
  pub spelled : text ≡ address ++ codes "/" ++ decimal p.len
  pub prefix : IsPrefix p

-- the text that is written
abbrev pub prefix_text : Prefix → List ℕ
prefix_text p = addr_text p.net ++ codes "/" ++ decimal p.len
