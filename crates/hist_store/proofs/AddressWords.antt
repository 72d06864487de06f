-- The text of an address that is written is a word: each of its octets is above the space.
use Rattle.std.proofs.Common.{ℕ, ◌<◌, inl, inr, All, arith}
use Rattle.std.proofs.lemmas.List.Elements.{All-weaker}
use Rattle.savi_kinds.specs.AddrText.{IsAddrChar}
use Rattle.savi_kinds.proofs.AddrWritten.{plain_chars}
use Rattle.hist_store.specs.JournalTexts.{address_text}

char_graphic : (c : ℕ) → IsAddrChar c → 32 < c
char_graphic c (inl digit) = omega (arith, digit.0)
char_graphic c (inr (inl letter)) = omega (arith, letter.0)
char_graphic c (inr (inr colon)) = omega (arith, colon)

pub address_graphic : (n : ℕ) → All (λ octet. 32 < octet) (address_text n)
address_graphic n = All-weaker IsAddrChar (λ octet. 32 < octet) char_graphic (address_text n) (plain_chars (record { 0 = n }))
