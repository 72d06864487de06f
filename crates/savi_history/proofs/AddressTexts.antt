-- The text of addresses that is written tells them apart, and has no octet that parts the fields of a line.
use Rattle.std.proofs.Common.{◌≡◌, ◌≢◌, ℕ, inl, inr, List, ap, sym, subst, arith}
use Rattle.std.proofs.lemmas.List.Elements.{All-weaker}
use Rattle.savi_kinds.specs.declared.address.Addr.{Addr}
use Rattle.savi_kinds.specs.AddrText.{IsAddrText, IsAddrChar}
use Rattle.savi_kinds.proofs.AddrGrammar.{one_address}
use Rattle.savi_kinds.proofs.AddrWritten.{written_addr, plain_chars}
use Rattle.hist_store.specs.JournalTexts.{address_text}
use Rattle.hist_store.proofs.AddressWords.{address_graphic}
use Rattle.savi_history.specs.Journals.{IsAddress, IsAddressText}

abbrev addr : ℕ → Addr
addr n = record { 0 = n }

char_no_slash : (c : ℕ) → IsAddrChar c → c ≢ 47
char_no_slash c (inl digit) = omega (arith, digit.0)
char_no_slash c (inr (inl letter)) = omega (arith, letter.0)
char_no_slash c (inr (inr colon)) = omega (arith, colon)

same_address : (a b : ℕ) → IsAddress a → IsAddress b → address_text a ≡ address_text b → a ≡ b
same_address a b low low' same =
    let of_a : IsAddrText (address_text a) (addr a) = written_addr (addr a) low in
    let of_b : IsAddrText (address_text a) (addr b) = subst (λ (t : List ℕ). IsAddrText t (addr b)) (sym same) (written_addr (addr b) low') in
    ap (λ (x : Addr). x.0) (one_address (address_text a) (addr a) (addr b) of_a of_b)

pub written-IsAddressText : IsAddressText address_text
written-IsAddressText = record {
  graphic = address_graphic;
  no_slash = λ n. All-weaker IsAddrChar (λ octet. octet ≢ 47) char_no_slash (address_text n) (plain_chars (addr n));
  one_address = same_address;
}
