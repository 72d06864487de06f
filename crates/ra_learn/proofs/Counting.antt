-- Which options count, by the octets that they are.
use Rattle.std.proofs.Common.{◌≡◌, ◌≢◌, ℕ, ◌<◌, nat_le, ◌&&◌, Bool, true, false, List, drop, Some, None, slice_index, bit_and, refl, sym, ◌∙◌, ap}
use Rattle.std.proofs.lemmas.Bool.{ne_eqb, lt-leb}
use Rattle.std.proofs.lemmas.List.{get_or-drop, drop-drop}
use Rattle.byteorder.specs.Endian.{big_number}
use Rattle.savi_kinds.specs.declared.address.Prefix.{Prefix}
use Rattle.ra_learn.specs.declared.advert.AdvertPrefix.{AdvertPrefix}
use Rattle.ra_learn.specs.PrefixOptions.{cleared, counts, is_on_link, is_prefix_option, is_usable, option_in, prefix_bits, prefix_if_counts, prefix_in, valid_lifetime}

-- a test of three parts fails where one of them does
third_is_false : (a b d : Bool) → d ≡ false → (a && (b && d)) ≡ false
third_is_false true true d fails = fails
third_is_false true false d fails = refl
third_is_false false b d fails = refl

second_is_false : (a b d : Bool) → b ≡ false → (a && (b && d)) ≡ false
second_is_false true b d fails = rw fails refl
second_is_false false b d fails = refl

inner_is_false : (a b d : Bool) → b ≡ false → ((a && b) && d) ≡ false
inner_is_false true b d fails = rw fails refl
inner_is_false false b d fails = refl

all_are_true : (a b d : Bool) → a ≡ true → b ≡ true → d ≡ true → (a && (b && d)) ≡ true
all_are_true a b d p q r = rw (p, q, r) refl

module _ (octets : List ℕ) where
  uncounted : counts (option_in octets) ≡ false → None ≡ prefix_if_counts (option_in octets)
  uncounted fails = rw fails refl

  -- an option that is no prefix option, is off the link or names no prefix that can be the link's
  pub other_kind : slice_index octets 0 ≢ 3 → None ≡ prefix_if_counts (option_in octets)
  other_kind other = rw (ne_eqb (slice_index octets 0) 3 other) refl

  pub other_units : slice_index octets 0 ≡ 3 → slice_index octets 1 ≢ 4 → None ≡ prefix_if_counts (option_in octets)
  other_units kind other = rw (kind, ne_eqb (slice_index octets 1) 4 other) refl

  bits_is : prefix_bits (option_in octets) ≡ slice_index octets 2
  bits_is = get_or-drop 2 octets 0 0

  flags_is : slice_index (drop 2 octets) 1 ≡ slice_index octets 3
  flags_is = get_or-drop 2 octets 1 0

  pub off_link : bit_and (slice_index octets 3) 128 ≡ 0 → None ≡ prefix_if_counts (option_in octets)
  off_link off =
      let fails : is_on_link (option_in octets) ≡ false = rw (flags_is, off) refl in
      uncounted (second_is_false (is_prefix_option (option_in octets)) (is_on_link (option_in octets)) (is_usable (prefix_in (option_in octets))) fails)

  unusable : is_usable (prefix_in (option_in octets)) ≡ false → None ≡ prefix_if_counts (option_in octets)
  unusable fails = uncounted (third_is_false (is_prefix_option (option_in octets)) (is_on_link (option_in octets)) (is_usable (prefix_in (option_in octets))) fails)

  pub too_short : slice_index octets 2 < 1 → None ≡ prefix_if_counts (option_in octets)
  too_short short =
      let fails : nat_le 1 (prefix_bits (option_in octets)) ≡ false = rw bits_is (lt-leb 1 (slice_index octets 2) short) in
      unusable (rw fails refl)

  pub too_long : 128 < slice_index octets 2 → None ≡ prefix_if_counts (option_in octets)
  too_long long =
      let fails : nat_le (prefix_bits (option_in octets)) 128 ≡ false = rw bits_is (lt-leb (slice_index octets 2) 128 long) in
      unusable (inner_is_false (nat_le 1 (prefix_bits (option_in octets))) (nat_le (prefix_bits (option_in octets)) 128) _ fails)

  module _ (net address : ℕ) (address_is : address ≡ big_number 16 (drop 16 octets)) (net_is : net ≡ cleared (slice_index octets 2) address) where
    prefix_is : prefix_in (option_in octets) ≡ record { net = record { 0 = net }; len = slice_index octets 2 }
    prefix_is = rw (bits_is, drop-drop 14 2 octets, net_is, address_is) refl

    pub not_usable : is_usable (record { net = record { 0 = net }; len = slice_index octets 2 }) ≡ false → None ≡ prefix_if_counts (option_in octets)
    not_usable fails = unusable (ap is_usable prefix_is ∙ fails)

    -- and one that counts, with what is read of it
    pub counted : (valid : ℕ) → slice_index octets 0 ≡ 3 → slice_index octets 1 ≡ 4 → bit_and (slice_index octets 3) 128 ≢ 0 → is_usable (record { net = record { 0 = net }; len = slice_index octets 2 }) ≡ true → valid ≡ big_number 4 (drop 4 octets)
        → Some (record { prefix = record { net = record { 0 = net }; len = slice_index octets 2 }; valid = valid }) ≡ prefix_if_counts (option_in octets)
    counted valid kind units on usable valid_is =
        let option : is_prefix_option (option_in octets) ≡ true = rw (kind, units) refl in
        let linked : is_on_link (option_in octets) ≡ true = rw (flags_is, ne_eqb (bit_and (slice_index octets 3) 128) 0 on) refl in
        let yes : counts (option_in octets) ≡ true = all_are_true (is_prefix_option (option_in octets)) (is_on_link (option_in octets)) (is_usable (prefix_in (option_in octets))) option linked (ap is_usable prefix_is ∙ usable) in
        let lifetime : valid_lifetime (option_in octets) ≡ valid = ap (big_number 4) (drop-drop 2 2 octets) ∙ sym valid_is in
        let P : Prefix → ℕ → AdvertPrefix = λ p v. record { prefix = p; valid = v } in
        sym (rw yes (ap (λ p. Some (P p (valid_lifetime (option_in octets)))) prefix_is ∙ ap (λ v. Some (P (record { net = record { 0 = net }; len = slice_index octets 2 }) v)) lifetime))
