-- The options of a message, taken off the front one after the other.
use Rattle.std.proofs.Common.{◌≡◌, ◌≢◌, ℕ, ◌+◌, ◌≤◌, ◌==◌, zero, suc, get_or, true, cond, is_some, List, [], ◌∷◌, length, take, drop, Option, Some, None, refl, sym, ◌∙◌, ap, arith, length-drop}
use Rattle.std.specs.Option.{option_and_then}
use Rattle.std.proofs.lemmas.Bool.{eq-eqb, ne_eqb}
use Rattle.std.proofs.lemmas.List.{drop-drop}
use Rattle.v4_snoop.specs.OptionFronts.{IsOptionFront}
use Rattle.v4_snoop.specs.DhcpOptions.{BootpOption, content_len, with_dhcp_option, dhcp_options_within, dhcp_options, first_content}

-- the option of a code with a content of this length
abbrev pub option_with : ℕ → ℕ → List ℕ → BootpOption
option_with code len behind = record { code = code; content = take len (drop 1 behind) }

abbrev behind_option : ℕ → ℕ → List ℕ → Option ℕ → Option (List BootpOption)
behind_option most code behind len = option_and_then (λ n. with_dhcp_option (option_with code n behind) (dhcp_options_within most (drop (1 + n) behind))) len

-- more room for codes than octets changes nothing
same_within : (m n : ℕ) (octets : List ℕ) → length octets ≤ m → length octets ≤ n → dhcp_options_within m octets ≡ dhcp_options_within n octets
same_within m n [] short shorter = refl
same_within zero n (code ∷ behind) short shorter = absurd (omega (arith, short))
same_within (suc m) zero (code ∷ behind) short shorter = absurd (omega (arith, shorter))
same_within (suc m) (suc n) (code ∷ behind) short shorter =
    ap (λ padded. cond (code == 255) (Some []) (cond (code == 0) padded (behind_option m code behind (content_len behind)))) (same_within m n behind (omega (arith, short)) (omega (arith, shorter)))
    ∙ ap (λ other. cond (code == 255) (Some []) (cond (code == 0) (dhcp_options_within n behind) other))
    (go (λ k. same_within m n (drop k behind) (omega (arith, short, length-drop k behind)) (omega (arith, shorter, length-drop k behind))) (content_len behind))
  where
    go : ((k : ℕ) → dhcp_options_within m (drop k behind) ≡ dhcp_options_within n (drop k behind)) → (len : Option ℕ) → behind_option m code behind len ≡ behind_option n code behind len
    go same None = refl
    go same (Some len) = ap (with_dhcp_option (option_with code len behind)) (same (1 + len))

pub options_end : (code : ℕ) (behind : List ℕ) → code ≡ 255 → dhcp_options (code ∷ behind) ≡ Some []
options_end code behind is = rw (eq-eqb code 255 is) refl

pub options_pad : (code : ℕ) (behind : List ℕ) → code ≡ 0 → dhcp_options (code ∷ behind) ≡ dhcp_options behind
options_pad code behind is = rw is refl

-- the options where neither comes first
other_code : (code : ℕ) (behind : List ℕ) → code ≢ 255 → code ≢ 0 → dhcp_options (code ∷ behind) ≡ behind_option (length behind) code behind (content_len behind)
other_code code behind no_end no_pad = rw (ne_eqb code 255 no_end, ne_eqb code 0 no_pad) refl

pub options_cut : (code : ℕ) (behind : List ℕ) → code ≢ 255 → code ≢ 0 → content_len behind ≡ None → dhcp_options (code ∷ behind) ≡ None
options_cut code behind no_end no_pad none = other_code code behind no_end no_pad ∙ ap (behind_option (length behind) code behind) none

pub options_more : (code len : ℕ) (behind : List ℕ) → code ≢ 255 → code ≢ 0 → content_len behind ≡ Some len → dhcp_options (code ∷ behind) ≡ with_dhcp_option (option_with code len behind) (dhcp_options (drop (1 + len) behind))
options_more code len behind no_end no_pad is =
    other_code code behind no_end no_pad
    ∙ ap (behind_option (length behind) code behind) is
    ∙ ap (with_dhcp_option (option_with code len behind)) (same_within (length behind) (length (drop (1 + len) behind)) (drop (1 + len) behind) (omega (arith, length-drop (1 + len) behind)) (omega arith))

pub whole_behind : (option : BootpOption) (others : Option (List BootpOption)) → is_some (with_dhcp_option option others) ≡ is_some others
whole_behind option None = refl
whole_behind option (Some others) = refl

-- the first option of a code is this one, or stands behind it
pub first_here : (wanted : ℕ) (option : BootpOption) (others : Option (List BootpOption)) → option.code ≡ wanted → is_some others ≡ true → option_and_then (first_content wanted) (with_dhcp_option option others) ≡ Some option.content
first_here wanted option None same whole = cc
first_here wanted option (Some others) same whole = rw (eq-eqb option.code wanted same) refl

pub first_later : (wanted : ℕ) (option : BootpOption) (others : Option (List BootpOption)) → option.code ≢ wanted → option_and_then (first_content wanted) (with_dhcp_option option others) ≡ option_and_then (first_content wanted) others
first_later wanted option None other = refl
first_later wanted option (Some others) other = rw (ne_eqb option.code wanted other) refl

-- What stands at the front of some octets.

pub ends_at : (rest : List ℕ) → get_or rest 0 0 ≡ 255 → dhcp_options rest ≡ Some []
ends_at [] is = refl
ends_at (code ∷ behind) is = options_end code behind is

pub no_octets : (rest : List ℕ) → length rest ≡ 0 → dhcp_options rest ≡ Some []
no_octets [] none = refl
no_octets (code ∷ behind) none = absurd (omega (arith, none))

pub pad_front : (rest : List ℕ) → 1 ≤ length rest → get_or rest 0 0 ≡ 0 → IsOptionFront rest 1
pad_front [] some is = absurd (omega (arith, some))
pad_front (code ∷ behind) some is = record {
  some = omega arith;
  within = some;
  whole = ap (λ o. is_some o) (options_pad code behind is);
  long = λ more. absurd (omega (arith, more, is));
  here = λ wanted least same whole. absurd (omega (arith, least, same, is));
  later = λ wanted least other. ap (option_and_then (first_content wanted)) (options_pad code behind is);
}

pub cut_front : (rest : List ℕ) → 1 ≤ length rest → get_or rest 0 0 ≢ 255 → get_or rest 0 0 ≢ 0 → content_len (drop 1 rest) ≡ None → dhcp_options rest ≡ None
cut_front [] some no_end no_pad none = absurd (omega (arith, some))
cut_front (code ∷ behind) some no_end no_pad none = options_cut code behind no_end no_pad none

pub option_front : (rest : List ℕ) (len : ℕ) → 1 ≤ length rest → get_or rest 0 0 ≢ 255 → get_or rest 0 0 ≢ 0 → content_len (drop 1 rest) ≡ Some len → 1 + len ≤ length (drop 1 rest) → IsOptionFront rest (2 + len)
option_front [] len some no_end no_pad is within = absurd (omega (arith, some))
option_front (code ∷ behind) len some no_end no_pad is within =
    let more : dhcp_options (code ∷ behind) ≡ with_dhcp_option (option_with code len behind) (dhcp_options (drop (1 + len) behind)) = options_more code len behind no_end no_pad is in
    let left : drop (1 + len) behind ≡ drop (2 + len) (code ∷ behind) = drop-drop (1 + len) 1 (code ∷ behind) ∙ ap (λ n. drop n (code ∷ behind)) (omega arith) in
    record {
      some = omega arith;
      within = omega (arith, within);
      whole = ap (λ o. is_some o) more ∙ whole_behind (option_with code len behind) (dhcp_options (drop (1 + len) behind)) ∙ ap (λ xs. is_some (dhcp_options xs)) left;
      long = λ _. omega arith;
      here = λ wanted least same whole.
          let behind_whole : is_some (dhcp_options (drop (1 + len) behind)) ≡ true = sym (ap (λ o. is_some o) more ∙ whole_behind (option_with code len behind) (dhcp_options (drop (1 + len) behind))) ∙ whole in
          ap (option_and_then (first_content wanted)) more
          ∙ first_here wanted (option_with code len behind) (dhcp_options (drop (1 + len) behind)) same behind_whole
          ∙ ap (λ n. Some (take n (drop 1 behind))) (omega arith);
      later = λ wanted least other.
          ap (option_and_then (first_content wanted)) more
          ∙ first_later wanted (option_with code len behind) (dhcp_options (drop (1 + len) behind)) other
          ∙ ap (λ xs. option_and_then (first_content wanted) (dhcp_options xs)) left;
    }
