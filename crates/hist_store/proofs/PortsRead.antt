-- The members of a set of ports, as they are read one by one.
use Rattle.std.proofs.Common.{ℕ, zero, suc, ◌≡◌, ◌≢◌, ◌+◌, ◌-◌, ◌^◌, ◌<◌, ◌≤◌, ◌==◌, ◌||◌, Bool, true, false, cond, List, [], ◌∷◌, ◌++◌, length, take, drop, map, filter, decimal, codes, Option, Some, None, IfSome, refl, sym, ap, ap₂, ◌∙◌, subst, arith, inl, inr, ◌⊎◌, ne_eqb, eq-eqb, length-append, take-append-drop}
use Rattle.std.proofs.lemmas.Bool.{cases_eq, cases_lt}
use Rattle.std.proofs.lemmas.Bool.Decides.{nat_tests}
use Rattle.std.proofs.lemmas.List.{append-nil, take_at, drop_at}
use Rattle.std.proofs.lemmas.Fmt.{decimal_injective, decimal_is_IsNumeral, decimal_nonempty}
use Rattle.std.proofs.lemmas.Nat.Bits.{same_from_bits_below, bit_at-lt}
use Rattle.std.specs.Char.{digit_value}
use Rattle.std.specs.Int.{bit_at}
use Rattle.std.specs.List.{join_with_byte, range_with_len, position_or_len}
use Rattle.std.specs.Str.Parse.{AllDigits}
use Rattle.savi_kinds.specs.declared.port.PortSet.{PortSet}
use Rattle.savi_kinds.specs.PortSets.{is_member, no_ports}
use Rattle.hist_store.specs.TextOfLines.{comma, or_dash}
use Rattle.hist_store.specs.PortTexts.{port_numbers, members, members_text, members_above, ListsMembersAbove}

-- the numbers that pass a test, of so many from a number on

abbrev found : (ℕ → Bool) → ℕ → ℕ → List ℕ
found p k n = filter p (range_with_len k n)

passed : (p : ℕ → Bool) (k n : ℕ) → p k ≡ true → found p k (suc n) ≡ k ∷ found p (k + 1) n
passed p k n is = ap (λ b. cond b (k ∷ found p (k + 1) n) (found p (k + 1) n)) is

failed : (p : ℕ → Bool) (k n : ℕ) → p k ≡ false → found p k (suc n) ≡ found p (k + 1) n
failed p k n is = ap (λ b. cond b (k ∷ found p (k + 1) n) (found p (k + 1) n)) is

skip : (p : ℕ → Bool) (d k n many : ℕ) → many ≡ d + 1 + n → ((j : ℕ) → k ≤ j → j < k + d → p j ≡ false) → p (k + d) ≡ true → found p k many ≡ (k + d) ∷ found p (k + d + 1) n
skip p d k n zero size none here = absurd (omega arith)
skip p zero k n (suc many) size none here =
    let at : k + 0 ≡ k = omega arith in
    let same : many ≡ n = omega arith in
    passed p k many (ap p (sym at) ∙ here) ∙ ap₂ (λ (a m : ℕ). a ∷ found p (a + 1) m) (sym at) same
skip p (suc d) k n (suc many) size none here =
    let at : k + 1 + d ≡ k + suc d = omega arith in
    failed p k many (none k (omega arith) (omega arith))
    ∙ skip p d (k + 1) n many (omega arith) (λ j low high. none j (omega arith) (omega arith)) (ap p at ∙ here)
    ∙ ap (λ (a : ℕ). a ∷ found p (a + 1) n) at

nothing : (p : ℕ → Bool) (k n : ℕ) → ((j : ℕ) → k ≤ j → j < k + n → p j ≡ false) → found p k n ≡ []
nothing p k zero none = refl
nothing p k (suc n) none = failed p k n (none k (omega arith) (omega arith)) ∙ nothing p (k + 1) n (λ j low high. none j (omega arith) (omega arith))

two : (b : Bool) → (b ≡ true) ⊎ (b ≡ false)
two true = inl refl
two false = inr refl

pub record IsFirst (p : ℕ → Bool) (k n : ℕ) : Type 0 where
  pub place : ℕ
  pub low : k ≤ place
  pub high : place < k + n
  pub here : p place ≡ true
  pub none : (j : ℕ) → k ≤ j → j < place → p j ≡ false

first : (p : ℕ → Bool) (n k : ℕ) → ((j : ℕ) → k ≤ j → j < k + n → p j ≡ false) ⊎ IsFirst p k n
first p zero k = inl (λ j low high. absurd (omega arith))
first p (suc n) k =
    elim (two (p k)) [
      | inl holds ↦ inr (record { place = k; low = omega arith; high = omega arith; here = holds; none = λ j low high. absurd (omega arith) })
      | inr fails ↦
          elim (first p n (k + 1)) [
            | inl none ↦ inl (λ j low high. elim (cases_eq j k) [ inl same ↦ ap p same ∙ fails | inr other ↦ none j (omega arith) (omega arith) ])
            | inr one ↦
                let above = one.low in
                let below = one.high in
                inr (record {
                  place = one.place;
                  low = omega arith;
                  high = omega arith;
                  here = one.here;
                  none = λ j low high. elim (cases_eq j k) [ inl same ↦ ap p same ∙ fails | inr other ↦ one.none j (omega arith) (omega arith) ];
                })
          ]
    ]

-- the members above a port

pub above_next : (set : PortSet) (last m : ℕ) → last < m → m ≤ 16 → ((j : ℕ) → last < j → j < m → is_member set j ≡ false) → is_member set m ≡ true → members_above last set ≡ m ∷ members_above m set
above_next set last m low high none here =
    let at : last + 1 + (m - last - 1) ≡ m = omega arith in
    skip (is_member set) (m - last - 1) (last + 1) (16 - m) (16 - last) (omega arith) (λ j more less. none j (omega arith) (omega arith)) (ap (is_member set) at ∙ here)
    ∙ ap (λ (k : ℕ). k ∷ found (is_member set) (k + 1) (16 - m)) at

pub above_none : (set : PortSet) (last : ℕ) → ((j : ℕ) → last < j → j ≤ 16 → is_member set j ≡ false) → members_above last set ≡ []
above_none set last none = nothing (is_member set) (last + 1) (16 - last) (λ j low high. none j (omega arith) (omega arith))

pub none_above : (set : PortSet) (last : ℕ) → members_above last set ≡ [] → (j : ℕ) → last < j → j ≤ 16 → is_member set j ≡ false
none_above set last empty j low high =
    elim (first (is_member set) (16 - last) (last + 1)) [
      | inl none ↦ none j (omega arith) (omega arith)
      | inr one ↦
          let above = one.low in
          let below = one.high in
          let some : members_above last set ≡ one.place ∷ members_above one.place set = above_next set last one.place (omega arith) (omega arith) (λ k more less. one.none k (omega arith) (omega arith)) one.here in
          let bad : [] ≡ one.place ∷ members_above one.place set = sym empty ∙ some in
          absurd (cc bad)
    ]

-- their text

abbrev pub text_of : List ℕ → List ℕ
text_of ns = join_with_byte comma (map decimal ns)

-- what stands behind a number
abbrev pub tail_text : List ℕ → List ℕ
tail_text [] = []
tail_text (n ∷ ns) = comma ∷ text_of (n ∷ ns)

pub text_first : (m : ℕ) (ms : List ℕ) → text_of (m ∷ ms) ≡ decimal m ++ tail_text ms
text_first m [] = sym (append-nil (decimal m))
text_first m (n ∷ ns) = refl

abbrev Without : ℕ → List ℕ → Type 0
Without c [] = Unit {0}
Without c (x ∷ xs) = (x ≢ c) × Without c xs

digits_without : (t : List ℕ) → AllDigits 10 t → Without 44 t
digits_without [] all = tt
digits_without (x ∷ xs) all = (λ same. let bad : digit_value 44 < 10 = subst (λ (c : ℕ). digit_value c < 10) same all.0 in absurd (omega (arith, bad)), digits_without xs all.1)

end_of_number : (t ms : List ℕ) → Without 44 t → position_or_len (λ c. c == 44) (t ++ tail_text ms) ≡ length t
end_of_number [] [] is = refl
end_of_number [] (m ∷ ms) is = refl
end_of_number (x ∷ t) ms is = let more = end_of_number t ms is.1 in rw (ne_eqb x 44 is.0) (omega (arith, more))

abbrev pub comma_place : List ℕ → ℕ
comma_place text = position_or_len (λ c. c == 44) text

pub cut : (text : List ℕ) (m : ℕ) (ms : List ℕ) → m < 2 ^ 64 → text ≡ text_of (m ∷ ms) → (take (comma_place text) text ≡ decimal m) × (drop (comma_place text) text ≡ tail_text ms)
cut text m ms small is =
    let numeral = (decimal_is_IsNumeral m small).0 in
    let whole : text ≡ decimal m ++ tail_text ms = is ∙ text_first m ms in
    let place : comma_place text ≡ length (decimal m) = ap comma_place whole ∙ end_of_number (decimal m) ms (digits_without (decimal m) numeral.1) in (
      ap (λ (t : List ℕ). take (comma_place text) t) whole ∙ take_at (decimal m) (tail_text ms) (comma_place text) (sym place),
      ap (λ (t : List ℕ). drop (comma_place text) t) whole ∙ drop_at (decimal m) (tail_text ms) (comma_place text) (sym place),
    )

-- the first of some members, and how the text is cut behind it
pub record IsCut (last : ℕ) (set : PortSet) (text : List ℕ) : Type 0 where
  pub port : ℕ
  pub low : last < port
  pub high : port ≤ 16
  pub none : (j : ℕ) → last < j → j < port → is_member set j ≡ false
  pub here : is_member set port ≡ true
  pub front : take (comma_place text) text ≡ decimal port
  pub rest : drop (comma_place text) text ≡ tail_text (members_above port set)

pub cut_of : (last : ℕ) (before set : PortSet) (text : List ℕ) → ListsMembersAbove last before set text → IsCut last set text
cut_of last before set text goes =
    elim (first (is_member set) (16 - last) (last + 1)) [
      | inl none ↦
          let empty : members_above last set ≡ [] = above_none set last (λ j low high. none j (omega arith) (omega arith)) in
          let size = ap length empty in
          let some = goes.some in
          absurd (omega arith)
      | inr one ↦
          let above = one.low in
          let below = one.high in
          let lower : last < one.place = omega arith in
          let upper : one.place ≤ 16 = omega arith in
          let none : (j : ℕ) → last < j → j < one.place → is_member set j ≡ false = λ j more less. one.none j (omega arith) (omega arith) in
          let parts = cut text one.place (members_above one.place set) (omega (arith, upper)) (goes.text_is ∙ ap text_of (above_next set last one.place lower upper none one.here)) in
          record { port = one.place; low = lower; high = upper; none = none; here = one.here; front = parts.0; rest = parts.1 }
    ]

-- what stands behind a number, and what comes of it

pub behind_comma : (ns : List ℕ) (t : List ℕ) → t ≡ text_of ns → 0 < length ns → comma ∷ t ≡ tail_text ns
behind_comma [] t is_t some = absurd (omega arith)
behind_comma (n ∷ ns) t is_t some = ap (λ (u : List ℕ). comma ∷ u) is_t

pub no_tail : (ns : List ℕ) → tail_text ns ≡ [] → ns ≡ []
no_tail [] e = refl
no_tail (n ∷ ns) e = cc

pub some_tail : (ns : List ℕ) (t : List ℕ) → tail_text ns ≡ comma ∷ t → (t ≡ text_of ns) × (0 < length ns)
some_tail [] t e = cc
some_tail (n ∷ ns) t e = let same : text_of (n ∷ ns) ≡ t = cc in (sym same, omega arith)

-- sets with the same members

same_bit : (x y : ℕ) → x < 2 → y < 2 → (x == 1) ≡ (y == 1) → x ≡ y
same_bit x y p q same = grind (arith, nat_tests)

the_set_same : (a b : ℕ) → a ≡ b → (let s : PortSet = record { 0 = a } in s) ≡ (let s : PortSet = record { 0 = b } in s)
the_set_same a b same = ap (λ (n : ℕ). let s : PortSet = record { 0 = n } in s) same

pub sets_same : (a b : PortSet) → a.0 < 2 ^ 16 → b.0 < 2 ^ 16 → ((j : ℕ) → 1 ≤ j → j ≤ 16 → is_member a j ≡ is_member b j) → a ≡ b
sets_same a b p q same =
    the_set_same a.0 b.0 (same_from_bits_below 16 a.0 b.0 p q (λ i low.
    let at : i + 1 - 1 ≡ i = omega arith in
    let bits : (bit_at a.0 i == 1) ≡ (bit_at b.0 i == 1) = subst (λ (k : ℕ). (bit_at a.0 k == 1) ≡ (bit_at b.0 k == 1)) at (same (i + 1) (omega arith) (omega arith)) in
    same_bit (bit_at a.0 i) (bit_at b.0 i) (bit_at-lt a.0 i) (bit_at-lt b.0 i) bits))

-- a set with one more member, above all others

pub record IsGrown (set grown : PortSet) (last port : ℕ) : Type 0 where
  pub low : last < port
  pub high : port ≤ 16
  pub law : (n : ℕ) → 1 ≤ n → is_member grown n ≡ (n == port || is_member set n)
  pub above : (n : ℕ) → last < n → n ≤ 16 → is_member set n ≡ false
  pub size : grown.0 < 2 ^ 16

module _ (set grown : PortSet) (last port : ℕ) (is : IsGrown set grown last port) where
  grown_other : (n : ℕ) → 1 ≤ n → n ≢ port → is_member grown n ≡ is_member set n
  grown_other n low other = is.law n low ∙ ap (λ b. b || is_member set n) (ne_eqb n port other)

  grown_here : is_member grown port ≡ true
  grown_here = let low = is.low in is.law port (omega arith) ∙ ap (λ b. b || is_member set port) (eq-eqb port port refl)

  grown_between : (j : ℕ) → last < j → j < port → is_member grown j ≡ false
  grown_between j low high = let top = is.high in grown_other j (omega arith) (λ same. omega arith) ∙ is.above j low (omega arith)

  pub grown_above : (j : ℕ) → port < j → j ≤ 16 → is_member grown j ≡ false
  grown_above j low high = let more = is.low in grown_other j (omega arith) (λ same. omega arith) ∙ is.above j (omega arith) high

  -- the last member is read
  pub ends : (text rest : List ℕ) → rest ≡ [] → text ≡ decimal port ++ rest → ListsMembersAbove last set grown text
  ends text rest none is_text =
      let low = is.low in
      let next : members_above last grown ≡ port ∷ members_above port grown = above_next grown last port is.low is.high grown_between grown_here in
      let only : members_above last grown ≡ port ∷ [] = next ∙ ap (λ (ns : List ℕ). port ∷ ns) (above_none grown port grown_above) in
      let size = ap length only in
      record {
        same = λ n more less. grown_other n more (λ same. omega arith);
        size = is.size;
        text_is = is_text ∙ ap (λ (t : List ℕ). decimal port ++ t) none ∙ append-nil (decimal port) ∙ sym (ap text_of only);
        some = omega arith;
      }

  -- another member comes behind it
  pub goes_on : (whole : PortSet) (text rest more : List ℕ) → rest ≡ comma ∷ more → text ≡ decimal port ++ rest → ListsMembersAbove port grown whole more → ListsMembersAbove last set whole text
  goes_on whole text rest more comma_is is_text goes =
      let low = is.low in
      let between : (j : ℕ) → last < j → j < port → is_member whole j ≡ false = λ j above below. goes.same j (omega arith) (omega arith) ∙ grown_between j above below in
      let here : is_member whole port ≡ true = goes.same port (omega arith) (omega arith) ∙ grown_here in
      let next : members_above last whole ≡ port ∷ members_above port whole = above_next whole last port is.low is.high between here in
      let size = ap length next in
      record {
        same = λ n above below. goes.same n above (omega arith) ∙ grown_other n above (λ same. omega arith);
        size = goes.size;
        text_is = is_text ∙ ap (λ (t : List ℕ). decimal port ++ t) (comma_is ∙ behind_comma (members_above port whole) more goes.text_is goes.some) ∙ sym (text_first port (members_above port whole)) ∙ sym (ap text_of next);
        some = omega arith;
      }

  -- up to the new member the sets are the same
  same_to : (whole : PortSet) (text : List ℕ) → ListsMembersAbove last set whole text → ((j : ℕ) → last < j → j < port → is_member whole j ≡ false) → is_member whole port ≡ true → (n : ℕ) → 1 ≤ n → n ≤ port → is_member whole n ≡ is_member grown n
  same_to whole text goes none here n low high =
      elim (cases_eq n port) [
        | inl same ↦ ap (is_member whole) same ∙ here ∙ sym grown_here ∙ ap (is_member grown) (sym same)
        | inr other ↦
            elim (cases_lt last n) [
              | inl above ↦ none n above (omega arith) ∙ sym (grown_between n above (omega arith))
              | inr below ↦ goes.same n low below ∙ sym (grown_other n low other)
            ]
      ]

  -- where nothing comes behind the new member
  pub ended : (whole : PortSet) (text : List ℕ) → ListsMembersAbove last set whole text → (one : IsCut last whole text) → one.port ≡ port → drop (comma_place text) text ≡ [] → grown ≡ whole
  ended whole text goes one port_is empty =
      let none = subst (λ (p : ℕ). (j : ℕ) → last < j → j < p → is_member whole j ≡ false) port_is one.none in
      let here = subst (λ (p : ℕ). is_member whole p ≡ true) port_is one.here in
      let rest : members_above one.port whole ≡ [] = no_tail (members_above one.port whole) (sym one.rest ∙ empty) in
      let left : members_above port whole ≡ [] = ap (λ (p : ℕ). members_above p whole) (sym port_is) ∙ rest in
      sets_same grown whole is.size goes.size (λ j low high.
      elim (cases_lt port j) [
        | inl above ↦ grown_above j above high ∙ sym (none_above whole port left j above high)
        | inr below ↦ sym (same_to whole text goes none here j low below)
      ])

  -- where another comes
  pub went_on : (whole : PortSet) (text more : List ℕ) → ListsMembersAbove last set whole text → (one : IsCut last whole text) → one.port ≡ port → drop (comma_place text) text ≡ comma ∷ more → ListsMembersAbove port grown whole more
  went_on whole text more goes one port_is rest =
      let none = subst (λ (p : ℕ). (j : ℕ) → last < j → j < p → is_member whole j ≡ false) port_is one.none in
      let here = subst (λ (p : ℕ). is_member whole p ≡ true) port_is one.here in
      let tail : tail_text (members_above port whole) ≡ comma ∷ more = ap (λ (p : ℕ). tail_text (members_above p whole)) (sym port_is) ∙ sym one.rest ∙ rest in
      let parts = some_tail (members_above port whole) more tail in
      record { same = same_to whole text goes none here; size = goes.size; text_is = parts.0; some = parts.1 }

-- what stands behind a member is nothing, or begins with a comma
pub tail_cases : (ns : List ℕ) → (tail_text ns ≡ []) ⊎ ((more : List ℕ) × (tail_text ns ≡ comma ∷ more))
tail_cases [] = inl refl
tail_cases (n ∷ ns) = inr (text_of (n ∷ ns), refl)

-- the whole set

members-is : (set : PortSet) → members set ≡ members_above 0 set
unfolding port_numbers
members-is set = refl

pub ports_text-none : members_text no_ports ≡ codes "-"
unfolding port_numbers
ports_text-none = refl

or_dash-some : (t : List ℕ) → 0 < length t → or_dash t ≡ t
or_dash-some [] some = absurd (omega arith)
or_dash-some (x ∷ xs) some = refl

no_digit : (t rest : List ℕ) → AllDigits 10 t → 0 < length t → codes "-" ≡ t ++ rest → ⊥
no_digit [] rest all some e = omega arith
no_digit (x ∷ xs) rest all some e =
    let same : 45 ≡ x = cc in
    let bad : digit_value 45 < 10 = subst (λ (c : ℕ). digit_value c < 10) (sym same) all.0 in
    absurd (omega (arith, bad))

-- the text of some members is not the dash
some_text : (set : PortSet) → (one : IsFirst (is_member set) 1 16) → (0 < length (members_above 0 set)) × (members_text set ≡ text_of (members_above 0 set)) × (codes "-" ≡ members_text set → ⊥)
some_text set one =
    let low = one.low in
    let high = one.high in
    let next : members_above 0 set ≡ one.place ∷ members_above one.place set = above_next set 0 one.place (omega arith) (omega arith) (λ j more less. one.none j (omega arith) (omega arith)) one.here in
    let size = ap length next in
    let text : text_of (members_above 0 set) ≡ decimal one.place ++ tail_text (members_above one.place set) = ap text_of next ∙ text_first one.place (members_above one.place set) in
    let digits : 0 < length (decimal one.place) = decimal_nonempty one.place (omega arith) in
    let long = ap length text in
    let sum = length-append (decimal one.place) (tail_text (members_above one.place set)) in
    let whole : members_text set ≡ text_of (members_above 0 set) = ap (λ (ns : List ℕ). or_dash (text_of ns)) (members-is set) ∙ or_dash-some (text_of (members_above 0 set)) (omega arith) in
    let numeral = (decimal_is_IsNumeral one.place (omega arith)).0 in
    (omega arith, whole, λ dash. no_digit (decimal one.place) (tail_text (members_above one.place set)) numeral.1 digits (dash ∙ whole ∙ text))

none_text : (set : PortSet) → ((j : ℕ) → 1 ≤ j → j < 1 + 16 → is_member set j ≡ false) → members_text set ≡ codes "-"
none_text set none = ap (λ (ns : List ℕ). or_dash (text_of ns)) (members-is set ∙ above_none set 0 (λ j low high. none j (omega arith) (omega arith)))

pub none_is : (j : ℕ) → is_member no_ports j ≡ false
none_is j = grind (arith, nat_tests)

pub dash_is : (set : PortSet) → set.0 < 2 ^ 16 → codes "-" ≡ members_text set → no_ports ≡ set
dash_is set small is =
    elim (first (is_member set) 16 1) [
      | inl none ↦ sets_same no_ports set (omega arith) small (λ j low high. none_is j ∙ sym (none j low (omega arith)))
      | inr one ↦ absurd ((some_text set one).2 is)
    ]

pub starts : (set : PortSet) (text : List ℕ) → set.0 < 2 ^ 16 → text ≡ members_text set → (text ≡ codes "-" → ⊥) → ListsMembersAbove 0 no_ports set text
starts set text small is other =
    elim (first (is_member set) 16 1) [
      | inl none ↦ absurd (other (is ∙ none_text set none))
      | inr one ↦ let some = some_text set one in record { same = λ n low high. absurd (omega arith); size = small; text_is = is ∙ some.1; some = some.0 }
    ]

pub finished : (set : PortSet) (text : List ℕ) → ListsMembersAbove 0 no_ports set text → (text ≡ members_text set) × (set.0 < 2 ^ 16)
finished set text goes =
    elim (first (is_member set) 16 1) [
      | inl none ↦
          let empty = ap length (above_none set 0 (λ j low high. none j (omega arith) (omega arith))) in
          let some = goes.some in
          absurd (omega arith)
      | inr one ↦ (goes.text_is ∙ sym (some_text set one).1, goes.size)
    ]

-- sets with the same text

pub tail_same : (ms ns : List ℕ) → tail_text ms ≡ tail_text ns → text_of ms ≡ text_of ns
tail_same [] [] e = refl
tail_same [] (n ∷ ns) e = cc
tail_same (m ∷ ms) [] e = cc
tail_same (m ∷ ms) (n ∷ ns) e = cc

-- the first member above a port, and how the text of those is cut behind it
above_cut : (last : ℕ) (set : PortSet) → ((j : ℕ) → last < j → j ≤ 16 → is_member set j ≡ false) ⊎ IsCut last set (text_of (members_above last set))
above_cut last set =
    elim (first (is_member set) (16 - last) (last + 1)) [
      | inl none ↦ inl (λ j low high. none j (omega arith) (omega arith))
      | inr one ↦
          let above = one.low in
          let below = one.high in
          let lower : last < one.place = omega arith in
          let upper : one.place ≤ 16 = omega arith in
          let none : (j : ℕ) → last < j → j < one.place → is_member set j ≡ false = λ j more less. one.none j (omega arith) (omega arith) in
          let parts = cut (text_of (members_above last set)) one.place (members_above one.place set) (omega (arith, upper)) (ap text_of (above_next set last one.place lower upper none one.here)) in
          inr (record { port = one.place; low = lower; high = upper; none = none; here = one.here; front = parts.0; rest = parts.1 })
    ]

no_cut : (last : ℕ) (set : PortSet) (text : List ℕ) → text ≡ [] → IsCut last set text → ⊥
no_cut last set [] is one =
    let high = one.high in
    let some : 0 < length (decimal one.port) = decimal_nonempty one.port (omega arith) in
    let front : [] ≡ decimal one.port = one.front in
    let size = ap length front in
    absurd (omega arith)
no_cut last set (x ∷ text) is one = cc

-- the member behind a cut, or a later one
behind_cut : (last : ℕ) (set : PortSet) (text : List ℕ) (one : IsCut last set text) (b : ℕ → Bool) → ((j : ℕ) → last < j → j < one.port → b j ≡ false) → b one.port ≡ true
    → ((j : ℕ) → one.port < j → j ≤ 16 → is_member set j ≡ b j) → (j : ℕ) → last < j → j ≤ 16 → is_member set j ≡ b j
behind_cut last set text one b none here more j low high =
    elim (cases_lt j one.port) [
      | inl below ↦ one.none j low below ∙ sym (none j low below)
      | inr above ↦
          elim (cases_eq j one.port) [
            | inl same ↦ ap (is_member set) same ∙ one.here ∙ sym (ap b same ∙ here)
            | inr other ↦ more j (omega arith) high
          ]
    ]

above_same : (fuel last : ℕ) (a b : PortSet) → 16 - last < fuel → text_of (members_above last a) ≡ text_of (members_above last b) → (j : ℕ) → last < j → j ≤ 16 → is_member a j ≡ is_member b j
above_same zero last a b enough same = absurd (omega arith)
above_same (suc fuel) last a b enough same =
    elim (above_cut last a) [
      | inl none ↦
          elim (above_cut last b) [
            | inl none' ↦ λ j low high. none j low high ∙ sym (none' j low high)
            | inr one ↦ absurd (no_cut last b (text_of (members_above last b)) (sym same ∙ ap text_of (above_none a last none)) one)
          ]
      | inr one ↦
          elim (above_cut last b) [
            | inl none ↦ absurd (no_cut last a (text_of (members_above last a)) (same ∙ ap text_of (above_none b last none)) one)
            | inr other ↦
                let low = one.low in
                let high = one.high in
                let high' = other.high in
                let fronts : decimal one.port ≡ decimal other.port = sym one.front ∙ ap (λ (t : List ℕ). take (comma_place t) t) same ∙ other.front in
                let port : one.port ≡ other.port = decimal_injective one.port other.port (omega arith) (omega arith) fronts in
                let rests : tail_text (members_above one.port a) ≡ tail_text (members_above other.port b) = sym one.rest ∙ ap (λ (t : List ℕ). drop (comma_place t) t) same ∙ other.rest in
                let tails : text_of (members_above one.port a) ≡ text_of (members_above one.port b) =
                tail_same (members_above one.port a) (members_above other.port b) rests ∙ ap (λ (k : ℕ). text_of (members_above k b)) (sym port) in
                behind_cut last a (text_of (members_above last a)) one (is_member b) (λ j more less. other.none j more (omega arith)) (ap (is_member b) port ∙ other.here) (above_same fuel one.port a b (omega arith) tails)
          ]
    ]

pub ports_by_text : (a b : PortSet) → a.0 < 2 ^ 16 → b.0 < 2 ^ 16 → members_text a ≡ members_text b → a ≡ b
ports_by_text a b p q same =
    elim (first (is_member a) 16 1) [
      | inl none ↦
          let dash : codes "-" ≡ members_text a = sym (none_text a none) in
          sym (dash_is a p dash) ∙ dash_is b q (dash ∙ same)
      | inr one ↦
          elim (first (is_member b) 16 1) [
            | inl none ↦ absurd ((some_text a one).2 (sym (none_text b none) ∙ sym same))
            | inr other ↦
                let text = sym (some_text a one).1 ∙ same ∙ (some_text b other).1 in
                sets_same a b p q (λ j low high. above_same 17 0 a b (omega arith) text j (omega arith) high)
          ]
    ]

-- a text and its cut

pub whole_text : (text front rest digits : List ℕ) (place : ℕ) → front ≡ take place text → rest ≡ drop place text → front ≡ digits → text ≡ digits ++ rest
whole_text text front rest digits place a b is = sym (take-append-drop place text) ∙ ap (λ (t : List ℕ). t ++ drop place text) (sym a ∙ is) ∙ ap (λ (t : List ℕ). digits ++ t) (sym b)

pub if_some : {A : Type 0} (o : Option A) (P Q : A → Type 0) → ((x : A) → P x → Q x) → IfSome o P → IfSome o Q
if_some None P Q f is = tt
if_some (Some x) P Q f is = f x is
