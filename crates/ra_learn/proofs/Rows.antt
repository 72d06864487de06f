-- The row of options that octets are, taken off the front one after the other, and the prefixes that it names.
use Rattle.std.proofs.Common.{◌≡◌, ℕ, zero, suc, ◌+◌, ◌-◌, ◌*◌, ◌<◌, ◌≤◌, nat_le, ◌&&◌, true, List, [], ◌∷◌, ◌++◌, length, get_or, take, drop, Option, Some, None, refl, sym, ◌∙◌, ap, arith, inl, inr, ◌⊎◌, append_assoc}
use Rattle.std.specs.Option.{option_map, option_to_list}
use Rattle.std.specs.List.{cons_option, flat_map}
use Rattle.std.proofs.lemmas.Bool.{cases_Bool, and_parts, and_from, leb-true, le-leb}
use Rattle.std.proofs.lemmas.List.{length-drop, length-append, take_at, drop_at}
use Rattle.std.proofs.lemmas.List.Elements.{All-head, All-tail}
use Rattle.nd_read.specs.Options.{NdOption, IsWhole, AreOptions, octets_of}
use Rattle.nd_read.specs.OptionRow.{front_option, with_nd_option, options_within, option_row}
use Rattle.ra_learn.specs.declared.advert.AdvertPrefix.{AdvertPrefix}
use Rattle.ra_learn.specs.PrefixOptions.{option_in, prefix_if_counts, counted_prefixes}

-- it doesn't matter how many options are allowed, where they are as many as octets
options_enough : (m n : ℕ) (xs : List ℕ) → length xs ≤ m → length xs ≤ n → options_within m xs ≡ options_within n xs
options_enough zero zero xs few small = refl
options_enough zero (suc n) [] few small = refl
options_enough zero (suc n) (x ∷ xs) few small = absurd (omega (arith, few))
options_enough (suc m) zero [] few small = refl
options_enough (suc m) zero (x ∷ xs) few small = absurd (omega (arith, small))
options_enough (suc m) (suc n) [] few small = refl
options_enough (suc m) (suc n) (kind ∷ []) few small = refl
options_enough (suc m) (suc n) (kind ∷ units ∷ tail) few small =
    elim (cases_Bool (nat_le 1 units && nat_le (8 * units) (2 + length tail))) [
      | inl fits ↦
          let some : 1 ≤ units = leb-true 1 units (and_parts (nat_le 1 units) (nat_le (8 * units) (2 + length tail)) fits).0 in
          let rest : List ℕ = drop (8 * units) (kind ∷ units ∷ tail) in
          let less : length rest ≡ length (kind ∷ units ∷ tail) - 8 * units = length-drop (8 * units) (kind ∷ units ∷ tail) in
          rw fits (ap (with_nd_option (front_option kind units tail)) (options_enough m n rest (omega (arith, less, some, few)) (omega (arith, less, some, small))))
      | inr stops ↦ rw stops refl
    ]

-- an option at the front of octets
option_at : (kind units : ℕ) (tail : List ℕ) → 1 ≤ units → option_in (take (8 * units) (kind ∷ units ∷ tail)) ≡ front_option kind units tail
option_at kind units tail some =
    let more : 8 * units ≡ suc (suc (8 * units - 2)) = omega (arith, some) in
    rw more (let back : suc (suc (8 * units - 2)) - 2 ≡ 8 * units - 2 = omega arith in rw (← more) (rw more refl))

pub row_step : (rest : List ℕ) → 2 ≤ length rest → 1 ≤ get_or rest 1 0 → 8 * get_or rest 1 0 ≤ length rest → option_row rest ≡ with_nd_option (option_in (take (8 * get_or rest 1 0) rest)) (option_row (drop (8 * get_or rest 1 0) rest))
row_step [] two some within = absurd (omega (arith, two))
row_step (kind ∷ []) two some within = absurd (omega (arith, two))
row_step (kind ∷ units ∷ tail) two some within =
    let rest : List ℕ = drop (8 * units) (kind ∷ units ∷ tail) in
    let fits : (nat_le 1 units && nat_le (8 * units) (2 + length tail)) ≡ true = and_from (nat_le 1 units) (nat_le (8 * units) (2 + length tail)) (le-leb 1 units some) (le-leb (8 * units) (2 + length tail) (omega (arith, within))) in
    let less : length rest ≡ length (kind ∷ units ∷ tail) - 8 * units = length-drop (8 * units) (kind ∷ units ∷ tail) in
    let row : options_within (suc (length tail)) rest ≡ option_row rest = options_enough (suc (length tail)) (length rest) rest (omega (arith, less, some)) (omega arith) in
    rw (fits, option_at kind units tail some) (ap (with_nd_option (front_option kind units tail)) row)

pub row_none : (rest : List ℕ) → 2 ≤ length rest → (get_or rest 1 0 ≡ 0) ⊎ (length rest < 8 * get_or rest 1 0) → option_row rest ≡ None
row_none [] two bad = absurd (omega (arith, two))
row_none (kind ∷ []) two bad = absurd (omega (arith, two))
row_none (kind ∷ units ∷ tail) two bad =
    elim (cases_Bool (nat_le 1 units && nat_le (8 * units) (2 + length tail))) [
      | inl fits ↦
          let parts : (nat_le 1 units ≡ true) × (nat_le (8 * units) (2 + length tail) ≡ true) = and_parts (nat_le 1 units) (nat_le (8 * units) (2 + length tail)) fits in
          elim bad [ inl none ↦ absurd (omega (arith, none, leb-true 1 units parts.0)) | inr long ↦ absurd (omega (arith, long, leb-true (8 * units) (2 + length tail) parts.1)) ]
      | inr stops ↦ rw stops refl
    ]

pub row_short : (rest : List ℕ) → length rest ≡ 1 → option_row rest ≡ None
row_short [] one = absurd (omega (arith, one))
row_short (x ∷ []) one = refl
row_short (x ∷ y ∷ rest) one = absurd (omega (arith, one))

pub row_end : (rest : List ℕ) → length rest ≡ 0 → option_row rest ≡ Some []
row_end [] none = refl
row_end (x ∷ rest) none = absurd (omega (arith, none))

pub append_none : (known : List AdvertPrefix) → known ++ [] ≡ known
append_none [] = refl
append_none (x ∷ xs) = ap (λ ys. x ∷ ys) (append_none xs)

in_front : (known : List AdvertPrefix) (first : Option AdvertPrefix) (others : List AdvertPrefix) → known ++ cons_option first others ≡ (known ++ option_to_list first) ++ others
in_front known None others = ap (λ front. front ++ others) (sym (append_none known))
in_front known (Some first) others = sym (append_assoc known (first ∷ []) others)

-- the prefixes of an option and of those behind it
pub prefixes_step : (known more : List AdvertPrefix) (option : NdOption) (row : Option (List NdOption)) → more ≡ known ++ option_to_list (prefix_if_counts option) → option_map (λ options. known ++ counted_prefixes options) (with_nd_option option row) ≡ option_map (λ options. more ++ counted_prefixes options) row
prefixes_step known more option None is = refl
prefixes_step known more option (Some options) is = rw is (ap Some (in_front known (prefix_if_counts option) (counted_prefixes options)))

-- the prefixes of some octets, where some are known and the rest begins with a whole option
pub prefixes_more : (octets rest : List ℕ) (known more : List AdvertPrefix) → option_map counted_prefixes (option_row octets) ≡ option_map (λ options. known ++ counted_prefixes options) (option_row rest) → 1 ≤ get_or rest 1 0 → 8 * get_or rest 1 0 ≤ length rest → more ≡ known ++ option_to_list (prefix_if_counts (option_in (take (8 * get_or rest 1 0) rest))) → option_map counted_prefixes (option_row octets) ≡ option_map (λ options. more ++ counted_prefixes options) (option_row (drop (8 * get_or rest 1 0) rest))
prefixes_more octets rest known more told some within is =
    told
    ∙ ap (option_map (λ options. known ++ counted_prefixes options)) (row_step rest (omega (arith, some, within)) some within)
    ∙ prefixes_step known more (option_in (take (8 * get_or rest 1 0) rest)) (option_row (drop (8 * get_or rest 1 0) rest)) is

none_of : (o : Option (List NdOption)) → option_map counted_prefixes o ≡ None → o ≡ None
none_of None is = refl
none_of (Some options) is = cc

-- octets whose rest is no row of options are none either
pub rows_none : (octets rest : List ℕ) (known : List AdvertPrefix) → option_map counted_prefixes (option_row octets) ≡ option_map (λ options. known ++ counted_prefixes options) (option_row rest) → option_row rest ≡ None → option_row octets ≡ None
rows_none octets rest known told none = none_of (option_row octets) (told ∙ ap (option_map (λ options. known ++ counted_prefixes options)) none)

-- octets are one row of whole options at most
pub row_same : (octets : List ℕ) (a b : List NdOption) → AreOptions octets a → AreOptions octets b → b ≡ a
row_same octets [] [] p q = refl
row_same octets [] (r ∷ rs) p q =
    let e : length (octets_of r ++ flat_map octets_of rs) ≡ 0 = ap length (sym q.row ∙ p.row) in
    absurd (omega (arith, e, length-append (octets_of r) (flat_map octets_of rs)))
row_same octets (o ∷ os) [] p q =
    let e : length (octets_of o ++ flat_map octets_of os) ≡ 0 = ap length (sym p.row ∙ q.row) in
    absurd (omega (arith, e, length-append (octets_of o) (flat_map octets_of os)))
row_same octets (o ∷ os) (r ∷ rs) p q =
    let both : octets_of o ++ flat_map octets_of os ≡ octets_of r ++ flat_map octets_of rs = sym p.row ∙ q.row in
    let units : o.units ≡ r.units = ap (λ (l : List ℕ). get_or l 1 0) both in
    let whole = All-head IsWhole o os p.whole in
    let whole' = All-head IsWhole r rs q.whole in
    let len : length (octets_of o) ≡ 8 * o.units = omega (arith, whole.long) in
    let len' : length (octets_of r) ≡ 8 * o.units = omega (arith, whole'.long, units) in
    let front : octets_of r ≡ octets_of o = sym (take_at (octets_of r) (flat_map octets_of rs) (8 * o.units) len') ∙ ap (take (8 * o.units)) (sym both) ∙ take_at (octets_of o) (flat_map octets_of os) (8 * o.units) len in
    let rest : flat_map octets_of rs ≡ flat_map octets_of os = sym (drop_at (octets_of r) (flat_map octets_of rs) (8 * o.units) len') ∙ ap (drop (8 * o.units)) (sym both) ∙ drop_at (octets_of o) (flat_map octets_of os) (8 * o.units) len in
    let first : r ≡ o = ap (λ (l : List ℕ). let one : NdOption = record { kind = get_or l 0 0; units = get_or l 1 0; content = drop 2 l } in one) front in
    let others : rs ≡ os = row_same (flat_map octets_of os) os rs (record { whole = All-tail IsWhole o os p.whole; row = refl }) (record { whole = All-tail IsWhole r rs q.whole; row = sym rest }) in
    rw (first, others) refl
