-- Every list of octets is some control input.
use Rattle.std.proofs.Common.{ℕ, zero, suc, ◌≡◌, ◌≢◌, ◌+◌, ◌^◌, ◌<◌, ◌≤◌, Bool, true, false, List, [], ◌∷◌, ◌++◌, length, take, decimal, ◌⊎◌, inl, inr, refl, sym, ap, subst, ◌∙◌, arith, append-nil, append_assoc, length-append}
use Rattle.std.proofs.lemmas.Bool.{cases_eq, cases_lt}
use Rattle.std.proofs.lemmas.Fmt.{decimal_is_IsNumeral}
use Rattle.std.proofs.lemmas.List.{take-append-le}
use Rattle.std.proofs.lemmas.Slice.Eq.{bytes_eq-Decides}
use Rattle.std.specs.Str.{bytes_eq}
use Rattle.std.specs.Str.Parse.{digits_value}
use Rattle.savi_kinds.specs.declared.entry.How.{How}
use Rattle.savi_kinds.specs.declared.entry.How.TheVariants as how
use Rattle.cli_lang.specs.Arrivals.{Line, Input, HasNoFeed, Says, IsLine, IsLong, IsRun, EndsAs, Arrive, stamped_by}
use Rattle.cli_lang.proofs.WordsFound.{word_or_words}
use Rattle.cli_lang.proofs.TextSays.{one_word_says, no_stamp_says, stamp_says}

-- a list of octets with no line feed in it, or with a first one
no_feed_cons : (c : ℕ) (text : List ℕ) → c ≢ 10 → HasNoFeed text → HasNoFeed (c ∷ text)
no_feed_cons c text other apart zero d inside = other
no_feed_cons c text other apart (suc k) d inside = apart k d (omega arith)

no_feed_none : HasNoFeed []
no_feed_none k d inside = absurd (omega arith)

record FirstFeed (octets : List ℕ) : Type 0 where
  text : List ℕ
  rest : List ℕ
  apart : HasNoFeed text
  split : octets ≡ text ++ (10 ∷ rest)

first_feed : (octets : List ℕ) → FirstFeed octets ⊎ HasNoFeed octets
first_feed [] = inr no_feed_none
first_feed (c ∷ octets) =
    elim (cases_eq c 10) [
      | inl feed ↦ inl (record { text = []; rest = octets; apart = no_feed_none; split = ap (λ (b : ℕ). b ∷ octets) feed })
      | inr other ↦ elim (first_feed octets) [
        | inl found ↦ inl (record { text = c ∷ found.text; rest = found.rest; apart = no_feed_cons c found.text other found.apart; split = ap (λ (l : List ℕ). c ∷ l) found.split })
        | inr apart ↦ inr (no_feed_cons c octets other apart)
      ]
    ]

no_feed_take : (n : ℕ) (text : List ℕ) → HasNoFeed text → HasNoFeed (take n text)
no_feed_take zero text apart = no_feed_none
no_feed_take (suc n) [] apart = no_feed_none
no_feed_take (suc n) (c ∷ text) apart = no_feed_cons c (take n text) (apart zero c (omega arith)) (no_feed_take n text (λ k d inside. apart (suc k) d (omega arith)))

long_front : (octets text tail : List ℕ) → octets ≡ text ++ tail → HasNoFeed text → 120 < length text → IsLong octets
long_front octets text tail split apart long =
    let front : take 121 octets ≡ take 121 text = ap (take 121) split ∙ take-append-le 121 text tail (omega arith) in
    record { enough = omega (arith, ap length split, length-append text tail); apart = subst HasNoFeed (sym front) (no_feed_take 121 text apart) }

-- a text is a stamp or none
stamp_or_not : (text : List ℕ) → ((n : ℕ) × (text ≡ decimal n) × (n < 2 ^ 64)) ⊎ ((n : ℕ) → n < 2 ^ 64 → text ≢ decimal n)
stamp_or_not text =
    let m = digits_value 10 text in
    elim (cases_lt m (2 ^ 64)) [
      | inr great ↦ inr (λ n small is. omega (arith, great, small, value n small is))
      | inl small ↦ by_test (bytes_eq text (decimal m)) refl small
    ]
  where
    value : (n : ℕ) → n < 2 ^ 64 → text ≡ decimal n → digits_value 10 text ≡ n
    value n small is = ap (digits_value 10) is ∙ (decimal_is_IsNumeral n small).1

    by_test : (b : Bool) → bytes_eq text (decimal (digits_value 10 text)) ≡ b → digits_value 10 text < 2 ^ 64 → ((n : ℕ) × (text ≡ decimal n) × (n < 2 ^ 64)) ⊎ ((n : ℕ) → n < 2 ^ 64 → text ≢ decimal n)
    by_test true test small = inl (digits_value 10 text, (bytes_eq-Decides text (decimal (digits_value 10 text))).0 test, small)
    by_test false test small = inr (λ n bound is.
        let same : text ≡ decimal (digits_value 10 text) = is ∙ ap decimal (sym (value n bound is)) in
        let set : bytes_eq text (decimal (digits_value 10 text)) ≡ true = (bytes_eq-Decides text (decimal (digits_value 10 text))).1 same in
        cc)

-- what the text of a line says; the stamp of a live one is free
record Said (live : Bool) (text : List ℕ) : Type 0 where
  line : Line
  says : Says live text line

said_or_not : (live : Bool) (text : List ℕ) → Said live text ⊎ ((line : Line) → ¬ Says live text line)
said_or_not true text = inl (record { line = record { stamp = 0; command = text }; says = refl })
said_or_not false text =
    elim (word_or_words text) [
      | inl one ↦ inr (one_word_says false text refl one)
      | inr two ↦ elim (stamp_or_not two.0) [
        | inr none ↦ inr (no_stamp_says false text two.0 two.1 refl two.2 none)
        | inl stamp ↦ inl (record { line = record { stamp = stamp.0; command = two.1 }; says = stamp_says false text two.0 two.1 two.1 stamp.0 refl two.2 stamp.1 stamp.2 refl })
      ]
    ]

-- what is left at a place is some run
record Later (live seen : Bool) (place : ℕ) (octets : List ℕ) : Type 0 where
  lines : List Line
  ending : How
  run : IsRun live seen place lines ending octets

no_line : (live seen : Bool) (place : ℕ) (octets : List ℕ) (ending : How) → EndsAs live seen place ending octets → Later live seen place octets
no_line live seen place octets ending ends = record { lines = []; ending = ending; run = ends }

one_line : (live seen : Bool) (place : ℕ) (octets text front rest : List ℕ) → octets ≡ front ++ rest → IsLine seen text front rest → Later live seen (place + length front) rest → Later live seen place octets
one_line live seen place octets text front rest split line later =
    elim (cases_lt (2 ^ 62) (place + length front)) [
      | inl past ↦ no_line live seen place octets (how.Malformed place) (refl, inr (record { text = text; front = front; rest = rest; split = split; line = line; bad = inl past }))
      | inr within ↦ elim (said_or_not live text) [
        | inr none ↦ no_line live seen place octets (how.Malformed place) (refl, inr (record { text = text; front = front; rest = rest; split = split; line = line; bad = inr none }))
        | inl said ↦ record {
          lines = said.line ∷ later.lines;
          ending = later.ending;
          run = (front, rest, split, (text, line, said.says, within), later.run);
        }
      ]
    ]

long_line : (live seen : Bool) (place : ℕ) (octets : List ℕ) → IsLong octets → Later live seen place octets
long_line live seen place octets long =
    elim (cases_lt (2 ^ 62) (place + 121)) [
      | inl past ↦ no_line live seen place octets (how.Malformed place) (refl, inl (long, past))
      | inr within ↦ no_line live seen place octets (how.Overlong place) (refl, long, within)
    ]

-- what is left has no line feed
last_line : (live seen : Bool) (place : ℕ) (octets : List ℕ) → HasNoFeed octets → length octets ≤ 120 → Later live seen place octets
last_line live false place octets apart short = no_line live false place octets how.Failed (refl, apart, short)
last_line live true place [] apart short = no_line live true place [] how.End (refl, refl)
last_line live true place (c ∷ octets) apart short =
    let text = c ∷ octets in
    one_line live true place text text text [] (sym (append-nil text)) (record { apart = apart; short = short; whole = inr (refl, (λ none. absurd (omega (arith, ap length none))), refl, refl) })
    (no_line live true (place + length text) [] how.End (refl, refl))

some_run : (most : ℕ) (live seen : Bool) (place : ℕ) (octets : List ℕ) → length octets ≤ most → Later live seen place octets
some_run zero live seen place octets within = last_line live seen place octets (λ k d inside. absurd (omega arith)) (omega arith)
some_run (suc most) live seen place octets within =
    elim (first_feed octets) [
      | inr apart ↦ elim (cases_lt 120 (length octets)) [
        | inl long ↦ long_line live seen place octets (long_front octets octets [] (sym (append-nil octets)) apart long)
        | inr short ↦ last_line live seen place octets apart short
      ]
      | inl found ↦ elim (cases_lt 120 (length found.text)) [
        | inl long ↦ long_line live seen place octets (long_front octets found.text (10 ∷ found.rest) found.split found.apart long)
        | inr short ↦
            let front = found.text ++ (10 ∷ []) in
            one_line live seen place octets found.text front found.rest
            (found.split ∙ sym (append_assoc found.text (10 ∷ []) found.rest))
            (record { apart = found.apart; short = short; whole = inl refl })
            (some_run most live seen (place + length front) found.rest (omega (arith, within, ap length found.split, length-append found.text (10 ∷ found.rest))))
      ]
    ]

pub some_later : (live seen : Bool) (place : ℕ) (octets : List ℕ) → (lines : List Line) × (ending : How) × IsRun live seen place lines ending octets
some_later live seen place octets =
    let later = some_run (length octets) live seen place octets (omega arith) in
    (later.lines, later.ending, later.run)

pub some_input : (live seen : Bool) (readings octets : List ℕ) → (input : Input) × Arrive live seen readings octets input
some_input live seen readings octets =
    let later = some_later live seen 0 octets in
    (record { arrivals = stamped_by live readings later.0; ending = later.1 }, record { whole = later.0; run = later.2; stamps = refl })
