-- What was taken for a line, as what a reader answers.
use Rattle.std.proofs.Common.{ℕ, ◌≡◌, ◌≢◌, ◌+◌, ◌^◌, ◌<◌, ◌≤◌, Bool, true, List, [], ◌∷◌, ◌++◌, Option, length, take, ◌⊎◌, inl, inr, refl, sym, ap, ◌∙◌, subst, arith, append_assoc, append-nil, length-append}
use Rattle.std.proofs.lemmas.List.{take_at}
use Rattle.savi_kinds.specs.declared.entry.How.TheVariants as how
use Rattle.savi_ends.specs.Octets.{NothingLeft}
use Rattle.cli_lang.specs.declared.reader.State.{State as Kept}
use Rattle.cli_lang.specs.declared.reader.State.TheVariants as kept
use Rattle.cli_lang.specs.Arrivals.{Line, HasNoFeed, Says, IsLong, BeginsBadLine, IsRun}
use Rattle.cli_lang.specs.Readers.{State, Running, Ended, HasRead, HasReadOne, HasEnded, longest_piece, only, Comes}
use Rattle.cli_lang.specs.ReaderStates.{state_of}

-- a reader that is ready for a line holds the octets that it has ahead
pub running_is : (kept : Kept) (ahead held : List ℕ) (place : ℕ) (old : State) → state_of kept ahead ≡ old → old ≡ Running place held → Running place ahead ≡ old
running_is (kept.Running at) ahead held place old view is =
    let both : Running at ahead ≡ Running place held = view ∙ is in
    let same : at ≡ place = cc in
    subst (λ (p : ℕ). Running p ahead ≡ old) same view
running_is kept.End ahead held place old view is = let both : Ended how.End ≡ Running place held = view ∙ is in cc
running_is (kept.Malformed at) ahead held place old view is = let both : Ended (how.Malformed at) ≡ Running place held = view ∙ is in cc
running_is (kept.Overlong at) ahead held place old view is = let both : Ended (how.Overlong at) ≡ Running place held = view ∙ is in cc
running_is kept.Failed ahead held place old view is = let both : Ended how.Failed ≡ Running place held = view ∙ is in cc

-- and is so with what it holds then
pub still_running : (kept : Kept) (ahead held : List ℕ) (place : ℕ) (old : State) → state_of kept ahead ≡ old → old ≡ Running place held → (now : List ℕ) → state_of kept now ≡ Running place now
still_running (kept.Running at) ahead held place old view is now =
    let both : Running at ahead ≡ Running place held = view ∙ is in
    let same : at ≡ place = cc in
    ap (λ (p : ℕ). Running p now) same
still_running kept.End ahead held place old view is now = let both : Ended how.End ≡ Running place held = view ∙ is in cc
still_running (kept.Malformed at) ahead held place old view is now = let both : Ended (how.Malformed at) ≡ Running place held = view ∙ is in cc
still_running (kept.Overlong at) ahead held place old view is now = let both : Ended (how.Overlong at) ≡ Running place held = view ∙ is in cc
still_running kept.Failed ahead held place old view is now = let both : Ended how.Failed ≡ Running place held = view ∙ is in cc

-- what was held and taken, with what is behind it
with_rest : (held gave front now rest : List ℕ) → held ++ gave ≡ front ++ now → held ++ (gave ++ rest) ≡ front ++ (now ++ rest)
with_rest held gave front now rest octets =
    sym (append_assoc held gave rest) ∙ ap (λ (l : List ℕ). l ++ rest) octets ∙ append_assoc front now rest

feed_apart : (octets text now : List ℕ) → octets ≡ text ++ (10 ∷ now) → octets ≡ (text ++ (10 ∷ [])) ++ now
feed_apart octets text now is = is ∙ sym (append_assoc text (10 ∷ []) now)

-- a line with its line feed
pub whole_read : (live : Bool) (place n : ℕ) (held gave now text : List ℕ) (left : Option (List ℕ)) (line : Line) (old : State) → Running place held ≡ old → HasNoFeed text → length text ≤ 120 → length text ≡ n → held ++ gave ≡ text ++ (10 ∷ now) → Says live text line → place + n + 1 ≤ 2 ^ 62 → HasReadOne live old (Running (place + n + 1) now) gave left line
whole_read live place n held gave now text left line old is apart short size octets says placed =
    let front = text ++ (10 ∷ []) in
    let len : length front ≡ n + 1 = omega (arith, size, length-append text (10 ∷ [])) in
    let next : place + n + 1 ≡ place + length front = omega (arith, len) in
    let read : HasRead live (Running place held) (Running (place + n + 1) now) gave (line ∷ []) = λ seen rest later ending comes. (
      front,
      now ++ rest,
      with_rest held gave front now rest (feed_apart _ text now octets),
      (text, record { apart = apart; short = short; whole = inl refl }, says, omega (arith, next, placed)),
      subst (λ (k : ℕ). IsRun live seen k later ending (now ++ rest)) next comes,
    ) in
    subst (λ (s : State). HasReadOne live s (Running (place + n + 1) now) gave left line) is (inl ((place + n + 1, now, refl), read, omega (arith, size, ap length octets, length-append held gave, length-append text (10 ∷ now))))

-- the same line, where it ends too late or says nothing
pub whole_bad : (live : Bool) (place n : ℕ) (held gave now text : List ℕ) (left : Option (List ℕ)) (old new : State) → Running place held ≡ old → new ≡ Ended (how.Malformed place) → HasNoFeed text → length text ≤ 120 → length text ≡ n → held ++ gave ≡ text ++ (10 ∷ now) → length now ≤ longest_piece → (2 ^ 62 < place + n + 1) ⊎ ((line : Line) → ¬ Says live text line) → HasEnded live old new gave left (how.Malformed place)
whole_bad live place n held gave now text left old new is state apart short size octets few bad =
    let front = text ++ (10 ∷ []) in
    let len : length front ≡ n + 1 = omega (arith, size, length-append text (10 ∷ [])) in
    let why : (2 ^ 62 < place + length front) ⊎ ((line : Line) → ¬ Says live text line) = elim bad [ inl past ↦ inl (omega (arith, past, len)) | inr none ↦ inr none ] in
    let begins : (seen : Bool) (rest : List ℕ) → BeginsBadLine live seen place (held ++ (gave ++ rest)) = λ seen rest. record {
      text = text;
      front = front;
      rest = now ++ rest;
      split = with_rest held gave front now rest (feed_apart _ text now octets);
      line = record { apart = apart; short = short; whole = inl refl };
      bad = why;
    } in
    subst (λ (s : State). HasEnded live s new gave left (how.Malformed place)) is (
      state,
      inl (λ seen rest. (refl, inr (begins seen rest))),
      λ at fault. omega (arith, fault, short, few, ap length octets, length-append held gave, length-append text (10 ∷ now)),
    )

some_text : (text : List ℕ) (n : ℕ) → length text ≡ n → n ≢ 0 → text ≢ []
some_text text n size some none = some (sym size ∙ ap length none)

-- the last line, without a line feed
pub last_read : (live : Bool) (place n : ℕ) (held gave text : List ℕ) (left : Option (List ℕ)) (line : Line) (old : State) → Running place held ≡ old → HasNoFeed text → length text ≤ 120 → length text ≡ n → n ≢ 0 → held ++ gave ≡ text → NothingLeft left → Says live text line → place + n ≤ 2 ^ 62 → HasReadOne live old (Ended how.End) gave left line
last_read live place n held gave text left line old is apart short size some octets nothing says placed =
    let comes : Comes live true (Running place held) gave (only line) = (
      text,
      [],
      octets ∙ sym (append-nil text),
      (text, record { apart = apart; short = short; whole = inr (refl, some_text text n size some, refl, refl) }, says, omega (arith, size, placed)),
      (refl, refl),
    ) in
    subst (λ (s : State). HasReadOne live s (Ended how.End) gave left line) is (inr (refl, nothing, comes))

pub last_bad : (live : Bool) (place n : ℕ) (held gave text : List ℕ) (left : Option (List ℕ)) (old new : State) → Running place held ≡ old → new ≡ Ended (how.Malformed place) → HasNoFeed text → length text ≤ 120 → length text ≡ n → n ≢ 0 → held ++ gave ≡ text → NothingLeft left → (2 ^ 62 < place + n) ⊎ ((line : Line) → ¬ Says live text line) → HasEnded live old new gave left (how.Malformed place)
last_bad live place n held gave text left old new is state apart short size some octets nothing bad =
    let why : (2 ^ 62 < place + length text) ⊎ ((line : Line) → ¬ Says live text line) = elim bad [ inl past ↦ inl (omega (arith, past, size)) | inr none ↦ inr none ] in
    let begins : BeginsBadLine live true place (held ++ gave) = record {
      text = text;
      front = text;
      rest = [];
      split = octets ∙ sym (append-nil text);
      line = record { apart = apart; short = short; whole = inr (refl, some_text text n size some, refl, refl) };
      bad = why;
    } in
    subst (λ (s : State). HasEnded live s new gave left (how.Malformed place)) is (
      state,
      inr (nothing, (refl, inr begins)),
      λ at fault. omega (arith, fault, short, ap length octets, length-append held gave),
    )

-- a line of more than 120 octets
long_is : (held gave now front : List ℕ) → length front ≡ 121 → HasNoFeed front → held ++ gave ≡ front ++ now → (rest : List ℕ) → IsLong (held ++ (gave ++ rest))
long_is held gave now front size apart octets rest =
    let split = with_rest held gave front now rest octets in
    let first : take 121 (held ++ (gave ++ rest)) ≡ front = ap (take 121) split ∙ take_at front (now ++ rest) 121 size in
    record { enough = omega (arith, ap length split, length-append front (now ++ rest), size); apart = subst HasNoFeed (sym first) apart }

pub long_bad : (live : Bool) (place : ℕ) (held gave now front : List ℕ) (left : Option (List ℕ)) (old new : State) → Running place held ≡ old → new ≡ Ended (how.Malformed place) → length front ≡ 121 → HasNoFeed front → held ++ gave ≡ front ++ now → length now ≤ longest_piece → 2 ^ 62 < place + 121 → HasEnded live old new gave left (how.Malformed place)
long_bad live place held gave now front left old new is state size apart octets few past =
    subst (λ (s : State). HasEnded live s new gave left (how.Malformed place)) is (
      state,
      inl (λ seen rest. (refl, inl (long_is held gave now front size apart octets rest, past))),
      λ at fault. omega (arith, fault, size, few, ap length octets, length-append held gave, length-append front now),
    )

pub long_read : (live : Bool) (place : ℕ) (held gave now front : List ℕ) (left : Option (List ℕ)) (old new : State) → Running place held ≡ old → new ≡ Ended (how.Overlong place) → length front ≡ 121 → HasNoFeed front → held ++ gave ≡ front ++ now → length now ≤ longest_piece → place + 121 ≤ 2 ^ 62 → HasEnded live old new gave left (how.Overlong place)
long_read live place held gave now front left old new is state size apart octets few within =
    subst (λ (s : State). HasEnded live s new gave left (how.Overlong place)) is (
      state,
      inl (λ seen rest. (refl, long_is held gave now front size apart octets rest, within)),
      λ at fault. omega (arith, fault, size, few, ap length octets, length-append held gave, length-append front now),
    )
