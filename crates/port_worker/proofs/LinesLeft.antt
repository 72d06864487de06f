-- A reader of lines gets on with each line: none is read past place 2^62.
use Rattle.std.proofs.Common.{◌≡◌, ◌≢◌, ◌≤◌, ◌<◌, ◌+◌, ◌*◌, ◌-◌, ◌^◌, ℕ, Bool, true, false, List, [], ◌∷◌, ◌++◌, length, replicate, refl, sym, ap, ◌∙◌, subst, arith, inl, inr, length-append, decimal, Option}
use Rattle.std.specs.Prelude.{IsTrue}
use Rattle.std.proofs.lemmas.List.{length-replicate}
use Rattle.std.proofs.lemmas.List.Elements.{All-head, All-replicate, All-tail}
use Rattle.savi_kinds.specs.declared.entry.How.{How}
use Rattle.savi_kinds.specs.declared.entry.How.TheVariants as hows
use Rattle.savi_kinds.specs.Characters.{line_feed, space}
use Rattle.cli_lang.specs.Arrivals.{EndsAs, HasNoFeed, Input, IsLine, IsRun, Line, Says}
use Rattle.cli_lang.specs.Readers.{State, Running, Ended, Comes, HasReadOne, IsFaultAt, ended}
use Rattle.cli_lang.proofs.Existence.{some_later}

-- how many lines more a reader may give, each of which has an octet
abbrev pub lines_left : State → ℕ
lines_left (Running place held) = 2 ^ 62 + 1 - place
lines_left (Ended ending) = 0

-- octets without a line feed hold no line
no_feed : (text xs rest : List ℕ) → HasNoFeed xs → xs ≡ (text ++ line_feed ∷ []) ++ rest → ⊥
no_feed [] [] rest none is = cc
no_feed [] (y ∷ ys) rest none is = let same : y ≡ line_feed = cc in All-head (λ (c : ℕ). c ≢ line_feed) y ys none same
no_feed (t ∷ ts) [] rest none is = cc
no_feed (t ∷ ts) (y ∷ ys) rest none is =
    let same : ys ≡ (ts ++ line_feed ∷ []) ++ rest = cc in
    no_feed ts ys rest (All-tail (λ (c : ℕ). c ≢ line_feed) y ys none) same

-- a line in front of them stands in what is in front of them
feed_inside : (text octets xs rest : List ℕ) → HasNoFeed xs → octets ++ xs ≡ (text ++ line_feed ∷ []) ++ rest → (behind : List ℕ) × (rest ≡ behind ++ xs)
feed_inside text [] xs rest none is = absurd (no_feed text xs rest none is)
feed_inside [] (o ∷ octets) xs rest none is = let same : rest ≡ octets ++ xs = cc in (octets, same)
feed_inside (t ∷ ts) (o ∷ octets) xs rest none is =
    let same : octets ++ xs ≡ (ts ++ line_feed ∷ []) ++ rest = cc in
    feed_inside ts octets xs rest none same

-- a line that is read before the end is seen has a line feed
ends_in_feed : (text first rest : List ℕ) → IsLine false text first rest → first ≡ text ++ line_feed ∷ []
ends_in_feed text first rest line = elim line.whole [
  | inl fed ↦ fed
  | inr last ↦ let never : IsTrue false = last.0 in absurd (never_true never)
]
  where
    never_true : IsTrue false → ⊥
    never_true is = cc

-- Behind enough octets without a line feed a run ends at a fault.
fault_end : (place : ℕ) (ending : How) (octets : List ℕ) → 121 ≤ length octets → EndsAs false false place ending octets → (at : ℕ) × IsFaultAt ending at
fault_end place hows.End octets long ends = let never : IsTrue false = ends.0 in cc
fault_end place hows.Quit octets long ends = absurd ends
fault_end place (hows.Malformed at) octets long ends = (at, refl)
fault_end place (hows.Overlong at) octets long ends = (at, refl)
fault_end place hows.Failed octets long ends = let few = ends.2 in absurd (omega (arith, few, long))
fault_end place hows.Unwritten octets long ends = absurd ends
fault_end place hows.Paused octets long ends = absurd ends

faulty : (lines : List Line) (place : ℕ) (ending : How) (octets xs : List ℕ) → HasNoFeed xs → 121 ≤ length xs → IsRun false false place lines ending (octets ++ xs) → (at : ℕ) × IsFaultAt ending at
faulty [] place ending octets xs none long run = let size = length-append octets xs in fault_end place ending (octets ++ xs) (omega (arith, size, long)) run
faulty (line ∷ lines) place ending octets xs none long run =
    let fed = ends_in_feed run.3.0 run.0 run.1 run.3.1 in
    let behind = feed_inside run.3.0 octets xs run.1 none (run.2 ∙ ap (λ (l : List ℕ). l ++ run.1) fed) in
    faulty lines (place + length run.0) ending behind.0 xs none long (subst (λ (l : List ℕ). IsRun false false (place + length run.0) lines ending l) behind.1 run.4)

-- the octets of a line with its line feed
abbrev size_of : Line → ℕ
size_of line = length (decimal line.stamp ++ (space ∷ line.command)) + 1

abbrev total : List Line → ℕ
total [] = 0
total (line ∷ lines) = size_of line + total lines

first_size : (text first rest : List ℕ) (line : Line) → IsLine false text first rest → Says false text line → length first ≡ size_of line
first_size text first rest line is says =
    ap (λ (l : List ℕ). length l) (ends_in_feed text first rest is) ∙ length-append text (line_feed ∷ []) ∙ ap (λ (l : List ℕ). length l + 1) says.0

-- the fault stands behind the lines
fault_at : (place : ℕ) (ending : How) (octets : List ℕ) (at : ℕ) → EndsAs false false place ending octets → IsFaultAt ending at → at ≡ place
fault_at place hows.End octets at ends fault = absurd fault
fault_at place hows.Quit octets at ends fault = absurd fault
fault_at place (hows.Malformed here) octets at ends fault = sym fault ∙ ends.0
fault_at place (hows.Overlong here) octets at ends fault = sym fault ∙ ends.0
fault_at place hows.Failed octets at ends fault = absurd fault
fault_at place hows.Unwritten octets at ends fault = absurd fault
fault_at place hows.Paused octets at ends fault = absurd fault

fault_place : (lines : List Line) (place : ℕ) (ending : How) (octets : List ℕ) (at : ℕ) → IsRun false false place lines ending octets → IsFaultAt ending at → at ≡ place + total lines
fault_place [] place ending octets at run fault = let here = fault_at place ending octets at run fault in omega (arith, here)
fault_place (line ∷ lines) place ending octets at run fault =
    let there = fault_place lines (place + length run.0) ending run.1 at run.4 fault in
    let size = first_size run.3.0 run.0 run.1 line run.3.1 run.3.2 in
    omega (arith, there, size)

-- some octets without a line feed, more than a line may have
filler : List ℕ
filler = replicate 121 120

filler_none : HasNoFeed filler
unfolding filler
filler_none = All-replicate (λ (c : ℕ). c ≢ line_feed) 121 120 (λ same. absurd (omega (arith, same)))

filler_long : 121 ≤ length filler
unfolding filler
filler_long = let size = length-replicate {A = ℕ} 121 120 in omega (arith, size)

no_lines : (line : Line) (lines : List Line) (ending how : How) → record { arrivals = line ∷ lines; ending = ending } ≡ ended how → ⊥
no_lines line lines ending how same = let e = ap (λ (i : Input). i.arrivals) same in cc

-- behind a line that was read the reader stands where that ends
read_place : (place here : ℕ) (held held_here gave : List ℕ) (line : Line)
    → ((seen : Bool) (rest : List ℕ) (later : List Line) (ending : How) → IsRun false seen here later ending (held_here ++ rest) → IsRun false seen place (line ∷ later) ending (held ++ (gave ++ rest)))
    → (place < here) × (here ≤ 2 ^ 62)
read_place place here held held_here gave line reads =
    let later = some_later false false here (held_here ++ filler) in
    let fault = faulty later.0 here later.1 held_here filler filler_none filler_long later.2 in
    let run = reads false filler later.0 later.1 later.2 in
    let one = fault_place later.0 here later.1 (held_here ++ filler) fault.0 later.2 fault.1 in
    let other = fault_place later.0 (place + length run.0) later.1 run.1 fault.0 run.4 fault.1 in
    let size = first_size run.3.0 run.0 run.1 line run.3.1 run.3.2 in
    let within = run.3.3 in
    let some : 1 ≤ length run.0 = omega (arith, size) in
    (omega (arith, one, other, some), omega (arith, one, other, within))

-- so it has less left
pub line_less : (old new : State) (gave : List ℕ) (left : Option (List ℕ)) (line : Line) → HasReadOne false old new gave left line → 2 * lines_left new + 2 ≤ 2 * lines_left old + 1
line_less (Running place held) new gave left line (inl one) =
    let there = read_place place one.0.0 held one.0.1 gave line (λ seen rest later ending run. one.1 seen rest later ending (subst (λ (s : State). Comes false seen s rest (record { arrivals = later; ending = ending })) (sym one.0.2) run)) in
    let now : lines_left new ≡ 2 ^ 62 + 1 - one.0.0 = ap lines_left one.0.2 in
    let less = there.0 in
    let within = there.1 in
    omega (arith, now, less, within)
line_less (Running place held) new gave left line (inr last) =
    let run : IsRun false true place (line ∷ []) hows.End (held ++ gave) = last.2 in
    let within = run.3.3 in
    let now : lines_left new ≡ 0 = ap lines_left last.0 in
    omega (arith, now, within)
line_less (Ended ending) new gave left line (inl one) =
    let later = some_later false true one.0.0 (one.0.1 ++ []) in
    absurd (no_lines line later.0 later.1 ending (one.1 true [] later.0 later.1 (subst (λ (s : State). Comes false true s [] (record { arrivals = later.0; ending = later.1 })) (sym one.0.2) later.2)))
line_less (Ended ending) new gave left line (inr last) = absurd (no_lines line [] hows.End ending last.2)
