-- No list of octets is two inputs.
use Rattle.std.proofs.Common.{lit<, ◌≡◌, ℕ, ◌+◌, ◌^◌, ◌<◌, ◌≤◌, Bool, true, false, IsTrue, ◌⊎◌, List, [], ◌∷◌, ◌++◌, length, take, drop, get_or, inl, inr, refl, sym, ap, subst, ◌∙◌, arith, append_assoc, length-append}
use Rattle.std.proofs.lemmas.List.{length-take, take-append-le, drop-append-le}
use Rattle.std.specs.Int.{w32}
use Rattle.savi_kinds.specs.declared.entry.How.{How}
use Rattle.savi_kinds.specs.declared.entry.How.TheVariants as how
use Rattle.savi_kinds.specs.Arrivals.{Arrival, Frame, Long, Input}
use Rattle.pcap_io.specs.declared.kind.ByteOrder.{ByteOrder}
use Rattle.pcap_io.specs.declared.kind.ByteOrder.TheVariants.{Little, Big}
use Rattle.pcap_io.specs.declared.kind.TimeUnit.{TimeUnit}
use Rattle.pcap_io.specs.declared.kind.TimeUnit.TheVariants.{Microseconds, Nanoseconds}
use Rattle.pcap_io.specs.declared.kind.HeaderKind.{HeaderKind}
use Rattle.pcap_io.specs.Numbers.{octets_of}
use Rattle.pcap_io.specs.Kinds.{magic_of, IsHeader}
use Rattle.pcap_io.specs.Records.{captured_of, IsRecordOf}
use Rattle.pcap_io.specs.Runs.{IsAtFault, IsCut, EndsAs, IsRun, Arrive}
use Rattle.pcap_io.proofs.Fronts.{take_front, drop_front, captured_of-append}

abbrev kind_of_parts : ByteOrder → TimeUnit → HeaderKind
kind_of_parts order unit = record { order = order; unit = unit }

-- two lists of octets whose first ones differ
apart : (x y : ℕ) (xs ys : List ℕ) → x < y → x ∷ xs ≡ y ∷ ys → ⊥
apart x y xs ys below same = omega (arith, ap (λ (l : List ℕ). get_or l 0 0) same)

-- the magics of two kinds differ
parts_once : (o p : ByteOrder) (u v : TimeUnit) → octets_of o w32 (magic_of u) ≡ octets_of p w32 (magic_of v) → kind_of_parts o u ≡ kind_of_parts p v
parts_once Little Little Microseconds Microseconds same = refl
parts_once Little Little Microseconds Nanoseconds same = cc
parts_once Little Little Nanoseconds Microseconds same = cc
parts_once Little Little Nanoseconds Nanoseconds same = refl
parts_once Little Big Microseconds Microseconds same = absurd (apart 161 212 _ _ (lit< tt) (sym same))
parts_once Little Big Microseconds Nanoseconds same = absurd (apart 161 212 _ _ (lit< tt) (sym same))
parts_once Little Big Nanoseconds Microseconds same = absurd (apart 77 161 _ _ (lit< tt) same)
parts_once Little Big Nanoseconds Nanoseconds same = absurd (apart 77 161 _ _ (lit< tt) same)
parts_once Big Little Microseconds Microseconds same = absurd (apart 161 212 _ _ (lit< tt) same)
parts_once Big Little Microseconds Nanoseconds same = absurd (apart 77 161 _ _ (lit< tt) (sym same))
parts_once Big Little Nanoseconds Microseconds same = absurd (apart 161 212 _ _ (lit< tt) same)
parts_once Big Little Nanoseconds Nanoseconds same = absurd (apart 77 161 _ _ (lit< tt) (sym same))
parts_once Big Big Microseconds Microseconds same = refl
parts_once Big Big Microseconds Nanoseconds same = cc
parts_once Big Big Nanoseconds Microseconds same = cc
parts_once Big Big Nanoseconds Nanoseconds same = refl

-- a header is of one kind
kind_once : (k l : HeaderKind) (header : List ℕ) → IsHeader k header → IsHeader l header → k ≡ l
kind_once k l header one other = parts_once k.order l.order k.unit l.unit (sym one.magic ∙ other.magic)

-- an input was seen to end, or not
seen_and_not : (seen : Bool) → IsTrue seen → seen ≡ false → ⊥
seen_and_not true is not = cc
seen_and_not false is not = cc

-- an input ends in one way
ending_once : (kind : HeaderKind) (seen : Bool) (place : ℕ) (octets : List ℕ) (e f : How) → EndsAs kind seen place e octets → EndsAs kind seen place f octets → e ≡ f
ending_once kind seen place octets how.End how.End one other = refl
ending_once kind seen place octets how.End (how.Malformed at) one other = absurd (elim other.1 [
  | inl at_fault ↦ absurd (omega (arith, at_fault.counted, ap length one.1))
  | inr cut ↦ cut.1 one.1
])
ending_once kind seen place octets how.End how.Failed one other = absurd (seen_and_not seen one.0 other.0)
ending_once kind seen place octets (how.Malformed at) how.End one other = absurd (elim one.1 [
  | inl at_fault ↦ absurd (omega (arith, at_fault.counted, ap length other.1))
  | inr cut ↦ cut.1 other.1
])
ending_once kind seen place octets (how.Malformed at) (how.Malformed to) one other = ap (λ (n : ℕ). how.Malformed n) (one.0 ∙ sym other.0)
ending_once kind seen place octets (how.Malformed at) how.Failed one other = absurd (elim one.1 [
  | inl at_fault ↦ other.2 at_fault
  | inr cut ↦ seen_and_not seen cut.0 other.0
])
ending_once kind seen place octets how.Failed how.End one other = absurd (seen_and_not seen other.0 one.0)
ending_once kind seen place octets how.Failed (how.Malformed at) one other = absurd (elim other.1 [
  | inl at_fault ↦ one.2 at_fault
  | inr cut ↦ seen_and_not seen cut.0 one.0
])
ending_once kind seen place octets how.Failed how.Failed one other = refl
ending_once kind seen place octets how.Quit f one other = absurd one
ending_once kind seen place octets (how.Overlong at) f one other = absurd one
ending_once kind seen place octets how.Unwritten f one other = absurd one
ending_once kind seen place octets how.Paused f one other = absurd one
ending_once kind seen place octets e how.Quit one other = absurd other
ending_once kind seen place octets e (how.Overlong at) one other = absurd other
ending_once kind seen place octets e how.Unwritten one other = absurd other
ending_once kind seen place octets e how.Paused one other = absurd other

-- the size of a record is in its front
record_size : (kind : HeaderKind) (octets : List ℕ) (a : Arrival) → IsRecordOf kind octets a → (length octets ≡ 16 + captured_of kind octets) × (captured_of kind octets ≤ 262144)
record_size kind octets (Frame stamp frame) is = (omega (arith, is.0.size, is.0.captured), omega (arith, is.0.captured, is.1))
record_size kind octets (Long stamp len) is = (omega (arith, is.0.size, is.0.captured), omega (arith, is.0.captured, is.2))

-- a record is the record of one arrival
arrival_once : (kind : HeaderKind) (octets : List ℕ) (a b : Arrival) → IsRecordOf kind octets a → IsRecordOf kind octets b → a ≡ b
arrival_once kind octets (Frame stamp frame) (Frame stamp' frame') one other = cc (one.0.seen, other.0.seen, one.2, other.2)
arrival_once kind octets (Frame stamp frame) (Long stamp' len) one other = absurd (omega (arith, one.0.captured, other.0.captured, one.1, other.1))
arrival_once kind octets (Long stamp len) (Frame stamp' frame) one other = absurd (omega (arith, one.0.captured, other.0.captured, one.1, other.1))
arrival_once kind octets (Long stamp len) (Long stamp' len') one other = cc (one.0.seen, other.0.seen, one.0.captured, other.0.captured)

-- octets that begin with a record are neither cut short nor at fault
no_cut : (kind : HeaderKind) (first rest : List ℕ) (a : Arrival) → IsRecordOf kind first a → IsCut kind (first ++ rest) → ⊥
no_cut kind first rest a is cut =
    let size = record_size kind first a is in
    absurd (omega (arith, cut, size.0, length-append first rest, captured_of-append kind first rest (omega (arith, size.0))))

no_fault : (kind : HeaderKind) (place : ℕ) (first rest : List ℕ) (a : Arrival) → IsRecordOf kind first a → place + length first ≤ 2 ^ 62 → IsAtFault kind place (first ++ rest) → ⊥
no_fault kind place first rest a is within at_fault =
    let size = record_size kind first a is in
    let same = captured_of-append kind first rest (omega (arith, size.0)) in
    elim at_fault.fault [
      | inl long ↦ absurd (omega (arith, long, same, size.1))
      | inr past ↦ absurd (omega (arith, past, same, size.0, within))
    ]

-- octets that begin with a record don't end the input
no_ending : (kind : HeaderKind) (seen : Bool) (place : ℕ) (first rest : List ℕ) (a : Arrival) (e : How) → IsRecordOf kind first a → place + length first ≤ 2 ^ 62 → EndsAs kind seen place e (first ++ rest) → ⊥
no_ending kind seen place first rest a how.End is within ends =
    absurd (omega (arith, (record_size kind first a is).0, length-append first rest, ap length ends.1))
no_ending kind seen place first rest a (how.Malformed at) is within ends = elim ends.1 [
  | inl at_fault ↦ no_fault kind place first rest a is within at_fault
  | inr cut ↦ no_cut kind first rest a is cut.2
]
no_ending kind seen place first rest a how.Failed is within ends = no_cut kind first rest a is ends.1
no_ending kind seen place first rest a how.Quit is within ends = ends
no_ending kind seen place first rest a (how.Overlong at) is within ends = ends
no_ending kind seen place first rest a how.Unwritten is within ends = ends
no_ending kind seen place first rest a how.Paused is within ends = ends

-- the first records of the same octets are the same octets
first_once : (kind : HeaderKind) (first rest first' rest' : List ℕ) (a b : Arrival) → first ++ rest ≡ first' ++ rest' → IsRecordOf kind first a → IsRecordOf kind first' b → (first ≡ first') × (rest ≡ rest')
first_once kind first rest first' rest' a b same one other =
    let size = (record_size kind first a one).0 in
    let size' = (record_size kind first' b other).0 in
    let captured : captured_of kind first ≡ captured_of kind first' =
    sym (captured_of-append kind first rest (omega (arith, size)))
    ∙ ap (λ (l : List ℕ). captured_of kind l) same
    ∙ captured_of-append kind first' rest' (omega (arith, size')) in
    let n = 16 + captured_of kind first' in (
      sym (take_front first rest n (omega (arith, size, captured))) ∙ ap (take n) same ∙ take_front first' rest' n size',
      sym (drop_front first rest n (omega (arith, size, captured))) ∙ ap (drop n) same ∙ drop_front first' rest' n size',
    )

abbrev input_of : List Arrival → How → Input
input_of arrivals ending = record { arrivals = arrivals; ending = ending }

more_once : (a b : Arrival) (one other : Input) → a ≡ b → one ≡ other → input_of (a ∷ one.arrivals) one.ending ≡ input_of (b ∷ other.arrivals) other.ending
more_once a b one other first same =
    ap (λ (i : Input). input_of (a ∷ i.arrivals) i.ending) same ∙ ap (λ (c : Arrival). input_of (c ∷ other.arrivals) other.ending) first

-- what is left at a place is one run
run_once : (arrivals others : List Arrival) (e f : How) (kind : HeaderKind) (seen : Bool) (place : ℕ) (octets : List ℕ) → IsRun kind seen place arrivals e octets → IsRun kind seen place others f octets → input_of arrivals e ≡ input_of others f
run_once [] [] e f kind seen place octets one other = ap (λ (h : How). input_of [] h) (ending_once kind seen place octets e f one other)
run_once [] (b ∷ others) e f kind seen place octets one other =
    absurd (no_ending kind seen place other.0 other.1 b e other.3 other.4 (subst (λ (l : List ℕ). EndsAs kind seen place e l) other.2 one))
run_once (a ∷ arrivals) [] e f kind seen place octets one other =
    absurd (no_ending kind seen place one.0 one.1 a f one.3 one.4 (subst (λ (l : List ℕ). EndsAs kind seen place f l) one.2 other))
run_once (a ∷ arrivals) (b ∷ others) e f kind seen place octets one other =
    let same = first_once kind one.0 one.1 other.0 other.1 a b (sym one.2 ∙ other.2) one.3 other.3 in
    let first = arrival_once kind one.0 a b one.3 (subst (λ (l : List ℕ). IsRecordOf kind l b) (sym same.0) other.3) in
    let behind : IsRun kind seen (place + length one.0) others f one.1 =
    subst (λ (l : List ℕ). IsRun kind seen (place + length l) others f one.1) (sym same.0)
    (subst (λ (l : List ℕ). IsRun kind seen (place + length other.0) others f l) (sym same.1) other.5) in
    let later : input_of arrivals e ≡ input_of others f = run_once arrivals others e f kind seen (place + length one.0) one.1 one.5 behind in
    more_once a b (input_of arrivals e) (input_of others f) first later

-- a header was read, or the input seen to end, or neither
read_and_not : (seen : Bool) (octets : List ℕ) → (24 ≤ length octets) ⊎ IsTrue seen → seen ≡ false → length octets < 24 → ⊥
read_and_not seen octets (inl read) not cut = absurd (omega (arith, read, cut))
read_and_not seen octets (inr is) not cut = seen_and_not seen is not

pub one_input : (kinds : List HeaderKind) (seen : Bool) (octets : List ℕ) (one other : Input) → Arrive kinds seen octets one → Arrive kinds seen octets other → one ≡ other
one_input kinds seen octets one other (inl a) (inl b) =
    let same : b.kind ≡ a.kind = kind_once b.kind a.kind (take 24 octets) b.header a.header in
    let run : IsRun a.kind seen 24 other.arrivals other.ending (drop 24 octets) =
    subst (λ (k : HeaderKind). IsRun k seen 24 other.arrivals other.ending (drop 24 octets)) same b.run in
    run_once one.arrivals other.arrivals one.ending other.ending a.kind seen 24 (drop 24 octets) a.run run
one_input kinds seen octets one other (inl a) (inr (inl b)) = absurd (b.none a.kind a.accepted a.header)
one_input kinds seen octets one other (inl a) (inr (inr b)) = absurd (omega (arith, a.header.size, length-take 24 octets, b.cut))
one_input kinds seen octets one other (inr (inl a)) (inl b) = absurd (a.none b.kind b.accepted b.header)
one_input kinds seen octets one other (inr (inr a)) (inl b) = absurd (omega (arith, b.header.size, length-take 24 octets, a.cut))
one_input kinds seen octets one other (inr (inl a)) (inr (inl b)) = a.malformed ∙ sym b.malformed
one_input kinds seen octets one other (inr (inl a)) (inr (inr b)) = absurd (read_and_not seen octets a.read b.unseen b.cut)
one_input kinds seen octets one other (inr (inr a)) (inr (inl b)) = absurd (read_and_not seen octets b.read a.unseen a.cut)
one_input kinds seen octets one other (inr (inr a)) (inr (inr b)) = a.failed ∙ sym b.failed

-- a front of some octets holds a front of their arrivals
front_run : (arrivals others : List Arrival) (e f : How) (kind : HeaderKind) (ends seen : Bool) (place : ℕ) (octets more : List ℕ) → IsRun kind ends place arrivals e octets → IsRun kind seen place others f (octets ++ more) → (later : List Arrival) × (others ≡ arrivals ++ later)
front_run [] others e f kind ends seen place octets more one whole = (others, refl)
front_run (a ∷ arrivals) [] e f kind ends seen place octets more one whole =
    let split : octets ++ more ≡ one.0 ++ (one.1 ++ more) = ap (λ (l : List ℕ). l ++ more) one.2 ∙ append_assoc one.0 one.1 more in
    absurd (no_ending kind seen place one.0 (one.1 ++ more) a f one.3 one.4 (subst (λ (l : List ℕ). EndsAs kind seen place f l) split whole))
front_run (a ∷ arrivals) (b ∷ others) e f kind ends seen place octets more one whole =
    let split : octets ++ more ≡ one.0 ++ (one.1 ++ more) = ap (λ (l : List ℕ). l ++ more) one.2 ∙ append_assoc one.0 one.1 more in
    let same = first_once kind one.0 (one.1 ++ more) whole.0 whole.1 a b (sym split ∙ whole.2) one.3 whole.3 in
    let first = arrival_once kind one.0 a b one.3 (subst (λ (l : List ℕ). IsRecordOf kind l b) (sym same.0) whole.3) in
    let behind : IsRun kind seen (place + length one.0) others f (one.1 ++ more) =
    subst (λ (l : List ℕ). IsRun kind seen (place + length l) others f (one.1 ++ more)) (sym same.0)
    (subst (λ (l : List ℕ). IsRun kind seen (place + length whole.0) others f l) (sym same.1) whole.5) in
    let later = front_run arrivals others e f kind ends seen (place + length one.0) one.1 more one.5 behind in
    (later.0, ap (λ (c : Arrival). c ∷ others) (sym first) ∙ ap (λ (l : List Arrival). a ∷ l) later.1)

pub front_input : (kinds : List HeaderKind) (ends seen : Bool) (octets more : List ℕ) (part whole : Input) → Arrive kinds ends octets part → Arrive kinds seen (octets ++ more) whole → (later : List Arrival) × (whole.arrivals ≡ part.arrivals ++ later)
front_input kinds ends seen octets more part whole (inr (inl a)) b = (whole.arrivals, ap (λ (i : Input). i.arrivals ++ whole.arrivals) (sym a.malformed))
front_input kinds ends seen octets more part whole (inr (inr a)) b = (whole.arrivals, ap (λ (i : Input). i.arrivals ++ whole.arrivals) (sym a.failed))
front_input kinds ends seen octets more part whole (inl a) b =
    let room : 24 ≤ length octets = omega (arith, a.header.size, length-take 24 octets) in
    let same : take 24 (octets ++ more) ≡ take 24 octets = take-append-le 24 octets more room in
    let header : IsHeader a.kind (take 24 (octets ++ more)) = subst (λ (l : List ℕ). IsHeader a.kind l) (sym same) a.header in
    elim b [
      | inr none ↦ elim none [
        | inl other ↦ absurd (other.none a.kind a.accepted header)
        | inr unread ↦ absurd (omega (arith, room, unread.cut, length-append octets more))
      ]
      | inl w ↦
          let kind : w.kind ≡ a.kind = kind_once w.kind a.kind (take 24 (octets ++ more)) w.header header in
          let run : IsRun a.kind seen 24 whole.arrivals whole.ending (drop 24 octets ++ more) =
          subst (λ (l : List ℕ). IsRun a.kind seen 24 whole.arrivals whole.ending l) (drop-append-le 24 octets more room)
          (subst (λ (k : HeaderKind). IsRun k seen 24 whole.arrivals whole.ending (drop 24 (octets ++ more))) kind w.run) in
          front_run part.arrivals whole.arrivals part.ending whole.ending a.kind ends seen 24 (drop 24 octets) more a.run run
    ]
