-- No list of octets is two inputs, and the first octets of an input hold the first of its arrivals.
use Rattle.std.proofs.Common.{◌≡◌, ℕ, ◌+◌, ◌^◌, ◌≤◌, Bool, true, false, IsTrue, List, [], ◌∷◌, ◌++◌, length, take, drop, inl, inr, refl, sym, ap, subst, ◌∙◌, arith, append_assoc, length-append}
use Rattle.std.proofs.lemmas.List.{take-append-le, take_at}
use Rattle.std.specs.Int.{w32, from_be_bytes}
use Rattle.savi_kinds.specs.declared.entry.How.{How}
use Rattle.savi_kinds.specs.declared.entry.How.TheVariants as how
use Rattle.savi_kinds.specs.Arrivals.{Arrival, Frame, Long, Input}
use Rattle.stream_io.specs.Records.{length_in, IsRecordOf}
use Rattle.stream_io.specs.Streams.{IsAtFault, IsCut, EndsAs, IsRun, Arrive, stamped_at, stamped_by}
use Rattle.stream_io.proofs.RecordTaken.{drop_front}

-- an input was seen to end, or not
seen_and_not : (seen : Bool) → IsTrue seen → seen ≡ false → ⊥
seen_and_not true is not = cc
seen_and_not false is not = cc

-- an input ends in one way
ending_once : (seen : Bool) (place : ℕ) (octets : List ℕ) (e f : How) → EndsAs seen place e octets → EndsAs seen place f octets → e ≡ f
ending_once seen place octets how.End how.End one other = refl
ending_once seen place octets how.End (how.Malformed at) one other = absurd (elim other.1 [
  | inl at_fault ↦ absurd (omega (arith, at_fault.counted, ap length one.1))
  | inr cut ↦ cut.1 one.1
])
ending_once seen place octets how.End how.Failed one other = absurd (seen_and_not seen one.0 other.0)
ending_once seen place octets (how.Malformed at) how.End one other = absurd (elim one.1 [
  | inl at_fault ↦ absurd (omega (arith, at_fault.counted, ap length other.1))
  | inr cut ↦ cut.1 other.1
])
ending_once seen place octets (how.Malformed at) (how.Malformed to) one other = ap (λ (n : ℕ). how.Malformed n) (one.0 ∙ sym other.0)
ending_once seen place octets (how.Malformed at) how.Failed one other = absurd (elim one.1 [
  | inl at_fault ↦ other.2 at_fault
  | inr cut ↦ seen_and_not seen cut.0 other.0
])
ending_once seen place octets how.Failed how.End one other = absurd (seen_and_not seen other.0 one.0)
ending_once seen place octets how.Failed (how.Malformed at) one other = absurd (elim other.1 [
  | inl at_fault ↦ one.2 at_fault
  | inr cut ↦ seen_and_not seen cut.0 one.0
])
ending_once seen place octets how.Failed how.Failed one other = refl
ending_once seen place octets how.Quit f one other = absurd one
ending_once seen place octets (how.Overlong at) f one other = absurd one
ending_once seen place octets how.Unwritten f one other = absurd one
ending_once seen place octets how.Paused f one other = absurd one
ending_once seen place octets e how.Quit one other = absurd other
ending_once seen place octets e (how.Overlong at) one other = absurd other
ending_once seen place octets e how.Unwritten one other = absurd other
ending_once seen place octets e how.Paused one other = absurd other

-- the size of a record is in its front
record_size : (octets : List ℕ) (a : Arrival) → IsRecordOf octets a → (length octets ≡ 4 + length_in octets) × (length_in octets ≤ 262144)
record_size octets (Frame stamp frame) is = (omega (arith, is.0.size, is.0.counted), omega (arith, is.0.counted, is.1))
record_size octets (Long stamp len) is = (omega (arith, is.0.size, is.0.counted), omega (arith, is.0.counted, is.2))

-- a record is the record of one arrival, whatever its stamp
arrival_once : (reading : ℕ) (octets : List ℕ) (a b : Arrival) → IsRecordOf octets a → IsRecordOf octets b → stamped_at reading a ≡ stamped_at reading b
arrival_once reading octets (Frame stamp frame) (Frame stamp' frame') one other = ap (λ (l : List ℕ). Frame reading l) (one.2 ∙ sym other.2)
arrival_once reading octets (Frame stamp frame) (Long stamp' len) one other = absurd (omega (arith, one.0.counted, other.0.counted, one.1, other.1))
arrival_once reading octets (Long stamp len) (Frame stamp' frame) one other = absurd (omega (arith, one.0.counted, other.0.counted, one.1, other.1))
arrival_once reading octets (Long stamp len) (Long stamp' len') one other = ap (λ (n : ℕ). Long reading n) (sym one.0.counted ∙ other.0.counted)

-- what the front of a record says is the same whatever stands behind it
length_in_first : (first rest : List ℕ) → 4 ≤ length first → length_in (first ++ rest) ≡ length_in first
length_in_first first rest some = ap (λ (l : List ℕ). from_be_bytes w32 l) (take-append-le 4 first rest some)

-- octets that begin with a record are neither cut short nor at fault
no_cut : (first rest : List ℕ) (a : Arrival) → IsRecordOf first a → IsCut (first ++ rest) → ⊥
no_cut first rest a is cut =
    let size = record_size first a is in
    absurd (omega (arith, cut, size.0, length-append first rest, length_in_first first rest (omega (arith, size.0))))

no_fault : (place : ℕ) (first rest : List ℕ) (a : Arrival) → IsRecordOf first a → place + length first ≤ 2 ^ 62 → IsAtFault place (first ++ rest) → ⊥
no_fault place first rest a is within at_fault =
    let size = record_size first a is in
    let same = length_in_first first rest (omega (arith, size.0)) in
    elim at_fault.fault [
      | inl long ↦ absurd (omega (arith, long, same, size.1))
      | inr past ↦ absurd (omega (arith, past, same, size.0, within))
    ]

-- octets that begin with a record don't end the input
no_ending : (seen : Bool) (place : ℕ) (first rest : List ℕ) (a : Arrival) (e : How) → IsRecordOf first a → place + length first ≤ 2 ^ 62 → EndsAs seen place e (first ++ rest) → ⊥
no_ending seen place first rest a how.End is within ends =
    absurd (omega (arith, (record_size first a is).0, length-append first rest, ap length ends.1))
no_ending seen place first rest a (how.Malformed at) is within ends = elim ends.1 [
  | inl at_fault ↦ no_fault place first rest a is within at_fault
  | inr cut ↦ no_cut first rest a is cut.2
]
no_ending seen place first rest a how.Failed is within ends = no_cut first rest a is ends.1
no_ending seen place first rest a how.Quit is within ends = ends
no_ending seen place first rest a (how.Overlong at) is within ends = ends
no_ending seen place first rest a how.Unwritten is within ends = ends
no_ending seen place first rest a how.Paused is within ends = ends

-- the first records of the same octets are the same octets
first_once : (first rest first' rest' : List ℕ) (a b : Arrival) → first ++ rest ≡ first' ++ rest' → IsRecordOf first a → IsRecordOf first' b → (first ≡ first') × (rest ≡ rest')
first_once first rest first' rest' a b same one other =
    let size = (record_size first a one).0 in
    let size' = (record_size first' b other).0 in
    let counted : length_in first ≡ length_in first' =
    sym (length_in_first first rest (omega (arith, size)))
    ∙ ap length_in same
    ∙ length_in_first first' rest' (omega (arith, size')) in
    let n = 4 + length_in first' in (
      sym (take_at first rest n (omega (arith, size, counted))) ∙ ap (take n) same ∙ take_at first' rest' n size',
      sym (drop_front first rest n (omega (arith, size, counted))) ∙ ap (drop n) same ∙ drop_front first' rest' n size',
    )

-- what stands behind the first record of two runs of the same octets
behind_first : (seen : Bool) (place : ℕ) (first rest first' rest' : List ℕ) (others : List Arrival) (f : How) → (first ≡ first') × (rest ≡ rest') → IsRun seen (place + length first') others f rest' → IsRun seen (place + length first) others f rest
behind_first seen place first rest first' rest' others f same run =
    subst (λ (l : List ℕ). IsRun seen (place + length l) others f rest) (sym same.0)
    (subst (λ (l : List ℕ). IsRun seen (place + length first') others f l) (sym same.1) run)

-- A front of some octets holds a front of their arrivals, where the readings that stamp them are a front.
front_run : (readings more_readings : List ℕ) (arrivals others : List Arrival) (e f : How) (ends seen : Bool) (place : ℕ) (octets more : List ℕ) → IsRun ends place arrivals e octets → IsRun seen place others f (octets ++ more)
    → (later : List Arrival) × (stamped_by (readings ++ more_readings) others ≡ stamped_by readings arrivals ++ later)
front_run [] more_readings arrivals others e f ends seen place octets more one whole = (stamped_by more_readings others, refl)
front_run (reading ∷ readings) more_readings [] others e f ends seen place octets more one whole = (stamped_by (reading ∷ (readings ++ more_readings)) others, refl)
front_run (reading ∷ readings) more_readings (a ∷ arrivals) [] e f ends seen place octets more one whole =
    let split : octets ++ more ≡ one.0 ++ (one.1 ++ more) = ap (λ (l : List ℕ). l ++ more) one.2 ∙ append_assoc one.0 one.1 more in
    absurd (no_ending seen place one.0 (one.1 ++ more) a f one.3 one.4 (subst (λ (l : List ℕ). EndsAs seen place f l) split whole))
front_run (reading ∷ readings) more_readings (a ∷ arrivals) (b ∷ others) e f ends seen place octets more one whole =
    let split : octets ++ more ≡ one.0 ++ (one.1 ++ more) = ap (λ (l : List ℕ). l ++ more) one.2 ∙ append_assoc one.0 one.1 more in
    let same = first_once one.0 (one.1 ++ more) whole.0 whole.1 a b (sym split ∙ whole.2) one.3 whole.3 in
    let first = arrival_once reading one.0 a b one.3 (subst (λ (l : List ℕ). IsRecordOf l b) (sym same.0) whole.3) in
    let later = front_run readings more_readings arrivals others e f ends seen (place + length one.0) one.1 more one.5 (behind_first seen place one.0 (one.1 ++ more) whole.0 whole.1 others f same whole.5) in
    (later.0, ap (λ (c : Arrival). c ∷ stamped_by (readings ++ more_readings) others) (sym first) ∙ ap (λ (l : List Arrival). stamped_at reading a ∷ l) later.1)

pub front_input : (ends seen : Bool) (readings more_readings octets more : List ℕ) (part whole : Input) → Arrive ends readings octets part → Arrive seen (readings ++ more_readings) (octets ++ more) whole → (later : List Arrival) × (whole.arrivals ≡ part.arrivals ++ later)
front_input ends seen readings more_readings octets more part whole one all =
    let later = front_run readings more_readings one.whole all.whole part.ending whole.ending ends seen 0 octets more one.run all.run in
    (later.0, all.stamps ∙ later.1 ∙ ap (λ (l : List Arrival). l ++ later.0) (sym one.stamps))

-- the same arrivals, whatever stamps them
abbrev AreSame : List Arrival → List Arrival → Type 0
AreSame arrivals others = (readings : List ℕ) → stamped_by readings arrivals ≡ stamped_by readings others

more_same : (a b : Arrival) (arrivals others : List Arrival) → ((reading : ℕ) → stamped_at reading a ≡ stamped_at reading b) → AreSame arrivals others → AreSame (a ∷ arrivals) (b ∷ others)
more_same a b arrivals others first later [] = refl
more_same a b arrivals others first later (reading ∷ readings) =
    ap (λ (c : Arrival). c ∷ stamped_by readings arrivals) (first reading) ∙ ap (λ (l : List Arrival). stamped_at reading b ∷ l) (later readings)

-- what is left at a place is one run, but for its stamps
run_once : (arrivals others : List Arrival) (e f : How) (seen : Bool) (place : ℕ) (octets : List ℕ) → IsRun seen place arrivals e octets → IsRun seen place others f octets → AreSame arrivals others × (e ≡ f)
run_once [] [] e f seen place octets one other = (λ readings. refl, ending_once seen place octets e f one other)
run_once [] (b ∷ others) e f seen place octets one other =
    absurd (no_ending seen place other.0 other.1 b e other.3 other.4 (subst (λ (l : List ℕ). EndsAs seen place e l) other.2 one))
run_once (a ∷ arrivals) [] e f seen place octets one other =
    absurd (no_ending seen place one.0 one.1 a f one.3 one.4 (subst (λ (l : List ℕ). EndsAs seen place f l) one.2 other))
run_once (a ∷ arrivals) (b ∷ others) e f seen place octets one other =
    let same = first_once one.0 one.1 other.0 other.1 a b (sym one.2 ∙ other.2) one.3 other.3 in
    let first : (reading : ℕ) → stamped_at reading a ≡ stamped_at reading b = λ reading. arrival_once reading one.0 a b one.3 (subst (λ (l : List ℕ). IsRecordOf l b) (sym same.0) other.3) in
    let later = run_once arrivals others e f seen (place + length one.0) one.1 one.5 (behind_first seen place one.0 one.1 other.0 other.1 others f same other.5) in
    (more_same a b arrivals others first later.0, later.1)

abbrev input_of : List Arrival → How → Input
input_of arrivals ending = record { arrivals = arrivals; ending = ending }

pub one_input : (seen : Bool) (readings octets : List ℕ) (one other : Input) → Arrive seen readings octets one → Arrive seen readings octets other → one ≡ other
one_input seen readings octets one other a b =
    let same = run_once a.whole b.whole one.ending other.ending seen 0 octets a.run b.run in
    let arrivals = a.stamps ∙ same.0 readings ∙ sym b.stamps in
    ap (λ (l : List Arrival). input_of l one.ending) arrivals ∙ ap (λ (h : How). input_of other.arrivals h) same.1
