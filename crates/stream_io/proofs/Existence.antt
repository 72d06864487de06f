-- Every list of octets is some input.
use Rattle.std.proofs.Common.{◌≡◌, ℕ, zero, suc, ◌+◌, ◌^◌, ◌<◌, ◌≤◌, Bool, true, false, List, [], ◌∷◌, ◌++◌, length, take, drop, ◌⊎◌, inl, inr, refl, sym, ap, ◌∙◌, arith}
use Rattle.std.proofs.lemmas.List.{length-take-le, length-drop, take-append-drop, take-take}
use Rattle.std.proofs.lemmas.Bool.{cases_lt}
use Rattle.std.specs.Int.{w32, from_be_bytes}
use Rattle.savi_kinds.specs.declared.entry.How.{How}
use Rattle.savi_kinds.specs.declared.entry.How.TheVariants as how
use Rattle.savi_kinds.specs.Arrivals.{Arrival, Frame, Long, Input}
use Rattle.stream_io.specs.Records.{length_in, IsRecordOf}
use Rattle.stream_io.specs.Streams.{IsAtFault, IsCut, IsRun, Arrive, stamped_by}
use Rattle.stream_io.specs.Readers.{State, Running, Ended, Comes, ended}

-- the record at a place is at fault or not
fault_or_not : (place : ℕ) (octets : List ℕ) → IsAtFault place octets ⊎ (IsAtFault place octets → ⊥)
fault_or_not place octets =
    elim (cases_lt (length octets) 4) [
      | inl short ↦ inr (λ at_fault. absurd (omega (arith, short, at_fault.counted)))
      | inr counted ↦ elim (cases_lt 262144 (length_in octets)) [
        | inl long ↦ inl (record { counted = counted; fault = inl long })
        | inr bounded ↦ elim (cases_lt (2 ^ 62) (place + (4 + length_in octets))) [
          | inl past ↦ inl (record { counted = counted; fault = inr past })
          | inr placed ↦ inr (λ at_fault. elim at_fault.fault [
            | inl long ↦ absurd (omega (arith, long, bounded))
            | inr past ↦ absurd (omega (arith, past, placed))
          ])
        ]
      ]
    ]

-- octets of a record's size are the record of some arrival
some_arrival : (octets : List ℕ) (len : ℕ) → length octets ≡ 4 + len → length_in octets ≡ len → len ≤ 262144 → (a : Arrival) × IsRecordOf octets a
some_arrival octets len size counted bounded =
    let body : length (drop 4 octets) ≡ len = omega (arith, size, length-drop 4 octets) in
    elim (cases_lt 1518 len) [
      | inl long ↦ (Long 0 len, (record { size = size; counted = counted }, long, bounded))
      | inr short ↦ (
        Frame 0 (drop 4 octets),
        (record { size = omega (arith, body, size); counted = counted ∙ sym body }, omega (arith, body, short), refl),
      )
    ]

-- a rest that is cut short ends the input
some_ending : (seen : Bool) (place : ℕ) (octets : List ℕ) → IsCut octets → (IsAtFault place octets → ⊥) → (ending : How) × IsRun seen place [] ending octets
some_ending true place [] cut sound = (how.End, (refl, refl))
some_ending true place (x ∷ octets) cut sound = (how.Malformed place, (refl, inr (refl, λ none. cc, cut)))
some_ending false place octets cut sound = (how.Failed, (refl, cut, sound))

abbrev Run : Bool → ℕ → List ℕ → Type 0
Run seen place octets = (arrivals : List Arrival) × (ending : How) × IsRun seen place arrivals ending octets

-- the input ends at a place, or a whole record stands there
run_or_whole : (seen : Bool) (place : ℕ) (octets : List ℕ) → Run seen place octets ⊎ ((IsAtFault place octets → ⊥) × (4 + length_in octets ≤ length octets))
run_or_whole seen place octets =
    elim (fault_or_not place octets) [
      | inl at_fault ↦ inl ([], how.Malformed place, (refl, inl at_fault))
      | inr sound ↦ elim (cases_lt (length octets) (4 + length_in octets)) [
        | inl cut ↦ let last = some_ending seen place octets cut sound in inl ([], last.0, last.1)
        | inr whole ↦ inr (sound, whole)
      ]
    ]

-- a whole record, where what is behind it is some run
whole_run : (seen : Bool) (place : ℕ) (octets : List ℕ) → (IsAtFault place octets → ⊥) → 4 + length_in octets ≤ length octets → ((next : ℕ) (rest : List ℕ) → length rest < length octets → Run seen next rest) → Run seen place octets
whole_run seen place octets sound whole behind =
    let len = length_in octets in
    let first = take (4 + len) octets in
    let rest = drop (4 + len) octets in
    let size : length first ≡ 4 + len = length-take-le (4 + len) octets whole in
    let counted : length_in first ≡ len = ap (λ (l : List ℕ). from_be_bytes w32 l) (take-take 4 (4 + len) octets (omega arith)) in
    let bounded : len ≤ 262144 = elim (cases_lt 262144 len) [
      | inl long ↦ absurd (sound (record { counted = omega (arith, whole); fault = inl long }))
      | inr bounded ↦ bounded
    ] in
    let placed : place + (4 + len) ≤ 2 ^ 62 = elim (cases_lt (2 ^ 62) (place + (4 + len))) [
      | inl past ↦ absurd (sound (record { counted = omega (arith, whole); fault = inr past }))
      | inr placed ↦ placed
    ] in
    let one = some_arrival first len size counted bounded in
    let later = behind (place + length first) rest (omega (arith, whole, length-drop (4 + len) octets)) in
    (one.0 ∷ later.0, later.1, (first, rest, sym (take-append-drop (4 + len) octets), one.1, omega (arith, size, placed), later.2))

-- what is left at a place is some run; at most so many octets are left
some_run : (most : ℕ) (seen : Bool) (place : ℕ) (octets : List ℕ) → length octets ≤ most → Run seen place octets
some_run zero seen place octets within = elim (run_or_whole seen place octets) [
  | inl run ↦ run
  | inr whole ↦ absurd (omega (arith, within, whole.1))
]
some_run (suc most) seen place octets within = elim (run_or_whole seen place octets) [
  | inl run ↦ run
  | inr whole ↦ whole_run seen place octets whole.0 whole.1 (λ next rest shorter. some_run most seen next rest (omega (arith, within, shorter)))
]

pub some_input : (seen : Bool) (readings octets : List ℕ) → (input : Input) × Arrive seen readings octets input
some_input seen readings octets =
    let run = some_run (length octets) seen 0 octets (omega arith) in
    (record { arrivals = stamped_by readings run.0; ending = run.1 }, record { whole = run.0; run = run.2; stamps = refl })

-- what a reader in any state will give of any octets
pub some_later : (seen : Bool) (state : State) (octets : List ℕ) → (input : Input) × Comes seen state octets input
some_later seen (Running place held) octets =
    let run = some_run (length (held ++ octets)) seen place (held ++ octets) (omega arith) in
    (record { arrivals = run.0; ending = run.1 }, run.2)
some_later seen (Ended ending) octets = (ended ending, refl)
