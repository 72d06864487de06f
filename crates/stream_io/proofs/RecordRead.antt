-- What was taken for a record, as what a reader answers.
use Rattle.std.proofs.Common.{ℕ, ◌≡◌, ◌≢◌, ◌+◌, ◌<◌, ◌≤◌, false, List, [], ◌∷◌, ◌++◌, Option, length, take, drop, ◌⊎◌, inl, inr, refl, sym, ap, ◌∙◌, subst, arith, append_assoc, length-append, length-drop}
use Rattle.std.proofs.lemmas.List.{take-append-le}
use Rattle.std.specs.Int.{w32, from_be_bytes}
use Rattle.savi_kinds.specs.declared.entry.How.TheVariants as how
use Rattle.savi_kinds.specs.Arrivals.{Arrival, Frame, Long}
use Rattle.savi_ends.specs.Octets.{NothingLeft}
use Rattle.stream_io.specs.declared.reader.State.{State as Kept}
use Rattle.stream_io.specs.declared.reader.State.TheVariants as kept
use Rattle.stream_io.specs.Records.{length_in, IsRecordOf}
use Rattle.stream_io.specs.Streams.{IsAtFault, IsCut, IsRun}
use Rattle.stream_io.specs.Readers.{State, Running, Ended, Comes, HasRead, HasReadOne, HasEnded, DecideRecord, ended, front_octets, longest_piece, longest_reach}
use Rattle.stream_io.specs.ReaderStates.{state_of}
use Rattle.stream_io.specs.Takings.{TakesWhole}

-- a reader that is ready for a record holds the octets that it has ahead
pub running_is : (kept : Kept) (ahead held : List ℕ) (place : ℕ) (old : State) → state_of kept ahead ≡ old → old ≡ Running place held → Running place ahead ≡ old
running_is (kept.Running at) ahead held place old view is =
    let both : Running at ahead ≡ Running place held = view ∙ is in
    let same : at ≡ place = cc in
    subst (λ (p : ℕ). Running p ahead ≡ old) same view
running_is kept.End ahead held place old view is = let both : Ended how.End ≡ Running place held = view ∙ is in cc
running_is (kept.Malformed at) ahead held place old view is = let both : Ended (how.Malformed at) ≡ Running place held = view ∙ is in cc
running_is kept.Failed ahead held place old view is = let both : Ended how.Failed ≡ Running place held = view ∙ is in cc

-- what was held and taken, with what is behind it
with_rest : (held gave first later rest : List ℕ) → held ++ gave ≡ first ++ later → held ++ (gave ++ rest) ≡ first ++ (later ++ rest)
with_rest held gave first later rest split =
    sym (append_assoc held gave rest) ∙ ap (λ (l : List ℕ). l ++ rest) split ∙ append_assoc first later rest

-- the record of an arrival was taken
read_one : (place len : ℕ) (held gave later buf : List ℕ) (a : Arrival) (old : State) → Running place held ≡ old → (whole : TakesWhole place len (held ++ gave) later buf) → IsRecordOf whole.first a → HasReadOne old (Running (place + (4 + len)) later) gave a
read_one place len held gave later buf a old is whole of =
    let size : length whole.first ≡ 4 + len = whole.record_is.size in
    let read : HasRead (Running place held) (Running (place + (4 + len)) later) gave (a ∷ []) = λ seen rest arrivals ending comes. (
      whole.first,
      later ++ rest,
      with_rest held gave whole.first later rest whole.split,
      of,
      omega (arith, size, whole.placed),
      subst (λ (n : ℕ). IsRun seen (place + n) arrivals ending (later ++ rest)) (sym size) comes,
    ) in
    subst (λ (s : State). HasReadOne s (Running (place + (4 + len)) later) gave a) is (record {
      read = read;
      size = 4 + len;
      held = later;
      running = refl;
      some = omega arith;
      placed = whole.placed;
      all = omega (arith, size, ap length whole.split, length-append held gave, length-append whole.first later);
    })

pub frame_read : (place len stamp : ℕ) (held gave later buf : List ℕ) (old : State) → Running place held ≡ old → TakesWhole place len (held ++ gave) later buf → len ≤ 1518 → HasReadOne old (Running (place + (4 + len)) later) gave (Frame stamp (take len buf))
frame_read place len stamp held gave later buf old is whole short =
    let frame : take len buf ≡ drop 4 whole.first = whole.frame short in
    let size : length (take len buf) ≡ len = omega (arith, ap length frame, length-drop 4 whole.first, whole.record_is.size) in
    read_one place len held gave later buf (Frame stamp (take len buf)) old is whole (
      record { size = omega (arith, whole.record_is.size, size); counted = whole.record_is.counted ∙ sym size },
      omega (arith, size, short),
      frame,
    )

pub long_read : (place len stamp : ℕ) (held gave later buf : List ℕ) (old : State) → Running place held ≡ old → TakesWhole place len (held ++ gave) later buf → 1518 < len → HasReadOne old (Running (place + (4 + len)) later) gave (Long stamp len)
long_read place len stamp held gave later buf old is whole long =
    read_one place len held gave later buf (Long stamp len) old is whole (whole.record_is, long, whole.bounded)

pub end_read : (place : ℕ) (held gave : List ℕ) (left : Option (List ℕ)) (old : State) → Running place held ≡ old → held ++ gave ≡ [] → NothingLeft left → HasEnded old (Ended how.End) gave left how.End
end_read place held gave left old is none nothing =
    subst (λ (s : State). HasEnded s (Ended how.End) gave left how.End) is (refl, inr (nothing, (refl, none)), λ at same. cc)

-- a record at fault is so whatever stands behind what was taken
pub fault_behind : (place : ℕ) (octets rest : List ℕ) → IsAtFault place octets → IsAtFault place (octets ++ rest)
fault_behind place octets rest at_fault =
    let same : length_in (octets ++ rest) ≡ length_in octets = ap (λ (l : List ℕ). from_be_bytes w32 l) (take-append-le 4 octets rest at_fault.counted) in
    record {
      counted = omega (arith, at_fault.counted, length-append octets rest);
      fault = elim at_fault.fault [ inl long ↦ inl (omega (arith, long, same)) | inr past ↦ inr (omega (arith, past, same)) ];
    }

pub malformed_read : (place : ℕ) (held gave : List ℕ) (left : Option (List ℕ)) (old : State) → Running place held ≡ old → IsAtFault place (held ++ gave) ⊎ ((held ++ gave ≢ []) × IsCut (held ++ gave) × NothingLeft left) → length (held ++ gave) ≤ longest_reach
    → (¬ NothingLeft left → length (held ++ gave) ≤ front_octets + longest_piece) → HasEnded old (Ended (how.Malformed place)) gave left (how.Malformed place)
malformed_read place held gave left old is why few fewer =
    subst (λ (s : State). HasEnded s (Ended (how.Malformed place)) gave left (how.Malformed place)) is (
      refl,
      elim why [
        | inl at_fault ↦ inl (λ seen rest. (refl, inl (subst (λ (l : List ℕ). IsAtFault place l) (append_assoc held gave rest) (fault_behind place (held ++ gave) rest at_fault))))
        | inr cut ↦ inr (cut.2, (refl, inr (refl, cut.0, cut.1)))
      ],
      λ at same.
          let e : place ≡ at = cc in (
            omega (arith, few, length-append held gave, e),
            λ some. let front = fewer some in omega (arith, front, length-append held gave, e),
          ),
    )

pub failed_read : (place : ℕ) (held gave : List ℕ) (old : State) → Running place held ≡ old → IsCut (held ++ gave) → (IsAtFault place (held ++ gave) → ⊥) → Comes false old gave (ended how.Failed)
failed_read place held gave old is cut sound =
    subst (λ (s : State). Comes false s gave (ended how.Failed)) is (refl, cut, sound)

-- octets that decide the record of the reader decide it at its place
pub decided_is : (place at : ℕ) (ahead held : List ℕ) (old : State) → Running place ahead ≡ old → old ≡ Running at held → DecideRecord at held → DecideRecord place ahead
decided_is place at ahead held old is view decide =
    let both : Running place ahead ≡ Running at held = is ∙ view in
    let same : place ≡ at = cc in
    let same_held : ahead ≡ held = cc in
    subst (λ (p : ℕ). DecideRecord p ahead) (sym same) (subst (λ (l : List ℕ). DecideRecord at l) (sym same_held) decide)
