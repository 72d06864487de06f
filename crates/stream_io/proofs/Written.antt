-- What is written is read again.
use Rattle.std.proofs.Common.{◌≡◌, ℕ, suc, ◌+◌, ◌^◌, ◌≤◌, nat_le, Bool, true, false, cond, List, [], ◌∷◌, ◌++◌, length, map, refl, ap, ◌∙◌, arith, length-append}
use Rattle.std.proofs.lemmas.Bool.{cond_both, leb-true, leb-false}
use Rattle.std.proofs.lemmas.Nat.{from_be_bytes-to_be_bytes_4}
use Rattle.std.specs.Int.{w32, to_be_bytes}
use Rattle.savi_kinds.specs.declared.entry.How.TheVariants as how
use Rattle.savi_kinds.specs.Arrivals.{Arrival, Frame, Long, arrival_at}
use Rattle.stream_io.specs.Records.{IsRecord, IsRecordOf, record_text, stream_text, AreFrames}
use Rattle.stream_io.specs.Streams.{IsRun, Arrive, stamped_at, stamped_by, frames_stamped}
use Rattle.stream_io.proofs.RecordTaken.{length_in_front, drop_front}

-- a frame with any stamp
abbrev unstamped : List ℕ → Arrival
unstamped frame = arrival_at 0 frame

record_is : (frame : List ℕ) → length frame ≤ 1522 → IsRecordOf (record_text frame) (unstamped frame)
record_is frame short =
    let size : ℕ = length frame in
    let front : List ℕ = to_be_bytes w32 size in
    let is : IsRecord (record_text frame) size = record {
      size = omega (arith, length-append front frame);
      counted = length_in_front front frame refl ∙ from_be_bytes-to_be_bytes_4 size (omega (arith, short));
    } in
    cond_both (nat_le size 1518) (Frame 0 frame) (Long 0 size) (IsRecordOf (record_text frame))
    (λ fits. (is, leb-true size 1518 fits, drop_front front frame 4 refl))
    (λ long. (is, leb-false size 1518 long, omega (arith, short)))

run_is : (frames : List (List ℕ)) (place : ℕ) → AreFrames frames → place + length (stream_text frames) ≤ 2 ^ 62 → IsRun true place (map unstamped frames) how.End (stream_text frames)
run_is [] place short within = (refl, refl)
run_is (frame ∷ frames) place short within =
    let first = record_text frame in
    let rest = stream_text frames in
    let size : length (first ++ rest) ≡ length first + length rest = length-append first rest in
    (first, rest, refl, record_is frame (short 0 frame (omega arith)), omega (arith, size, within), run_is frames (place + length first) (λ k d more. short (suc k) d (omega (arith, more))) (omega (arith, size, within)))

stamp_by : (fits : Bool) (reading size : ℕ) (frame : List ℕ) → cond fits (Frame reading frame) (Long reading size) ≡ stamped_at reading (cond fits (Frame 0 frame) (Long 0 size))
stamp_by true reading size frame = refl
stamp_by false reading size frame = refl

-- a frame with the reading of a clock as its stamp
stamp_is : (reading : ℕ) (frame : List ℕ) → arrival_at reading frame ≡ stamped_at reading (unstamped frame)
stamp_is reading frame = stamp_by (nat_le (length frame) 1518) reading (length frame) frame

stamped_is : (readings : List ℕ) (frames : List (List ℕ)) → frames_stamped readings frames ≡ stamped_by readings (map unstamped frames)
stamped_is [] frames = refl
stamped_is (reading ∷ readings) [] = refl
stamped_is (reading ∷ readings) (frame ∷ frames) =
    ap (λ (a : Arrival). a ∷ frames_stamped readings frames) (stamp_is reading frame)
    ∙ ap (λ (l : List Arrival). stamped_at reading (unstamped frame) ∷ l) (stamped_is readings frames)

pub written_arrives : (readings : List ℕ) (frames : List (List ℕ)) → AreFrames frames → length (stream_text frames) ≤ 2 ^ 62 → Arrive true readings (stream_text frames) (record { arrivals = frames_stamped readings frames; ending = how.End })
written_arrives readings frames short within = record {
  whole = map unstamped frames;
  run = run_is frames 0 short (omega (arith, within));
  stamps = stamped_is readings frames;
}
