-- What is written is read again.
use Rattle.std.proofs.Common.{◌≡◌, ℕ, suc, ◌+◌, ◌*◌, ◌/◌, ◌%◌, ◌^◌, ◌<◌, ◌≤◌, nat_le, true, List, [], ◌∷◌, ◌++◌, length, map, Contains, inl, refl, arith, length-append}
use Rattle.std.proofs.lemmas.Bool.{cond_both, leb-true, leb-false}
use Rattle.std.proofs.lemmas.Nat.{from_le_bytes-to_le_bytes_4}
use Rattle.std.specs.Int.{w32, to_le_bytes, from_le_bytes}
use Rattle.savi_kinds.specs.declared.entry.How.TheVariants as how
use Rattle.savi_kinds.specs.Arrivals.{Frame, Long}
use Rattle.pcap_io.specs.declared.kind.HeaderKind.{HeaderKind}
use Rattle.pcap_io.specs.Kinds.{IsHeader, little_microseconds}
use Rattle.pcap_io.specs.Records.{captured_of, stamp_of, IsRecord, IsRecordOf}
use Rattle.pcap_io.specs.Runs.{IsRun, Arrive}
use Rattle.pcap_io.specs.Captures.{Sent, header_text, record_text, records_text, capture_text, arrival_of, AreFrames}
use Rattle.pcap_io.proofs.Fronts.{take_front, drop_front}

header_is : IsHeader little_microseconds header_text
header_is = record { size = refl; magic = refl; major = refl; minor = refl; link = refl }

record_text_size : (moment : ℕ) (frame : List ℕ) → length (record_text moment frame) ≡ 16 + length frame
record_text_size moment frame = omega arith

-- a number of 32 bits that was written is read again
number_again : (n : ℕ) → n < 2 ^ 32 → from_le_bytes w32 (to_le_bytes w32 n) ≡ n
number_again n fits = from_le_bytes-to_le_bytes_4 n fits

captured_again : (moment : ℕ) (frame : List ℕ) → length frame ≤ 1522 → captured_of little_microseconds (record_text moment frame) ≡ length frame
captured_again moment frame short = number_again (length frame) (omega arith)

-- a moment modulo 2^32 seconds, by its seconds and the milliseconds behind them
moment_parts : (moment : ℕ) → moment % (1000 * 2 ^ 32) ≡ 1000 * (moment / 1000 % 2 ^ 32) + 1000 * (moment % 1000) / 1000
moment_parts moment = omega arith

stamp_again : (moment : ℕ) (frame : List ℕ) → moment % (1000 * 2 ^ 32) ≡ stamp_of little_microseconds (record_text moment frame)
stamp_again moment frame =
    let seconds = number_again (moment / 1000 % 2 ^ 32) (omega arith) in
    let microseconds = number_again (1000 * (moment % 1000)) (omega arith) in
    rw (seconds, microseconds) (moment_parts moment)

record_is : (item : Sent) → length item.frame ≤ 1522 → IsRecordOf little_microseconds (record_text item.moment item.frame) (arrival_of item)
record_is item short =
    let octets : List ℕ = record_text item.moment item.frame in
    let stamp : ℕ = item.moment % (1000 * 2 ^ 32) in
    let size : ℕ = length item.frame in
    let is : IsRecord little_microseconds octets stamp size = record {
      size = record_text_size item.moment item.frame;
      captured = captured_again item.moment item.frame short;
      seen = stamp_again item.moment item.frame;
    } in
    cond_both (nat_le size 1518) (Frame stamp item.frame) (Long stamp size) (IsRecordOf little_microseconds octets)
    (λ frame. (is, leb-true size 1518 frame, refl))
    (λ long. (is, leb-false size 1518 long, omega (arith, short)))

run_is : (items : List Sent) (place : ℕ) → AreFrames items → place + length (records_text items) ≤ 2 ^ 62 → IsRun little_microseconds true place (map arrival_of items) how.End (records_text items)
run_is [] place frames within = (refl, refl)
run_is (item ∷ items) place frames within =
    let first = record_text item.moment item.frame in
    let rest = records_text items in
    let size : length (first ++ rest) ≡ length first + length rest = length-append first rest in
    (first, rest, refl, record_is item (frames 0 item (omega arith)), omega (arith, size), run_is items (place + length first) (λ k d more. frames (suc k) d (omega arith)) (omega (arith, size)))

pub written_arrives : (kinds : List HeaderKind) (items : List Sent) → Contains kinds little_microseconds → AreFrames items → length (capture_text items) ≤ 2 ^ 62 → Arrive kinds true (capture_text items) (record { arrivals = map arrival_of items; ending = how.End })
written_arrives kinds items accepted frames within = inl (record {
  kind = little_microseconds;
  accepted = accepted;
  header = rw (take_front header_text (records_text items) 24 refl) header_is;
  run = rw (drop_front header_text (records_text items) 24 refl) (run_is items 24 frames (omega (arith, length-append header_text (records_text items))));
})
