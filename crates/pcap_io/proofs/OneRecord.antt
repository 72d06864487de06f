-- A record that was read: 16 octets, and then the captured ones.
use Rattle.std.proofs.Common.{◌≡◌, ℕ, ◌+◌, ◌^◌, ◌<◌, ◌≤◌, List, ◌++◌, length, take, Option, inl, inr, refl, sym, ap, subst, ◌∙◌, arith, length-append}
use Rattle.savi_ends.specs.Octets.{NothingLeft}
use Rattle.savi_kinds.specs.declared.entry.How.TheVariants as how
use Rattle.savi_kinds.specs.Arrivals.{Arrival, Frame, Long}
use Rattle.pcap_io.specs.declared.kind.HeaderKind.{HeaderKind}
use Rattle.pcap_io.specs.Records.{captured_of, stamp_of, IsRecordOf}
use Rattle.pcap_io.specs.Runs.{IsAtFault, IsRun}
use Rattle.pcap_io.specs.Readers.{Running, Ended, HasReadOne, HasEnded, HasFailed}
use Rattle.pcap_io.proofs.Fronts.{take_front, drop_front, captured_of-append, stamp_of-append}
use Rattle.pcap_io.proofs.Endings.{ended_cut, failed_cut}

-- the octets of the record of an arrival were read
read_one : (kind : HeaderKind) (place len : ℕ) (gave : List ℕ) (a : Arrival) → length gave ≡ 16 + len → place + (16 + len) ≤ 2 ^ 62 → IsRecordOf kind gave a → HasReadOne (Running kind place) (Running kind (place + (16 + len))) gave a
read_one kind place len gave a size within is = record {
  read = λ seen rest later ending comes. (
    gave,
    rest,
    refl,
    is,
    omega arith,
    subst (λ (n : ℕ). IsRun kind seen (place + n) later ending rest) (sym size) comes,
  );
  running = (kind, ap (λ (n : ℕ). Running kind (place + n)) (sym size));
  some = omega arith;
  placed = omega arith;
}

size_of : (front body : List ℕ) (len : ℕ) → length front ≡ 16 → length body ≡ len → length (front ++ body) ≡ 16 + len
size_of front body len front_size body_size = omega (arith, length-append front body)

-- the body was read into the front of a buffer
pub frame_read : (kind : HeaderKind) (place stamp len : ℕ) (front body post : List ℕ) → length front ≡ 16 → length body ≡ len → len ≡ captured_of kind front → stamp ≡ stamp_of kind front → len ≤ 1518 → place + (16 + len) ≤ 2 ^ 62 → HasReadOne (Running kind place) (Running kind (place + (16 + len))) (front ++ body) (Frame stamp (take len (body ++ post)))
frame_read kind place stamp len front body post front_size body_size captured seen short within =
    rw (take_front body post len body_size) (read_one kind place len (front ++ body) (Frame stamp body) (size_of front body len front_size body_size) within (
      record {
        size = size_of front body (length body) front_size refl;
        captured = captured_of-append kind front body (omega arith) ∙ sym captured ∙ sym body_size;
        seen = seen ∙ sym (stamp_of-append kind front body (omega arith));
      },
      omega arith,
      sym (drop_front front body 16 front_size),
    ))

pub long_read : (kind : HeaderKind) (place stamp len : ℕ) (front body : List ℕ) → length front ≡ 16 → length body ≡ len → len ≡ captured_of kind front → stamp ≡ stamp_of kind front → 1518 < len → len ≤ 262144 → place + (16 + len) ≤ 2 ^ 62 → HasReadOne (Running kind place) (Running kind (place + (16 + len))) (front ++ body) (Long stamp len)
long_read kind place stamp len front body front_size body_size captured seen long bounded within =
    read_one kind place len (front ++ body) (Long stamp len) (size_of front body len front_size body_size) within (
      record {
        size = size_of front body len front_size body_size;
        captured = captured_of-append kind front body (omega arith) ∙ sym captured;
        seen = seen ∙ sym (stamp_of-append kind front body (omega arith));
      },
      long,
      bounded,
    )

-- fewer octets than were captured are behind the front
cut_body : (kind : HeaderKind) (len : ℕ) (front body : List ℕ) → length front ≡ 16 → length body < len → len ≡ captured_of kind front → length (front ++ body) < 16 + captured_of kind (front ++ body)
cut_body kind len front body size short captured =
    omega (arith, length-append front body, captured_of-append kind front body (omega arith))

pub ended_in_body : (kind : HeaderKind) (place len : ℕ) (front body : List ℕ) (left : Option (List ℕ)) → length front ≡ 16 → length body < len → len ≡ captured_of kind front → len ≤ 262144 → NothingLeft left → HasEnded (Running kind place) (Ended (how.Malformed place)) (front ++ body) left (how.Malformed place)
ended_in_body kind place len front body left size short captured bounded nothing =
    ended_cut kind place (front ++ body) left (omega (arith, length-append front body)) (cut_body kind len front body size short captured) (omega (arith, length-append front body, size, short, bounded)) nothing

-- a whole header that may be a record's is no fault, whatever is behind it
sound_body : (kind : HeaderKind) (place len : ℕ) (front body : List ℕ) → length front ≡ 16 → len ≡ captured_of kind front → len ≤ 262144 → place + (16 + len) ≤ 2 ^ 62 → IsAtFault kind place (front ++ body) → ⊥
sound_body kind place len front body size captured bounded placed at_fault =
    let same = captured_of-append kind front body (omega arith) in
    elim at_fault.fault [
      | inl long ↦ absurd (omega (arith, long, same, captured, bounded))
      | inr past ↦ absurd (omega (arith, past, same, captured, placed))
    ]

pub failed_in_body : (kind : HeaderKind) (place len : ℕ) (front body : List ℕ) → length front ≡ 16 → length body < len → len ≡ captured_of kind front → len ≤ 262144 → place + (16 + len) ≤ 2 ^ 62 → HasFailed (Running kind place) (Ended how.Failed) (front ++ body)
failed_in_body kind place len front body size short captured bounded placed =
    failed_cut kind place (front ++ body) (cut_body kind len front body size short captured) (sound_body kind place len front body size captured bounded placed)
