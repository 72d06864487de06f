-- How what is left ends an input: it is cut short, or no record may begin so.
use Rattle.std.proofs.Common.{◌≡◌, ℕ, ◌+◌, ◌^◌, ◌<◌, ◌≤◌, true, List, [], ◌++◌, length, Option, Some, None, IfSome, ◌⊎◌, inl, inr, refl, ap, arith, append-nil, length-append}
use Rattle.savi_ends.specs.Octets.{NothingLeft}
use Rattle.savi_kinds.specs.declared.entry.How.TheVariants as how
use Rattle.pcap_io.specs.declared.kind.HeaderKind.{HeaderKind}
use Rattle.pcap_io.specs.Records.{captured_of}
use Rattle.pcap_io.specs.Runs.{IsAtFault, IsCut, ended}
use Rattle.pcap_io.specs.Readers.{Running, Ended, Comes, HasEnded, HasFailed, IsNearFault, longest_record, longest_front}
use Rattle.pcap_io.proofs.Fronts.{captured_of-append}

-- what holds of what was taken holds of the whole where nothing is left
pub if_nothing_left : (P : List ℕ → Type 0) (gave : List ℕ) (left : Option (List ℕ)) → NothingLeft left → P gave → IfSome left (λ rest. P (gave ++ rest))
if_nothing_left P gave None none p = tt
if_nothing_left P gave (Some rest) none p = rw (none, append-nil gave) p

-- what holds whatever is behind what was taken
pub whatever_left : (P : List ℕ → Type 0) (gave : List ℕ) (left : Option (List ℕ)) → ((rest : List ℕ) → P (gave ++ rest)) → IfSome left (λ rest. P (gave ++ rest))
whatever_left P gave None p = tt
whatever_left P gave (Some rest) p = p rest

-- a rest that is cut short is malformed at its place
pub cut_is_malformed : (kind : HeaderKind) (place : ℕ) (octets : List ℕ) → 0 < length octets → IsCut kind octets → Comes (Running kind place) true octets (ended (how.Malformed place))
cut_is_malformed kind place octets some cut =
    (refl, inr (refl, λ none. absurd (omega (arith, ap length none)), cut))

-- no more was read than a record has, and no more than its front, or nothing is left
near_of : (place at : ℕ) (gave : List ℕ) (left : Option (List ℕ)) → length gave ≤ longest_record → (¬ NothingLeft left → length gave ≤ longest_front) → how.Malformed place ≡ how.Malformed at → IsNearFault at (place + length gave) left
near_of place at gave left few fewer same =
    let e : place ≡ at = cc in
    (omega (arith, few, e), λ some. let front = fewer some in omega (arith, front, e))

pub ended_cut : (kind : HeaderKind) (place : ℕ) (gave : List ℕ) (left : Option (List ℕ)) → 0 < length gave → IsCut kind gave → length gave ≤ longest_record → NothingLeft left → HasEnded (Running kind place) (Ended (how.Malformed place)) gave left (how.Malformed place)
ended_cut kind place gave left some cut few nothing =
    let malformed = cut_is_malformed kind place gave some cut in
    record {
      state = refl;
      taken = malformed;
      whole = if_nothing_left (λ octets. Comes (Running kind place) true octets (ended (how.Malformed place))) gave left nothing malformed;
      near = λ at same. near_of place at gave left few (λ some. absurd (some nothing)) same;
    }

pub failed_cut : (kind : HeaderKind) (place : ℕ) (gave : List ℕ) → IsCut kind gave → (IsAtFault kind place gave → ⊥) → HasFailed (Running kind place) (Ended how.Failed) gave
failed_cut kind place gave cut sound = record { state = refl; taken = (refl, cut, sound) }

-- a front whose record is longer than a record may be, or ends past the last place, is malformed whatever
-- stands behind it
front_is_malformed : (kind : HeaderKind) (place : ℕ) (front rest : List ℕ) → length front ≡ 16 → (262144 < captured_of kind front) ⊎ (2 ^ 62 < place + (16 + captured_of kind front)) → Comes (Running kind place) true (front ++ rest) (ended (how.Malformed place))
front_is_malformed kind place front rest size fault =
    let same = captured_of-append kind front rest (omega arith) in (
      refl,
      inl (record {
        counted = omega (arith, size, length-append front rest);
        fault = elim fault [
          | inl long ↦ inl (omega (arith, long, same))
          | inr past ↦ inr (omega (arith, past, same))
        ];
      }),
    )

pub ended_front : (kind : HeaderKind) (place : ℕ) (front : List ℕ) (left : Option (List ℕ)) → length front ≡ 16 → (262144 < captured_of kind front) ⊎ (2 ^ 62 < place + (16 + captured_of kind front)) → HasEnded (Running kind place) (Ended (how.Malformed place)) front left (how.Malformed place)
ended_front kind place front left size fault =
    let P : List ℕ → Type 0 = λ octets. Comes (Running kind place) true octets (ended (how.Malformed place)) in
    let any : (rest : List ℕ) → P (front ++ rest) = λ rest. front_is_malformed kind place front rest size fault in
    record {
      state = refl;
      taken = rw append-nil at (any []);
      whole = whatever_left P front left any;
      near = λ at same. near_of place at front left (omega (arith, size)) (λ some. omega (arith, size)) same;
    }
