-- The header of an input, and an input without one.
use Rattle.std.proofs.Common.{◌≡◌, ℕ, ◌+◌, ◌<◌, Bool, true, false, List, [], ◌++◌, length, Option, Some, None, IfSome, Contains, inl, inr, refl, ap, subst, ◌∙◌, arith, append-nil, append_assoc, length-append}
use Rattle.std.proofs.lemmas.List.{length-take}
use Rattle.savi_ends.specs.Octets.{NothingLeft}
use Rattle.savi_kinds.specs.declared.entry.How.{How}
use Rattle.savi_kinds.specs.declared.entry.How.TheVariants as how
use Rattle.savi_kinds.specs.declared.arrival.Next.{Next}
use Rattle.savi_kinds.specs.declared.arrival.Next.TheVariants as next
use Rattle.savi_kinds.specs.Arrivals.{Arrival, Input}
use Rattle.pcap_io.specs.declared.kind.HeaderKind.{HeaderKind}
use Rattle.pcap_io.specs.Kinds.{IsHeader}
use Rattle.pcap_io.specs.Runs.{Arrive, ended}
use Rattle.pcap_io.specs.Readers.{State, Fresh, Running, Ended, Comes, HasReadOne, HasEnded, HasFailed, Answers}
use Rattle.pcap_io.proofs.Fronts.{take_front, drop_front}
use Rattle.pcap_io.proofs.Endings.{if_nothing_left, whatever_left}

-- fewer than 24 octets are no header
pub cut_header : (kinds : List HeaderKind) (octets : List ℕ) → length octets < 24 → Arrive kinds true octets (ended (how.Malformed 0))
cut_header kinds octets cut = inr (inl (record {
  read = inr refl;
  none = λ kind accepted header. absurd (omega (arith, header.size, length-take 24 octets));
  malformed = refl;
}))

pub ended_in_header : (kinds : List HeaderKind) (gave : List ℕ) (left : Option (List ℕ)) → length gave < 24 → NothingLeft left → HasEnded (Fresh kinds) (Ended (how.Malformed 0)) gave left (how.Malformed 0)
ended_in_header kinds gave left cut nothing = record {
  state = refl;
  taken = cut_header kinds gave cut;
  whole = if_nothing_left (λ octets. Arrive kinds true octets (ended (how.Malformed 0))) gave left nothing (cut_header kinds gave cut);
  near = λ at same. (omega (arith, cut), λ some. absurd (some nothing));
}

pub failed_in_header : (kinds : List HeaderKind) (gave : List ℕ) → length gave < 24 → HasFailed (Fresh kinds) (Ended how.Failed) gave
failed_in_header kinds gave cut = record { state = refl; taken = inr (inr (record { unseen = refl; cut = cut; failed = refl })) }

-- 24 octets that are a header of none of the kinds
other_header : (kinds : List HeaderKind) (header rest : List ℕ) → length header ≡ 24 → ((kind : HeaderKind) → Contains kinds kind → IsHeader kind header → ⊥) → Arrive kinds true (header ++ rest) (ended (how.Malformed 0))
other_header kinds header rest size none = inr (inl (record {
  read = inr refl;
  none = λ kind accepted is. none kind accepted (subst (λ (octets : List ℕ). IsHeader kind octets) (take_front header rest 24 size) is);
  malformed = refl;
}))

pub ended_at_header : (kinds : List HeaderKind) (header : List ℕ) (left : Option (List ℕ)) → length header ≡ 24 → ((kind : HeaderKind) → Contains kinds kind → IsHeader kind header → ⊥) → HasEnded (Fresh kinds) (Ended (how.Malformed 0)) header left (how.Malformed 0)
ended_at_header kinds header left size none =
    let P : List ℕ → Type 0 = λ octets. Arrive kinds true octets (ended (how.Malformed 0)) in
    let any : (rest : List ℕ) → P (header ++ rest) = λ rest. other_header kinds header rest size none in
    record {
      state = refl;
      taken = rw append-nil at (any []);
      whole = whatever_left P header left any;
      near = λ at same. (omega (arith, size), λ some. omega (arith, size));
    }

-- what comes behind a header
pub behind_header : (kinds : List HeaderKind) (kind : HeaderKind) (seen : Bool) (header octets : List ℕ) (input : Input) → Contains kinds kind → IsHeader kind header → Comes (Running kind 24) seen octets input → Comes (Fresh kinds) seen (header ++ octets) input
behind_header kinds kind seen header octets input accepted is comes = inl (record {
  kind = kind;
  accepted = accepted;
  header = rw (take_front header octets 24 is.size) is;
  run = rw (drop_front header octets 24 is.size) comes;
})

read_behind : (kinds : List HeaderKind) (kind : HeaderKind) (new : State) (header gave : List ℕ) (a : Arrival) → Contains kinds kind → IsHeader kind header → HasReadOne (Running kind 24) new gave a → HasReadOne (Fresh kinds) new (header ++ gave) a
read_behind kinds kind new header gave a accepted is one =
    let size : length (header ++ gave) ≡ 24 + length gave = omega (arith, length-append header gave, is.size) in
    record {
      read = λ seen rest later ending comes. rw (append_assoc header gave rest) (behind_header kinds kind seen header (gave ++ rest) _ accepted is (one.read seen rest later ending comes));
      running = (one.running.0, one.running.1 ∙ ap (λ (n : ℕ). Running one.running.0 n) (omega (arith, size)));
      some = omega (arith, one.some);
      placed = omega (arith, one.placed);
    }

ended_behind : (kinds : List HeaderKind) (kind : HeaderKind) (new : State) (header gave : List ℕ) (left : Option (List ℕ)) (ending : How) → Contains kinds kind → IsHeader kind header → HasEnded (Running kind 24) new gave left ending → HasEnded (Fresh kinds) new (header ++ gave) left ending
ended_behind kinds kind new header gave left ending accepted is one = record {
  state = one.state;
  taken = behind_header kinds kind true header gave (ended ending) accepted is one.taken;
  whole = whole_behind left one.whole;
  near = λ at same.
      let behind = one.near at same in (
        omega (arith, behind.0, length-append header gave, is.size),
        λ some. let front = behind.1 some in omega (arith, front, length-append header gave, is.size),
      );
}
  where
    whole_behind : (left : Option (List ℕ)) → IfSome left (λ rest. Comes (Running kind 24) true (gave ++ rest) (ended ending)) → IfSome left (λ rest. Comes (Fresh kinds) true ((header ++ gave) ++ rest) (ended ending))
    whole_behind None whole = tt
    whole_behind (Some rest) whole = rw (append_assoc header gave rest) (behind_header kinds kind true header (gave ++ rest) (ended ending) accepted is whole)

failed_behind : (kinds : List HeaderKind) (kind : HeaderKind) (new : State) (header gave : List ℕ) → Contains kinds kind → IsHeader kind header → HasFailed (Running kind 24) new gave → HasFailed (Fresh kinds) new (header ++ gave)
failed_behind kinds kind new header gave accepted is one = record {
  state = one.state;
  taken = behind_header kinds kind false header gave (ended how.Failed) accepted is one.taken;
}

-- an answer to the octets behind a header is the answer to the header and those octets
pub answers_behind : (kinds : List HeaderKind) (kind : HeaderKind) (new : State) (header gave buf : List ℕ) (left : Option (List ℕ)) (answer : Next) → Contains kinds kind → IsHeader kind header → Answers (Running kind 24) new gave buf left answer → Answers (Fresh kinds) new (header ++ gave) buf left answer
answers_behind kinds kind new header gave buf left (next.Frame stamp len) accepted is a = (a.0, read_behind kinds kind new header gave _ accepted is a.1)
answers_behind kinds kind new header gave buf left (next.Long stamp len) accepted is a = (a.0, a.1, read_behind kinds kind new header gave _ accepted is a.2)
answers_behind kinds kind new header gave buf left next.End accepted is a = ended_behind kinds kind new header gave left how.End accepted is a
answers_behind kinds kind new header gave buf left (next.Malformed at) accepted is a = ended_behind kinds kind new header gave left (how.Malformed at) accepted is a
answers_behind kinds kind new header gave buf left next.Failed accepted is a = failed_behind kinds kind new header gave accepted is a
