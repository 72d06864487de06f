-- Every list of octets is some input.
use Rattle.std.proofs.Common.{◌≡◌, ◌≢◌, ℕ, zero, suc, ◌+◌, ◌^◌, ◌<◌, ◌≤◌, Bool, true, false, List, [], ◌∷◌, ◌++◌, length, take, drop, slice_index_or, Contains, ◌⊎◌, inl, inr, refl, sym, ap, subst, ◌∙◌, arith}
use Rattle.std.proofs.lemmas.List.{length-take-le, length-drop, take-append-drop}
use Rattle.std.proofs.lemmas.Bool.{cases_eq, cases_lt}
use Rattle.std.proofs.lemmas.Slice.Eq.{bytes_eq-Decides}
use Rattle.std.specs.Str.{bytes_eq}
use Rattle.std.specs.Int.{w16, w32}
use Rattle.savi_kinds.specs.declared.entry.How.{How}
use Rattle.savi_kinds.specs.declared.entry.How.TheVariants as how
use Rattle.savi_kinds.specs.Arrivals.{Arrival, Frame, Long, Input}
use Rattle.pcap_io.specs.declared.kind.HeaderKind.{HeaderKind}
use Rattle.pcap_io.specs.Numbers.{octets_of}
use Rattle.pcap_io.specs.Kinds.{magic_of, IsHeader}
use Rattle.pcap_io.specs.Records.{captured_of, stamp_of, IsRecordOf}
use Rattle.pcap_io.specs.Runs.{IsAtFault, IsCut, IsRun, Arrive, ended}
use Rattle.pcap_io.specs.Readers.{State, Fresh, Running, Ended, Comes}
use Rattle.pcap_io.proofs.Fronts.{captured_of-append}

-- two lists of octets are the same or not
same_or_not : (xs ys : List ℕ) → (xs ≡ ys) ⊎ (xs ≢ ys)
same_or_not xs ys = by_test (bytes_eq xs ys) refl
  where
    by_test : (b : Bool) → bytes_eq xs ys ≡ b → (xs ≡ ys) ⊎ (xs ≢ ys)
    by_test true test = inl ((bytes_eq-Decides xs ys).0 test)
    by_test false test = inr (λ same. let set : bytes_eq xs ys ≡ true = (bytes_eq-Decides xs ys).1 same in cc)

-- a list of octets is a header of this kind or not
header_or_not : (kind : HeaderKind) (header : List ℕ) → IsHeader kind header ⊎ (IsHeader kind header → ⊥)
header_or_not kind header =
    elim (cases_eq (length header) 24) [
      | inr other ↦ inr (λ is. other is.size)
      | inl size ↦ elim (same_or_not (take 4 header) (octets_of kind.order w32 (magic_of kind.unit))) [
        | inr other ↦ inr (λ is. other is.magic)
        | inl magic ↦ elim (same_or_not (take 2 (drop 4 header)) (octets_of kind.order w16 2)) [
          | inr other ↦ inr (λ is. other is.major)
          | inl major ↦ elim (same_or_not (take 2 (drop 6 header)) (octets_of kind.order w16 4)) [
            | inr other ↦ inr (λ is. other is.minor)
            | inl minor ↦ elim (same_or_not (take 4 (drop 20 header)) (octets_of kind.order w32 1)) [
              | inr other ↦ inr (λ is. other is.link)
              | inl link ↦ inl (record { size = size; magic = magic; major = major; minor = minor; link = link })
            ]
          ]
        ]
      ]
    ]

more_of_none : (k : HeaderKind) (kinds : List HeaderKind) (header : List ℕ) → (IsHeader k header → ⊥) → ((kind : HeaderKind) → Contains kinds kind → IsHeader kind header → ⊥) → (kind : HeaderKind) (n : ℕ) → n < length (k ∷ kinds) → slice_index_or (k ∷ kinds) n kind ≡ kind → IsHeader kind header → ⊥
more_of_none k kinds header other none kind zero within same is = other (subst (λ (one : HeaderKind). IsHeader one header) (sym same) is)
more_of_none k kinds header other none kind (suc n) within same is = none kind (n, omega arith, same) is

-- a list of octets is a header of one of these kinds or of none
kind_or_none : (kinds : List HeaderKind) (header : List ℕ) → ((kind : HeaderKind) × Contains kinds kind × IsHeader kind header) ⊎ ((kind : HeaderKind) → Contains kinds kind → IsHeader kind header → ⊥)
kind_or_none [] header = inr (λ kind among is. absurd (omega (arith, among.1)))
kind_or_none (k ∷ kinds) header =
    elim (header_or_not k header) [
      | inl is ↦ inl (k, (0, omega arith, refl), is)
      | inr other ↦ elim (kind_or_none kinds header) [
        | inl found ↦ inl (found.0, (suc found.1.0, omega (arith, found.1.1), found.1.2), found.2)
        | inr none ↦ inr (λ kind among is. more_of_none k kinds header other none kind among.0 among.1 among.2 is)
      ]
    ]

-- the record at a place is at fault or not
fault_or_not : (kind : HeaderKind) (place : ℕ) (octets : List ℕ) → IsAtFault kind place octets ⊎ (IsAtFault kind place octets → ⊥)
fault_or_not kind place octets =
    elim (cases_lt (length octets) 16) [
      | inl short ↦ inr (λ at_fault. absurd (omega (arith, short, at_fault.counted)))
      | inr counted ↦ elim (cases_lt 262144 (captured_of kind octets)) [
        | inl long ↦ inl (record { counted = counted; fault = inl long })
        | inr bounded ↦ elim (cases_lt (2 ^ 62) (place + (16 + captured_of kind octets))) [
          | inl past ↦ inl (record { counted = counted; fault = inr past })
          | inr placed ↦ inr (λ at_fault. elim at_fault.fault [
            | inl long ↦ absurd (omega (arith, long, bounded))
            | inr past ↦ absurd (omega (arith, past, placed))
          ])
        ]
      ]
    ]

-- octets of a record's size are the record of some arrival
some_arrival : (kind : HeaderKind) (octets : List ℕ) (len : ℕ) → length octets ≡ 16 + len → captured_of kind octets ≡ len → len ≤ 262144 → (a : Arrival) × IsRecordOf kind octets a
some_arrival kind octets len size captured bounded =
    let body : length (drop 16 octets) ≡ len = omega (arith, length-drop 16 octets) in
    elim (cases_lt 1518 len) [
      | inl long ↦ (Long (stamp_of kind octets) len, (record { size = size; captured = captured; seen = refl }, long, bounded))
      | inr short ↦ (
        Frame (stamp_of kind octets) (drop 16 octets),
        (record { size = omega (arith, body, size); captured = captured ∙ sym body; seen = refl }, omega (arith, body, short), refl),
      )
    ]

-- a rest that is cut short ends the input
some_ending : (kind : HeaderKind) (seen : Bool) (place : ℕ) (octets : List ℕ) → IsCut kind octets → (IsAtFault kind place octets → ⊥) → (ending : How) × IsRun kind seen place [] ending octets
some_ending kind true place [] cut sound = (how.End, (refl, refl))
some_ending kind true place (x ∷ octets) cut sound = (how.Malformed place, (refl, inr (refl, λ none. cc, cut)))
some_ending kind false place octets cut sound = (how.Failed, (refl, cut, sound))

abbrev Run : HeaderKind → Bool → ℕ → List ℕ → Type 0
Run kind seen place octets = (arrivals : List Arrival) × (ending : How) × IsRun kind seen place arrivals ending octets

-- the input ends at a place, or a whole record stands there
run_or_whole : (kind : HeaderKind) (seen : Bool) (place : ℕ) (octets : List ℕ) → Run kind seen place octets ⊎ ((IsAtFault kind place octets → ⊥) × (16 + captured_of kind octets ≤ length octets))
run_or_whole kind seen place octets =
    elim (fault_or_not kind place octets) [
      | inl at_fault ↦ inl ([], how.Malformed place, (refl, inl at_fault))
      | inr sound ↦ elim (cases_lt (length octets) (16 + captured_of kind octets)) [
        | inl cut ↦ let last = some_ending kind seen place octets cut sound in inl ([], last.0, last.1)
        | inr whole ↦ inr (sound, whole)
      ]
    ]

-- a whole record, where what is behind it is some run
whole_run : (kind : HeaderKind) (seen : Bool) (place : ℕ) (octets : List ℕ) → (IsAtFault kind place octets → ⊥) → 16 + captured_of kind octets ≤ length octets → ((next : ℕ) (rest : List ℕ) → length rest < length octets → Run kind seen next rest) → Run kind seen place octets
whole_run kind seen place octets sound whole behind =
    let len = captured_of kind octets in
    let first = take (16 + len) octets in
    let rest = drop (16 + len) octets in
    let size : length first ≡ 16 + len = length-take-le (16 + len) octets whole in
    let split : first ++ rest ≡ octets = take-append-drop (16 + len) octets in
    let captured : captured_of kind first ≡ len = sym (captured_of-append kind first rest (omega arith)) ∙ ap (λ (l : List ℕ). captured_of kind l) split in
    let bounded : len ≤ 262144 = elim (cases_lt 262144 len) [
      | inl long ↦ absurd (sound (record { counted = omega (arith, whole); fault = inl long }))
      | inr bounded ↦ bounded
    ] in
    let placed : place + (16 + len) ≤ 2 ^ 62 = elim (cases_lt (2 ^ 62) (place + (16 + len))) [
      | inl past ↦ absurd (sound (record { counted = omega (arith, whole); fault = inr past }))
      | inr placed ↦ placed
    ] in
    let one = some_arrival kind first len size captured bounded in
    let later = behind (place + length first) rest (omega (arith, whole, length-drop (16 + len) octets)) in
    (one.0 ∷ later.0, later.1, (first, rest, sym split, one.1, omega (arith, size, placed), later.2))

-- what is left at a place is some run; at most so many octets are left
some_run : (most : ℕ) (kind : HeaderKind) (seen : Bool) (place : ℕ) (octets : List ℕ) → length octets ≤ most → Run kind seen place octets
some_run zero kind seen place octets within = elim (run_or_whole kind seen place octets) [
  | inl run ↦ run
  | inr whole ↦ absurd (omega (arith, within, whole.1))
]
some_run (suc most) kind seen place octets within = elim (run_or_whole kind seen place octets) [
  | inl run ↦ run
  | inr whole ↦ whole_run kind seen place octets whole.0 whole.1 (λ next rest shorter. some_run most kind seen next rest (omega (arith, within, shorter)))
]

-- an input without a header of one of these kinds
some_none : (kinds : List HeaderKind) (seen : Bool) (octets : List ℕ) → ((kind : HeaderKind) → Contains kinds kind → IsHeader kind (take 24 octets) → ⊥) → (input : Input) × Arrive kinds seen octets input
some_none kinds true octets none = (ended (how.Malformed 0), inr (inl (record { read = inr refl; none = none; malformed = refl })))
some_none kinds false octets none = elim (cases_lt (length octets) 24) [
  | inl cut ↦ (ended how.Failed, inr (inr (record { unseen = refl; cut = cut; failed = refl })))
  | inr read ↦ (ended (how.Malformed 0), inr (inl (record { read = inl read; none = none; malformed = refl })))
]

pub some_input : (kinds : List HeaderKind) (seen : Bool) (octets : List ℕ) → (input : Input) × Arrive kinds seen octets input
some_input kinds seen octets =
    elim (kind_or_none kinds (take 24 octets)) [
      | inl found ↦
          let run = some_run (length (drop 24 octets)) found.0 seen 24 (drop 24 octets) (omega arith) in
          (record { arrivals = run.0; ending = run.1 }, inl (record { kind = found.0; accepted = found.1; header = found.2; run = run.2 }))
      | inr none ↦ some_none kinds seen octets none
    ]

-- what a reader in any state will give of any octets
pub some_later : (seen : Bool) (state : State) (octets : List ℕ) → (input : Input) × Comes state seen octets input
some_later seen (Fresh kinds) octets = some_input kinds seen octets
some_later seen (Running kind place) octets =
    let run = some_run (length octets) kind seen place octets (omega arith) in
    (record { arrivals = run.0; ending = run.1 }, run.2)
some_later seen (Ended ending) octets = (ended ending, refl)
