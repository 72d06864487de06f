-- Blocks that were read, and how what is left ends a capture.
use Rattle.std.proofs.Common.{◌≡◌, ◌≢◌, ℕ, ◌+◌, ◌^◌, ◌<◌, ◌≤◌, nat_le, true, List, [], ◌∷◌, ◌++◌, length, take, Option, Some, None, is_some, IfSome, IsSome, refl, sym, ap, subst, ◌∙◌, arith, append_assoc, append-nil, length-append}
use Rattle.std.proofs.lemmas.List.{length-take}
use Rattle.std.proofs.lemmas.List.Elements.{All-append, All-cons, All-nil}
use Rattle.std.proofs.lemmas.Bool.Decides.{nat_tests}
use Rattle.savi_kinds.specs.declared.entry.How.{How}
use Rattle.savi_kinds.specs.declared.entry.How.TheVariants as how
use Rattle.savi_ends.specs.Octets.{NothingLeft}
use Rattle.pcap_io.specs.declared.kind.ByteOrder.{ByteOrder}
use Rattle.pcap_io.specs.Numbers.{number_at}
use Rattle.pcap_io.proofs.Fronts.{number_at-append}
use Rattle.pcapng_io.specs.declared.stop.Stop.{Stop}
use Rattle.pcapng_io.specs.declared.stop.Stop.TheVariants as stop
use Rattle.pcapng_io.specs.declared.block.BlockRead.{BlockRead}
use Rattle.pcapng_io.specs.declared.block.BlockRead.TheVariants as read
use Rattle.pcapng_io.specs.declared.next.NgNext.{NgNext}
use Rattle.pcapng_io.specs.declared.next.NgNext.TheVariants as next
use Rattle.pcapng_io.specs.Blocks.{Block, Section, Interface, Packet, Other, Standing, IsTotal, section_type, IsBlock, behind}
use Rattle.pcapng_io.specs.Runs.{Event, Begins, Frame, Long, events_of, BeginsNone, IsDone, EndsAs, ended}
use Rattle.pcapng_io.specs.Readers.{State, Reading, Ended, Comes, longest_block, IsSound, HasRead, HasReadOne, HasEnded, IsUnread, HasFailed, Answers}
use Rattle.pcapng_io.specs.Answers.{answer_to, behind_read}
use Rattle.pcapng_io.specs.Pieces.{NoneIn, Stops, IsRead, IsSomeBlock, StopsHere, state_after}
use Rattle.pcapng_io.proofs.Parts.{fronts}
use Rattle.pcapng_io.proofs.Sections.{type_in_front}

-- what every block says of its size
pub block_total : (s : Standing) (b : Block) (octets : List ℕ) → IsBlock s b octets → IsTotal s.place 12 (length octets)
block_total s (Section order) octets is = record { words = is.0.total.words; fits = omega (arith, is.0.total.fits); bounded = is.0.total.bounded; placed = is.0.total.placed }
block_total s (Interface link units) octets is = record { words = is.2.total.words; fits = omega (arith, is.2.total.fits); bounded = is.2.total.bounded; placed = is.2.total.placed }
block_total s (Packet interface stamp captured) octets is = record { words = is.2.total.words; fits = omega (arith, is.2.total.fits); bounded = is.2.total.bounded; placed = is.2.total.placed }
block_total s Other octets is = is.2.total

begins_none_short : (s : Standing) (octets : List ℕ) → length octets < 12 → BeginsNone s octets
begins_none_short s octets short b first rest same is = absurd (omega (arith, (block_total s b first is).fits, ap length same, length-append first rest))

-- less than the head of a block is left
pub stops_in_head : (s : Standing) (gave : List ℕ) (left : Option (List ℕ)) → length gave < 8 → (IsDone s gave → ⊥) → NothingLeft left → StopsHere s stop.Malformed gave left
stops_in_head s gave None short more nothing = ((refl, more, begins_none_short s gave (omega (arith, short))), tt, omega (arith, short))
stops_in_head s gave (Some rest) short more nothing =
    let ends : EndsAs s (how.Malformed s.place) gave = (refl, more, begins_none_short s gave (omega (arith, short))) in
    (ends, subst (EndsAs s (how.Malformed s.place)) (sym (append-nil gave) ∙ ap (λ (l : List ℕ). gave ++ l) (sym nothing)) ends, omega (arith, short))

pub fails_in_head : (s : Standing) (gave : List ℕ) → length gave < 8 → StopsHere s stop.Failed gave None
fails_in_head s gave short = record { none = begins_none_short s gave (omega (arith, short)); fits = λ order here other long. absurd (omega (arith, short, long)) }

none_of : (s : Standing) (head g : List ℕ) → length head ≡ 8 → NoneIn (IsSomeBlock s head) g → BeginsNone s (head ++ g)
none_of s head g size none b first rest same is =
    let f = fronts head g first rest same (omega (arith, size, (block_total s b first is).fits)) in
    none f.0 rest f.2 (b, subst (IsBlock s b) f.1 is)

not_done : (s : Standing) (head g : List ℕ) → length head ≡ 8 → IsDone s (head ++ g) → ⊥
not_done s head g size done = omega (arith, size, ap length done.0, length-append head g)

-- a block that begins with this head doesn't go on
pub stops_here : (s : Standing) (head g : List ℕ) (why : Stop) (left : Option (List ℕ)) → length head ≡ 8 → Stops (IsSomeBlock s head) why g left → length g ≤ 1048568 → (why ≡ stop.Failed → (order : ByteOrder) → s.order ≡ Some order → take 4 head ≢ section_type → IsTotal s.place 12 (number_at order 4 head)) → StopsHere s why (head ++ g) left
stops_here s head g stop.Malformed None size stops few fits = ((refl, not_done s head g size, none_of s head g size stops.0), tt, omega (arith, size, few, length-append head g))
stops_here s head g stop.Malformed (Some rest) size stops few fits =
    let all : EndsAs s (how.Malformed s.place) (head ++ (g ++ rest)) = (refl, not_done s head (g ++ rest) size, none_of s head (g ++ rest) size stops.1) in
    ((refl, not_done s head g size, none_of s head g size stops.0), subst (EndsAs s (how.Malformed s.place)) (sym (append_assoc head g rest)) all, omega (arith, size, few, length-append head g))
stops_here s head g stop.Failed left size stops few fits = record {
  none = none_of s head g size stops;
  fits = λ order here other long. subst (λ (n : ℕ). IsTotal s.place 12 n) (sym (number_at-append order 4 head g (omega (arith, size)))) (fits refl order here (λ same. other (type_in_front head g size ∙ same)));
}

-- the total length that a block of this section has is one that a block may have
pub fits_by : (s : Standing) (order here : ByteOrder) (head : List ℕ) (least : ℕ) → 12 ≤ least → s.order ≡ Some order → s.order ≡ Some here → IsTotal s.place least (number_at order 4 head) → IsTotal s.place 12 (number_at here 4 head)
fits_by s order here head least enough is other total =
    let same : order ≡ here = cc in
    subst (λ (o : ByteOrder). IsTotal s.place 12 (number_at o 4 head)) same (record { words = total.words; fits = omega (arith, total.fits, enough); bounded = total.bounded; placed = total.placed })

-- outside of a section only a section header may stand
no_section_yet : (s : Standing) (head x : List ℕ) (b : Block) → length head ≡ 8 → s.order ≡ None → take 4 head ≢ section_type → IsBlock s b (head ++ x) → ⊥
no_section_yet s head x (Section order) size none type is = type (sym (type_in_front head x size) ∙ is.1.kind)
no_section_yet s head x (Interface link units) size none type is = absurd (cc (is.1))
no_section_yet s head x (Packet interface stamp captured) size none type is = absurd (cc (is.1))
no_section_yet s head x Other size none type is = absurd (cc (is.1))

none_yet : (s : Standing) (head more : List ℕ) → length head ≡ 8 → s.order ≡ None → take 4 head ≢ section_type → EndsAs s (how.Malformed s.place) (head ++ more)
none_yet s head more size none type = (
  refl,
  not_done s head more size,
  λ b first rest same is.
      let f = fronts head more first rest same (omega (arith, size, (block_total s b first is).fits)) in
      no_section_yet s head f.0 b size none type (subst (IsBlock s b) f.1 is),
)

pub stops_outside : (s : Standing) (head : List ℕ) (left : Option (List ℕ)) → length head ≡ 8 → s.order ≡ None → take 4 head ≢ section_type → StopsHere s stop.Malformed head left
stops_outside s head None size none type = (subst (EndsAs s (how.Malformed s.place)) (append-nil head) (none_yet s head [] size none type), tt, omega (arith, size))
stops_outside s head (Some rest) size none type = (subst (EndsAs s (how.Malformed s.place)) (append-nil head) (none_yet s head [] size none type), none_yet s head rest size none type, omega (arith, size))

-- a block comes before whatever comes behind it
pub block_read : (s : Standing) (b : Block) (first : List ℕ) → IsBlock s b first → HasRead (Reading s) (Reading (behind s b (length first))) first (events_of b)
block_read s b first is rest later ending comes = (
  b ∷ comes.0,
  (first, rest, refl, is, comes.1),
  ap (λ (l : List Event). events_of b ++ l) comes.2,
)

pub has_read_none : (now : State) → HasRead now now [] []
has_read_none now rest later ending comes = comes

pub has_read_more : (first mid now : State) (a b : List ℕ) (events more : List Event) → HasRead first mid a events → HasRead mid now b more → HasRead first now (a ++ b) (events ++ more)
has_read_more first mid now a b events more one next rest later ending comes =
    rw (append_assoc a b rest, append_assoc events more later) (one (b ++ rest) (more ++ later) ending (next rest later ending comes))

-- what stands behind a block that was read
pub whole_read : (s : Standing) (block : BlockRead) (size : ℕ) (buf first : List ℕ) → IsRead s block buf first → length first ≡ size → answer_to block ≡ None → HasRead (Reading s) (Reading (behind_read s block size)) first []
whole_read s (read.Section order) size buf first is size_is none = subst (λ (n : ℕ). HasRead (Reading s) (Reading (behind s (Section order) n)) first []) size_is (block_read s (Section order) first is)
whole_read s (read.Interface link units) size buf first is size_is none = cc
whole_read s (read.Frame interface stamp len) size buf first is size_is none = cc
whole_read s (read.Long interface) size buf first is size_is none = cc
whole_read s read.Other size buf first is size_is none = subst (λ (n : ℕ). HasRead (Reading s) (Reading (behind s Other n)) first []) size_is (block_read s Other first is)

packet_event : (interface stamp : ℕ) (captured : List ℕ) → length captured ≤ 1518 → events_of (Packet interface stamp captured) ≡ Frame interface stamp captured ∷ []
packet_event interface stamp captured short = let fits : nat_le (length captured) 1518 ≡ true = grind (arith, nat_tests) in rw fits refl

long_event : (interface stamp : ℕ) (captured : List ℕ) → 1518 < length captured → events_of (Packet interface stamp captured) ≡ Long interface ∷ []
long_event interface stamp captured long = grind (arith, nat_tests)

one_read : (s0 s s' : Standing) (gave first : List ℕ) (event : Event) → HasRead (Reading s0) (Reading s) gave [] → s.place ≡ s0.place + length gave → HasRead (Reading s) (Reading s') first (event ∷ []) → s'.place ≡ s.place + length first → 12 ≤ length first
    → HasReadOne (Reading s0) (Reading s') (gave ++ first) event
one_read s0 s s' gave first event was place one place' some = record {
  read = has_read_more (Reading s0) (Reading s) (Reading s') gave first [] (event ∷ []) was one;
  reading = (s', refl, omega (arith, place, place', length-append gave first));
  some = omega (arith, some, length-append gave first);
}

-- the answer to a block behind others that tell nothing
pub whole_answers : (s0 s : Standing) (block : BlockRead) (size : ℕ) (buf gave first : List ℕ) (left : Option (List ℕ)) (answer : NgNext) → HasRead (Reading s0) (Reading s) gave [] → s.place ≡ s0.place + length gave → IsRead s block buf first → length first ≡ size → answer_to block ≡ Some answer
    → Answers (Reading s0) (state_after answer (behind_read s block size)) (gave ++ first) buf left answer
whole_answers s0 s (read.Section order) size buf gave first left answer was place is size_is told = cc
whole_answers s0 s (read.Interface link units) size buf gave first left answer was place is size_is told =
    let same : next.Interface link ≡ answer = cc in
    subst (λ (a : NgNext). Answers (Reading s0) (state_after a (behind_read s (read.Interface link units) size)) (gave ++ first) buf left a) same
    (one_read s0 s (behind s (Interface link units) size) gave first (Begins link) was place (subst (λ (n : ℕ). HasRead (Reading s) (Reading (behind s (Interface link units) n)) first (Begins link ∷ [])) size_is (block_read s (Interface link units) first is.0)) (omega (arith, size_is)) (block_total s (Interface link units) first is.0).fits)
whole_answers s0 s (read.Frame interface stamp len) size buf gave first left answer was place is size_is told =
    let same : next.Frame interface stamp len ≡ answer = cc in
    let b : Block = Packet interface stamp (take len buf) in
    let one : HasRead (Reading s) (Reading (behind s b (length first))) first (Frame interface stamp (take len buf) ∷ []) =
    subst (λ (l : List Event). HasRead (Reading s) (Reading (behind s b (length first))) first l) (packet_event interface stamp (take len buf) (omega (arith, is.0, length-take len buf))) (block_read s b first is.1) in
    subst (λ (a : NgNext). Answers (Reading s0) (state_after a (behind_read s (read.Frame interface stamp len) size)) (gave ++ first) buf left a) same (
      is.0,
      one_read s0 s (behind s Other size) gave first (Frame interface stamp (take len buf)) was place (subst (λ (n : ℕ). HasRead (Reading s) (Reading (behind s b n)) first (Frame interface stamp (take len buf) ∷ [])) size_is one) (omega (arith, size_is)) (block_total s b first is.1).fits,
    )
whole_answers s0 s (read.Long interface) size buf gave first left answer was place is size_is told =
    let same : next.Long interface ≡ answer = cc in
    let b : Block = Packet interface is.0 is.1 in
    let one : HasRead (Reading s) (Reading (behind s b (length first))) first (Long interface ∷ []) =
    subst (λ (l : List Event). HasRead (Reading s) (Reading (behind s b (length first))) first l) (long_event interface is.0 is.1 is.2) (block_read s b first is.3) in
    subst (λ (a : NgNext). Answers (Reading s0) (state_after a (behind_read s (read.Long interface) size)) (gave ++ first) buf left a) same
    (one_read s0 s (behind s Other size) gave first (Long interface) was place (subst (λ (n : ℕ). HasRead (Reading s) (Reading (behind s b n)) first (Long interface ∷ [])) size_is one) (omega (arith, size_is)) (block_total s b first is.3).fits)
whole_answers s0 s read.Other size buf gave first left answer was place is size_is told = cc

at_place : (s : Standing) (place : ℕ) → IsSound s → place ≤ 2 ^ 62 → IsSound (record s { place = place })
at_place s place sound placed = record { placed = placed; few = sound.few; few_in_file = sound.few_in_file; some = sound.some }

-- a reader may go on behind a block that was read
pub whole_sound : (s : Standing) (block : BlockRead) (size : ℕ) (buf first : List ℕ) → IsSound s → IsRead s block buf first → length first ≡ size → IsSound (behind_read s block size) × (12 ≤ size) × ((behind_read s block size).place ≡ s.place + size)
whole_sound s (read.Section order) size buf first sound is size_is =
    let total = block_total s (Section order) first is in (
      record {
        placed = omega (arith, total.placed, size_is);
        few = omega arith;
        few_in_file = omega (arith, sound.few_in_file);
        some = All-nil (λ (n : ℕ). 0 < n);
      },
      omega (arith, total.fits, size_is),
      refl,
    )
whole_sound s (read.Interface link units) size buf first sound is size_is =
    let total = block_total s (Interface link units) first is.0 in (
      record {
        placed = omega (arith, total.placed, size_is);
        few = omega (arith, is.0.3.few, length-append s.units (units ∷ []));
        few_in_file = omega (arith, is.0.3.few_in_file, length-append s.units (units ∷ []));
        some = All-append (λ (n : ℕ). 0 < n) s.units (units ∷ []) sound.some (All-cons (λ (n : ℕ). 0 < n) units [] is.1 (All-nil (λ (n : ℕ). 0 < n)));
      },
      omega (arith, total.fits, size_is),
      refl,
    )
whole_sound s (read.Frame interface stamp len) size buf first sound is size_is =
    let total = block_total s (Packet interface stamp (take len buf)) first is.1 in
    (at_place s (s.place + size) sound (omega (arith, total.placed, size_is)), omega (arith, total.fits, size_is), refl)
whole_sound s (read.Long interface) size buf first sound is size_is =
    let total = block_total s (Packet interface is.0 is.1) first is.3 in
    (at_place s (s.place + size) sound (omega (arith, total.placed, size_is)), omega (arith, total.fits, size_is), refl)
whole_sound s read.Other size buf first sound is size_is =
    let total = block_total s Other first is in
    (at_place s (s.place + size) sound (omega (arith, total.placed, size_is)), omega (arith, total.fits, size_is), refl)

tells_end : (s : Standing) (ending : How) (octets : List ℕ) → EndsAs s ending octets → Comes (Reading s) octets (ended ending)
tells_end s ending octets ends = ([], ends, refl)

-- a block at fault is where it begins
malformed_there : (s : Standing) (ending : How) (at : ℕ) (octets : List ℕ) → EndsAs s ending octets → ending ≡ how.Malformed at → at ≡ s.place
malformed_there s ending at octets ends is = (subst (λ (h : How). EndsAs s h octets) is ends).0

-- the capture ends behind blocks that tell nothing
pub end_behind : (s0 s : Standing) (ending : How) (gave g : List ℕ) (left : Option (List ℕ)) → HasRead (Reading s0) (Reading s) gave [] → s.place ≡ s0.place + length gave → EndsAs s ending g → IfSome left (λ rest. EndsAs s ending (g ++ rest)) → length g ≤ longest_block → HasEnded (Reading s0) (Ended ending) (gave ++ g) left ending
end_behind s0 s ending gave g left was place ends whole few = record {
  state = refl;
  taken = was g [] ending (tells_end s ending g ends);
  whole = told left whole;
  near = λ at is. omega (arith, place, few, malformed_there s ending at g ends is, length-append gave g);
}
  where
    told : (left : Option (List ℕ)) → IfSome left (λ rest. EndsAs s ending (g ++ rest)) → IfSome left (λ rest. Comes (Reading s0) ((gave ++ g) ++ rest) (ended ending))
    told None whole = tt
    told (Some rest) whole = rw (append_assoc gave g rest) (was (g ++ rest) [] ending (tells_end s ending (g ++ rest) whole))

pub end_whole : (s : Standing) (octets : List ℕ) (left : Option (List ℕ)) → octets ≡ [] → IsSome s.order → NothingLeft left → IfSome left (λ rest. EndsAs s how.End (octets ++ rest))
end_whole s octets None none some nothing = tt
end_whole s octets (Some rest) none some nothing = (rw (none, nothing) refl, some)

-- octets that begin with no block end somehow
pub some_end : (s : Standing) (octets : List ℕ) → BeginsNone s octets → (ending : How) × EndsAs s ending octets
some_end s octets none = by s.order octets refl none
  where
    by : (order : Option ByteOrder) (octets : List ℕ) → s.order ≡ order → BeginsNone s octets → (ending : How) × EndsAs s ending octets
    by None octets is none = (how.Malformed s.place, (refl, (λ done. no is done.1), none))
      where
        no : s.order ≡ None → IsSome s.order → ⊥
        no is some = absurd (cc (ap is_some is, some))
    by (Some order) [] is none = (how.End, (refl, rw is refl))
    by (Some order) (x ∷ octets) is none = (how.Malformed s.place, (refl, (λ done. absurd (omega (arith, ap length done.0))), none))

pub fail_behind : (s0 s : Standing) (gave g : List ℕ) → HasRead (Reading s0) (Reading s) gave [] → IsUnread s g → HasFailed (Reading s0) (Ended how.Failed) (gave ++ g)
fail_behind s0 s gave g was unread =
    let end = some_end s g unread.none in
    record { state = refl; taken = (end.0, was g [] end.0 (tells_end s end.0 g end.1)); unread = (s, gave, g, refl, was, unread) }
