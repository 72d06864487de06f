-- No list of octets tells two things.
use Rattle.std.proofs.Common.{◌≡◌, ℕ, ◌≤◌, true, List, [], ◌∷◌, ◌++◌, length, take, drop, inl, inr, refl, sym, ap, subst, ◌∙◌, arith, append_assoc, length-append}
use Rattle.std.proofs.lemmas.Bool.{cases_lt}
use Rattle.std.proofs.lemmas.List.{take-append-le, drop-append-le, length-drop}
use Rattle.savi_kinds.specs.declared.entry.How.{How}
use Rattle.savi_kinds.specs.declared.entry.How.TheVariants as how
use Rattle.pcap_io.specs.declared.kind.ByteOrder.{ByteOrder}
use Rattle.pcap_io.specs.Numbers.{number_at}
use Rattle.pcap_io.proofs.Fronts.{number_at-append}
use Rattle.pcapng_io.specs.Options.{BlockOption, AreOptions, resolved, HaveOptions}
use Rattle.pcapng_io.specs.Blocks.{Block, Section, Interface, Packet, Other, Standing, part_from, IsBlock, behind}
use Rattle.pcapng_io.specs.Runs.{Event, Input, events_of, all_events, EndsAs, AreBlocks, Tell, Arrive, at_start}
use Rattle.pcapng_io.proofs.Parts.{fronts, same_fronts}
use Rattle.pcapng_io.proofs.Walks.{first_option}
use Rattle.pcapng_io.proofs.BlockParts.{section_of, interface_of, packet_of, other_of, other_is}
use Rattle.pcapng_io.proofs.Sections.{magic_once}
use Rattle.pcapng_io.proofs.Readings.{block_total}

pub options_once : (order : ByteOrder) (one other : List BlockOption) (octets : List ℕ) → AreOptions order one octets → AreOptions order other octets → one ≡ other
options_once order [] [] octets a b = refl
options_once order [] (p ∷ other) octets a b =
    let first = first_option order b.0 b.1 p [] b.3 (subst (λ (l : List ℕ). AreOptions order [] l) b.2 a) in
    absurd (cc (first.1))
options_once order (o ∷ one) other octets a b =
    let first = first_option order a.0 a.1 o other a.3 (subst (λ (l : List ℕ). AreOptions order other l) a.2 b) in
    ap (λ (l : List BlockOption). o ∷ l) (options_once order one first.0 a.1 a.4 first.2) ∙ sym first.1

units_once : (order : ByteOrder) (octets : List ℕ) (one other : ℕ) → HaveOptions order true one octets → HaveOptions order true other octets → one ≡ other
units_once order octets one other a b = a.2.1 ∙ ap (λ (l : List BlockOption). resolved 1000000 l) (options_once order a.0 b.0 octets a.1 b.1) ∙ sym b.2.1

-- no block is a front of another one
no_longer : (s : Standing) (b c : Block) (first x : List ℕ) → IsBlock s b first → IsBlock s c (first ++ x) → length x ≡ 0
no_longer s (Section order) c first x is other =
    let least = is.0.total.fits in
    let whole = section_of s (first ++ x) c (take-append-le 4 first x (omega (arith, least)) ∙ is.1.kind) other in
    let drops : drop 8 (first ++ x) ≡ drop 8 first ++ x = drop-append-le 8 first x (omega (arith, least)) in
    let enough : 4 ≤ length (drop 8 first) = omega (arith, least, length-drop 8 first) in
    let magic : take 4 (drop 8 (first ++ x)) ≡ take 4 (drop 8 first) = ap (take 4) drops ∙ take-append-le 4 (drop 8 first) x enough in
    let same : whole.0 ≡ order = magic_once whole.0 order (sym whole.2.magic ∙ magic ∙ is.1.magic) in
    let named : number_at order 4 (first ++ x) ≡ length (first ++ x) = subst (λ (o : ByteOrder). number_at o 4 (first ++ x) ≡ length (first ++ x)) same whole.1.named in
    omega (arith, named, is.0.named, number_at-append order 4 first x (omega (arith, least)), length-append first x)
no_longer s (Interface link units) c first x is other =
    let order = is.0 in
    let least = is.2.total.fits in
    let whole = interface_of s order (first ++ x) c is.1 (number_at-append order 0 first x (omega (arith, least)) ∙ is.3.kind) other in
    omega (arith, whole.2.named, is.2.named, number_at-append order 4 first x (omega (arith, least)), length-append first x)
no_longer s (Packet interface stamp captured) c first x is other =
    let order = is.0 in
    let least = is.2.total.fits in
    let whole = packet_of s order (first ++ x) c is.1 (number_at-append order 0 first x (omega (arith, least)) ∙ is.3.kind) other in
    omega (arith, whole.3.named, is.2.named, number_at-append order 4 first x (omega (arith, least)), length-append first x)
no_longer s Other c first x is other =
    let order = is.0 in
    let least = is.2.total.fits in
    let type : number_at order 0 (first ++ x) ≡ number_at order 0 first = number_at-append order 0 first x (omega (arith, least)) in
    let framed = other_of s order (first ++ x) c is.1 (λ e. is.3.no_section (sym (take-append-le 4 first x (omega (arith, least))) ∙ e)) (λ e. is.3.no_interface (sym type ∙ e)) (λ e. is.3.no_packet (sym type ∙ e)) other in
    omega (arith, framed.named, is.2.named, number_at-append order 4 first x (omega (arith, least)), length-append first x)

nil_of : (x : List ℕ) → length x ≡ 0 → x ≡ []
nil_of [] size = refl
nil_of (y ∷ x) size = absurd (omega (arith, size))

-- the first blocks of the same octets are the same octets
pub first_once : (s : Standing) (b c : Block) (first rest first' rest' : List ℕ) → first ++ rest ≡ first' ++ rest' → IsBlock s b first → IsBlock s c first' → (first' ≡ first) × (rest ≡ rest')
first_once s b c first rest first' rest' same one other =
    elim (cases_lt (length first') (length first)) [
      | inr within ↦
          let f = fronts first rest first' rest' same within in
          let size : length f.0 ≡ 0 = no_longer s b c first f.0 one (subst (IsBlock s c) f.1 other) in
          same_fronts first rest first' rest' same (omega (arith, ap length f.1, length-append first f.0, size))
      | inl shorter ↦
          let f = fronts first' rest' first rest (sym same) (omega (arith, shorter)) in
          let size : length f.0 ≡ 0 = no_longer s c b first' f.0 other (subst (IsBlock s b) f.1 one) in
          same_fronts first rest first' rest' same (omega (arith, ap length f.1, length-append first' f.0, size))
    ]

-- a list of octets is one block
pub block_once : (s : Standing) (b c : Block) (octets : List ℕ) → IsBlock s b octets → IsBlock s c octets → b ≡ c
block_once s (Section order) c octets is other =
    let whole = section_of s octets c is.1.kind other in
    ap (λ (o : ByteOrder). Section o) (magic_once order whole.0 (sym is.1.magic ∙ whole.2.magic)) ∙ sym whole.3
block_once s (Interface link units) c octets is other =
    let whole = interface_of s is.0 octets c is.1 is.3.kind other in
    ap (λ (n : ℕ). Interface n units) (is.3.link_is ∙ sym whole.3.link_is)
    ∙ ap (λ (n : ℕ). Interface whole.0 n) (units_once is.0 (part_from 16 octets) units whole.1 is.3.options whole.3.options)
    ∙ sym whole.4
block_once s (Packet interface stamp captured) c octets is other =
    let whole = packet_of s is.0 octets c is.1 is.3.kind other in
    let size : length captured ≡ length whole.2 = sym is.3.size ∙ whole.4.size in
    ap (λ (n : ℕ). Packet n stamp captured) (is.3.interface_is ∙ sym whole.4.interface_is)
    ∙ ap (λ (n : ℕ). Packet whole.0 n captured) (is.3.stamp_is ∙ sym whole.4.stamp_is)
    ∙ ap (λ (l : List ℕ). Packet whole.0 whole.1 l) (is.3.captured_is ∙ ap (λ (n : ℕ). take n (drop 28 octets)) size ∙ sym whole.4.captured_is)
    ∙ sym whole.5
block_once s Other c octets is other = sym (other_is s is.0 octets c is.1 is.3 other)

ending_once : (s : Standing) (octets : List ℕ) (e f : How) → EndsAs s e octets → EndsAs s f octets → e ≡ f
ending_once s octets how.End how.End one other = refl
ending_once s octets how.End (how.Malformed at) one other = absurd (other.1 one)
ending_once s octets (how.Malformed at) how.End one other = absurd (one.1 other)
ending_once s octets (how.Malformed at) (how.Malformed to) one other = ap (λ (n : ℕ). how.Malformed n) (one.0 ∙ sym other.0)
ending_once s octets how.Quit f one other = absurd one
ending_once s octets (how.Overlong at) f one other = absurd one
ending_once s octets how.Failed f one other = absurd one
ending_once s octets how.Unwritten f one other = absurd one
ending_once s octets how.Paused f one other = absurd one
ending_once s octets e how.Quit one other = absurd other
ending_once s octets e (how.Overlong at) one other = absurd other
ending_once s octets e how.Failed one other = absurd other
ending_once s octets e how.Unwritten one other = absurd other
ending_once s octets e how.Paused one other = absurd other

-- where a block begins nothing ends
no_ending : (s : Standing) (b : Block) (first rest : List ℕ) (e : How) → IsBlock s b first → EndsAs s e (first ++ rest) → ⊥
no_ending s b first rest how.End is ends = omega (arith, (block_total s b first is).fits, ap length ends.0, length-append first rest)
no_ending s b first rest (how.Malformed at) is ends = ends.2 b first rest refl is
no_ending s b first rest how.Quit is ends = ends
no_ending s b first rest (how.Overlong at) is ends = ends
no_ending s b first rest how.Failed is ends = ends
no_ending s b first rest how.Unwritten is ends = ends
no_ending s b first rest how.Paused is ends = ends

pub blocks_once : (blocks others : List Block) (e f : How) (s : Standing) (octets : List ℕ) → AreBlocks s blocks e octets → AreBlocks s others f octets → (blocks ≡ others) × (e ≡ f)
blocks_once [] [] e f s octets one other = (refl, ending_once s octets e f one other)
blocks_once [] (c ∷ others) e f s octets one other = absurd (no_ending s c other.0 other.1 e other.3 (subst (λ (l : List ℕ). EndsAs s e l) other.2 one))
blocks_once (b ∷ blocks) [] e f s octets one other = absurd (no_ending s b one.0 one.1 f one.3 (subst (λ (l : List ℕ). EndsAs s f l) one.2 other))
blocks_once (b ∷ blocks) (c ∷ others) e f s octets one other =
    let same = first_once s b c one.0 one.1 other.0 other.1 (sym one.2 ∙ other.2) one.3 other.3 in
    let block : b ≡ c = block_once s b c one.0 one.3 (subst (IsBlock s c) same.0 other.3) in
    let later : AreBlocks (behind s b (length one.0)) others f one.1 =
    subst (λ (d : Block). AreBlocks (behind s d (length one.0)) others f one.1) (sym block)
    (subst (λ (l : List ℕ). AreBlocks (behind s c (length l)) others f one.1) same.0
    (subst (λ (l : List ℕ). AreBlocks (behind s c (length other.0)) others f l) (sym same.1) other.4)) in
    let more = blocks_once blocks others e f (behind s b (length one.0)) one.1 one.4 later in
    (ap (λ (d : Block). d ∷ blocks) block ∙ ap (λ (l : List Block). c ∷ l) more.0, more.1)

abbrev input_of : List Event → How → Input
input_of events ending = record { events = events; ending = ending }

pub tell_once : (s : Standing) (octets : List ℕ) (one other : Input) → Tell s octets one → Tell s octets other → one ≡ other
tell_once s octets one other a b =
    let same = blocks_once a.0 b.0 one.ending other.ending s octets a.1 b.1 in
    ap (λ (l : List Event). input_of l one.ending) (a.2 ∙ ap all_events same.0 ∙ sym b.2) ∙ ap (λ (e : How). input_of other.events e) same.1

pub one_input : (octets : List ℕ) (one other : Input) → Arrive octets one → Arrive octets other → one ≡ other
one_input octets one other a b = tell_once at_start octets one other a b

-- the first octets tell the first of the events
front_blocks : (blocks others : List Block) (e f : How) (s : Standing) (octets more : List ℕ) → AreBlocks s blocks e octets → AreBlocks s others f (octets ++ more) → (later : List Event) × (all_events others ≡ all_events blocks ++ later)
front_blocks [] others e f s octets more one whole = (all_events others, refl)
front_blocks (b ∷ blocks) [] e f s octets more one whole =
    let split : octets ++ more ≡ one.0 ++ (one.1 ++ more) = ap (λ (l : List ℕ). l ++ more) one.2 ∙ append_assoc one.0 one.1 more in
    absurd (no_ending s b one.0 (one.1 ++ more) f one.3 (subst (λ (l : List ℕ). EndsAs s f l) split whole))
front_blocks (b ∷ blocks) (c ∷ others) e f s octets more one whole =
    let split : octets ++ more ≡ one.0 ++ (one.1 ++ more) = ap (λ (l : List ℕ). l ++ more) one.2 ∙ append_assoc one.0 one.1 more in
    let same = first_once s b c one.0 (one.1 ++ more) whole.0 whole.1 (sym split ∙ whole.2) one.3 whole.3 in
    let block : b ≡ c = block_once s b c one.0 one.3 (subst (IsBlock s c) same.0 whole.3) in
    let behind_it : AreBlocks (behind s b (length one.0)) others f (one.1 ++ more) =
    subst (λ (d : Block). AreBlocks (behind s d (length one.0)) others f (one.1 ++ more)) (sym block)
    (subst (λ (l : List ℕ). AreBlocks (behind s c (length l)) others f (one.1 ++ more)) same.0
    (subst (λ (l : List ℕ). AreBlocks (behind s c (length whole.0)) others f l) (sym same.1) whole.4)) in
    let later = front_blocks blocks others e f (behind s b (length one.0)) one.1 more one.4 behind_it in (
      later.0,
      ap (λ (d : Block). events_of d ++ all_events others) (sym block) ∙ ap (λ (l : List Event). events_of b ++ l) later.1 ∙ sym (append_assoc (events_of b) (all_events blocks) later.0),
    )

pub front_input : (octets more : List ℕ) (part whole : Input) → Arrive octets part → Arrive (octets ++ more) whole → (later : List Event) × (whole.events ≡ part.events ++ later)
front_input octets more part whole a b =
    let later = front_blocks a.0 b.0 part.ending whole.ending at_start octets more a.1 b.1 in
    (later.0, b.2 ∙ later.1 ∙ ap (λ (l : List Event). l ++ later.0) (sym a.2))
