use Rattle.std.proofs.Common.{◌≡◌, ℕ, ◌-◌, true, [], ◌++◌, length, sym, subst, ◌∙◌, arith, lit≤, length-append}
use Rattle.std.proofs.lemmas.Result.{err_from_is_err_and}
use Rattle.savi_ends.proofs.Octets.{takes_more}
use Rattle.pcap_io.specs.Numbers.{number_at}
use Rattle.pcap_io.proofs.CallsJoined.{takes_whole, takes_none}
use Rattle.pcapng_io.specs.Blocks.{IsTotal}
use Rattle.pcapng_io.specs.Pieces.{Stops, FallsShort, IsRest}
use Rattle.pcapng_io.specs.ReaderStates.{standing_of}
use Rattle.pcapng_io.proofs.Parts.{short_within}
use Rattle.pcapng_io.proofs.Interfaces.{interface_wrong, interface_short, interface_stops, interface_read}
use Rattle.pcapng_io.proofs.blocks.read_interface.Goals as goal
use Rattle.pcapng_io.proofs.blocks.read_interface.Goals.{then-not-is_total-via-then-not-is_total, then-not-is_total-via-else-not-is_total+then-declared-ge-SECTION_INTERFACES_MOST, then-not-is_total-via-else-not-is_total+else-declared-ge-SECTION_INTERFACES_MOST+then-position-declared-ge-FILE_INTERFACES_MOST}

pub returns-then-not-is_total-clause-octets : goal.returns-then-not-is_total-clause-octets
returns-then-not-is_total-clause-octets g c =
    let s = standing_of c.args.position.now in
    let head = c.args.head.now in
    let head_size : length head ≡ 8 = c.told-head in (
      [],
      takes_none (g.S.Source.left c.args.source.now),
      (
        interface_wrong s c.args.order head (g.S.Source.left c.args.source.now) head_size c.requires.order_is c.requires.kind
            (λ total few few_in_file.
            let total' : IsTotal s.place 20 c.number_at-total.result = subst (λ (n : ℕ). IsTotal s.place 20 n) (sym c.number_at-total.ensures) total in
            elim c.then-not-is_total.branch [
              | then-not-is_total-via-then-not-is_total w ↦ cc (c.is_total.ensures.1 total', w.if-not-is_total.true)
              | then-not-is_total-via-else-not-is_total+then-declared-ge-SECTION_INTERFACES_MOST w ↦ absurd (omega (arith, few, w.if-declared-ge-SECTION_INTERFACES_MOST.true))
              | then-not-is_total-via-else-not-is_total+else-declared-ge-SECTION_INTERFACES_MOST+then-position-declared-ge-FILE_INTERFACES_MOST w ↦ absurd (omega (arith, few_in_file, w.if-position-declared-ge-FILE_INTERFACES_MOST.true))
            ]),
        omega arith,
      ),
    )

pub returns-in_err-take-clause-octets : goal.returns-in_err-take-clause-octets
returns-in_err-take-clause-octets g c =
    let p = err_from_is_err_and c.from_residual.result c.from_residual.ensures.1 in
    let s = standing_of c.args.position.now in
    let head = c.args.head.now in
    let head_size : length head ≡ 8 = c.told-head in
    let took = c.in_err-take.ensures.octets in
    let room : length c.take.new.buf ≡ 8 = omega (arith, c.take.auto.buf) in
    let left = g.S.Source.left c.take.new.source in
    let short : FallsShort 8 c.in_err-take.field-0.0 took.0 left = subst (λ (n : ℕ). FallsShort n c.in_err-take.field-0.0 took.0 left) room took.2 in
    (took.0, took.1, rw (p.1, p.2) (interface_short s c.args.order head took.0 c.in_err-take.field-0.0 left head_size c.requires.order_is c.requires.kind short, short_within 8 1048568 [] took.0 c.in_err-take.field-0.0 left short (lit≤ tt)))

pub returns-in_err-units-clause-octets : goal.returns-in_err-units-clause-octets
returns-in_err-units-clause-octets g c =
    let p = err_from_is_err_and c.from_residual-in_err-units.result c.from_residual-in_err-units.ensures.1 in
    let s = standing_of c.args.position.now in
    let head = c.args.head.now in
    let head_size : length head ≡ 8 = c.told-head in
    let took = c.in_ok-take.ensures.octets in
    let fields = c.take.new.buf in
    let size : length fields ≡ 8 = omega (arith, c.take.auto.buf) in
    let first = takes_whole _ _ took.0 fields took.1 took.2 in
    let here = c.args.order in
    let rest = c.in_err-units.ensures.octets in
    let left = g.S.Source.left c.read_rest.new.source in
    let total : IsTotal s.place 20 c.number_at-total.result = c.is_total.ensures.0 (cc (c.if-not-is_total.false)) in
    let stops : Stops (λ x. (units : ℕ) × IsRest here true (number_at here 4 head - 16 - 4) (number_at here 4 head) units x) c.in_err-units.field-0.0 rest.0 left =
    subst (λ (n : ℕ). Stops (λ x. (units : ℕ) × IsRest here true (n - 16 - 4) n units x) c.in_err-units.field-0.0 rest.0 left) c.number_at-total.ensures rest.2.0 in (
      fields ++ rest.0,
      takes_more fields rest.0 _ _ _ first rest.1,
      rw (p.1, p.2) (interface_stops s here head fields rest.0 c.in_err-units.field-0.0 left head_size size c.requires.order_is c.requires.kind stops, omega (arith, size, rest.2.1, total.fits, total.bounded, length-append fields rest.0)),
    )

pub returns-clause-octets : goal.returns-clause-octets
returns-clause-octets g c =
    let s = standing_of c.args.position.now in
    let head = c.args.head.now in
    let head_size : length head ≡ 8 = c.told-head in
    let took = c.in_ok-take.ensures.octets in
    let fields = c.take.new.buf in
    let size : length fields ≡ 8 = omega (arith, c.take.auto.buf) in
    let first = takes_whole _ _ took.0 fields took.1 took.2 in
    let here = c.args.order in
    let rest = c.in_ok-units.ensures.octets in
    let total : IsTotal s.place 20 (number_at here 4 head) = subst (λ (n : ℕ). IsTotal s.place 20 n) c.number_at-total.ensures (c.is_total.ensures.0 (cc (c.if-not-is_total.false))) in
    let units = c.in_ok-units.units in
    let is : IsRest here true (number_at here 4 head - 16 - 4) (number_at here 4 head) units rest.0 = subst (λ (n : ℕ). IsRest here true (n - 16 - 4) n units rest.0) c.number_at-total.ensures rest.2 in
    let read = interface_read s here head fields rest.0 c.half_at-link.result units head_size size c.requires.order_is c.requires.kind total (omega arith) (omega arith) c.half_at-link.ensures is in (
      fields ++ rest.0,
      takes_more fields rest.0 _ _ _ first rest.1,
      λ held. ((read.0, c.in_ok-units.ensures.some), read.1 ∙ sym c.number_at-total.ensures),
    )
