use Rattle.std.proofs.Common.{◌≡◌, ℕ, ◌-◌, false, List, ◌++◌, length, take, Option, Some, None, Result, Err, IfNone, IfSome, sym, ap, subst, ◌∙◌, arith, [], lit≤, length-append}
use Rattle.std.proofs.lemmas.Result.{err_from_is_err_and}
use Rattle.std.specs.Result.{result_ok}
use Rattle.std.specs.Option.{ok_or}
use Rattle.savi_ends.proofs.Octets.{takes_more}
use Rattle.pcap_io.specs.declared.kind.ByteOrder.{ByteOrder}
use Rattle.pcap_io.specs.Numbers.{number_at}
use Rattle.pcap_io.proofs.CallsJoined.{takes_whole}
use Rattle.pcapng_io.specs.declared.stop.Stop.{Stop}
use Rattle.pcapng_io.specs.declared.stop.Stop.TheVariants as stop
use Rattle.pcapng_io.specs.Numbers.{half_at}
use Rattle.pcapng_io.specs.Blocks.{IsTotal}
use Rattle.pcapng_io.specs.Pieces.{Stops, FallsShort, IsRest}
use Rattle.pcapng_io.specs.ReaderStates.{standing_of}
use Rattle.pcapng_io.proofs.Parts.{short_within}
use Rattle.pcapng_io.proofs.Sections.{section_short, section_wrong, section_stops, section_read, magic_once, magic_text}
use Rattle.pcapng_io.proofs.blocks.read_section.Goals as goal
use Rattle.pcapng_io.proofs.blocks.read_section.Goals.{then-half_at-ne-VERSION_MAJOR-via-then-half_at-ne-VERSION_MAJOR, then-half_at-ne-VERSION_MAJOR-via-else-half_at-ne-VERSION_MAJOR+then-not-is_total}

pub returns-in_err-take-clause-octets : goal.returns-in_err-take-clause-octets
returns-in_err-take-clause-octets g c =
    let p = err_from_is_err_and c.from_residual.result c.from_residual.ensures.1 in
    let s = standing_of c.args.position.now in
    let head = c.args.head.now in
    let head_size : length head ≡ 8 = c.told-head in
    let took = c.in_err-take.ensures.octets in
    let room : length c.take.new.buf ≡ 16 = omega (arith, c.take.auto.buf) in
    let left = g.S.Source.left c.take.new.source in
    let short : FallsShort 16 c.in_err-take.field-0.0 took.0 left = subst (λ (n : ℕ). FallsShort n c.in_err-take.field-0.0 took.0 left) room took.2 in
    (took.0, took.1, rw (p.1, p.2) (section_short s head took.0 c.in_err-take.field-0.0 left head_size c.requires.kind short, short_within 16 1048568 [] took.0 c.in_err-take.field-0.0 left short (lit≤ tt)))

why_of : (r : Result ByteOrder Stop) (o : Option ByteOrder) (e : Stop) → r ≡ ok_or o stop.Malformed → o ≡ None → r ≡ Err e → stop.Malformed ≡ e
why_of r None e told none was = cc
why_of r (Some o) e told none was = cc

magic_of : (o : Option ByteOrder) (fields : List ℕ) (order : ByteOrder) → IfSome o (λ order. take 4 fields ≡ magic_text order) → o ≡ Some order → take 4 fields ≡ magic_text order
magic_of None fields order some is = cc
magic_of (Some o) fields order some is = let same : o ≡ order = cc in subst (λ (p : ByteOrder). take 4 fields ≡ magic_text p) same some

pub returns-in_err-order-clause-octets : goal.returns-in_err-order-clause-octets
returns-in_err-order-clause-octets g c =
    let p = err_from_is_err_and c.from_residual-in_err-order.result c.from_residual-in_err-order.ensures.1 in
    let s = standing_of c.args.position.now in
    let head = c.args.head.now in
    let head_size : length head ≡ 8 = c.told-head in
    let took = c.in_ok-take.ensures.octets in
    let fields = c.take.new.buf in
    let size : length fields ≡ 16 = omega (arith, c.take.auto.buf) in
    let first = takes_whole _ _ took.0 fields took.1 took.2 in
    let none : c.order_by.result ≡ None = c.ok_or.ensures.ok_part ∙ ap result_ok c.in_err-order.was in
    let no : (order : ByteOrder) → take 4 fields ≡ magic_text order → ⊥ = subst (λ (o : Option ByteOrder). IfNone o ((order : ByteOrder) → take 4 fields ≡ magic_text order → ⊥)) none c.order_by.ensures.none in
    let why : stop.Malformed ≡ c.in_err-order.field-0.0 = why_of c.ok_or.result c.order_by.result c.in_err-order.field-0.0 c.ok_or.ensures.value none c.in_err-order.was in (
      fields,
      first,
      rw (p.1, p.2, ← why) (section_wrong s head fields (g.S.Source.left c.take.new.source) head_size size c.requires.kind (λ order magic major total. no order magic), omega (arith, size)),
    )

pub returns-then-half_at-ne-VERSION_MAJOR-clause-octets : goal.returns-then-half_at-ne-VERSION_MAJOR-clause-octets
returns-then-half_at-ne-VERSION_MAJOR-clause-octets g c =
    let s = standing_of c.args.position.now in
    let head = c.args.head.now in
    let head_size : length head ≡ 8 = c.told-head in
    let took = c.in_ok-take.ensures.octets in
    let fields = c.take.new.buf in
    let size : length fields ≡ 16 = omega (arith, c.take.auto.buf) in
    let first = takes_whole _ _ took.0 fields took.1 took.2 in
    let here = c.in_ok-order.order in
    let told : c.order_by.result ≡ Some here = c.ok_or.ensures.ok_part ∙ ap result_ok c.in_ok-order.was in
    let magic = magic_of c.order_by.result fields here c.order_by.ensures.some told in (
      fields,
      first,
      (
        section_wrong s head fields (g.S.Source.left c.take.new.source) head_size size c.requires.kind
            (λ order other major total.
            let same : order ≡ here = magic_once order here (sym other ∙ magic) in
            let major' : half_at here 4 fields ≡ 1 = subst (λ (o : ByteOrder). half_at o 4 fields ≡ 1) same major in
            let total' : IsTotal s.place 28 c.number_at-total.result = subst (λ (n : ℕ). IsTotal s.place 28 n) (sym c.number_at-total.ensures) (subst (λ (o : ByteOrder). IsTotal s.place 28 (number_at o 4 head)) same total) in
            elim c.then-half_at-ne-VERSION_MAJOR.branch [
              | then-half_at-ne-VERSION_MAJOR-via-then-half_at-ne-VERSION_MAJOR w ↦ absurd (omega (arith, major', c.half_at.ensures, w.if-half_at-ne-VERSION_MAJOR.true))
              | then-half_at-ne-VERSION_MAJOR-via-else-half_at-ne-VERSION_MAJOR+then-not-is_total w ↦ cc (w.is_total.ensures.1 total', w.if-not-is_total.true)
            ]),
        omega (arith, size),
      ),
    )

pub returns-in_err-read_rest-clause-octets : goal.returns-in_err-read_rest-clause-octets
returns-in_err-read_rest-clause-octets g c =
    let p = err_from_is_err_and c.from_residual-in_err-read_rest.result c.from_residual-in_err-read_rest.ensures.1 in
    let s = standing_of c.args.position.now in
    let head = c.args.head.now in
    let head_size : length head ≡ 8 = c.told-head in
    let took = c.in_ok-take.ensures.octets in
    let fields = c.take.new.buf in
    let size : length fields ≡ 16 = omega (arith, c.take.auto.buf) in
    let first = takes_whole _ _ took.0 fields took.1 took.2 in
    let here = c.in_ok-order.order in
    let told : c.order_by.result ≡ Some here = c.ok_or.ensures.ok_part ∙ ap result_ok c.in_ok-order.was in
    let magic = magic_of c.order_by.result fields here c.order_by.ensures.some told in
    let rest = c.in_err-read_rest.ensures.octets in
    let left = g.S.Source.left c.read_rest.new.source in
    let total : IsTotal s.place 28 c.number_at-total.result = c.is_total.ensures.0 (cc (c.if-not-is_total.false)) in
    let stops : Stops (λ x. (units : ℕ) × IsRest here false (number_at here 4 head - 24 - 4) (number_at here 4 head) units x) c.in_err-read_rest.field-0.0 rest.0 left =
    subst (λ (n : ℕ). Stops (λ x. (units : ℕ) × IsRest here false (n - 24 - 4) n units x) c.in_err-read_rest.field-0.0 rest.0 left) c.number_at-total.ensures rest.2.0 in (
      fields ++ rest.0,
      takes_more fields rest.0 _ _ _ first rest.1,
      rw (p.1, p.2) (section_stops s here head fields rest.0 c.in_err-read_rest.field-0.0 left head_size size c.requires.kind magic stops, omega (arith, size, rest.2.1, total.fits, total.bounded, length-append fields rest.0)),
    )

pub returns-clause-octets : goal.returns-clause-octets
returns-clause-octets g c =
    let s = standing_of c.args.position.now in
    let head = c.args.head.now in
    let head_size : length head ≡ 8 = c.told-head in
    let took = c.in_ok-take.ensures.octets in
    let fields = c.take.new.buf in
    let size : length fields ≡ 16 = omega (arith, c.take.auto.buf) in
    let first = takes_whole _ _ took.0 fields took.1 took.2 in
    let here = c.in_ok-order.order in
    let told : c.order_by.result ≡ Some here = c.ok_or.ensures.ok_part ∙ ap result_ok c.in_ok-order.was in
    let magic = magic_of c.order_by.result fields here c.order_by.ensures.some told in
    let rest = c.in_ok-read_rest.ensures.octets in
    let total : IsTotal s.place 28 (number_at here 4 head) = subst (λ (n : ℕ). IsTotal s.place 28 n) c.number_at-total.ensures (c.is_total.ensures.0 (cc (c.if-not-is_total.false))) in
    let units = c.in_ok-read_rest.field-0 in
    let is : IsRest here false (number_at here 4 head - 24 - 4) (number_at here 4 head) units rest.0 = subst (λ (n : ℕ). IsRest here false (n - 24 - 4) n units rest.0) c.number_at-total.ensures rest.2 in
    let read = section_read s here head fields rest.0 units head_size size c.requires.kind magic (omega (arith, c.half_at.ensures, c.if-half_at-ne-VERSION_MAJOR.false)) total is in (
      fields ++ rest.0,
      takes_more fields rest.0 _ _ _ first rest.1,
      λ held. (read.0, read.1 ∙ sym c.number_at-total.ensures),
    )
