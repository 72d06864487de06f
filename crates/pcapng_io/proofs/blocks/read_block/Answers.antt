use Rattle.std.proofs.Common.{◌≡◌, lit≤, ◌++◌, length, length-take-le, ap, ◌∙◌, arith}
use Rattle.std.proofs.lemmas.Result.{err_from_is_err_and}
use Rattle.std.specs.Result.{result_ok}
use Rattle.savi_ends.proofs.Octets.{takes_more}
use Rattle.pcap_io.proofs.CallsJoined.{takes_whole}
use Rattle.pcapng_io.specs.Runs.{IsDone}
use Rattle.pcapng_io.specs.ReaderStates.{standing_of}
use Rattle.pcapng_io.proofs.Readings.{stops_in_head, stops_here, fits_by}
use Rattle.pcapng_io.proofs.blocks.read_block.Goals as goal

pub returns-in-Short-2-clause-octets : goal.returns-in-Short-2-clause-octets
returns-in-Short-2-clause-octets g c =
    let s = standing_of c.args.position.now in
    let took = c.in-Short.ensures.octets in
    let room : length c.fill.new.buf ≡ 8 = omega (arith, c.fill.auto.buf) in
    let size : length took.0 ≡ c.in-Short.field-0 = ap length took.2.1 ∙ length-take-le c.in-Short.field-0 c.fill.new.buf (omega (arith, took.2.0)) in
    let more : IsDone s took.0 → ⊥ = λ done. c.in-Short.field-0-test.1 (omega (arith, size, ap length done.0)) in
    (took.0, took.1, stops_in_head s took.0 (g.S.Source.left c.fill.new.source) (omega (arith, size, room, took.2.0)) more took.2.2)

pub returns-in_err-read_section-clause-octets : goal.returns-in_err-read_section-clause-octets
returns-in_err-read_section-clause-octets g c =
    let p = err_from_is_err_and c.from_residual.result c.from_residual.ensures.1 in
    let s = standing_of c.args.position.now in
    let took = c.in-Whole.ensures.octets in
    let head = c.fill.new.buf in
    let size : length head ≡ 8 = omega (arith, c.fill.auto.buf) in
    let first = takes_whole _ _ took.0 head took.1 took.2 in
    let rest = c.in_err-read_section.ensures.octets in
    let left = g.S.Source.left c.read_section.new.source in
    (head ++ rest.0, takes_more head rest.0 _ _ _ first rest.1, rw (p.1, p.2) (stops_here s head rest.0 c.in_err-read_section.field-0.0 left size rest.2.0 rest.2.1 (λ failed order here other. absurd (other (c.stands_at.ensures.0 c.if-stands_at.true)))))

pub returns-then-stands_at-clause-octets : goal.returns-then-stands_at-clause-octets
returns-then-stands_at-clause-octets g c =
    let s = standing_of c.args.position.now in
    let took = c.in-Whole.ensures.octets in
    let head = c.fill.new.buf in
    let size : length head ≡ 8 = omega (arith, c.fill.auto.buf) in
    let first = takes_whole _ _ took.0 head took.1 took.2 in
    let rest = c.in_ok-read_section.ensures.octets in
    (head ++ rest.0, takes_more head rest.0 _ _ _ first rest.1, rest.2 c.args.buf.now)

pub returns-in_err-read_within-clause-octets : goal.returns-in_err-read_within-clause-octets
returns-in_err-read_within-clause-octets g c =
    let p = err_from_is_err_and c.from_residual-in_err-read_within.result c.from_residual-in_err-read_within.ensures.1 in
    let s = standing_of c.args.position.now in
    let took = c.in-Whole.ensures.octets in
    let head = c.fill.new.buf in
    let size : length head ≡ 8 = omega (arith, c.fill.auto.buf) in
    let first = takes_whole _ _ took.0 head took.1 took.2 in
    let rest = c.in_err-read_within.ensures.octets in
    let left = g.S.Source.left c.read_within.new.source in
    (head ++ rest.0, takes_more head rest.0 _ _ _ first rest.1, rw (p.1, p.2) (stops_here s head rest.0 c.in_err-read_within.field-0.0 left size rest.2.0 rest.2.1 (λ failed order here other. fits_by s c.in_ok-order.order order head 12 (lit≤ tt) (c.ok_or.ensures.ok_part ∙ ap result_ok c.in_ok-order.was) here (c.in_err-read_within.ensures.sound (cc failed)))))

pub returns-clause-octets : goal.returns-clause-octets
returns-clause-octets g c =
    let took = c.in-Whole.ensures.octets in
    let head = c.fill.new.buf in
    let first = takes_whole _ _ took.0 head took.1 took.2 in
    let rest = c.in_ok-read_within.ensures.octets in
    (head ++ rest.0, takes_more head rest.0 _ _ _ first rest.1, rest.2)
