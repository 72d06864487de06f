use Rattle.std.proofs.Common.{◌++◌, arith, length-append}
use Rattle.std.proofs.lemmas.Result.{err_from_is_err_and}
use Rattle.savi_ends.proofs.Octets.{takes_more}
use Rattle.pcapng_io.proofs.Rests.{rest_front, rest_tail, rest_read}
use Rattle.pcapng_io.proofs.options.read_rest.Goals as goal

pub returns-in_err-units-clause-octets : goal.returns-in_err-units-clause-octets
returns-in_err-units-clause-octets g c =
    let p = err_from_is_err_and c.from_residual.result c.from_residual.ensures.1 in
    let one = c.in_err-units.ensures.octets in (
      one.0,
      one.1,
      rw (p.1, p.2) (rest_front c.args.order c.args.is_interface c.args.len c.args.total one.0 c.in_err-units.field-0.0 (g.S.Source.left c.read_options.new.source) one.2.0, omega (arith, one.2.1)),
    )

pub returns-in_err-read_tail-clause-octets : goal.returns-in_err-read_tail-clause-octets
returns-in_err-read_tail-clause-octets g c =
    let p = err_from_is_err_and c.from_residual-in_err-read_tail.result c.from_residual-in_err-read_tail.ensures.1 in
    let one = c.in_ok-units.ensures.octets in
    let tail = c.in_err-read_tail.ensures.octets in (
      one.0 ++ tail.0,
      takes_more one.0 tail.0 _ _ _ one.1 tail.1,
      rw (p.1, p.2) (rest_tail c.args.order c.args.is_interface c.args.len c.args.total one.0 tail.0 c.in_err-read_tail.field-0.0 (g.S.Source.left c.read_tail.new.source) one.2.0 tail.2.0, omega (arith, one.2.0, tail.2.1, length-append one.0 tail.0)),
    )

pub returns-clause-octets : goal.returns-clause-octets
returns-clause-octets g c =
    let one = c.in_ok-units.ensures.octets in
    let tail = c.in_ok-read_tail.ensures.octets in (
      one.0 ++ tail.0,
      takes_more one.0 tail.0 _ _ _ one.1 tail.1,
      rest_read c.args.order c.args.is_interface c.args.len c.args.total c.in_ok-units.units one.0 tail.0 one.2.0 one.2.1 tail.2,
    )
