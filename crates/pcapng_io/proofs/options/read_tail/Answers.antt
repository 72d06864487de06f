use Rattle.std.proofs.Common.{◌≡◌, ℕ, ◌++◌, List, [], length, subst, arith, lit≤}
use Rattle.std.proofs.lemmas.Result.{err_from_is_err_and}
use Rattle.pcap_io.specs.declared.kind.ByteOrder.{ByteOrder}
use Rattle.pcap_io.specs.Numbers.{number_at}
use Rattle.pcap_io.proofs.Fronts.{number_at-append}
use Rattle.pcap_io.proofs.CallsJoined.{takes_whole}
use Rattle.pcapng_io.specs.Pieces.{FallsShort, IsTail}
use Rattle.pcapng_io.proofs.Parts.{short_stops, short_within, wrong_stops}
use Rattle.pcapng_io.proofs.options.read_tail.Goals as goal

pub returns-in_err-take-clause-octets : goal.returns-in_err-take-clause-octets
returns-in_err-take-clause-octets g c =
    let p = err_from_is_err_and c.from_residual.result c.from_residual.ensures.1 in
    let took = c.in_err-take.ensures.octets in
    let room : length c.take.new.buf ≡ 4 = omega (arith, c.take.auto.buf) in
    let left = g.S.Source.left c.take.new.source in
    let short : FallsShort 4 c.in_err-take.field-0.0 took.0 left = subst (λ (n : ℕ). FallsShort n c.in_err-take.field-0.0 took.0 left) room took.2 in (
      took.0,
      took.1,
      rw (p.1, p.2) (
        short_stops (IsTail c.args.order c.args.total) 4 took.0 c.in_err-take.field-0.0 left (λ first is. omega (arith, is.0)) short,
        short_within 4 4 [] took.0 c.in_err-take.field-0.0 left short (lit≤ tt),
      ),
    )

other_tail : (order : ByteOrder) (total : ℕ) (tail x : List ℕ) → length tail ≡ 4 → (number_at order 0 tail ≡ total → ⊥) → IsTail order total (tail ++ x) → ⊥
other_tail order total tail x size other is = other (omega (arith, is.1, number_at-append order 0 tail x (omega (arith, size))))

pub returns-then-number_at-total-clause-octets : goal.returns-then-number_at-total-clause-octets
returns-then-number_at-total-clause-octets g c =
    let took = c.in_ok-take.ensures.octets in
    let tail = c.take.new.buf in
    let size : length tail ≡ 4 = omega (arith, c.take.auto.buf) in (
      tail,
      takes_whole _ _ took.0 tail took.1 took.2,
      (
        wrong_stops (IsTail c.args.order c.args.total) tail (g.S.Source.left c.take.new.source) (λ first is. omega (arith, is.0, size))
            (λ x is. other_tail c.args.order c.args.total tail x size (λ same. omega (arith, same, c.number_at.ensures, c.if-number_at-total.true)) is),
        omega (arith, size),
      ),
    )

pub returns-clause-octets : goal.returns-clause-octets
returns-clause-octets g c =
    let took = c.in_ok-take.ensures.octets in
    let tail = c.take.new.buf in
    let size : length tail ≡ 4 = omega (arith, c.take.auto.buf) in
    (tail, takes_whole _ _ took.0 tail took.1 took.2, (size, omega (arith, c.number_at.ensures, c.if-number_at-total.false)))
