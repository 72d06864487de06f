use Rattle.std.proofs.Common.{◌≡◌, ℕ, ◌<◌, List, [], ◌∷◌, length, slice_index, Option, Some, None, Result, MatchResult, IfSome, IfNone, sym, subst, arith, length-take-le}
use Rattle.std.proofs.lemmas.Result.{err_from_is_err_and}
use Rattle.std.specs.Option.{ok_or}
use Rattle.pcap_io.proofs.CallsJoined.{takes_whole, takes_none}
use Rattle.pcapng_io.specs.declared.stop.Stop.{Stop}
use Rattle.pcapng_io.specs.declared.stop.Stop.TheVariants as stop
use Rattle.pcapng_io.specs.Options.{padded, IsResolution, units_of}
use Rattle.pcapng_io.specs.Pieces.{StopsWithin, FallsShort, IsResolutionRead}
use Rattle.pcapng_io.proofs.Parts.{short_stops, short_within, wrong_stops}
use Rattle.pcapng_io.proofs.options.read_resolution.Goals as goal

-- a resolution of so many octets with their padding
abbrev AreUnits : ℕ → List ℕ → Type 0
AreUnits len octets = (units : ℕ) × IsResolutionRead len units octets

one_octet : (len : ℕ) (x : List ℕ) → AreUnits len x → len ≡ 1
one_octet len x is = let size = length-take-le len x (omega (arith, is.1.0)) in omega (arith, size, is.1.1.0)

pub returns-then-len-ne1-clause-octets : goal.returns-then-len-ne1-clause-octets
returns-then-len-ne1-clause-octets g c = (
  [],
  takes_none (g.S.Source.left c.args.source.now),
  (wrong_stops (AreUnits c.args.len) [] (g.S.Source.left c.args.source.now) (λ first is. omega arith) (λ x is. c.if-len-ne1.true (one_octet c.args.len x is)), omega arith),
)

pub returns-in_err-take-clause-octets : goal.returns-in_err-take-clause-octets
returns-in_err-take-clause-octets g c =
    let p = err_from_is_err_and c.from_residual.result c.from_residual.ensures.1 in
    let took = c.in_err-take.ensures.octets in
    let room : length c.take.new.buf ≡ 4 = omega (arith, c.take.auto.buf) in
    let left = g.S.Source.left c.take.new.source in
    let short : FallsShort 4 c.in_err-take.field-0.0 took.0 left = subst (λ (n : ℕ). FallsShort n c.in_err-take.field-0.0 took.0 left) room took.2 in (
      took.0,
      took.1,
      rw (p.1, p.2) (
        short_stops (AreUnits c.args.len) 4 took.0 c.in_err-take.field-0.0 left (λ first is. omega (arith, is.1.0, c.if-len-ne1.false)) short,
        short_within 4 (padded c.args.len) [] took.0 c.in_err-take.field-0.0 left short (omega (arith, c.if-len-ne1.false)),
      ),
    )

units_read : (value : List ℕ) (o : Option ℕ) (left : Option (List ℕ)) → length value ≡ 4
    → IfSome o (λ units. (units ≡ units_of (slice_index value 0)) × (0 < units) × IsResolution (slice_index value 0 ∷ []))
    → IfNone o (¬ IsResolution (slice_index value 0 ∷ []))
    → MatchResult (ok_or o stop.Malformed) (λ units. IsResolutionRead 1 units value) (λ why. StopsWithin (padded 1) (AreUnits 1) why value left)
units_read [] o left size some none = absurd (omega (arith, size))
units_read (v ∷ vs) (Some units) left size some none = (size, some.2, some.0, some.1)
units_read (v ∷ vs) None left size some none =
    (wrong_stops (AreUnits 1) (v ∷ vs) left (λ first is. omega (arith, is.1.0, size)) (λ x is. none is.1.1), omega (arith, size))

pub returns-clause-octets : goal.returns-clause-octets
returns-clause-octets g c =
    let took = c.in_ok-take.ensures.octets in
    let value = c.take.new.buf in
    let left = g.S.Source.left c.take.new.source in
    let size : length value ≡ 4 = omega (arith, c.take.auto.buf) in
    let read = units_read value c.units_in.result left size c.units_in.ensures.some c.units_in.ensures.none in
    let by_len : MatchResult (ok_or c.units_in.result stop.Malformed) (λ units. IsResolutionRead c.args.len units value) (λ why. StopsWithin (padded c.args.len) (AreUnits c.args.len) why value left) =
    subst (λ (n : ℕ). MatchResult (ok_or c.units_in.result stop.Malformed) (λ units. IsResolutionRead n units value) (λ why. StopsWithin (padded n) (AreUnits n) why value left)) (sym c.if-len-ne1.false) read in
    (value, takes_whole _ _ took.0 value took.1 took.2, subst (λ (r : Result ℕ Stop). MatchResult r (λ units. IsResolutionRead c.args.len units value) (λ why. StopsWithin (padded c.args.len) (AreUnits c.args.len) why value left)) (sym c.ok_or.ensures.value) by_len)
