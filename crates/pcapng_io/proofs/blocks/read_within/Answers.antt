use Rattle.std.proofs.Common.{ℕ, ◌+◌, arith}
use Rattle.std.proofs.lemmas.Result.{MatchResult-weaker}
use Rattle.pcapng_io.specs.Blocks.{IsTotal}
use Rattle.pcapng_io.proofs.blocks.read_within.Goals as goal

-- a total length that may be one of a longer block
least_of : (place least total : ℕ) → IsTotal place (12 + least) total → IsTotal place 12 total
least_of place least total is = record { words = is.words; fits = omega (arith, is.fits); bounded = is.bounded; placed = is.placed }

pub returns-in-1-clause-sound : goal.returns-in-1-clause-sound
returns-in-1-clause-sound g c = λ failed. least_of _ 8 _ (c.read_interface.ensures.sound failed)

pub returns-in-6-clause-sound : goal.returns-in-6-clause-sound
returns-in-6-clause-sound g c = λ failed. least_of _ 20 _ (c.read_packet.ensures.sound failed)

pub returns-in-1-clause-octets : goal.returns-in-1-clause-octets
returns-in-1-clause-octets g c =
    let rest = c.read_interface.ensures.octets in
    (rest.0, rest.1, MatchResult-weaker c.read_interface.result rest.2 (λ whole is. is c.args.buf.now) (λ why stops. stops))

pub returns-in_default-clause-octets : goal.returns-in_default-clause-octets
returns-in_default-clause-octets g c =
    let rest = c.read_other.ensures.octets in
    (rest.0, rest.1, MatchResult-weaker c.read_other.result rest.2 (λ whole is. is c.args.buf.now) (λ why stops. stops))
