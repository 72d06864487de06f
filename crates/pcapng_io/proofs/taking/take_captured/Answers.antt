use Rattle.std.proofs.Common.{◌≡◌, ℕ, ◌-◌, ◌++◌, length, sym, subst, ◌∙◌, arith, length-append}
use Rattle.std.proofs.lemmas.List.{length-take}
use Rattle.std.proofs.lemmas.Result.{MatchResult-weaker}
use Rattle.savi_ends.proofs.Octets.{takes_more}
use Rattle.pcap_io.proofs.CallsJoined.{takes_whole}
use Rattle.pcap_io.proofs.Fronts.{take_front}
use Rattle.pcapng_io.specs.Options.{padded}
use Rattle.pcapng_io.specs.Pieces.{FallsShort}
use Rattle.pcapng_io.proofs.Parts.{short_behind}
use Rattle.pcapng_io.proofs.taking.take_captured.Goals as goal

pub returns-clause-octets : goal.returns-clause-octets
returns-clause-octets g c =
    let took = c.in_ok-take.ensures.octets in
    let piece = c.take.new.buf in
    let size : length piece ≡ c.args.len = omega (arith, c.take.auto.buf, length-take c.args.len c.args.buf.now) in
    let pad = c.pass_over-2.ensures.octets in
    let padding : c.padded_len-2.result ≡ padded c.args.len = c.padded_len-2.ensures in
    let left = g.S.Source.left c.pass_over-2.new.source in (
      piece ++ pad.0,
      takes_more piece pad.0 _ _ _ (takes_whole _ _ took.0 piece took.1 took.2) pad.1,
      MatchResult-weaker c.pass_over-2.result pad.2
          (λ done long. (
            omega (arith, size, long, padding, length-append piece pad.0),
            λ short. take_front piece pad.0 c.args.len size ∙ sym (take_front piece _ c.args.len size),
          ))
          (λ why short. subst (λ (n : ℕ). FallsShort n why (piece ++ pad.0) left) (omega (arith, size, padding)) (short_behind (c.padded_len-2.result - c.args.len) piece pad.0 why left short)),
    )
