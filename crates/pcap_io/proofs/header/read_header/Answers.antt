use Rattle.std.proofs.Common.{◌≡◌, ◌<◌, length, ap, arith}
use Rattle.std.proofs.lemmas.List.{length-take}
use Rattle.std.proofs.lemmas.Grind.{common_steps}
use Rattle.pcap_io.specs.ReaderStates.{kinds_of}
use Rattle.pcap_io.proofs.CallsJoined.{takes_whole}
use Rattle.pcap_io.proofs.FirstOctets.{ended_in_header, failed_in_header, ended_at_header}
use Rattle.pcap_io.proofs.header.read_header.Goals as goal

pub returns-in-Short-clause-octets : goal.returns-in-Short-clause-octets
returns-in-Short-clause-octets g c =
    let took = c.in-Short.ensures.octets in
    let room : length c.fill.new.buf ≡ 24 = grind (arith, common_steps, c.fill.auto.buf) in
    let cut : length took.0 < 24 = omega (arith, room, took.2.0, ap length took.2.1, length-take c.in-Short.field-0 c.fill.new.buf) in
    (took.0, took.1, ended_in_header (kinds_of c.args.only) took.0 (g.S.Source.left c.fill.new.source) cut took.2.2)

pub returns-in-Failed-clause-octets : goal.returns-in-Failed-clause-octets
returns-in-Failed-clause-octets g c =
    let took = c.in-Failed.ensures.octets in
    let room : length c.fill.new.buf ≡ 24 = grind (arith, common_steps, c.fill.auto.buf) in
    (took.0, took.1, failed_in_header (kinds_of c.args.only) took.0 (omega (arith, took.2.0)))

pub returns-in-None-clause-octets : goal.returns-in-None-clause-octets
returns-in-None-clause-octets g c =
    let took = c.in-Whole.ensures.octets in
    let room : length c.fill.new.buf ≡ 24 = grind (arith, common_steps, c.fill.auto.buf) in
    (c.fill.new.buf, takes_whole _ _ took.0 c.fill.new.buf took.1 took.2, ended_at_header (kinds_of c.args.only) c.fill.new.buf (g.S.Source.left c.fill.new.source) room c.in-None.ensures.none)
