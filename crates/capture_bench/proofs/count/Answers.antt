use Rattle.std.proofs.Common.{[], ◌∷◌, ◌++◌, ap, refl, arith, length-append}
use Rattle.savi_ends.proofs.Octets.{takes_more}
use Rattle.pcap_io.specs.Kinds.{classic_kinds}
use Rattle.pcap_io.specs.Readers.{Fresh, record_place}
use Rattle.pcap_io.proofs.CallsJoined.{has_read_none, has_read_more, takes_none}
use Rattle.capture_bench.proofs.Counting.{one_read}
use Rattle.capture_bench.proofs.count.Goals as goal

pub loop-records-init : goal.loop-records-init
loop-records-init g c =
    rw c.new-reader.ensures
    (record {
      read = ([], [], takes_none (g.S.Source.left c.args.source), has_read_none (Fresh classic_kinds), refl);
      least = omega arith;
      most = omega arith;
    })

pub loop-records-preserved : goal.loop-records-preserved
loop-records-preserved g c =
    let was = c.loop-records.invariant in
    let call = c.next.ensures.octets in
    let one = one_read c.loop-records.reader c.next.new.self call.0 c.next.new.buf (g.S.Source.left c.next.new.source) c.next.result call.2 c.in-Frame.is in
    let place = ap record_place one.1.running.1 in
    record {
      read = (
        was.read.0 ++ call.0,
        was.read.1 ++ (one.0 ∷ []),
        takes_more was.read.0 call.0 _ _ _ was.read.2 call.1,
        has_read_more (Fresh classic_kinds) c.loop-records.reader c.next.new.self was.read.0 call.0 was.read.1 (one.0 ∷ []) was.read.3 one.1.read,
        omega (arith, was.read.4, length-append was.read.1 (one.0 ∷ [])),
      );
      least = omega (arith, was.least, place, one.1.some);
      most = omega (arith, place, one.1.placed);
    }
