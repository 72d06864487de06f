use Rattle.std.proofs.Common.{◌≡◌, ◌<◌, ◌++◌, length, ap, inl, inr, arith}
use Rattle.std.proofs.lemmas.List.{length-take}
use Rattle.std.proofs.lemmas.Grind.{common_steps}
use Rattle.savi_ends.proofs.Octets.{takes_more}
use Rattle.pcap_io.proofs.CallsJoined.{takes_whole}
use Rattle.pcap_io.proofs.Endings.{failed_cut, ended_front}
use Rattle.pcap_io.proofs.OneRecord.{frame_read, long_read, ended_in_body, failed_in_body}
use Rattle.pcap_io.proofs.record.read_record.Goals as goal

pub returns-in-Failed-clause-octets : goal.returns-in-Failed-clause-octets
returns-in-Failed-clause-octets g c =
    let took = c.in-Failed.ensures.octets in
    let room : length c.fill.new.buf ≡ 16 = grind (arith, common_steps, c.fill.auto.buf) in
    (took.0, took.1, failed_cut c.args.kind c.args.place took.0 (omega (arith, took.2.0)) (λ at_fault. absurd (omega (arith, room, took.2.0, at_fault.counted))))

pub returns-then-len-gt-CAPTURED_OCTETS_MOST-clause-octets :
    goal.returns-then-len-gt-CAPTURED_OCTETS_MOST-clause-octets
returns-then-len-gt-CAPTURED_OCTETS_MOST-clause-octets g c =
    let took = c.in-Whole.ensures.octets in
    let front = c.fill.new.buf in
    let room : length front ≡ 16 = grind (arith, common_steps, c.fill.auto.buf) in (
      front,
      takes_whole _ _ took.0 front took.1 took.2,
      ended_front c.args.kind c.args.place front (g.S.Source.left c.fill.new.source) room (elim c.then-len-gt-CAPTURED_OCTETS_MOST.either [
        | inl long ↦ inl (omega (arith, long, c.number_at-len.ensures))
        | inr past ↦ inr (omega (arith, past.1, c.number_at-len.ensures, c.from.ensures))
      ]),
    )

pub returns-in-Whole-pass_over-clause-octets : goal.returns-in-Whole-pass_over-clause-octets
returns-in-Whole-pass_over-clause-octets g c =
    let took = c.in-Whole.ensures.octets in
    let front = c.fill.new.buf in
    let room : length front ≡ 16 = grind (arith, common_steps, c.fill.auto.buf) in
    let first = takes_whole _ _ took.0 front took.1 took.2 in
    let body = c.in-Whole-pass_over.ensures.octets in (
      front ++ body.0,
      takes_more front body.0 _ _ _ first body.1,
      (
        omega arith,
        omega arith,
        long_read c.args.kind c.args.place c.stamp_in-stamp.result c.number_at-len.result front body.0 room body.2 c.number_at-len.ensures c.stamp_in-stamp.ensures (omega arith) (omega arith) (omega arith),
      ),
    )

pub returns-in-Short-pass_over-clause-octets : goal.returns-in-Short-pass_over-clause-octets
returns-in-Short-pass_over-clause-octets g c =
    let took = c.in-Whole.ensures.octets in
    let front = c.fill.new.buf in
    let room : length front ≡ 16 = grind (arith, common_steps, c.fill.auto.buf) in
    let first = takes_whole _ _ took.0 front took.1 took.2 in
    let body = c.in-Short-pass_over.ensures.octets in (
      front ++ body.0,
      takes_more front body.0 _ _ _ first body.1,
      ended_in_body c.args.kind c.args.place c.number_at-len.result front body.0 (g.S.Source.left c.pass_over.new.source) room body.2.0 c.number_at-len.ensures (omega arith) body.2.1,
    )

pub returns-in-Failed-pass_over-clause-octets : goal.returns-in-Failed-pass_over-clause-octets
returns-in-Failed-pass_over-clause-octets g c =
    let took = c.in-Whole.ensures.octets in
    let front = c.fill.new.buf in
    let room : length front ≡ 16 = grind (arith, common_steps, c.fill.auto.buf) in
    let first = takes_whole _ _ took.0 front took.1 took.2 in
    let body = c.in-Failed-pass_over.ensures.octets in (
      front ++ body.0,
      takes_more front body.0 _ _ _ first body.1,
      failed_in_body c.args.kind c.args.place c.number_at-len.result front body.0 room body.2 c.number_at-len.ensures (omega arith) (omega arith),
    )

pub returns-in-Whole-fill-clause-octets : goal.returns-in-Whole-fill-clause-octets
returns-in-Whole-fill-clause-octets g c =
    let took = c.in-Whole.ensures.octets in
    let front = c.fill.new.buf in
    let room : length front ≡ 16 = grind (arith, common_steps, c.fill.auto.buf) in
    let first = takes_whole _ _ took.0 front took.1 took.2 in
    let body = c.in-Whole-fill.ensures.octets in
    let piece : length c.fill-2.new.buf ≡ c.number_at-len.result = omega (arith, c.fill-2.auto.buf, length-take c.number_at-len.result c.args.buf.now) in (
      front ++ c.fill-2.new.buf,
      takes_more front c.fill-2.new.buf _ _ _ first (takes_whole _ _ body.0 c.fill-2.new.buf body.1 body.2),
      (
        omega arith,
        frame_read c.args.kind c.args.place c.stamp_in-stamp.result c.number_at-len.result front c.fill-2.new.buf _ room piece c.number_at-len.ensures c.stamp_in-stamp.ensures (omega arith) (omega arith),
      ),
    )

pub returns-in-Short-fill-clause-octets : goal.returns-in-Short-fill-clause-octets
returns-in-Short-fill-clause-octets g c =
    let took = c.in-Whole.ensures.octets in
    let front = c.fill.new.buf in
    let room : length front ≡ 16 = grind (arith, common_steps, c.fill.auto.buf) in
    let first = takes_whole _ _ took.0 front took.1 took.2 in
    let body = c.in-Short-fill.ensures.octets in
    let piece : length c.fill-2.new.buf ≡ c.number_at-len.result = omega (arith, c.fill-2.auto.buf, length-take c.number_at-len.result c.args.buf.now) in
    let short : length body.0 < c.number_at-len.result = omega (arith, piece, body.2.0, ap length body.2.1, length-take c.in-Short-fill.field-0 c.fill-2.new.buf) in (
      front ++ body.0,
      takes_more front body.0 _ _ _ first body.1,
      ended_in_body c.args.kind c.args.place c.number_at-len.result front body.0 (g.S.Source.left c.fill-2.new.source) room short c.number_at-len.ensures (omega arith) body.2.2,
    )

pub returns-in-Failed-fill-clause-octets : goal.returns-in-Failed-fill-clause-octets
returns-in-Failed-fill-clause-octets g c =
    let took = c.in-Whole.ensures.octets in
    let front = c.fill.new.buf in
    let room : length front ≡ 16 = grind (arith, common_steps, c.fill.auto.buf) in
    let first = takes_whole _ _ took.0 front took.1 took.2 in
    let body = c.in-Failed-fill.ensures.octets in
    let piece : length c.fill-2.new.buf ≡ c.number_at-len.result = omega (arith, c.fill-2.auto.buf, length-take c.number_at-len.result c.args.buf.now) in (
      front ++ body.0,
      takes_more front body.0 _ _ _ first body.1,
      failed_in_body c.args.kind c.args.place c.number_at-len.result front body.0 room (omega (arith, piece, body.2.0)) c.number_at-len.ensures (omega arith) (omega arith),
    )
