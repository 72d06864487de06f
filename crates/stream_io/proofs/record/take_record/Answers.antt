use Rattle.std.proofs.Common.{◌≡◌, ◌+◌, ◌^◌, ◌≤◌, ◌++◌, length, inr, arith}
use Rattle.std.proofs.lemmas.Grind.{common_steps}
use Rattle.savi_ends.proofs.Octets.{takes_more}
use Rattle.stream_io.proofs.RecordTaken.{whole_taken, cut_taken, few_taken, some_taken, sound_taken}
use Rattle.stream_io.proofs.record.take_record.Goals as goal

pub returns-in-Whole-take_body-clause-octets : goal.returns-in-Whole-take_body-clause-octets
returns-in-Whole-take_body-clause-octets g c =
    let took = c.in-Whole.ensures.octets in
    let front = c.fill.new.buf in
    let size : length front ≡ 4 = grind (arith, common_steps, c.fill.auto.buf) in
    let rest = c.in-Whole-take_body.ensures.octets in
    let len = c.from_be_bytes-len.result in
    let bounded : len ≤ 262144 = omega arith in
    let placed : c.args.place + (4 + len) ≤ 2 ^ 62 = omega arith in (
      took.0 ++ rest.0,
      takes_more took.0 rest.0 _ _ _ took.1 rest.1,
      whole_taken c.args.place len c.args.ahead.now took.0 front c.fill.new.self rest.0 rest.2.0 c.take_body.new.ahead c.take_body.new.buf size c.from_be_bytes-len.ensures took.2 rest.2.1 rest.2.2 rest.2.3 bounded placed,
    )

pub returns-in-Short-take_body-clause-octets : goal.returns-in-Short-take_body-clause-octets
returns-in-Short-take_body-clause-octets g c =
    let took = c.in-Whole.ensures.octets in
    let front = c.fill.new.buf in
    let size : length front ≡ 4 = grind (arith, common_steps, c.fill.auto.buf) in
    let rest = c.in-Short-take_body.ensures.octets in (
      took.0 ++ rest.0,
      takes_more took.0 rest.0 _ _ _ took.1 rest.1,
      (
        inr (
          some_taken c.args.ahead.now took.0 front c.fill.new.self rest.0 size took.2,
          cut_taken c.args.ahead.now took.0 front c.fill.new.self rest.0 c.from_be_bytes-len.result size c.from_be_bytes-len.ensures took.2 rest.2.0,
          rest.2.1,
        ),
        few_taken c.args.ahead.now took.0 front c.fill.new.self rest.0 c.from_be_bytes-len.result (length c.take_body.new.ahead) size took.2 rest.2.0 (omega arith),
        λ some. absurd (some rest.2.1),
      ),
    )

pub returns-in-Failed-take_body-clause-octets : goal.returns-in-Failed-take_body-clause-octets
returns-in-Failed-take_body-clause-octets g c =
    let took = c.in-Whole.ensures.octets in
    let front = c.fill.new.buf in
    let size : length front ≡ 4 = grind (arith, common_steps, c.fill.auto.buf) in
    let rest = c.in-Failed-take_body.ensures.octets in
    let len = c.from_be_bytes-len.result in
    let bounded : len ≤ 262144 = omega arith in
    let placed : c.args.place + (4 + len) ≤ 2 ^ 62 = omega arith in (
      took.0 ++ rest.0,
      takes_more took.0 rest.0 _ _ _ took.1 rest.1,
      (
        cut_taken c.args.ahead.now took.0 front c.fill.new.self rest.0 len size c.from_be_bytes-len.ensures took.2 rest.2,
        sound_taken c.args.place len c.args.ahead.now took.0 front c.fill.new.self rest.0 size c.from_be_bytes-len.ensures took.2 bounded placed,
      ),
    )
