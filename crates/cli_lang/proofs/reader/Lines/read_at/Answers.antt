use Rattle.std.proofs.Common.{◌≡◌, ◌≢◌, ◌≤◌, length, take, refl, sym, subst, arith, length-take-le}
use Rattle.cli_lang.specs.declared.kinds.LineGot.{LineGot}
use Rattle.cli_lang.specs.Readers.{Answers}
use Rattle.cli_lang.proofs.LineRead.{running_is, still_running, whole_read, whole_bad, last_read, last_bad, long_bad, long_read}
use Rattle.cli_lang.proofs.reader.Lines.read_at.Goals as goal

pub returns-in-Some-clause-octets : goal.returns-in-Some-clause-octets
returns-in-Some-clause-octets g c =
    let is = running_is c.self.inside.state c.self.inside.ahead c.requires.running.0 c.args.place c.args.self.now c.self.view_is c.requires.running.1 in
    let n = c.in-Whole.n in
    let took = c.in-Whole.ensures.octets in
    let text = take n c.take_line.new.buf in
    let size : length text ≡ n = length-take-le n c.take_line.new.buf took.2.0 in
    let short : length text ≤ 120 = omega (arith, size, took.2.0, c.take_line.array_long) in
    let said = c.in-Some.ensures.some in (
      took.0,
      took.1,
      (said.1, whole_read c.args.live c.args.place n c.self.inside.ahead took.0 c.take_line.new.ahead text _ _ c.args.self.now is took.2.1 short size took.2.2 said.2 said.0),
    )

pub returns-in-None-clause-octets : goal.returns-in-None-clause-octets
returns-in-None-clause-octets g c =
    let is = running_is c.self.inside.state c.self.inside.ahead c.requires.running.0 c.args.place c.args.self.now c.self.view_is c.requires.running.1 in
    let still = still_running c.self.inside.state c.self.inside.ahead c.requires.running.0 c.args.place c.args.self.now c.self.view_is c.requires.running.1 c.take_line.new.ahead in
    let n = c.in-Whole.n in
    let took = c.in-Whole.ensures.octets in
    let text = take n c.take_line.new.buf in
    let size : length text ≡ n = length-take-le n c.take_line.new.buf took.2.0 in
    let short : length text ≤ 120 = omega (arith, size, took.2.0, c.take_line.array_long) in (
      took.0,
      took.1,
      subst (λ (answer : LineGot). Answers c.args.live c.args.self.now c.malformed.new.self took.0 c.read_text.new.buf (g.S.Source.left c.take_line.new.source) answer) (sym c.malformed.ensures.answer)
          (whole_bad c.args.live c.args.place n c.self.inside.ahead took.0 c.take_line.new.ahead text _ c.args.self.now c.malformed.new.self is c.malformed.ensures.state took.2.1 short size took.2.2 (c.malformed.ensures.few c.args.place c.take_line.new.ahead still) c.in-None.ensures.none),
    )

pub returns-in-Some-read_text-clause-octets : goal.returns-in-Some-read_text-clause-octets
returns-in-Some-read_text-clause-octets g c =
    let is = running_is c.self.inside.state c.self.inside.ahead c.requires.running.0 c.args.place c.args.self.now c.self.view_is c.requires.running.1 in
    let n = c.in-Last.n in
    let took = c.in-Last.ensures.octets in
    let text = take n c.take_line.new.buf in
    let size : length text ≡ n = length-take-le n c.take_line.new.buf took.2.0 in
    let short : length text ≤ 120 = omega (arith, size, took.2.0, c.take_line.array_long) in
    let some : n ≢ 0 = c.in-Last.n-test.1 in
    let said = c.in-Some-read_text.ensures.some in (
      took.0,
      took.1,
      (said.1, last_read c.args.live c.args.place n c.self.inside.ahead took.0 text _ _ c.args.self.now is took.2.1 short size some took.2.2 took.2.3 said.2 said.0),
    )

pub returns-in-None-read_text-clause-octets : goal.returns-in-None-read_text-clause-octets
returns-in-None-read_text-clause-octets g c =
    let is = running_is c.self.inside.state c.self.inside.ahead c.requires.running.0 c.args.place c.args.self.now c.self.view_is c.requires.running.1 in
    let n = c.in-Last.n in
    let took = c.in-Last.ensures.octets in
    let text = take n c.take_line.new.buf in
    let size : length text ≡ n = length-take-le n c.take_line.new.buf took.2.0 in
    let short : length text ≤ 120 = omega (arith, size, took.2.0, c.take_line.array_long) in
    let some : n ≢ 0 = c.in-Last.n-test.1 in (
      took.0,
      took.1,
      subst (λ (answer : LineGot). Answers c.args.live c.args.self.now c.malformed-in-None-read_text.new.self took.0 c.read_text-in-Last.new.buf (g.S.Source.left c.take_line.new.source) answer) (sym c.malformed-in-None-read_text.ensures.answer)
          (last_bad c.args.live c.args.place n c.self.inside.ahead took.0 text _ c.args.self.now c.malformed-in-None-read_text.new.self is c.malformed-in-None-read_text.ensures.state took.2.1 short size some took.2.2 took.2.3 c.in-None-read_text.ensures.none),
    )

pub returns-then-place-gt-LAST_PLACE-clause-octets : goal.returns-then-place-gt-LAST_PLACE-clause-octets
returns-then-place-gt-LAST_PLACE-clause-octets g c =
    let is = running_is c.self.inside.state c.self.inside.ahead c.requires.running.0 c.args.place c.args.self.now c.self.view_is c.requires.running.1 in
    let still = still_running c.self.inside.state c.self.inside.ahead c.requires.running.0 c.args.place c.args.self.now c.self.view_is c.requires.running.1 c.take_line.new.ahead in
    let took = c.in-Long.ensures.octets in
    let long = took.2 in (
      took.0,
      took.1,
      subst (λ (answer : LineGot). Answers c.args.live c.args.self.now c.malformed-then-place-gt-LAST_PLACE.new.self took.0 c.args.buf.now (g.S.Source.left c.take_line.new.source) answer) (sym c.malformed-then-place-gt-LAST_PLACE.ensures.answer)
          (long_bad c.args.live c.args.place c.self.inside.ahead took.0 c.take_line.new.ahead long.0 _ c.args.self.now c.malformed-then-place-gt-LAST_PLACE.new.self is c.malformed-then-place-gt-LAST_PLACE.ensures.state long.1 long.2 long.3 (c.malformed-then-place-gt-LAST_PLACE.ensures.few c.args.place c.take_line.new.ahead still) (omega arith)),
    )

pub returns-else-place-gt-LAST_PLACE-clause-octets : goal.returns-else-place-gt-LAST_PLACE-clause-octets
returns-else-place-gt-LAST_PLACE-clause-octets g c =
    let is = running_is c.self.inside.state c.self.inside.ahead c.requires.running.0 c.args.place c.args.self.now c.self.view_is c.requires.running.1 in
    let took = c.in-Long.ensures.octets in
    let long = took.2 in (
      took.0,
      took.1,
      long_read c.args.live c.args.place c.self.inside.ahead took.0 c.take_line.new.ahead long.0 _ c.args.self.now _ is refl long.1 long.2 long.3 (omega (arith, c.held.ensures.count, c.held.ensures.few)) (omega arith),
    )
