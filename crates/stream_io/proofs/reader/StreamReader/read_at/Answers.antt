use Rattle.std.proofs.Common.{ℕ, ◌≡◌, ◌+◌, List, take, refl, subst, sym, ap, arith}
use Rattle.savi_kinds.specs.declared.arrival.Next.{Next}
use Rattle.stream_io.specs.Readers.{State, Running, Answers, HasReadOne}
use Rattle.savi_kinds.specs.Arrivals.{Frame, Long}
use Rattle.stream_io.proofs.RecordRead.{running_is, decided_is, frame_read, long_read, end_read, malformed_read, failed_read}
use Rattle.stream_io.proofs.reader.StreamReader.read_at.Goals.{then-len-gt-FRAME_OCTETS_MOST, else-len-gt-FRAME_OCTETS_MOST}
use Rattle.stream_io.proofs.reader.StreamReader.read_at.Goals as goal

pub returns-after-len-gt-FRAME_OCTETS_MOST-clause-octets :
    goal.returns-after-len-gt-FRAME_OCTETS_MOST-clause-octets
returns-after-len-gt-FRAME_OCTETS_MOST-clause-octets g c =
    let is = running_is c.self.inside.state c.self.inside.ahead c.requires.running.0 c.args.place c.args.self.now c.self.view_is c.requires.running.1 in
    let took = c.in-Whole.ensures.octets in
    let place = c.args.place in
    let len = c.in-Whole.len in
    let stamp = c.now-stamp.result in
    let old = c.args.self.now in
    let held = c.self.inside.ahead in
    let later = c.take_record.new.ahead in
    let room = c.take_record.new.buf in
    let buf = c.copy_frame.new.buf in
    let left = g.S.Source.left c.take_record.new.source in
    let new : State = Running (place + (4 + c.from.result)) later in
    let same : Running (place + (4 + len)) later ≡ new = ap (λ (n : ℕ). Running (place + (4 + n)) later) (sym c.from.ensures) in (
      took.0,
      took.1,
      elim c.if-len-gt-FRAME_OCTETS_MOST.branch [
        | then-len-gt-FRAME_OCTETS_MOST w ↦
            let long = w.if-len-gt-FRAME_OCTETS_MOST.true in
            let read = long_read place len stamp held took.0 later room old is took.2 long in
            subst (λ (answer : Next). Answers old new took.0 buf left answer) (sym w.result-is) (long, took.2.bounded, subst (λ (s : State). HasReadOne old s took.0 (Long stamp len)) same read)
        | else-len-gt-FRAME_OCTETS_MOST w ↦
            let short = w.if-len-gt-FRAME_OCTETS_MOST.false in
            let read = subst (λ (octets : List ℕ). HasReadOne old (Running (place + (4 + len)) later) took.0 (Frame stamp octets)) (sym (c.copy_frame.ensures.frame short))
            (frame_read place len stamp held took.0 later room old is took.2 short) in
            subst (λ (answer : Next). Answers old new took.0 buf left answer) (sym w.result-is) (short, subst (λ (s : State). HasReadOne old s took.0 (Frame stamp (take len buf))) same read)
      ],
    )

pub returns-after-len-gt-FRAME_OCTETS_MOST-clause-kept : goal.returns-after-len-gt-FRAME_OCTETS_MOST-clause-kept
returns-after-len-gt-FRAME_OCTETS_MOST-clause-kept g c = λ none.
    elim c.if-len-gt-FRAME_OCTETS_MOST.branch [
      | then-len-gt-FRAME_OCTETS_MOST w ↦ c.copy_frame.ensures.kept w.if-len-gt-FRAME_OCTETS_MOST.true
      | else-len-gt-FRAME_OCTETS_MOST w ↦ absurd (none _ _ w.result-is)
    ]

pub returns-in-Malformed-clause-octets : goal.returns-in-Malformed-clause-octets
returns-in-Malformed-clause-octets g c =
    let is = running_is c.self.inside.state c.self.inside.ahead c.requires.running.0 c.args.place c.args.self.now c.self.view_is c.requires.running.1 in
    let took = c.in-Malformed.ensures.octets in (
      took.0,
      took.1,
      malformed_read c.args.place c.self.inside.ahead took.0 (g.S.Source.left c.take_record.new.source) c.args.self.now is took.2.0
          (omega (arith, took.2.1, c.held.ensures.count, c.held.ensures.few))
          (λ some. let front = took.2.2 some in omega (arith, front, c.held.ensures.count, c.held.ensures.few)),
    )

pub returns-in-Malformed-clause-unread : goal.returns-in-Malformed-clause-unread
returns-in-Malformed-clause-unread g c =
    let is = running_is c.self.inside.state c.self.inside.ahead c.requires.running.0 c.args.place c.args.self.now c.self.view_is c.requires.running.1 in
    λ at held view decide. c.in-Malformed.ensures.unread (decided_is c.args.place at c.self.inside.ahead held c.args.self.now is view decide)

pub returns-after-len-gt-FRAME_OCTETS_MOST-clause-unread : goal.returns-after-len-gt-FRAME_OCTETS_MOST-clause-unread
returns-after-len-gt-FRAME_OCTETS_MOST-clause-unread g c =
    let is = running_is c.self.inside.state c.self.inside.ahead c.requires.running.0 c.args.place c.args.self.now c.self.view_is c.requires.running.1 in
    λ at held view decide. c.in-Whole.ensures.unread (decided_is c.args.place at c.self.inside.ahead held c.args.self.now is view decide)

pub returns-in-End-clause-octets : goal.returns-in-End-clause-octets
returns-in-End-clause-octets g c =
    let is = running_is c.self.inside.state c.self.inside.ahead c.requires.running.0 c.args.place c.args.self.now c.self.view_is c.requires.running.1 in
    let took = c.in-End.ensures.octets in
    (took.0, took.1, end_read c.args.place c.self.inside.ahead took.0 (g.S.Source.left c.take_record.new.source) c.args.self.now is took.2.0 took.2.1)

pub returns-in-End-clause-unread : goal.returns-in-End-clause-unread
returns-in-End-clause-unread g c =
    let is = running_is c.self.inside.state c.self.inside.ahead c.requires.running.0 c.args.place c.args.self.now c.self.view_is c.requires.running.1 in
    λ at held view decide. c.in-End.ensures.unread (decided_is c.args.place at c.self.inside.ahead held c.args.self.now is view decide)

pub returns-in-Failed-clause-octets : goal.returns-in-Failed-clause-octets
returns-in-Failed-clause-octets g c =
    let is = running_is c.self.inside.state c.self.inside.ahead c.requires.running.0 c.args.place c.args.self.now c.self.view_is c.requires.running.1 in
    let took = c.in-Failed.ensures.octets in
    (took.0, took.1, (refl, failed_read c.args.place c.self.inside.ahead took.0 c.args.self.now is took.2.0 took.2.1))

pub returns-in-Failed-clause-unread : goal.returns-in-Failed-clause-unread
returns-in-Failed-clause-unread g c =
    let is = running_is c.self.inside.state c.self.inside.ahead c.requires.running.0 c.args.place c.args.self.now c.self.view_is c.requires.running.1 in
    λ at held view decide. c.in-Failed.ensures.unread (decided_is c.args.place at c.self.inside.ahead held c.args.self.now is view decide)
