use Rattle.std.proofs.Common.{◌≡◌, [], false, length, sym, ap, subst, ◌∙◌}
use Rattle.checkpoint.specs.Bases.{Base}
use Rattle.savi_history.specs.Endings.{has_pause}
use Rattle.savi_segments.specs.Journals.{journal_of}
use Rattle.savi_segments.specs.Segments.{base_after}
use Rattle.savi_core.specs.Machines.{Machine, base_of}
use Rattle.journal_write.specs.Told.{passes_over}
use Rattle.journal_write.specs.Written.{HasText}
use Rattle.live_turns.specs.Seats.{lock_plan}
use Rattle.live_switch.specs.Segments.{HasServedSegment}
use Rattle.live_switch.proofs.Running.{Closes, blank_text, few_told, finished_now, none_told, runs_first, runs_last, runs_next, serves_now}
use Rattle.live_switch.proofs.segments.run_segments.Goals as goal

pub loop-init : goal.loop-init
loop-init g c =
    let start = c.args.start in
    let can = c.requires in
    let plan = lock_plan start.lock in
    let served : HasServedSegment g.K.Sink.written g.K.Sink.faults g.C.Clock.readings plan (base_after plan []) start.course.service c.serve_locked-kept.result.0 c.serve_locked-kept.result.1 =
    subst (λ (b : Base). HasServedSegment g.K.Sink.written g.K.Sink.faults g.C.Clock.readings plan b start.course.service c.serve_locked-kept.result.0 c.serve_locked-kept.result.1) can.base c.serve_locked-kept.ensures in
    let text : HasText g.K.Sink.written g.K.Sink.faults start.course.journal.sink c.begin_with.new.self (journal_of plan []) =
    c.begin_with.ensures.begun start.course.journal.sink plan (c.as_slice.ensures.value ∙ can.header) (blank_text g.K.Sink.written g.K.Sink.faults start.course.journal can.whole can.blank) in
    runs_first g.K.Sink.written g.K.Sink.faults g.C.Clock.readings start c.serve_locked-kept.result.0 c.serve_locked-kept.result.1 c.begin_with.new.self can served text c.begin_with.ensures.room
    (none_told start.course.told.entries start.course.told.ends.items can.none can.no_ends)

pub close_segment-requires-clause-few : goal.close_segment-requires-clause-few
close_segment-requires-clause-few g c =
    subst (λ (m : Machine). length c.loop.told.ends.items ≡ passes_over m.plan (base_of m) []) (sym c.deref.ensures)
    (few_told g.K.Sink.written g.K.Sink.faults g.C.Clock.readings c.args.start c.loop.kept c.loop.service c.loop.journal c.loop.told c.loop.invariant)

pub close_segment-requires-clause-room : goal.close_segment-requires-clause-room
close_segment-requires-clause-room g c = c.loop.invariant.room

pub returns-then-not-has_pause : goal.returns-then-not-has_pause
returns-then-not-has_pause g c =
    let journal = c.close_segment.new.journal in
    let told = c.close_segment.new.told in
    let found : Closes g.K.Sink.written g.K.Sink.faults g.C.Clock.readings c.args.start c.deref.result.now c.loop.journal journal c.loop.told told =
    record {
      octets = c.close_segment.ensures.octets;
      tells = c.close_segment.ensures.told;
      text = c.close_segment.ensures.journal;
      room = c.close_segment.ensures.room;
      settled = c.close_segment.ensures.settled;
    } in
    let closes : Closes g.K.Sink.written g.K.Sink.faults g.C.Clock.readings c.args.start c.loop.kept.core.value c.loop.journal journal c.loop.told told =
    subst (λ (m : Machine). Closes g.K.Sink.written g.K.Sink.faults g.C.Clock.readings c.args.start m c.loop.journal journal c.loop.told told) c.deref.ensures found in
    let pauses : c.has_pause.result ≡ has_pause c.loop.kept.core.value.past = c.has_pause.ensures ∙ ap (λ (m : Machine). has_pause m.past) c.deref-in-loop.ensures in
    runs_last g.K.Sink.written g.K.Sink.faults g.C.Clock.readings c.args.start c.loop.kept c.loop.service c.loop.journal c.loop.told c.loop.invariant journal told closes
    c.pass_over_rest.new.service (sym pauses ∙ c.if-not-has_pause.true) c.pass_over_rest.ensures.same c.pass_over_rest.ensures.stands

pub serve_next-served-requires-clause-finished : goal.serve_next-served-requires-clause-finished
serve_next-served-requires-clause-finished g c κs inside =
    finished_now g.K.Sink.written g.K.Sink.faults g.C.Clock.readings c.args.start c.loop.kept c.loop.service c.loop.journal c.loop.told c.loop.invariant

pub serve_next-served-requires-clause-service : goal.serve_next-served-requires-clause-service
serve_next-served-requires-clause-service g c κs inside =
    serves_now g.K.Sink.written g.K.Sink.faults g.C.Clock.readings c.args.start c.loop.kept c.loop.service c.loop.journal c.loop.told c.loop.invariant c.requires.service

pub loop-preserved : goal.loop-preserved
loop-preserved g c =
    let journal = c.close_segment.new.journal in
    let told = c.close_segment.new.told in
    let found : Closes g.K.Sink.written g.K.Sink.faults g.C.Clock.readings c.args.start c.deref.result.now c.loop.journal journal c.loop.told told =
    record {
      octets = c.close_segment.ensures.octets;
      tells = c.close_segment.ensures.told;
      text = c.close_segment.ensures.journal;
      room = c.close_segment.ensures.room;
      settled = c.close_segment.ensures.settled;
    } in
    let closes : Closes g.K.Sink.written g.K.Sink.faults g.C.Clock.readings c.args.start c.loop.kept.core.value c.loop.journal journal c.loop.told told =
    subst (λ (m : Machine). Closes g.K.Sink.written g.K.Sink.faults g.C.Clock.readings c.args.start m c.loop.journal journal c.loop.told told) c.deref.ensures found in
    let pauses : c.has_pause.result ≡ has_pause c.loop.kept.core.value.past = c.has_pause.ensures ∙ ap (λ (m : Machine). has_pause m.past) c.deref-in-loop.ensures in
    runs_next g.K.Sink.written g.K.Sink.faults g.C.Clock.readings c.args.start c.loop.kept c.loop.service c.loop.journal c.loop.told c.loop.invariant journal told closes
    c.serve_next-served.result.0 c.serve_next-served.result.1 (sym pauses ∙ c.if-not-has_pause.false) c.serve_next-served.ensures

pub serve_next-served-requires-clause-paused : goal.serve_next-served-requires-clause-paused
serve_next-served-requires-clause-paused g c κs inside =
    sym (c.has_pause.ensures ∙ ap (λ (m : Machine). has_pause m.past) c.deref-in-loop.ensures) ∙ c.if-not-has_pause.false
