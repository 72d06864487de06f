use Rattle.std.proofs.Common.{◌≡◌, length, subst, arith}
use Rattle.savi_history.specs.Legal.{IsLegal}
use Rattle.savi_core.specs.Machines.{Machine, base_of}
use Rattle.table_lock.specs.Passes.{lock_seats}
use Rattle.live_switch.proofs.Closing.{IsClosed, all_of, segment_of}
use Rattle.live_switch.proofs.workers.serve_locked.Goals as goal

pub close-kept-requires : goal.close-kept-requires
close-kept-requires g c =
    let back = c.run_all-service.result in
    let size : length back.passes.items ≡ lock_seats c.args.lock =
    omega (arith, c.run_all-service.ensures.passes_len, back.passes.ok.0, c.args.shift.passes.ok.0, c.requires.ready.passes.size, c.requires.whole) in
    all_of c.args.lock back.passes.items size c.run_all-service.ensures.ended

pub returns : goal.returns
returns g c =
    let back = c.run_all-service.result in
    let kept = c.close-kept.result in
    let closed : IsClosed c.args.lock back.passes.items kept.core.value =
    record { entries = c.close-kept.ensures.entries; begins = c.close-kept.ensures.begins; numbers = c.close-kept.ensures.numbers; fixed = c.close-kept.ensures.fixed } in
    segment_of g.K.Sink.written g.K.Sink.faults g.C.Clock.readings c.args.lock c.requires.seats back.passes.items kept closed c.args.shift.service back.service
    (subst (λ (m : Machine). IsLegal m.plan (base_of m) m.past) c.deref.ensures c.len-entries.ensures.legal) c.run_all-service.ensures.ended c.run_all-service.ensures.same c.run_all-service.ensures.stands
