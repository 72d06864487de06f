use Rattle.std.proofs.Common.{◌<◌, ℕ, vec_len, arith}
use Rattle.live_switch.specs.declared.services.PortService.{PortService}
use Rattle.live_switch.specs.declared.services.Service.{Service}
use Rattle.live_switch.proofs.Roundwise.{judge_has_pass, judge_open, judges_more, serves_as, stays_more, with_port}
use Rattle.live_switch.proofs.rounds.go_round_inputs.Goals.{then-not-ended+then-judge_next, then-not-ended+else-judge_next, else-not-ended}
use Rattle.live_switch.proofs.rounds.go_round_inputs.Goals as goal

pub ended-requires : goal.ended-requires
ended-requires g c =
    let k : ℕ = c.loop-place.place in
    let below : k < vec_len c.args.service.now.ports = omega (arith, c.loop-place-test.true, c.len-place-end.ensures) in
    judge_has_pass g.K.Sink.written g.K.Sink.faults g.C.Clock.readings c.args.kept.now c.loop-place.kept c.args.service.now c.loop-place.service c.requires c.loop-place.invariant k below c.index_mut.result.now c.index_mut.ensures.value
    c.deref.result.now c.deref.ensures

pub judge_next-requires-after_bounds : goal.judge_next-requires-after_bounds
judge_next-requires-after_bounds g c κs bounded =
    let k : ℕ = c.loop-place.place in
    let below : k < vec_len c.args.service.now.ports = omega (arith, c.loop-place-test.true, c.len-place-end.ensures) in
    judge_open g.K.Sink.written g.K.Sink.faults g.C.Clock.readings c.args.kept.now c.loop-place.kept c.args.service.now c.loop-place.service c.requires c.loop-place.invariant k below c.index_mut.result.now c.index_mut.ensures.value
    c.deref.result.now c.ended.result c.deref.ensures c.ended.ensures c.if-not-ended.true

pub loop-place-preserved : goal.loop-place-preserved
loop-place-preserved g c =
    let kept = c.loop-place.kept in
    let service = c.loop-place.service in
    let k : ℕ = c.loop-place.place in
    let s : PortService g.row.K.Denot = c.index_mut.result.now in
    let below : k < vec_len c.args.service.now.ports = omega (arith, c.loop-place-test.true, c.len-place-end.ensures) in
    elim c.if-not-ended.branch [
      | then-not-ended+then-judge_next w ↦
          let new : Service g.row.K.Denot g.row.C.Denot = with_port service k (record { judge = w.judge_next.new.judge; writer = s.writer }) in
          serves_as g.K.Sink.written g.K.Sink.faults g.C.Clock.readings c.args.kept.now c.args.service.now w.judge_next.new.kept c.if-not-ended.kept new c.if-not-ended.service w.kept-is w.service-is
          (judges_more g.K.Sink.written g.K.Sink.faults g.C.Clock.readings c.args.kept.now kept c.args.service.now service c.requires c.loop-place.invariant k below s c.index_mut.ensures.value
          w.judge_next.new.kept w.judge_next.new.judge w.judge_next.ensures)
      | then-not-ended+else-judge_next w ↦
          let new : Service g.row.K.Denot g.row.C.Denot = with_port service k (record { judge = w.judge_next.new.judge; writer = s.writer }) in
          serves_as g.K.Sink.written g.K.Sink.faults g.C.Clock.readings c.args.kept.now c.args.service.now w.judge_next.new.kept c.if-not-ended.kept new c.if-not-ended.service w.kept-is w.service-is
          (judges_more g.K.Sink.written g.K.Sink.faults g.C.Clock.readings c.args.kept.now kept c.args.service.now service c.requires c.loop-place.invariant k below s c.index_mut.ensures.value
          w.judge_next.new.kept w.judge_next.new.judge w.judge_next.ensures)
      | else-not-ended w ↦
          serves_as g.K.Sink.written g.K.Sink.faults g.C.Clock.readings c.args.kept.now c.args.service.now kept c.if-not-ended.kept (with_port service k s) c.if-not-ended.service w.kept-is w.service-is
          (stays_more g.K.Sink.written g.K.Sink.faults g.C.Clock.readings c.args.kept.now kept c.args.service.now service c.requires c.loop-place.invariant k below s c.index_mut.ensures.value)
    ]
