use Rattle.std.proofs.Common.{◌<◌, ℕ, vec_len, arith}
use Rattle.live_switch.specs.declared.services.PortService.{PortService}
use Rattle.live_switch.specs.declared.services.Service.{Service}
use Rattle.live_switch.proofs.Roundwise.{serves_as, stays_more, with_port, writer_has_pass, writer_open, writes_more}
use Rattle.live_switch.proofs.rounds.go_round_outputs.Goals.{then-not-ended, else-not-ended}
use Rattle.live_switch.proofs.rounds.go_round_outputs.Goals as goal

pub ended-requires : goal.ended-requires
ended-requires g c =
    let k : ℕ = c.loop-place.place in
    let below : k < vec_len c.args.service.now.ports = omega (arith, c.loop-place-test.true, c.len-place-end.ensures) in
    writer_has_pass g.K.Sink.written g.K.Sink.faults g.C.Clock.readings c.args.kept.now c.loop-place.kept c.args.service.now c.loop-place.service c.requires c.loop-place.invariant k below c.index_mut.result.now c.index_mut.ensures.value
    c.deref.result.now c.deref.ensures

pub round-requires : goal.round-requires
round-requires g c =
    let k : ℕ = c.loop-place.place in
    let below : k < vec_len c.args.service.now.ports = omega (arith, c.loop-place-test.true, c.len-place-end.ensures) in
    writer_open g.K.Sink.written g.K.Sink.faults g.C.Clock.readings c.args.kept.now c.loop-place.kept c.args.service.now c.loop-place.service c.requires c.loop-place.invariant k below c.index_mut.result.now c.index_mut.ensures.value
    c.deref.result.now c.ended.result c.deref.ensures c.ended.ensures c.if-not-ended.true

pub loop-place-preserved : goal.loop-place-preserved
loop-place-preserved g c =
    let kept = c.loop-place.kept in
    let service = c.loop-place.service in
    let k : ℕ = c.loop-place.place in
    let s : PortService g.row.K.Denot = c.index_mut.result.now in
    let below : k < vec_len c.args.service.now.ports = omega (arith, c.loop-place-test.true, c.len-place-end.ensures) in
    elim c.if-not-ended.branch [
      | then-not-ended w ↦
          let new : Service g.row.K.Denot g.row.C.Denot = with_port service k (record { judge = s.judge; writer = w.round.new.self }) in
          serves_as g.K.Sink.written g.K.Sink.faults g.C.Clock.readings c.args.kept.now c.args.service.now w.round.new.core c.if-not-ended.kept new c.if-not-ended.service w.kept-is w.service-is
          (writes_more g.K.Sink.written g.K.Sink.faults g.C.Clock.readings c.args.kept.now kept c.args.service.now service c.requires c.loop-place.invariant k below s c.index_mut.ensures.value
          w.round.new.core w.round.new.self w.round.ensures.port w.round.ensures.format w.round.ensures.plan w.round.ensures.checkpoint w.round.ensures.made
          (λ sink before legals base legal stands. w.round.ensures.stands before sink legals base stands))
      | else-not-ended w ↦
          serves_as g.K.Sink.written g.K.Sink.faults g.C.Clock.readings c.args.kept.now c.args.service.now kept c.if-not-ended.kept (with_port service k s) c.if-not-ended.service w.kept-is w.service-is
          (stays_more g.K.Sink.written g.K.Sink.faults g.C.Clock.readings c.args.kept.now kept c.args.service.now service c.requires c.loop-place.invariant k below s c.index_mut.ensures.value)
    ]
