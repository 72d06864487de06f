use Rattle.std.proofs.Common.{◌≡◌, ◌<◌, length, get_or, set, sym, ap, ◌∙◌, arith, true}
use Rattle.std.proofs.lemmas.List.{length-set, get_or_default, get_or-set_same}
use Rattle.savi_kinds.specs.Ports.{number_of}
use Rattle.savi_history.specs.Passes.{has_port}
use Rattle.savi_core.specs.Machines.{base_of}
use Rattle.port_worker.specs.declared.port_ends.PortEnds.{PortEnds}
use Rattle.port_worker.specs.Inputs.{turn_of}
use Rattle.port_worker.specs.Replays.{ports_planned}
use Rattle.port_worker.proofs.Planned.{count_is, number_is}
use Rattle.port_worker.proofs.Advancing.{held_set, port_kept, stepped_then, stepped_only, ahead_then, ahead_arrived, ahead_ended, drainable_then, outputs_arrived, outputs_ended, ingress_low}
use Rattle.port_worker.proofs.turns.advance.Goals as goal

pub drain_all-requires-clause-ports : goal.drain_all-requires-clause-ports
drain_all-requires-clause-ports g c =
    let old = c.args.ports.now in
    let place = c.args.place in
    let x = get_or old place c.index-ports-place.result in
    held_set g.K.Sink.written g.K.Sink.faults old place x c.enter.new.self c.requires.inside (λ d. get_or_default old place _ _ c.requires.inside) c.enter.ensures.rest
    ∙ c.requires.planned ∙ ap ports_planned (sym c.enter.ensures.plan)

pub drain_all-requires-clause-drainable : goal.drain_all-requires-clause-drainable
drain_all-requires-clause-drainable g c k d within =
    let old = c.args.ports.now in
    let plan = c.args.core.now.plan in
    let place = c.args.place in
    let x = get_or old place c.index-ports-place.result in
    let inside : k < length old = omega (arith, length-set old place c.enter.new.self, within) in
    drainable_then plan c.enter.new.core.plan (base_of c.args.core.now) (base_of c.enter.new.core) x.port (get_or old k d).port _ (turn_of x) c.args.core.now.past c.enter.new.core.past c.enter.result k c.requires.depth c.enter.ensures.plan c.enter.ensures.base
    (port_kept g.K.Sink.written g.K.Sink.faults old place x c.enter.new.self c.requires.inside (λ e. get_or_default old place _ _ c.requires.inside) c.enter.ensures.rest k d)
    c.if-enter.true (c.requires.known c.index-ports-place.result) c.enter.ensures.entered (omega (arith, count_is old plan c.requires.planned, inside)) (number_is old plan k d c.requires.planned inside) (c.requires.quiet k d inside)

pub returns-then-enter-clause-stepped : goal.returns-then-enter-clause-stepped
returns-then-enter-clause-stepped g c =
    let old = c.args.ports.now in
    let place = c.args.place in
    let x = get_or old place c.index-ports-place.result in
    stepped_then g.K.Sink.written g.K.Sink.faults old place x c.enter.new.self c.requires.inside (λ d. get_or_default old place _ _ c.requires.inside) c.enter.ensures.rest c.drain_all.new.ports c.drain_all.ensures.sinks

pub returns-then-enter-clause-ahead : goal.returns-then-enter-clause-ahead
returns-then-enter-clause-ahead g c d =
    let old = c.args.ports.now in
    let place = c.args.place in
    let x = get_or old place c.index-ports-place.result in
    let is : get_or old place d ≡ x = get_or_default old place _ _ c.requires.inside in
    rw is
    (ahead_arrived c.args.core.now.plan (base_of c.args.core.now) x.port (turn_of x) c.args.core.now.past c.enter.new.core.past c.enter.result (get_or c.drain_all.new.ports place d).ahead c.if-enter.true c.enter.ensures.entered
    (ahead_then g.K.Sink.written g.K.Sink.faults old place x c.enter.new.self c.requires.inside (λ e. get_or_default old place _ _ c.requires.inside) c.enter.ensures.rest c.drain_all.new.ports d c.drain_all.ensures.sinks
    ∙ c.enter.ensures.arrived c.if-enter.true))

pub returns-then-enter-clause-outputs : goal.returns-then-enter-clause-outputs
returns-then-enter-clause-outputs g c d run stands =
    let old = c.args.ports.now in
    let place = c.args.place in
    let x = get_or old place c.index-ports-place.result in
    let is : get_or old place d ≡ x = get_or_default old place _ _ c.requires.inside in
    rw is
    (outputs_arrived g.K.Sink.written g.K.Sink.faults old place x c.enter.new.self c.requires.inside (λ e. get_or_default old place _ _ c.requires.inside) c.enter.ensures.rest c.args.core.now c.enter.new.core c.requires.planned x.port run stands
    (turn_of x) c.drain_all.new.core.past c.drain_all.new.ports c.enter.result c.if-enter.true c.enter.ensures.plan c.enter.ensures.base c.enter.ensures.entered c.drain_all.ensures.outputs)

pub returns-else-enter-clause-stepped : goal.returns-else-enter-clause-stepped
returns-else-enter-clause-stepped g c =
    let old = c.args.ports.now in
    let place = c.args.place in
    let x = get_or old place c.index-ports-place.result in
    stepped_only g.K.Sink.written g.K.Sink.faults old place x c.enter.new.self c.requires.inside (λ d. get_or_default old place _ _ c.requires.inside) c.enter.ensures.rest

pub returns-else-enter-clause-ahead : goal.returns-else-enter-clause-ahead
returns-else-enter-clause-ahead g c d =
    let old = c.args.ports.now in
    let place = c.args.place in
    let P = PortEnds g.row.S.Denot g.row.K.Denot g.row.C.Denot in
    let x = get_or old place c.index-ports-place.result in
    let is : get_or old place d ≡ x = get_or_default old place _ _ c.requires.inside in
    rw is
    (ahead_ended c.args.core.now.plan (base_of c.args.core.now) x.port (turn_of x) c.args.core.now.past c.enter.new.core.past c.enter.result (get_or (set old place c.enter.new.self) place d).ahead c.if-enter.false c.enter.ensures.entered
    (ap (λ (p : P). p.ahead) (get_or-set_same old place c.enter.new.self d c.requires.inside) ∙ c.enter.ensures.ended c.if-enter.false))

pub returns-else-enter-clause-outputs : goal.returns-else-enter-clause-outputs
returns-else-enter-clause-outputs g c d run stands =
    let old = c.args.ports.now in
    let place = c.args.place in
    let x = get_or old place c.index-ports-place.result in
    let is : get_or old place d ≡ x = get_or_default old place _ _ c.requires.inside in
    let known : has_port c.args.core.now.plan (number_of x.port) ≡ true = (c.requires.open c.index-ports-place.result).known in
    rw is
    (outputs_ended g.K.Sink.written g.K.Sink.faults old place x c.enter.new.self c.requires.inside (λ e. get_or_default old place _ _ c.requires.inside) c.enter.ensures.rest c.args.core.now c.enter.new.core c.requires.planned x.port run stands
    (turn_of x) c.enter.result c.if-enter.false (ingress_low c.args.core.now.plan x.port known) c.enter.ensures.entered)
