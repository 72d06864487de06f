use Rattle.std.proofs.Common.{◌≡◌, ◌<◌, true, length, get_or, ap, ◌∙◌, subst, sym, arith}
use Rattle.savi_kinds.specs.declared.plan.Plan.{Plan}
use Rattle.savi_kinds.specs.Ports.{number_of}
use Rattle.savi_history.specs.Passes.{has_port}
use Rattle.savi_history.proofs.PassNumbers.{known_at}
use Rattle.port_worker.proofs.Pausing.{all_paused, full_now, pause_more, pause_start, plan_now}
use Rattle.port_worker.proofs.Planned.{count_is, held_at, number_is}
use Rattle.port_worker.proofs.turns.pause_inputs.Goals as goal

pub pause-requires-clause-may : goal.pause-requires-clause-may
pause-requires-clause-may g c = c.requires.full

pub loop-place-init : goal.loop-place-init
loop-place-init g c = pause_start c.args.core.now c.pause.new.core c.pause.ensures c.requires.full

pub pause-requires-in-loop-place-clause-known : goal.pause-requires-in-loop-place-clause-known
pause-requires-in-loop-place-clause-known g c =
    let ports = c.args.ports.now in
    let plan = c.args.core.now.plan in
    let place = c.loop-place.place in
    let d = c.index-ports-place.result in
    let inside : place < length ports = omega arith in
    let count = count_is ports plan c.requires.planned in
    let known : has_port plan (number_of (get_or ports place d).port) ≡ true = ap (has_port plan) (number_is ports plan place d c.requires.planned inside) ∙ known_at plan place (omega (arith, count)) in
    subst (λ (p : Plan). has_port p (number_of (get_or ports place d).port) ≡ true) (sym (plan_now place c.args.core.now c.loop-place.core c.loop-place.invariant)) known

pub pause-requires-in-loop-place-clause-may : goal.pause-requires-in-loop-place-clause-may
pause-requires-in-loop-place-clause-may g c = full_now c.loop-place.place c.args.core.now c.loop-place.core c.loop-place.invariant

pub loop-place-preserved : goal.loop-place-preserved
loop-place-preserved g c =
    let ports = c.args.ports.now in
    let plan = c.args.core.now.plan in
    let place = c.loop-place.place in
    let d = c.index-ports-place.result in
    let inside : place < length ports = omega arith in
    let q = held_at ports plan place d c.requires.planned inside in
    pause_more place c.args.core.now c.loop-place.core c.loop-place.invariant c.pause-in-loop-place.new.core (get_or ports place d).port q.0 c.pause-in-loop-place.ensures q.1 q.2

pub returns : goal.returns
returns g c = all_paused c.loop-place.place c.args.core.now c.loop-place.core (omega (arith, count_is c.args.ports.now c.args.core.now.plan c.requires.planned)) c.loop-place.invariant
