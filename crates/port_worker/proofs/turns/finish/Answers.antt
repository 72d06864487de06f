use Rattle.std.proofs.Common.{◌<◌, length, get_or, sym, ap, ◌∙◌, subst, arith, ℕ}
use Rattle.savi_kinds.specs.declared.plan.Plan.{Plan}
use Rattle.savi_kinds.specs.declared.entry.Who.TheVariants.{Ticker}
use Rattle.savi_kinds.specs.Ports.{number_of}
use Rattle.checkpoint.specs.Bases.{Base}
use Rattle.savi_history.specs.Queues.{queue}
use Rattle.savi_core.specs.Machines.{base_of}
use Rattle.port_worker.specs.Outputs.{IsOutputEnded}
use Rattle.port_worker.proofs.Planned.{count_is, number_is, held_at}
use Rattle.port_worker.proofs.Finishing.{known_here, last_now, finish_start, finish_more, did_end, outputs_ended, all_finished, all_made}
use Rattle.port_worker.proofs.turns.finish.Goals as goal

pub end_egress-requires : goal.end_egress-requires
end_egress-requires g c =
    let ports = c.args.ports.now in
    let plan = c.args.core.now.plan in
    let place = c.loop-place.place in
    let d = c.index-ports-place.result in
    let p = get_or ports place d in
    let inside : place < length ports = omega arith in
    let within : place < length plan.ports = omega (arith, count_is ports plan c.requires.planned) in
    let number = number_is ports plan place d c.requires.planned inside in
    let base_is = c.loop-place.invariant.base_is in
    record {
      closing = c.closing_reason-how.ensures ∙ sym c.loop-place.invariant.closing_is;
      known = known_here plan place c.args.core.now c.loop-place.core p.port c.requires.rising within number c.loop-place.invariant;
      last = last_now plan place c.args.core.now c.loop-place.core p.port c.requires.rising within number c.loop-place.invariant;
      quiet = ap (λ (b : Base). queue c.loop-place.core.plan b (number_of p.port) c.loop-place.core.past) base_is
          ∙ ap (λ (x : Plan). queue x (base_of c.args.core.now) (number_of p.port) c.loop-place.core.past) c.loop-place.invariant.plan_is
          ∙ c.loop-place.invariant.quiet (number_of p.port) (c.requires.quiet place d inside);
    }

pub loop-place-preserved : goal.loop-place-preserved
loop-place-preserved g c =
    let ports = c.args.ports.now in
    let plan = c.args.core.now.plan in
    let place = c.loop-place.place in
    let d = c.index-ports-place.result in
    let p = get_or ports place d in
    let inside : place < length ports = omega arith in
    let q = held_at ports plan place d c.requires.planned inside in
    finish_more plan place c.args.core.now c.loop-place.core p.port c.requires.rising (omega (arith, count_is ports plan c.requires.planned)) (number_is ports plan place d c.requires.planned inside) c.loop-place.invariant
    c.end_egress.new.core c.end_egress.ensures q.0 q.1 q.2

pub returns-clause-made : goal.returns-clause-made
returns-clause-made g c = all_made c.loop-place.place c.args.core.now c.loop-place.core (omega (arith, count_is c.args.ports.now c.args.core.now.plan c.requires.planned)) c.loop-place.invariant

pub returns-clause-finished : goal.returns-clause-finished
returns-clause-finished g c = all_finished c.args.core.now.plan c.loop-place.place c.args.core.now c.loop-place.core (omega (arith, count_is c.args.ports.now c.args.core.now.plan c.requires.planned)) c.loop-place.invariant

pub returns-clause-outputs : goal.returns-clause-outputs
returns-clause-outputs g c k d within =
    let ports = c.args.ports.now in
    let plan = c.args.core.now.plan in
    subst (λ (n : ℕ). IsOutputEnded plan (base_of c.args.core.now) c.args.core.now.past c.loop-place.core.past n) (sym (number_is ports plan k d c.requires.planned within))
    (outputs_ended plan c.loop-place.place c.args.core.now c.loop-place.core k (omega (arith, count_is ports plan c.requires.planned)) c.loop-place.invariant (omega (arith, count_is ports plan c.requires.planned, within)))

pub loop-place-init : goal.loop-place-init
loop-place-init g c =
    finish_start c.args.core.now c.step-ticker.new.self c.closing_reason-how.result c.closing_reason-how.ensures c.requires.inputs (did_end c.args.core.now Ticker c.closing_reason-how.result c.step-ticker.new.self c.step-ticker.result c.step-ticker.ensures)
