use Rattle.std.proofs.Common.{sym, subst}
use Rattle.savi_kinds.specs.Arrivals as arrivals
use Rattle.savi_kinds.specs.Ports.{number_of}
use Rattle.savi_kinds.specs.declared.entry.Who.TheVariants as passes
use Rattle.savi_history.specs.Events.{Frame, Long}
use Rattle.savi_core.specs.Machines.{base_of}
use Rattle.parcel_ring.specs.declared.parcel.Arrival.{Arrival}
use Rattle.parcel_ring.specs.Handed.{MayBeHanded}
use Rattle.parcel_ring.specs.Lent.{handed_by}
use Rattle.live_turns.proofs.Entering.{end_one, frame_one}
use Rattle.live_turns.proofs.MadeOnly.{made_by}
use Rattle.live_input.specs.Judged.{JudgesOne}
use Rattle.live_input.specs.declared.state.InputState.TheVariants as states
use Rattle.live_input.proofs.InputTurns.{ends_here, enters_here}
use Rattle.live_input.proofs.Judging.{judged_arrival}
use Rattle.live_input.proofs.Told.{read_end}
use Rattle.live_input.proofs.rounds.judge_now.Goals as goal

pub returns-in-Frame-clause-made : goal.returns-in-Frame-clause-made
returns-in-Frame-clause-made c =
    let old = c.args.core.now.core.value in
    let now = c.enter_frame-is_entered.new.kept.core.value.past in
    made_by old.plan (base_of old) old.past now (passes.Ingress c.args.port)
    (frame_one old.plan (base_of old) old.past now (Frame c.args.port c.in-Frame.stamp c.in-Frame.octets.now) c.enter_frame-is_entered.result.0 c.enter_frame-is_entered.ensures.did)

pub returns-in-Frame-clause-judged : goal.returns-in-Frame-clause-judged
returns-in-Frame-clause-judged c =
    let old = c.args.core.now.core.value in
    let now = c.enter_frame-is_entered.new.kept.core.value.past in
    let event = Frame c.args.port c.in-Frame.stamp c.in-Frame.octets.now in
    let fits = subst (λ (a : Arrival). MayBeHanded (handed_by a)) c.in-Frame.is c.requires.may in
    subst (λ (a : Arrival). JudgesOne (number_of c.args.port) (handed_by a) c.behind.result old.past now) (sym c.in-Frame.is)
    (judged_arrival (number_of c.args.port) (arrivals.Frame c.in-Frame.stamp c.in-Frame.octets.now) c.enter_frame-is_entered.result.0 c.behind.result old.past now c.behind.ensures
    (enters_here old.plan (base_of old) old.past now event c.enter_frame-is_entered.result.0 fits c.enter_frame-is_entered.ensures.did))

pub returns-in-Long-clause-made : goal.returns-in-Long-clause-made
returns-in-Long-clause-made c =
    let old = c.args.core.now.core.value in
    let made = c.enter_frame-is_entered-in-Long in
    made_by old.plan (base_of old) old.past made.new.kept.core.value.past (passes.Ingress c.args.port)
    (frame_one old.plan (base_of old) old.past made.new.kept.core.value.past (Long c.args.port c.in-Long.stamp c.in-Long.len) made.result.0 made.ensures.did)

pub returns-in-Long-clause-judged : goal.returns-in-Long-clause-judged
returns-in-Long-clause-judged c =
    let old = c.args.core.now.core.value in
    let made = c.enter_frame-is_entered-in-Long in
    let now = made.new.kept.core.value.past in
    let fits = subst (λ (a : Arrival). MayBeHanded (handed_by a)) c.in-Long.is c.requires.may in
    subst (λ (a : Arrival). JudgesOne (number_of c.args.port) (handed_by a) c.behind-in-Long.result old.past now) (sym c.in-Long.is)
    (judged_arrival (number_of c.args.port) (arrivals.Long c.in-Long.stamp c.in-Long.len) made.result.0 c.behind-in-Long.result old.past now c.behind-in-Long.ensures
    (enters_here old.plan (base_of old) old.past now (Long c.args.port c.in-Long.stamp c.in-Long.len) made.result.0 fits made.ensures.did))

pub returns-in-End-clause-made : goal.returns-in-End-clause-made
returns-in-End-clause-made c =
    let old = c.args.core.now.core.value in
    let now = c.end_pass.new.kept.core.value.past in
    made_by old.plan (base_of old) old.past now (passes.Ingress c.args.port) (end_one old.plan (base_of old) old.past now (passes.Ingress c.args.port) c.in-End.how c.end_pass.ensures.did)

pub returns-in-End-clause-judged : goal.returns-in-End-clause-judged
returns-in-End-clause-judged c =
    let old = c.args.core.now.core.value in
    let now = c.end_pass.new.kept.core.value.past in
    let ends = subst (λ (a : Arrival). MayBeHanded (handed_by a)) c.in-End.is c.requires.may in
    subst (λ (a : Arrival). JudgesOne (number_of c.args.port) (handed_by a) states.Ended old.past now) (sym c.in-End.is)
    (ends_here old.plan (base_of old) old.past now c.args.port c.in-End.how (read_end c.in-End.how ends) c.end_pass.ensures.did)
