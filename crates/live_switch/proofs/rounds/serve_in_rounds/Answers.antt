use Rattle.std.proofs.Common.{Bool, subst}
use Rattle.std.specs.Prelude.{MatchBool}
use Rattle.savi_history.specs.Legal.{IsFinished, IsLegal}
use Rattle.savi_core.specs.Machines.{Machine, base_of}
use Rattle.core_keep.specs.declared.keep.KeptCore.{KeptCore}
use Rattle.live_switch.specs.Rounds.{ServesOn}
use Rattle.live_switch.proofs.Roundwise.{all_served, can_go_on, serves_both}
use Rattle.live_switch.proofs.rounds.serve_in_rounds.Goals as goal

pub go_round-requires-after_bounds : goal.go_round-requires-after_bounds
go_round-requires-after_bounds g c κs bounded =
    can_go_on g.K.Sink.written g.K.Sink.faults g.C.Clock.readings c.args.kept c.loop.kept c.args.service c.loop.service (record { valid = c.requires.valid; serves = c.requires.serves }) c.loop.invariant

pub loop-preserved : goal.loop-preserved
loop-preserved g c =
    serves_both g.K.Sink.written g.K.Sink.faults g.C.Clock.readings c.args.kept c.loop.kept c.go_round.new.kept c.args.service c.loop.service c.go_round.new.service c.loop.invariant c.go_round.ensures

pub returns-then-is_finished : goal.returns-then-is_finished
returns-then-is_finished g c =
    let first : KeptCore = c.args.kept in
    let now : KeptCore = c.go_round.new.kept in
    let serves : ServesOn g.K.Sink.written g.K.Sink.faults g.C.Clock.readings first c.args.service now c.go_round.new.service =
    serves_both g.K.Sink.written g.K.Sink.faults g.C.Clock.readings first c.loop.kept now c.args.service c.loop.service c.go_round.new.service c.loop.invariant c.go_round.ensures in
    let legal : IsLegal now.core.value.plan (base_of now.core.value) now.core.value.past =
    subst (λ (m : Machine). IsLegal m.plan (base_of m) m.past) c.deref-then-is_finished.ensures c.len-entries.ensures.legal in
    let ended : IsFinished c.deref.result.now.plan (base_of c.deref.result.now) c.deref.result.now.past =
    subst
    (λ (b : Bool). MatchBool b (IsFinished c.deref.result.now.plan (base_of c.deref.result.now) c.deref.result.now.past) (¬ IsFinished c.deref.result.now.plan (base_of c.deref.result.now) c.deref.result.now.past))
    c.if-is_finished.true c.is_finished.ensures in
    let finished : IsFinished now.core.value.plan (base_of now.core.value) now.core.value.past = subst (λ (m : Machine). IsFinished m.plan (base_of m) m.past) c.deref.ensures ended in
    all_served g.K.Sink.written g.K.Sink.faults g.C.Clock.readings first now c.args.service c.go_round.new.service c.requires.empty serves legal finished
