use Rattle.std.proofs.Common.{◌∷◌, Option, refl, sym, subst}
use Rattle.savi_kinds.specs.declared.entry.How.TheVariants as hows
use Rattle.savi_kinds.specs.declared.entry.Who.TheVariants.{Control}
use Rattle.savi_core.specs.Machines.{base_of}
use Rattle.live_turns.proofs.Entering.{end_one}
use Rattle.live_turns.proofs.MadeOnly.{made_by}
use Rattle.live_control.specs.Sides.{WorkerStands}
use Rattle.live_control.specs.declared.side.ControlSide.{ControlSide}
use Rattle.live_control.proofs.Serving.{no_control}
use Rattle.live_control.proofs.Stepping.{open_side}
use Rattle.live_control.proofs.Told.{ends_here}
use Rattle.live_control.proofs.Working.{by_none, by_side}
use Rattle.live_control.proofs.worker.ControlWorker.round.Goals as goal

pub returns-in-None-clause-made : goal.returns-in-None-clause-made
returns-in-None-clause-made g c =
    let old = c.args.core.now.core.value in
    let now = c.end_pass.new.kept.core.value.past in
    made_by old.plan (base_of old) old.past now Control (end_one old.plan (base_of old) old.past now Control hows.End c.end_pass.ensures.did)

pub returns-in-None-clause-stands : goal.returns-in-None-clause-stands
returns-in-None-clause-stands g c = λ before first all same stands.
    let old = c.args.core.now.core.value in
    let base = base_of old in
    let now = c.end_pass.new.kept.core.value.past in
    let ended = ends_here old.plan base old.past now hows.End refl c.end_pass.ensures.did in
    subst (λ (ends : Option (ControlSide g.row.K.Denot)). WorkerStands g.K.Sink.written g.K.Sink.faults old.plan (now ∷ before) first ends) (sym c.in-None.is)
    (by_none g.K.Sink.written g.K.Sink.faults old.plan (old.past ∷ before) (now ∷ before) first c.args.self.now.ends c.in-None.is
    (λ nobody. no_control g.K.Sink.written g.K.Sink.faults old.plan base old.past now before same ended nobody) stands)

pub returns-in-Some-clause-stands : goal.returns-in-Some-clause-stands
returns-in-Some-clause-stands g c = λ before first all same stands.
    let old = c.args.core.now.core.value in
    let base = base_of old in
    let side = c.in-Some.side in
    by_side g.K.Sink.written g.K.Sink.faults old.plan (old.past ∷ before) (c.round.new.core.core.value.past ∷ before) first c.args.self.now.ends side c.round.new.self c.in-Some.is
    (λ f stood. c.round.ensures.stands before f same (open_side g.K.Sink.written g.K.Sink.faults old.plan f base before old.past side same c.requires.running c.round.ensures.legal all stood)) stands
