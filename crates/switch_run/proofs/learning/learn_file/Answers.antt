use Rattle.std.proofs.Common.{◌≡◌, Result, Err, true, ap, refl}
use Rattle.savi_kinds.specs.declared.plan.Plan.{Plan}
use Rattle.savi_ends.specs.declared.world.Std.TheVariants.{Out}
use Rattle.savi_ends.specs.Places.{Book}
use Rattle.run_config.specs.declared.refusal.Refusal.{Refusal}
use Rattle.switch_run.specs.Learnings.{IsLearning}
use Rattle.switch_run.specs.Runs.{IsRunOf}
use Rattle.switch_run.specs.Causes.{IsUnserved}
use Rattle.switch_run.specs.Session.{ToldBy}
use Rattle.switch_run.proofs.LearnRuns.{learned_run, refused_run}
use Rattle.switch_run.proofs.Refusing.{refuses}
use Rattle.switch_run.proofs.learning.learn_file.Goals as goal

pub returns-in-Ok-clause-ran : goal.returns-in-Ok-clause-ran
returns-in-Ok-clause-ran g c =
    learned_run g.W.S.Source.left g.W.K.Sink.written g.W.S.Source.faults g.W.K.Sink.faults c.args.file.now c.args.window (ToldBy g.W.K.Sink.faults g.W.K.Sink.written c.args.errors.now c.learn_plan.new.errors) (g.W.World.book c.args.world.now) (g.W.World.book c.configure.new.world) (g.W.World.book c.learn_plan.new.world) c.learn_plan.result
    c.in-Ok.ensures.rest c.in-Ok.ensures.others c.in-Ok.plan c.in-Ok.ensures.configured (c.in-Ok.ensures.whole (λ e. cc) (λ e. cc) (λ e. cc)) (c.in-Ok.ensures.still (λ e. cc) (λ e. cc) (λ e. cc)) (c.in-Ok.ensures.still_world (λ e. cc))
    c.learn_plan.ensures.status c.learn_plan.ensures.usage c.learn_plan.ensures.config c.learn_plan.ensures.memory c.learn_plan.ensures.unplayed c.learn_plan.ensures.«open» c.learn_plan.ensures.still c.learn_plan.ensures.unopened c.learn_plan.ensures.learning c.learn_plan.ensures.quiet c.learn_plan.ensures.unused c.learn_plan.ensures.rest

err_of : (r r' : Refusal) → r ≡ r' → ◌≡◌ {A = Result Plan Refusal} (Err r) (Err r')
err_of r r' e = rw e refl

of_err : (r r' : Refusal) → ◌≡◌ {A = Result Plan Refusal} (Err r) (Err r') → r ≡ r'
of_err r r' e = cc

pub returns-in-Err-clause-ran : goal.returns-in-Err-clause-ran
returns-in-Err-clause-ran g c =
    let S = g.row.W-S.Denot in
    let K = g.row.W-K.Denot in
    let C = g.row.W-C.Denot in
    let unserved : IsUnserved (g.W.World.book c.args.world.now) (g.W.World.book c.configure.new.world) =
    record { ports = ap (λ (b : Book S K C). b.ports) c.in-Err.ensures.rest; control = ap (λ (b : Book S K C). b.control) c.in-Err.ensures.rest; ticker = ap (λ (b : Book S K C). b.ticker) c.in-Err.ensures.rest; outputs = ap (λ (b : Book S K C). b.outputs) c.in-Err.ensures.rest } in
    let run : IsRunOf true g.W.S.Source.left g.W.K.Sink.written g.W.S.Source.faults c.args.file.now (ToldBy g.W.K.Sink.faults g.W.K.Sink.written c.args.errors.now c.refuse.new.errors)
    (IsLearning g.W.S.Source.left g.W.K.Sink.written g.W.S.Source.faults g.W.K.Sink.faults c.args.file.now c.args.window (ToldBy g.W.K.Sink.faults g.W.K.Sink.written c.args.errors.now c.refuse.new.errors) (g.W.World.book c.args.world.now) (g.W.World.book c.configure.new.world) c.refuse.result)
    (g.W.World.book c.args.world.now) (g.W.World.book c.configure.new.world) c.refuse.result =
    refuses true g.W.S.Source.left g.W.K.Sink.written g.W.S.Source.faults c.args.file.now _ _ c.in-Err.refusal _ _ _ c.refuse.ensures.status c.refuse.ensures.told
    (λ fault e. c.in-Err.ensures.refused fault (err_of _ _ e))
    (λ e. c.in-Err.ensures.unopened (err_of _ _ e))
    (λ other. c.in-Err.ensures.still_world (λ e. other (of_err _ _ e)))
    (λ e. c.in-Err.ensures.unread (err_of _ _ e))
    (λ read opened memory. c.in-Err.ensures.still (λ e. read (of_err _ _ e)) (λ e. opened (of_err _ _ e)) (λ e. memory (of_err _ _ e)))
    (λ e. c.in-Err.ensures.still_memory (err_of _ _ e))
    (λ e. c.in-Err.ensures.as_it_was (err_of _ _ e))
    (λ e. c.in-Err.ensures.kept (err_of _ _ e))
    (λ read opened memory. c.in-Err.ensures.whole (λ e. read (of_err _ _ e)) (λ e. opened (of_err _ _ e)) (λ e. memory (of_err _ _ e)))
    (λ e. c.in-Err.ensures.memory (err_of _ _ e))
    unserved
    (ap (λ (b : Book S K C). b.std Out) c.in-Err.ensures.rest)
    c.in-Err.ensures.others in
    refused_run g.W.S.Source.left g.W.K.Sink.written g.W.S.Source.faults g.W.K.Sink.faults c.args.file.now c.args.window (ToldBy g.W.K.Sink.faults g.W.K.Sink.written c.args.errors.now c.refuse.new.errors) (g.W.World.book c.args.world.now) (g.W.World.book c.configure.new.world) (g.W.World.book c.configure.new.world) c.refuse.result
    c.in-Err.ensures.rest c.in-Err.ensures.others c.in-Err.refusal c.refuse.ensures.status c.refuse.ensures.told (λ e. c.in-Err.ensures.as_it_was (err_of _ _ e)) unserved run
