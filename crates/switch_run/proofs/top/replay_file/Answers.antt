use Rattle.std.proofs.Common.{◌≡◌, ◌≢◌, ℕ, Result, Err, true, false, ap, arith, sym, subst, ◌∙◌, inr, refl}
use Rattle.savi_kinds.specs.declared.plan.Plan.{Plan}
use Rattle.savi_ends.specs.declared.world.Std.TheVariants.{Out}
use Rattle.savi_ends.specs.Faults.{Rose}
use Rattle.savi_ends.specs.Places.{Book, Place}
use Rattle.run_config.specs.declared.refusal.Refusal.{Refusal}
use Rattle.run_config.specs.declared.refusal.Refusal.TheVariants as refusals
use Rattle.switch_run.specs.Concluded.{refusal_status}
use Rattle.switch_run.specs.Runs.{IsRunOf}
use Rattle.switch_run.specs.Session.{IsSession, ToldBy}
use Rattle.switch_run.proofs.Refusing.{refuses}
use Rattle.run_config.specs.Configs.{EndHasNoFault, IsReadThrough}
use Rattle.switch_run.proofs.Running.{configured_session, configured_unplayed, moved_part, moved_unused, read_before, same_places}
use Rattle.switch_run.proofs.top.replay_file.Given as given
use Rattle.switch_run.proofs.top.replay_file.Goals as goal

input_still : (g : given.Over) (c : goal.After-replay_plan g) → IsReadThrough {S = g.row.W-S.Denot} g.W.S.Source.left ((g.W.World.book c.args.world.now).inputs c.args.file.now) ((g.W.World.book c.replay_plan.new.world).inputs c.args.file.now)
input_still g c =
    let S = g.row.W-S.Denot in
    let K = g.row.W-K.Denot in
    let C = g.row.W-C.Denot in
    subst (λ (p : Place S). IsReadThrough g.W.S.Source.left ((g.W.World.book c.args.world.now).inputs c.args.file.now) p) (sym (ap (λ (b : Book S K C). b.inputs c.args.file.now) c.replay_plan.ensures.rest)) (c.in-Ok.ensures.whole (λ e. cc) (λ e. cc) (λ e. cc))

never_failed : (g : given.Over) (c : goal.After-replay_plan g) → EndHasNoFault {X = g.row.W-S.Denot} g.W.S.Source.faults ((g.W.World.book c.replay_plan.new.world).inputs c.args.file.now)
never_failed g c =
    let S = g.row.W-S.Denot in
    let K = g.row.W-K.Denot in
    let C = g.row.W-C.Denot in
    subst (λ (p : Place S). EndHasNoFault g.W.S.Source.faults p) (sym (ap (λ (b : Book S K C). b.inputs c.args.file.now) c.replay_plan.ensures.rest)) (c.in-Ok.ensures.still (λ e. cc) (λ e. cc) (λ e. cc))

pub returns-in-Ok-clause-ran : goal.returns-in-Ok-clause-ran
returns-in-Ok-clause-ran g c =
    let S = g.row.W-S.Denot in
    let K = g.row.W-K.Denot in
    let C = g.row.W-C.Denot in
    let before = read_before _ _ c.in-Ok.ensures.rest in
    let ticker = ap (λ (b : Book S K C). b.ticker) c.replay_plan.ensures.rest ∙ ap (λ (b : Book S K C). b.ticker) c.in-Ok.ensures.rest in
    let run : IsRunOf true g.W.S.Source.left g.W.K.Sink.written g.W.S.Source.faults c.args.file.now (ToldBy g.W.K.Sink.faults g.W.K.Sink.written c.args.errors.now c.replay_plan.new.errors)
    (IsSession g.W.S.Source.left g.W.K.Sink.written g.W.S.Source.faults g.W.K.Sink.faults c.args.file.now (ToldBy g.W.K.Sink.faults g.W.K.Sink.written c.args.errors.now c.replay_plan.new.errors) (g.W.World.book c.args.world.now) (g.W.World.book c.replay_plan.new.world) c.replay_plan.result)
    (g.W.World.book c.args.world.now) (g.W.World.book c.replay_plan.new.world) c.replay_plan.result =
    record {
      one_of = c.replay_plan.ensures.status;
      usage = c.replay_plan.ensures.usage;
      memory = c.replay_plan.ensures.memory;
      unplayed = λ one. record {
        input = inr (input_still g c, never_failed g c);
        ends = configured_unplayed true g.W.S.Source.left g.W.K.Sink.written c.in-Ok.plan _ _ _ c.args.file.now c.in-Ok.ensures.rest c.in-Ok.ensures.configured (c.replay_plan.ensures.unplayed one);
      };
      config = λ three. absurd (c.replay_plan.ensures.config three);
      opening = λ seven. subst (λ (n : ℕ). Rose n (g.W.World.book c.replay_plan.new.world).faults) (c.in-Ok.ensures.still_world (λ e. cc)) (c.replay_plan.ensures.«open» seven);
      still = λ other. c.replay_plan.ensures.still other ∙ c.in-Ok.ensures.still_world (λ e. cc);
      unopened = λ seven. inr (record {
        plan = c.in-Ok.plan;
        configured = c.in-Ok.ensures.configured;
        input = input_still g c;
        still = never_failed g c;
        ticker = ticker;
        part = moved_part false c.in-Ok.plan _ _ _ _ _ _ before (same_places _) (λ lines told. told) (c.replay_plan.ensures.unopened seven);
      });
      session = λ one_of. inr (record {
        plan = c.in-Ok.plan;
        configured = c.in-Ok.ensures.configured;
        input = input_still g c;
        still = never_failed g c;
        session = configured_session g.W.S.Source.left g.W.K.Sink.written g.W.S.Source.faults g.W.K.Sink.faults c.in-Ok.plan _ _ _ _ _ c.in-Ok.ensures.rest (c.replay_plan.ensures.session one_of);
      });
      quiet = λ one_of. c.replay_plan.ensures.quiet one_of ∙ ap (λ (b : Book S K C). b.std Out) c.in-Ok.ensures.rest;
      unused = λ one_of. inr (c.in-Ok.plan, c.in-Ok.ensures.configured, moved_unused false c.in-Ok.plan _ _ _ _ before (same_places _) (c.replay_plan.ensures.unused one_of));
      inputs = λ other apart. ap (λ (b : Book S K C). b.inputs other) c.replay_plan.ensures.rest ∙ c.in-Ok.ensures.others other apart;
    } in
    record { run = run; ticker = ticker }

err_of : (r r' : Refusal) → r ≡ r' → ◌≡◌ {A = Result Plan Refusal} (Err r) (Err r')
err_of r r' e = rw e refl

of_err : (r r' : Refusal) → ◌≡◌ {A = Result Plan Refusal} (Err r) (Err r') → r ≡ r'
of_err r r' e = cc

pub returns-in-Err-clause-ran : goal.returns-in-Err-clause-ran
returns-in-Err-clause-ran g c =
    let S = g.row.W-S.Denot in
    let K = g.row.W-K.Denot in
    let C = g.row.W-C.Denot in
    let run : IsRunOf true g.W.S.Source.left g.W.K.Sink.written g.W.S.Source.faults c.args.file.now (ToldBy g.W.K.Sink.faults g.W.K.Sink.written c.args.errors.now c.refuse.new.errors)
    (IsSession g.W.S.Source.left g.W.K.Sink.written g.W.S.Source.faults g.W.K.Sink.faults c.args.file.now (ToldBy g.W.K.Sink.faults g.W.K.Sink.written c.args.errors.now c.refuse.new.errors) (g.W.World.book c.args.world.now) (g.W.World.book c.configure.new.world) c.refuse.result)
    (g.W.World.book c.args.world.now) (g.W.World.book c.configure.new.world) c.refuse.result =
    refuses true g.W.S.Source.left g.W.K.Sink.written g.W.S.Source.faults c.args.file.now _ _ c.in-Err.refusal _ _ _ c.refuse.ensures.status c.refuse.ensures.told
    (λ fault e. c.in-Err.ensures.refused fault (err_of _ _ e))
    (λ e. c.in-Err.ensures.unopened (err_of _ _ e))
    (λ other. c.in-Err.ensures.still_world (λ e. other (of_err _ _ e)))
    (λ e. c.in-Err.ensures.unread (err_of _ _ e))
    (λ read opened memory. c.in-Err.ensures.still (λ e. read (of_err _ _ e)) (λ e. opened (of_err _ _ e)) (λ e. memory (of_err _ _ e)))
    (λ e. c.in-Err.ensures.still_memory (err_of _ _ e))
    (λ e. c.in-Err.ensures.as_it_was (err_of _ _ e))
    (λ e. c.in-Err.ensures.kept (err_of _ _ e))
    (λ read opened memory. c.in-Err.ensures.whole (λ e. read (of_err _ _ e)) (λ e. opened (of_err _ _ e)) (λ e. memory (of_err _ _ e)))
    (λ e. c.in-Err.ensures.memory (err_of _ _ e))
    (record { ports = ap (λ (b : Book S K C). b.ports) c.in-Err.ensures.rest; control = ap (λ (b : Book S K C). b.control) c.in-Err.ensures.rest; ticker = ap (λ (b : Book S K C). b.ticker) c.in-Err.ensures.rest; outputs = ap (λ (b : Book S K C). b.outputs) c.in-Err.ensures.rest })
    (ap (λ (b : Book S K C). b.std Out) c.in-Err.ensures.rest)
    c.in-Err.ensures.others in
    record { run = run; ticker = ap (λ (b : Book S K C). b.ticker) c.in-Err.ensures.rest }
