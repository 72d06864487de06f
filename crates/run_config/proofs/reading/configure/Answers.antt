use Rattle.std.proofs.Common.{◌<◌, ◌≡◌, ◌≢◌, ◌∙◌, ℕ, List, Option, IfSome, IsSomeAnd, Err, Result, ap, arith, inr, sym}
use Rattle.savi_kinds.specs.declared.plan.Plan.{Plan}
use Rattle.run_config.specs.declared.refusal.Refusal.{Refusal}
use Rattle.run_config.specs.declared.refusal.Refusal.TheVariants as refusal
use Rattle.savi_conf.specs.Answers.{IsAnswer}
use Rattle.savi_ends.specs.Places.{Book, IsOnlyOut}
use Rattle.run_config.specs.Configs.{EndHasNoFault, TakesFew, TakesWhole}
use Rattle.savi_ends.proofs.Ready.{opened_alone}
use Rattle.run_config.proofs.Configured.{of_told, configured, kept_fault, kept_sound, read_back}
use Rattle.run_config.proofs.reading.configure.Given as given
use Rattle.run_config.proofs.reading.configure.Goals as goal

pub keep_input-requires : goal.keep_input-requires
keep_input-requires g c = (
  c.args.file.now,
  opened_alone (λ (s : g.row.W-S.Denot). g.W.S.Source.faults s ≡ 0) (g.W.World.book c.args.world.now).inputs (g.W.World.book c.input.new.self).inputs c.args.file.now c.requires c.in-Ok-input.ensures.others c.in-Ok-input.ensures.opens.out,
)

only : (g : given.Over) (c : goal.After-drop-buffer-2 g) → IsOnlyOut {X = g.row.W-S.Denot} (g.W.World.book c.input.new.self).inputs c.args.file.now
only g c = opened_alone (λ (s : g.row.W-S.Denot). g.W.S.Source.faults s ≡ 0) (g.W.World.book c.args.world.now).inputs (g.W.World.book c.input.new.self).inputs c.args.file.now c.requires c.in-Ok-input.ensures.others c.in-Ok-input.ensures.opens.out

pub returns-clause-configured : goal.returns-clause-configured
returns-clause-configured g c =
    configured c.args.replay g.W.S.Source.left ((g.W.World.book c.args.world.now).inputs c.args.file.now) c.in-Ok-input.source c.read_config-answer.result
    c.in-Ok-input.ensures.opens.told c.read_config-answer.ensures.built c.read_config-answer.ensures.says

pub returns-clause-refused : goal.returns-clause-refused
returns-clause-refused g c = λ fault is.
    let found = c.read_config-answer.ensures.refused fault is in
    record {
      answer = of_told g.W.S.Source.left ((g.W.World.book c.args.world.now).inputs c.args.file.now) c.in-Ok-input.source (λ text. IsAnswer text c.args.replay (Err fault)) c.in-Ok-input.ensures.opens.told found.1;
      cause = found.0;
    }

pub returns-clause-unread : goal.returns-clause-unread
returns-clause-unread g c = λ is.
    let fault : 0 < g.W.S.Source.faults c.read_config-answer.new.source = omega (arith, c.read_config-answer.ensures.unread is, c.in-Ok-input.ensures.opens.fresh) in
    kept_fault g.W.S.Source.faults ((g.W.World.book c.keep_input.new.self).inputs c.args.file.now) c.read_config-answer.new.source (c.keep_input.ensures.kept c.args.file.now (only g c)) fault

apart : ◌≡◌ {A = Result Plan Refusal} (Err refusal.NoMemory) (Err refusal.ReadFailed) → ⊥
apart same = cc

no_fault : (g : given.Over) (c : goal.After-drop-buffer-2 g) → c.read_config-answer.result ≢ Err refusal.ReadFailed → EndHasNoFault {X = g.row.W-S.Denot} g.W.S.Source.faults ((g.W.World.book c.keep_input.new.self).inputs c.args.file.now)
no_fault g c = λ other.
    kept_sound g.W.S.Source.faults ((g.W.World.book c.keep_input.new.self).inputs c.args.file.now) c.read_config-answer.new.source (c.keep_input.ensures.kept c.args.file.now (only g c)) (c.read_config-answer.ensures.still other ∙ c.in-Ok-input.ensures.opens.fresh)

pub returns-clause-still : goal.returns-clause-still
returns-clause-still g c = λ other opened memory. no_fault g c other

pub returns-clause-still_memory : goal.returns-clause-still_memory
returns-clause-still_memory g c = λ is. inr (no_fault g c (λ failed. apart (sym is ∙ failed)))

pub returns-clause-still_world : goal.returns-clause-still_world
returns-clause-still_world g c = λ opened. ap (λ (b : Book g.row.W-S.Denot g.row.W-K.Denot g.row.W-C.Denot). b.faults) c.keep_input.ensures.rest ∙ c.in-Ok-input.ensures.opens.still

pub returns-clause-others : goal.returns-clause-others
returns-clause-others g c = λ other differs. c.keep_input.ensures.others c.args.file.now (only g c) other differs ∙ c.in-Ok-input.ensures.others other differs

-- the two readings, of the end that was handed out
back : (g : given.Over) (c : goal.After-drop-buffer-2 g) (Taken : Option (List ℕ) → Option (List ℕ) → Type 0) → Taken (g.W.S.Source.left c.in-Ok-input.source) (g.W.S.Source.left c.read_config-answer.new.source)
    → IsSomeAnd ((g.W.World.book c.keep_input.new.self).inputs c.args.file.now).stands (λ k. IfSome ((g.W.World.book c.args.world.now).inputs c.args.file.now).stands (λ told. Taken (g.W.S.Source.left told) (g.W.S.Source.left k)))
back g c Taken =
    read_back g.W.S.Source.left Taken ((g.W.World.book c.args.world.now).inputs c.args.file.now) ((g.W.World.book c.keep_input.new.self).inputs c.args.file.now) c.in-Ok-input.source c.read_config-answer.new.source
    c.in-Ok-input.ensures.opens.told (c.keep_input.ensures.kept c.args.file.now (only g c))

pub returns-clause-kept : goal.returns-clause-kept
returns-clause-kept g c = λ failed. back g c TakesFew c.read_config-answer.ensures.takes

pub returns-clause-whole : goal.returns-clause-whole
returns-clause-whole g c = λ read opened memory. back g c TakesWhole (c.read_config-answer.ensures.whole read)

pub returns-clause-memory : goal.returns-clause-memory
returns-clause-memory g c = λ is. inr (back g c TakesWhole (c.read_config-answer.ensures.whole (λ failed. apart (sym is ∙ failed))))
