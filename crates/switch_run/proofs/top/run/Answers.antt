use Rattle.std.specs.Prelude.{map}
use Rattle.std.specs.String.{string_bytes}
use Rattle.switch_run.proofs.AuditClauses.{RunClauses, run_clauses}
use Rattle.switch_run.proofs.Clauses.{Clauses}
use Rattle.switch_run.proofs.Completing.{complete_of}
use Rattle.switch_run.proofs.LearnClauses.{AllClauses}
use Rattle.switch_run.proofs.Running.{Ran}
use Rattle.switch_run.proofs.top.run.Given as given
use Rattle.switch_run.proofs.top.run.Goals as goal

ran : (g : given.Over) (c : goal.After-keep_std g) → Ran (g.W.World.book c.args.world.now) (g.W.World.book c.std-errors.new.self) (g.W.World.book c.perform-status.new.world) (g.W.World.book c.keep_std.new.self) c.std-errors.result c.perform-status.new.errors
ran g c = record {
  told = c.std-errors.ensures.hands.told;
  others1 = c.std-errors.ensures.others;
  rest1 = c.std-errors.ensures.rest;
  others2 = c.perform-status.ensures.others;
  kept = c.keep_std.ensures.kept;
  others3 = c.keep_std.ensures.others;
  rest3 = c.keep_std.ensures.rest;
}

ran_every : (g : given.Over) (c : goal.After-keep_std g) → RunClauses g.W.S.Source.left g.W.K.Sink.written g.W.S.Source.faults g.W.K.Sink.faults g.W.C.Clock.readings (map string_bytes c.args.words.now) (g.W.World.book c.args.world.now) (g.W.World.book c.keep_std.new.self) c.perform-status.result
ran_every g c = run_clauses g.W.S.Source.left g.W.K.Sink.written g.W.S.Source.faults g.W.K.Sink.faults g.W.C.Clock.readings _ _ _ _ _ _ _ _ (ran g c) c.perform-status.ensures.ran

ran_all : (g : given.Over) (c : goal.After-keep_std g) → AllClauses g.W.S.Source.left g.W.K.Sink.written g.W.S.Source.faults g.W.K.Sink.faults g.W.C.Clock.readings (map string_bytes c.args.words.now) (g.W.World.book c.args.world.now) (g.W.World.book c.keep_std.new.self) c.perform-status.result
ran_all g c = (ran_every g c).others

ran_so : (g : given.Over) (c : goal.After-keep_std g) → Clauses g.W.S.Source.left g.W.K.Sink.written g.W.S.Source.faults g.W.K.Sink.faults g.W.C.Clock.readings (map string_bytes c.args.words.now) (g.W.World.book c.args.world.now) (g.W.World.book c.keep_std.new.self) c.perform-status.result
ran_so g c = (ran_all g c).others

pub returns-clause-status : goal.returns-clause-status
returns-clause-status g c = (ran_so g c).one_of

pub returns-clause-usage : goal.returns-clause-usage
returns-clause-usage g c = (ran_so g c).usage

pub returns-clause-untouched : goal.returns-clause-untouched
returns-clause-untouched g c = (ran_so g c).untouched

pub returns-clause-memory : goal.returns-clause-memory
returns-clause-memory g c = (ran_so g c).memory

pub returns-clause-unplayed : goal.returns-clause-unplayed
returns-clause-unplayed g c = (ran_so g c).unplayed

pub returns-clause-config : goal.returns-clause-config
returns-clause-config g c = (ran_so g c).config

pub returns-clause-open : goal.returns-clause-open
returns-clause-open g c = (ran_so g c).opening

pub returns-clause-still : goal.returns-clause-still
returns-clause-still g c = (ran_so g c).still

pub returns-clause-unopened : goal.returns-clause-unopened
returns-clause-unopened g c = (ran_so g c).unopened

pub returns-clause-session : goal.returns-clause-session
returns-clause-session g c = (ran_so g c).session

pub returns-clause-read : goal.returns-clause-read
returns-clause-read g c = (ran_so g c).read

pub returns-clause-write : goal.returns-clause-write
returns-clause-write g c = (ran_so g c).write

pub returns-clause-quiet : goal.returns-clause-quiet
returns-clause-quiet g c = (ran_so g c).quiet

pub returns-clause-unused : goal.returns-clause-unused
returns-clause-unused g c = (ran_so g c).unused

pub returns-clause-elsewhere : goal.returns-clause-elsewhere
returns-clause-elsewhere g c = (ran_so g c).elsewhere

pub returns-clause-serve : goal.returns-clause-serve
returns-clause-serve g c = (ran_so g c).serve

pub returns-clause-served_read : goal.returns-clause-served_read
returns-clause-served_read g c = (ran_so g c).served_read

pub returns-clause-served_write : goal.returns-clause-served_write
returns-clause-served_write g c = (ran_so g c).served_write

pub returns-clause-load : goal.returns-clause-load
returns-clause-load g c = (ran_so g c).load

pub returns-clause-check : goal.returns-clause-check
returns-clause-check g c = (ran_so g c).check

pub returns-clause-audit : goal.returns-clause-audit
returns-clause-audit g c = (ran_every g c).audit

pub returns-clause-split : goal.returns-clause-split
returns-clause-split g c = (ran_so g c).split

pub returns-clause-learn : goal.returns-clause-learn
returns-clause-learn g c = (ran_all g c).learn

pub returns-clause-learned_read : goal.returns-clause-learned_read
returns-clause-learned_read g c = (ran_all g c).learned_read

pub returns-clause-learned_write : goal.returns-clause-learned_write
returns-clause-learned_write g c = (ran_all g c).learned_write

pub returns-clause-complete : goal.returns-clause-complete
returns-clause-complete g c = complete_of g.W.S.Source.left g.W.K.Sink.written g.W.S.Source.faults g.W.K.Sink.faults g.W.C.Clock.readings _ _ _ _ c.requires.faults (ran_every g c)
