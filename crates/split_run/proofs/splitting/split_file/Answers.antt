use Rattle.std.proofs.Common.{◌≡◌}
use Rattle.split_run.specs.Names.{name_in}
use Rattle.split_run.proofs.Apart.{names_apart}
use Rattle.split_run.proofs.Ends.{held_out, input_alone, split_ran}
use Rattle.split_run.proofs.splitting.split_file.Goals as goal

pub split_source-outcome-requires-clause-apart : goal.split_source-outcome-requires-clause-apart
split_source-outcome-requires-clause-apart g c κs within = names_apart c.args.file.now c.args.names.now c.requires.names

pub keep_input-requires : goal.keep_input-requires
keep_input-requires g c = (
  c.args.file.now,
  input_alone (λ (s : g.row.W-S.Denot). g.W.S.Source.faults s ≡ 0) c.args.file.now (g.W.World.book c.args.world.now) (g.W.World.book c.input.new.self) (g.W.World.book c.split_source-outcome.new.world) c.requires.inputs c.in-Ok.ensures.others c.in-Ok.ensures.opens.out c.split_source-outcome.ensures.out.rest,
)

pub keep_outputs-requires-clause-apart : goal.keep_outputs-requires-clause-apart
keep_outputs-requires-clause-apart g c κs within = names_apart c.args.file.now c.args.names.now c.requires.names

pub keep_outputs-requires-clause-out : goal.keep_outputs-requires-clause-out
keep_outputs-requires-clause-out g c κs within =
    held_out (name_in c.args.names.now) c.split_source-outcome.ensures.handed c.split_source-outcome.new.held.items (g.W.World.book c.input.new.self) (g.W.World.book c.split_source-outcome.new.world) (g.W.World.book c.keep_input.new.self) c.split_source-outcome.ensures.out c.split_source-outcome.ensures.same c.keep_input.ensures.rest

pub returns-clause-ran : goal.returns-clause-ran
returns-clause-ran g c =
    let alone = input_alone (λ (s : g.row.W-S.Denot). g.W.S.Source.faults s ≡ 0) c.args.file.now (g.W.World.book c.args.world.now) (g.W.World.book c.input.new.self) (g.W.World.book c.split_source-outcome.new.world) c.requires.inputs c.in-Ok.ensures.others c.in-Ok.ensures.opens.out c.split_source-outcome.ensures.out.rest in
    split_ran g.W.S.Source.left g.W.K.Sink.written g.W.S.Source.faults g.W.K.Sink.faults c.args.file.now c.args.names.now c.requires.names c.in-Ok.source c.split_source-outcome.new.source
    (g.W.World.book c.args.world.now) (g.W.World.book c.input.new.self) (g.W.World.book c.split_source-outcome.new.world) (g.W.World.book c.keep_input.new.self) (g.W.World.book c.keep_outputs.new.world) c.split_source-outcome.new.held.items
    c.in-Ok.ensures.opens.told c.in-Ok.ensures.opens.still c.in-Ok.ensures.rest c.in-Ok.ensures.others
    (c.keep_input.ensures.kept c.args.file.now alone) (c.keep_input.ensures.others c.args.file.now alone) c.keep_input.ensures.rest
    c.keep_outputs.ensures.kept c.keep_outputs.ensures.others c.keep_outputs.ensures.rest
    c.split_source-outcome.result c.split_source-outcome.ensures
