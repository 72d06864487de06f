use Rattle.std.proofs.Common.{inr}
use Rattle.switch_run.proofs.Splitting.{split_as}
use Rattle.switch_run.proofs.splits.split_capture.Goals as goal

pub returns-clause-ran : goal.returns-clause-ran
returns-clause-ran g c =
    inr (split_as _ _ _ _ c.args.file.now _ (g.W.World.book c.args.world.now) (g.W.World.book c.split_file-outcome.new.world) (g.W.World.book c.tell_outcome.new.world) c.split_file-outcome.result c.tell_outcome.result
    c.split_file-outcome.ensures.ran c.tell_outcome.ensures.told c.tell_outcome.ensures.rest)
