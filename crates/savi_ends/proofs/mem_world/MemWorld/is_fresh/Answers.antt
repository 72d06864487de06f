use Rattle.std.proofs.Common.{rules}
use Rattle.savi_ends.specs.FreshWorlds.{IsFreshWorld}
use Rattle.savi_ends.proofs.Ready.{handed_nothing}
use Rattle.savi_ends.proofs.mem_world.MemWorld.is_fresh.Goals as goal

pub returns-then-is_fresh_sink-clause-nothing : goal.returns-then-is_fresh_sink-clause-nothing
returns-then-is_fresh_sink-clause-nothing c =
    λ is_true. handed_nothing c.args.self.now (let fresh : IsFreshWorld c.args.self.now = search rules in fresh)
