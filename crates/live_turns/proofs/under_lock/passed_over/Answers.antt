use Rattle.std.proofs.Common.{refl}
use Rattle.savi_history.specs.Limits.{has_room}
use Rattle.live_turns.proofs.Closing.{no_room, some_room}
use Rattle.live_turns.proofs.under_lock.passed_over.Goals as goal

pub returns-then-full : goal.returns-then-full
returns-then-full c =
    rw (no_room (has_room c.args.core.now.plan c.args.core.now.past) c.full.result c.full.ensures c.if-full.true) refl

pub returns-else-full : goal.returns-else-full
returns-else-full c =
    rw (some_room (has_room c.args.core.now.plan c.args.core.now.past) c.full.result c.full.ensures c.if-full.false) refl
