use Rattle.std.proofs.Common.{◌<◌}
use Rattle.arrayvec.specs.ArrayVec.{array_vec_len}
use Rattle.core_keep.specs.Seen.{past_seen}
use Rattle.live_turns.specs.Wakes.{AreBehind}
use Rattle.live_turns.proofs.WokenPorts.{WokenBelow}
use Rattle.live_turns.proofs.waking.wake_outputs.Given as goal

abbrev pub invariant-loop-number : goal.invariant-loop-number
invariant-loop-number l = WokenBelow l.number l.ports l.woken.items × (array_vec_len l.woken < l.number) × AreBehind (past_seen l.pass) l.woken.items
