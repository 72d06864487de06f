use Rattle.std.proofs.Common.{◌≡◌, take}
use Rattle.std.specs.List.{sum_by}
use Rattle.control_replies.specs.Counters.{all_rules, dropped_count}
use Rattle.savi_history.specs.Shown.{counts_of}
use Rattle.savi_history.specs.Summary.{capped}
use Rattle.savi_core.specs.Machines.{base_of}
use Rattle.switch_run.proofs.summing.all_dropped.Given as given

abbrev pub invariant-loop-i : given.invariant-loop-i
invariant-loop-i l = l.dropped ≡ capped (sum_by (dropped_count (counts_of (base_of l.core) l.core.past)) (take l.i all_rules))
