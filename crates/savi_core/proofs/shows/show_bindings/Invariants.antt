use Rattle.std.proofs.Common.{◌≡◌, ◌*◌, ◌≤◌, length, take}
use Rattle.control_replies.specs.Bindings.{all_binding_lines}
use Rattle.savi_core.specs.VlanSets.{of_sets}
use Rattle.savi_core.proofs.ShownSets.{rows_of}
use Rattle.savi_core.proofs.shows.show_bindings.Given as goal

abbrev pub invariant-loop-set : goal.invariant-loop-set
invariant-loop-set l = record {
  text : l.into ≡ all_binding_lines l.times (of_sets rows_of (take l.set-index l.sets));
  size : length l.into ≤ 166 * length (of_sets rows_of (take l.set-index l.sets));
}
