use Rattle.std.proofs.Common.{◌≡◌, ◌+◌, ◌*◌, ◌≤◌, ◌++◌, length, map, take}
use Rattle.control_replies.specs.Bindings.{all_binding_lines}
use Rattle.savi_core.proofs.shows.put_bindings.Given as goal

abbrev pub invariant-loop-i : goal.invariant-loop-i
invariant-loop-i l = record {
  text : l.into ≡ l.fn.into ++ all_binding_lines l.times (map (λ row. (l.access.vlan, row)) (take l.i l.access.addresses.rows));
  size : length l.into ≤ length l.fn.into + 166 * l.i;
  within : l.i ≤ length l.access.addresses.rows;
}
