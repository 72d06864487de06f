use Rattle.std.proofs.Common.{◌≡◌, ◌+◌, ◌-◌, ◌*◌, ◌≤◌, ◌++◌, take, length}
use Rattle.hist_store.specs.VlanTexts.{vlans_text}
use Rattle.hist_store.proofs.vlan_fields.put_numbers.Given as goal

abbrev pub invariant-loop-i : goal.invariant-loop-i
invariant-loop-i l = record {
  text : l.into.items ≡ l.initial.into.items ++ vlans_text (take l.i l.numbers);
  size : length l.into.items ≤ length l.initial.into.items + (5 * l.i - 1);
}
