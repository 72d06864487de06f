use Rattle.std.proofs.Common.{◌≡◌, ◌+◌, ◌-◌, ◌*◌, ◌≤◌, ◌++◌, take, length}
use Rattle.savi_kinds.specs.AddrText.{groups_text}
use Rattle.savi_kinds.proofs.addr_text.push_groups.Given as goal

abbrev pub invariant-loop-i : goal.invariant-loop-i
invariant-loop-i l = (l.text.bytes ≡ l.initial.text.bytes ++ groups_text (take l.i l.groups)) × (length l.text.bytes ≤ length l.initial.text.bytes + (5 * l.i - 1))
