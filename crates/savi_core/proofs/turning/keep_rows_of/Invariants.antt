use Rattle.std.proofs.Common.{◌≡◌, take}
use Rattle.savi_core.specs.Turns.{with_rows}
use Rattle.savi_core.proofs.Keeping.{each_of}
use Rattle.savi_core.proofs.turning.keep_rows_of.Given as goal

abbrev pub invariant-loop-i : goal.invariant-loop-i
invariant-loop-i l = l.into ≡ with_rows (each_of l.access.vlan (take l.i l.access.addresses.rows)) l.fn.into
