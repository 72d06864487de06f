use Rattle.std.proofs.Common.{take}
use Rattle.std.specs.List.{AllPairs}
use Rattle.toml.specs.View.{table_view}
use Rattle.savi_conf.specs.Requirements.{HaveApartRanges}
use Rattle.savi_conf.proofs.prefixes.have_apart_ranges.Given as goal

abbrev pub invariant-loop-i : goal.invariant-loop-i
invariant-loop-i l = AllPairs (λ t u. HaveApartRanges (table_view t.now) (table_view u.now)) (take l.i l.prefixes)
