use Rattle.std.proofs.Common.{◌≢◌, take}
use Rattle.std.specs.List.{AllPairs}
use Rattle.toml.specs.View.{table_view}
use Rattle.savi_conf.specs.Requirements.{number_in}
use Rattle.savi_conf.proofs.ports.have_different_numbers.Given as goal

abbrev pub invariant-loop-i : goal.invariant-loop-i
invariant-loop-i l = AllPairs (λ p q. number_in (table_view p.now) ≢ number_in (table_view q.now)) (take l.i l.ports)
