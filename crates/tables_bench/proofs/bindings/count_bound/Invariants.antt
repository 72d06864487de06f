use Rattle.std.proofs.Common.{◌≡◌, count_by, take}
use Rattle.savi_kinds.specs.declared.address.Addr.{Addr}
use Rattle.mix_rules.specs.States.{has_state}
use Rattle.savi_access.specs.Rows.{state_in}
use Rattle.tables_bench.proofs.bindings.count_bound.Given as goal

abbrev pub invariant-loop-a : goal.invariant-loop-a
invariant-loop-a l = l.bound ≡ count_by (λ (a : Addr). has_state (state_in l.table.rows a.0)) (take l.a-index l.asked)
