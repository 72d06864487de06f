use Rattle.std.proofs.Common.{◌≡◌, None, length, All}
use Rattle.bridge_fdb.proofs.kept.Kept.make.Given as goal

abbrev pub invariant-loop : goal.invariant-loop
invariant-loop l = All (λ o. o ≡ None) l.stations.items × (length l.stations.items ≡ l.counter)
