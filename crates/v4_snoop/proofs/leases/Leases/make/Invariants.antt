use Rattle.std.proofs.Common.{◌≡◌, None, length, All}
use Rattle.v4_snoop.proofs.leases.Leases.make.Given as goal

abbrev pub invariant-loop : goal.invariant-loop
invariant-loop l = All (λ o. o ≡ None) l.slots.items × (length l.slots.items ≡ l.counter)
