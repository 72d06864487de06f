use Rattle.std.proofs.Common.{ℕ, ◌≡◌, ◌≤◌, ◌<◌, true}
use Rattle.v4_snoop.specs.Leased.{is_live_lease}
use Rattle.v4_snoop.specs.KeptLeases.{lease_in, has_lease}
use Rattle.v4_snoop.proofs.leases.Leases.idle_within.Given as goal

abbrev pub invariant-loop-slot : goal.invariant-loop-slot
invariant-loop-slot l = (k : ℕ) → l.from ≤ k → k < l.slot → has_lease (is_live_lease l.t) (lease_in l.self.slots.items k) ≡ true
