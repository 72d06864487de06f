use Rattle.std.proofs.Common.{◌≡◌, ℕ, None, length}
use Rattle.addr_index.specs.Places.{in_place}
use Rattle.addr_index.proofs.index.AddrIndex.make.Given as goal

abbrev pub invariant-loop : goal.invariant-loop
invariant-loop l = ((place : ℕ) → in_place l.places.items place ≡ None) × (length l.places.items ≡ l.counter)
