use Rattle.std.proofs.Common.{ℕ, ◌<◌, ◌+◌, length}
use Rattle.addr_index.specs.Places.{in_place}
use Rattle.addr_index.specs.Ways.{IsRound}
use Rattle.addr_index.proofs.Gaps.{IsOther, IsPassedPlace}
use Rattle.addr_index.proofs.places.search.Given as goal

abbrev pub invariant-loop : goal.invariant-loop
invariant-loop l = record {
  others : (passed : ℕ) → passed < length l.places → IsPassedPlace (length l.places) l.from l.counter passed → IsOther l.address (in_place l.places passed);
  round : IsRound (length l.places) (l.from + l.counter) l.at;
}
