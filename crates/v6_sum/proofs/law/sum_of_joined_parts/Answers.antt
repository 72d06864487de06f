use Rattle.std.proofs.Common.{ℕ, ◌<◌, List, length, inl, inr, arith}
use Rattle.std.proofs.lemmas.Bool.{cases_lt}
use Rattle.std.proofs.lemmas.List.{get_or_past}
use Rattle.std.specs.Prelude.{All}
use Rattle.v6_sum.proofs.OnesSums.{ones_sum-append}
use Rattle.v6_sum.proofs.WordLists.{IsBelow}
use Rattle.v6_sum.proofs.law.sum_of_joined_parts.Goals as goal

below_from_all : (xs : List ℕ) → All (λ octet. octet < 256) xs → IsBelow 256 xs
below_from_all xs all i =
    elim (cases_lt i (length xs)) [ inl within ↦ all i 0 within | inr past ↦ rw (get_or_past xs i 0 past) (omega arith) ]

pub returns : goal.returns
returns c = λ front back all_front all_back even.
    ones_sum-append front back (below_from_all front all_front) (below_from_all back all_back) even
