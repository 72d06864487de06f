-- The order in which requests are told: by VLAN, then by transaction id, as numbers, and of one id by DUID, octet by octet.
use Rattle.std.specs.Prelude.{ℕ, if◌then◌else◌, List, [], ◌∷◌}
use Rattle.std.specs.List.{fold}
use Rattle.std.specs.declared.cmp.Ordering.{Ordering}
use Rattle.std.specs.Ordering.{ordering_then, nat_cmp, is_lt}
use Rattle.std.specs.Cmp.Lexicographic.{slice_cmp}
use Rattle.dhcp_states.specs.declared.request.Request.{Request}

abbrev pub request_order : ℕ × Request → ℕ × Request → Ordering
request_order a b = ordering_then (nat_cmp a.0 b.0) (ordering_then (nat_cmp a.1.tid b.1.tid) (slice_cmp nat_cmp a.1.duid.items b.1.duid.items))

-- one more among those that are in order: in front of the first that it comes before
abbrev pub request_placed : ℕ × Request → List (ℕ × Request) → List (ℕ × Request)
request_placed request [] = request ∷ []
request_placed request (other ∷ others) = if is_lt (request_order request other) then request ∷ other ∷ others else other ∷ request_placed request others

-- requests in order
abbrev pub requests_in_order : List (ℕ × Request) → List (ℕ × Request)
requests_in_order requests = fold (λ told request. request_placed request told) [] requests
