-- How many requests there are.
use Rattle.std.proofs.Common.{ℕ, ◌≡◌, ◌+◌, ◌≤◌, ◌<◌, ◌==◌, nat_le, Bool, true, false, not, List, [], ◌∷◌, ◌++◌, length, count_by, cond, refl, sym, ◌∙◌, ap, subst, arith, inl, inr, length-append, Some, None}
use Rattle.std.specs.Str.{bytes_eq}
use Rattle.std.specs.Cmp.Lexicographic.{same_text}
use Rattle.std.proofs.lemmas.Bool.{cases_Bool, and_parts, and_cases, not-false, not_from_true, ltb-true, lt-ltb, eqb-true, leb-false}
use Rattle.std.proofs.lemmas.List.Elements.{filter_passes, All-filter, filter-append}
use Rattle.savi_kinds.specs.Ports.{number_of}
use Rattle.savi_kinds.specs.declared.verdict.Rule.TheVariants.{PendingFull}
use Rattle.dhcp_states.specs.declared.request.Request.{Request}
use Rattle.dhcp_states.specs.Requests.{is_open, open_at, is_at, has_pair, requests_at_port, has_asked, is_full, refusal, without_pair, with_request}
use Rattle.dhcp_states.specs.Limits.{IsWithinLimits, IsOnePerPair}
use Rattle.savi_kinds.proofs.Filters.{filter-all, filter-wider, count_by-push, count_by-filter-le, count_by-filter_none, count_by-filter_fewer}
use Rattle.savi_kinds.proofs.PortCounts.{length-by_port}

-- what is open at a later moment is open at an earlier one
is_open-earlier : (t u : ℕ) → t ≤ u → (request : Request) → is_open u request ≡ true → is_open t request ≡ true
is_open-earlier t u later request is = lt-ltb t (request.opened + 120000) (omega (arith, later, ltb-true u (request.opened + 120000) is))

pub open_at-later : (t u : ℕ) (requests : List Request) → t ≤ u → open_at u (open_at t requests) ≡ open_at u requests
open_at-later t u requests later = filter-wider (is_open t) (is_open u) (is_open-earlier t u later) requests

-- what is open stays open when the requests with a pair go
pub open_at-without_pair : (t tid : ℕ) (duid : List ℕ) (requests : List Request) → open_at t (without_pair tid duid (open_at t requests)) ≡ without_pair tid duid (open_at t requests)
open_at-without_pair t tid duid requests =
    filter-all (is_open t) (without_pair tid duid (open_at t requests))
    (All-filter (λ request. not (has_pair tid duid request)) (λ request. is_open t request ≡ true) (open_at t requests) (filter_passes (is_open t) requests))

-- a request is open at the moment at which it is asked
pub open_at-with_request : (t : ℕ) (request : Request) (requests : List Request) → request.opened ≡ t → open_at t (with_request request (open_at t requests)) ≡ with_request request (open_at t requests)
open_at-with_request t request requests now =
    let is : is_open t request ≡ true = lt-ltb t (request.opened + 120000) (omega (arith, now)) in
    let last : open_at t (request ∷ []) ≡ request ∷ [] = rw is refl in
    let left : List Request = without_pair request.tid request.duid.items (open_at t requests) in
    filter-append (is_open t) left (request ∷ [])
    ∙ ap (λ ys. ys ++ open_at t (request ∷ [])) (open_at-without_pair t request.tid request.duid.items requests)
    ∙ ap (λ ys. left ++ ys) last

pub IsOnePerPair-open_at : (t : ℕ) (requests : List Request) → IsOnePerPair requests → IsOnePerPair (open_at t requests)
IsOnePerPair-open_at t requests one tid duid = omega (arith, one tid duid, count_by-filter-le (has_pair tid duid) (is_open t) requests)

pub IsOnePerPair-without_pair : (tid : ℕ) (duid : List ℕ) (requests : List Request) → IsOnePerPair requests → IsOnePerPair (without_pair tid duid requests)
IsOnePerPair-without_pair tid duid requests one id octets = omega (arith, one id octets, count_by-filter-le (has_pair id octets) (λ request. not (has_pair tid duid request)) requests)

-- a request has one pair
pub has_pair-same : (id : ℕ) (octets : List ℕ) (request : Request) → has_pair id octets request ≡ true → (id ≡ request.tid) × (octets ≡ request.duid.items)
has_pair-same id octets request is =
    let both : ((request.tid == id) ≡ true) × (bytes_eq request.duid.items octets ≡ true) = and_parts (request.tid == id) (bytes_eq request.duid.items octets) is in
    (sym (eqb-true request.tid id both.0), sym (same_text request.duid.items octets (sym both.1)))

-- none with the pair of a request is left when those with its pair go
none_left : (id : ℕ) (octets : List ℕ) (request : Request) (requests : List Request) → has_pair id octets request ≡ true → count_by (has_pair id octets) (without_pair request.tid request.duid.items requests) ≡ 0
none_left id octets request requests is =
    let same : (id ≡ request.tid) × (octets ≡ request.duid.items) = has_pair-same id octets request is in
    rw (same.0, same.1) (count_by-filter_none (has_pair request.tid request.duid.items) (λ other. not (has_pair request.tid request.duid.items other)) (λ other has. not_from_true (has_pair request.tid request.duid.items other) has) requests)

pub IsOnePerPair-with_request : (request : Request) (requests : List Request) → IsOnePerPair requests → IsOnePerPair (with_request request requests)
IsOnePerPair-with_request request requests one id octets =
    let left : List Request = without_pair request.tid request.duid.items requests in
    let all : count_by (has_pair id octets) (left ++ request ∷ []) ≡ count_by (has_pair id octets) left + cond (has_pair id octets request) 1 0 = count_by-push (has_pair id octets) left request in
    let before : count_by (has_pair id octets) left ≤ 1 = IsOnePerPair-without_pair request.tid request.duid.items requests one id octets in
    elim (cases_Bool (has_pair id octets request)) [
      | inl is ↦
          let none : count_by (has_pair id octets) left ≡ 0 = none_left id octets request requests is in
          let sum : count_by (has_pair id octets) (left ++ request ∷ []) ≡ count_by (has_pair id octets) left + 1 = all ∙ rw is refl in
          omega (arith, sum, none)
      | inr other ↦
          let sum : count_by (has_pair id octets) (left ++ request ∷ []) ≡ count_by (has_pair id octets) left + 0 = all ∙ rw other refl in
          omega (arith, sum, before)
    ]

pub IsWithinLimits-open_at : (t : ℕ) {requests : List Request} → IsWithinLimits requests → IsWithinLimits (open_at t requests)
IsWithinLimits-open_at t {requests} within = record {
  room = λ port. omega (arith, within.room port, count_by-filter-le (is_at port) (is_open t) requests);
  pairs = IsOnePerPair-open_at t requests within.pairs;
}

pub IsWithinLimits-without_pair : (tid : ℕ) (duid : List ℕ) {requests : List Request} → IsWithinLimits requests → IsWithinLimits (without_pair tid duid requests)
IsWithinLimits-without_pair tid duid {requests} within = record {
  room = λ port. omega (arith, within.room port, count_by-filter-le (is_at port) (λ request. not (has_pair tid duid request)) requests);
  pairs = IsOnePerPair-without_pair tid duid requests within.pairs;
}

-- a port that isn't full has room for a request, in place of the one that it renews or beside the others
pub has_room : (port tid : ℕ) (duid : List ℕ) (requests : List Request) → requests_at_port port requests ≤ 16 → is_full port tid duid requests ≡ false → requests_at_port port (without_pair tid duid requests) + 1 ≤ 16
has_room port tid duid requests most not_full =
    let fewer : requests_at_port port (without_pair tid duid requests) ≤ requests_at_port port requests = count_by-filter-le (is_at port) (λ request. not (has_pair tid duid request)) requests in
    let own : Bool = has_asked port tid duid requests in
    elim (and_cases (nat_le 16 (requests_at_port port requests)) (not own) not_full) [
      | inl below ↦
          let less : requests_at_port port requests < 16 = leb-false 16 (requests_at_port port requests) below in
          omega (arith, fewer, less)
      | inr renewed ↦
          let less : requests_at_port port (without_pair tid duid requests) + 1 ≤ requests_at_port port requests = count_by-filter_fewer (is_at port) (has_pair tid duid) requests (not-false own renewed) in
          omega (arith, less, most)
    ]

-- where a request isn't refused, its port isn't full
pub is_full-not_refused : (port tid : ℕ) (duid : List ℕ) (requests : List Request) → None ≡ refusal port tid duid requests → is_full port tid duid requests ≡ false
is_full-not_refused port tid duid requests not_refused =
    elim (cases_Bool (is_full port tid duid requests)) [
      | inl full ↦ let refused : None ≡ Some PendingFull = not_refused ∙ rw full refl in cc
      | inr room ↦ room
    ]

-- so a port has at most 16 requests when one was asked that isn't refused
count_at-with_request : (request : Request) (requests : List Request) → IsWithinLimits requests → is_full (number_of request.port) request.tid request.duid.items requests ≡ false → (port : ℕ) → requests_at_port port (with_request request requests) ≤ 16
count_at-with_request request requests within not_full port =
    let left : List Request = without_pair request.tid request.duid.items requests in
    let all : requests_at_port port (left ++ request ∷ []) ≡ requests_at_port port left + cond (is_at port request) 1 0 = count_by-push (is_at port) left request in
    let before : requests_at_port port left ≤ 16 = (IsWithinLimits-without_pair request.tid request.duid.items within).room port in
    elim (cases_Bool (is_at port request)) [
      | inl here ↦
          let same : number_of request.port ≡ port = eqb-true (number_of request.port) port here in
          let not_full_here : is_full port request.tid request.duid.items requests ≡ false = subst (λ n. is_full n request.tid request.duid.items requests ≡ false) same not_full in
          let more : requests_at_port port left + 1 ≤ 16 = has_room port request.tid request.duid.items requests (within.room port) not_full_here in
          let sum : requests_at_port port (left ++ request ∷ []) ≡ requests_at_port port left + 1 = all ∙ rw here refl in
          omega (arith, sum, more)
      | inr other ↦
          let sum : requests_at_port port (left ++ request ∷ []) ≡ requests_at_port port left + 0 = all ∙ rw other refl in
          omega (arith, sum, before)
    ]

pub IsWithinLimits-with_request : (request : Request) {requests : List Request} → IsWithinLimits requests → is_full (number_of request.port) request.tid request.duid.items requests ≡ false → IsWithinLimits (with_request request requests)
IsWithinLimits-with_request request {requests} within not_full = record {
  room = count_at-with_request request requests within not_full;
  pairs = IsOnePerPair-with_request request requests within.pairs;
}

-- 16 requests for each of 16 ports are 256
length-le : (requests : List Request) → IsWithinLimits requests → length requests ≤ 256
length-le requests within = length-by_port (λ request. request.port) 16 requests within.room

-- there is room for one more request where one was asked that isn't refused
pub length-without_pair-lt : (request : Request) (requests : List Request) → IsWithinLimits requests → is_full (number_of request.port) request.tid request.duid.items requests ≡ false → length (without_pair request.tid request.duid.items requests) < 256
length-without_pair-lt request requests within not_full =
    let left : List Request = without_pair request.tid request.duid.items requests in
    omega (arith, length-le (with_request request requests) (IsWithinLimits-with_request request within not_full), length-append left (request ∷ []))
