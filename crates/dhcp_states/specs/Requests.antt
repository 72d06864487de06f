-- The requests of DHCPv6 clients, the one that was asked last at the end, and which of them are open (RFC 7513 section 6).
use Rattle.std.specs.Prelude.{ℕ, ◌+◌, ◌==◌, nat_lt, nat_le, Bool, not, ◌&&◌, if◌then◌else◌, Option, Some, None, List, [], ◌∷◌, ◌++◌, filter, count_by, find}
use Rattle.std.specs.List.{list_any}
use Rattle.std.specs.Option.{option_map}
use Rattle.std.specs.Str.{bytes_eq}
use Rattle.savi_kinds.specs.Ports.{number_of}
use Rattle.savi_kinds.specs.declared.port.Port.{Port}
use Rattle.savi_kinds.specs.declared.verdict.Rule.{Rule}
use Rattle.savi_kinds.specs.declared.verdict.Rule.TheVariants.{PendingFull, DhcpContested}
use Rattle.dhcp_states.specs.declared.request.Request.{Request}

-- the request that was asked at a port, with a transaction id and a DUID, and was opened or renewed at moment t
abbrev pub request_of : Port → ℕ → List ℕ → ℕ → Request
request_of port tid duid t = record { port = port; tid = tid; duid = record { items = duid }; opened = t }

-- a request is open for 120 s, MAX_DHCP_RESPONSE_TIME (RFC 7513 section 10): when these have passed it is no longer
abbrev pub is_open : ℕ → Request → Bool
is_open t request = nat_lt t (request.opened + 120000)

-- the requests that are open at moment t
abbrev pub open_at : ℕ → List Request → List Request
open_at t requests = filter (is_open t) requests

-- whether a request was asked at the port of this number
abbrev pub is_at : ℕ → Request → Bool
is_at port request = number_of request.port == port

-- whether it has this transaction id, and this DUID, octet by octet (RFC 8415 sections 11 and 16.1)
abbrev pub has_pair : ℕ → List ℕ → Request → Bool
has_pair tid duid request = request.tid == tid && bytes_eq request.duid.items duid

-- how many requests were asked at a port
abbrev pub requests_at_port : ℕ → List Request → ℕ
requests_at_port port requests = count_by (is_at port) requests

-- whether a port has asked with this pair
abbrev pub has_asked : ℕ → ℕ → List ℕ → List Request → Bool
has_asked port tid duid requests = list_any (λ request. is_at port request && has_pair tid duid request) requests

-- whether a port has at least 16 of the open requests and none of them has this pair
abbrev pub is_full : ℕ → ℕ → List ℕ → List Request → Bool
is_full port tid duid requests = nat_le 16 (requests_at_port port requests) && not (has_asked port tid duid requests)

-- whether another port has an open request with this pair
abbrev pub is_contested : ℕ → ℕ → List ℕ → List Request → Bool
is_contested port tid duid requests = list_any (λ request. not (is_at port request) && has_pair tid duid request) requests

-- the rule that refuses a request at a port where these requests are open, or none
abbrev pub refusal : ℕ → ℕ → List ℕ → List Request → Option Rule
refusal port tid duid requests = if is_full port tid duid requests then Some PendingFull else if is_contested port tid duid requests then Some DhcpContested else None

-- the requests but for those with this pair
abbrev pub without_pair : ℕ → List ℕ → List Request → List Request
without_pair tid duid requests = filter (λ request. not (has_pair tid duid request)) requests

-- the requests once this one was asked: it stands for the one with its pair, which it renews
abbrev pub with_request : Request → List Request → List Request
with_request request requests = without_pair request.tid request.duid.items requests ++ request ∷ []

-- the port of the request with this pair
abbrev pub asker : ℕ → List ℕ → List Request → Option Port
asker tid duid requests = option_map (λ request. request.port) (find (has_pair tid duid) requests)
