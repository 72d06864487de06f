-- The port of the request with a pair.
use Rattle.std.proofs.Common.{ℕ, ◌≡◌, ◌==◌, true, false, not, List, [], ◌∷◌, find, Option, Some, None, inl, inr, refl, sym, ◌∙◌, ap}
use Rattle.std.specs.Option.{option_map, option_or}
use Rattle.std.specs.Str.{bytes_eq}
use Rattle.std.specs.Cmp.Lexicographic.{bytes_decides}
use Rattle.std.proofs.lemmas.Bool.{cases_Bool, both_ways, and_from, eq-eqb, not_from_true, not_from_false}
use Rattle.std.proofs.lemmas.List.Folds.{find-append}
use Rattle.savi_kinds.specs.declared.port.Port.{Port}
use Rattle.dhcp_states.specs.declared.request.Request.{Request}
use Rattle.dhcp_states.specs.Requests.{request_of, has_pair, without_pair, with_request, asker}
use Rattle.savi_kinds.proofs.Filters.{find-filter_none, find-filter_same}
use Rattle.dhcp_states.proofs.Counts.{has_pair-same}

-- a request has the pair with which it was asked
has_pair-own : (id : ℕ) (octets : List ℕ) (request : Request) → request.tid ≡ id → request.duid.items ≡ octets → has_pair id octets request ≡ true
has_pair-own id octets request same_id same_octets =
    let id_is : (request.tid == id) ≡ true = eq-eqb request.tid id same_id in
    let octets_are : bytes_eq request.duid.items octets ≡ true = (bytes_decides request.duid.items octets).1 same_octets in
    and_from (request.tid == id) (bytes_eq request.duid.items octets) id_is octets_are

option_or-None : (found : Option Request) → option_or found None ≡ found
option_or-None None = refl
option_or-None (Some request) = refl

-- what is found among requests, once one was asked
find-with_request : (tid : ℕ) (duid : List ℕ) (request : Request) (requests : List Request) → find (has_pair tid duid) (with_request request requests) ≡ option_or (find (has_pair tid duid) (without_pair request.tid request.duid.items requests)) (find (has_pair tid duid) (request ∷ []))
find-with_request tid duid request requests = find-append (has_pair tid duid) (without_pair request.tid request.duid.items requests) (request ∷ [])

find-without_pair : (tid : ℕ) (duid : List ℕ) (requests : List Request) → find (has_pair tid duid) (without_pair tid duid requests) ≡ None
find-without_pair tid duid requests = find-filter_none (has_pair tid duid) (λ request. not (has_pair tid duid request)) (λ request has. not_from_true (has_pair tid duid request) has) requests

-- a request with another pair stays
stays : (tid : ℕ) (duid : List ℕ) (request : Request) → has_pair tid duid request ≡ false → (kept : Request) → has_pair tid duid kept ≡ true → not (has_pair request.tid request.duid.items kept) ≡ true
stays tid duid request other kept has =
    elim (cases_Bool (has_pair request.tid request.duid.items kept)) [
      | inl same ↦
          let first : (tid ≡ kept.tid) × (duid ≡ kept.duid.items) = has_pair-same tid duid kept has in
          let second : (request.tid ≡ kept.tid) × (request.duid.items ≡ kept.duid.items) = has_pair-same request.tid request.duid.items kept same in
          absurd (both_ways (has_pair tid duid request) other (has_pair-own tid duid request (second.0 ∙ sym first.0) (second.1 ∙ sym first.1)))
      | inr apart ↦ not_from_false (has_pair request.tid request.duid.items kept) apart
    ]

abbrev port_of : Option Request → Option Port
port_of found = option_map (λ request. request.port) found

pub asker-without_pair : (tid : ℕ) (duid : List ℕ) (requests : List Request) → asker tid duid (without_pair tid duid requests) ≡ None
asker-without_pair tid duid requests = ap port_of (find-without_pair tid duid requests)

pub asker-with_own : (port : Port) (tid : ℕ) (duid : List ℕ) (t : ℕ) (requests : List Request) → asker tid duid (with_request (request_of port tid duid t) requests) ≡ Some port
asker-with_own port tid duid t requests =
    let request : Request = request_of port tid duid t in
    let last : find (has_pair tid duid) (request ∷ []) ≡ Some request = rw (has_pair-own tid duid request refl refl) refl in
    let found : find (has_pair tid duid) (with_request request requests) ≡ Some request = find-with_request tid duid request requests ∙ rw (find-without_pair tid duid requests) last in
    ap port_of found

pub asker-with_other : (request : Request) (tid : ℕ) (duid : List ℕ) (requests : List Request) → has_pair tid duid request ≡ false → asker tid duid (with_request request requests) ≡ asker tid duid requests
asker-with_other request tid duid requests other =
    let left : List Request = without_pair request.tid request.duid.items requests in
    let last : find (has_pair tid duid) (request ∷ []) ≡ None = rw other refl in
    let kept : find (has_pair tid duid) left ≡ find (has_pair tid duid) requests = find-filter_same (has_pair tid duid) (λ one. not (has_pair request.tid request.duid.items one)) (stays tid duid request other) requests in
    let found : find (has_pair tid duid) (with_request request requests) ≡ find (has_pair tid duid) requests = find-with_request tid duid request requests ∙ ap (λ one. option_or (find (has_pair tid duid) left) one) last ∙ option_or-None (find (has_pair tid duid) left) ∙ kept in
    ap port_of found
