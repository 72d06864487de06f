-- A request that moves from one port to another.
use Rattle.std.proofs.Common.{ℕ, ◌≡◌, ◌+◌, ◌≤◌, nat_lt, nat_le, Bool, true, false, not, ◌&&◌, cond, List, [], ◌∷◌, ◌++◌, filter, count_by, Some, None, Result, Ok, Err, refl, ◌∙◌, ap, arith}
use Rattle.std.specs.Result.{is_ok, result_err}
use Rattle.std.proofs.lemmas.Bool.{and_parts, not_from_true, lt-leb}
use Rattle.std.proofs.lemmas.List.Elements.{filter_passes}
use Rattle.savi_kinds.specs.declared.verdict.Rule.{Rule}
use Rattle.savi_kinds.specs.declared.verdict.Rule.TheVariants.{PendingFull, DhcpContested}
use Rattle.savi_kinds.proofs.Filters.{filter-all, count_by-filter_none}
use Rattle.dhcp_states.specs.declared.request.Request.{Request}
use Rattle.dhcp_states.specs.Requests.{is_at, has_pair, requests_at_port, has_asked, is_full, is_contested, refusal, without_pair, with_request}
use Rattle.dhcp_states.specs.Limits.{IsWithinLimits}
use Rattle.dhcp_states.proofs.Counts.{has_room}
use Rattle.v4_snoop.proofs.Counting.{any_counted}

-- a request whose port isn't full isn't refused there once it is gone elsewhere
pub moves : (port tid : ℕ) (duid : List ℕ) (requests : List Request) → IsWithinLimits requests → is_full port tid duid requests ≡ false → refusal port tid duid (without_pair tid duid requests) ≡ None
moves port tid duid requests within has_place =
    let left : List Request = without_pair tid duid requests in
    let room : requests_at_port port left + 1 ≤ 16 = has_room port tid duid requests (within.room port) has_place in
    let few : nat_le 16 (requests_at_port port left) ≡ false = lt-leb 16 (requests_at_port port left) (omega (arith, room)) in
    let not_full : is_full port tid duid left ≡ false = ap (λ b. b && not (has_asked port tid duid left)) few in
    let none : count_by (λ request. not (is_at port request) && has_pair tid duid request) left ≡ 0 =
    count_by-filter_none (λ request. not (is_at port request) && has_pair tid duid request) (λ request. not (has_pair tid duid request)) (λ request is. not_from_true (has_pair tid duid request) (and_parts (not (is_at port request)) (has_pair tid duid request) is).1) requests in
    let free : is_contested port tid duid left ≡ false = any_counted (λ request. not (is_at port request) && has_pair tid duid request) left ∙ ap (λ n. nat_lt 0 n) none in
    ap (λ b. cond b (Some PendingFull) (cond (is_contested port tid duid left) (Some DhcpContested) None)) not_full
    ∙ ap (λ b. cond b (Some DhcpContested) None) free

-- so it is opened there
pub opened : {T : Type 0} (r : Result T Rule) (port tid : ℕ) (duid : List ℕ) (left requests : List Request) → IsWithinLimits requests → is_full port tid duid requests ≡ false → result_err r ≡ refusal port tid duid left → left ≡ without_pair tid duid requests → is_ok r ≡ true
opened r port tid duid left requests within has_place refused gone = taken r (refused ∙ ap (refusal port tid duid) gone ∙ moves port tid duid requests within has_place)
  where
    taken : {T : Type 0} (r : Result T Rule) → result_err r ≡ None → is_ok r ≡ true
    taken (Ok x) none = refl
    taken (Err e) none = cc

-- and stands where it would have been put in place of the one that is gone
pub moved : (request : Request) (requests : List Request) → with_request request (without_pair request.tid request.duid.items requests) ≡ with_request request requests
moved request requests =
    let kept : Request → Bool = λ one. not (has_pair request.tid request.duid.items one) in
    let again : filter kept (filter kept requests) ≡ filter kept requests = filter-all kept (filter kept requests) (filter_passes kept requests) in
    ap (λ left. left ++ request ∷ []) again
