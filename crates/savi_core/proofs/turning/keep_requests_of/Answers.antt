use Rattle.std.proofs.Common.{◌≡◌, ℕ, ◌<◌, ◌≤◌, List, [], ◌∷◌, length, get_or, sym, ap, subst, ◌∙◌, arith}
use Rattle.std.proofs.lemmas.List.{append-nil, take_all}
use Rattle.dhcp_states.specs.declared.request.Request.{Request}
use Rattle.dhcp_states.specs.Requests.{open_at}
use Rattle.checkpoint.specs.Columns.{IsUpTo}
use Rattle.savi_core.specs.Turns.{with_requests}
use Rattle.savi_core.proofs.Keeping.{each_of, request_kept, request_passed, request_fits, requests_up}
use Rattle.savi_core.proofs.turning.keep_requests_of.Goals.{then-is_open, else-is_open}
use Rattle.savi_core.proofs.turning.keep_requests_of.Goals as goal

pub loop-request-init : goal.loop-request-init
loop-request-init c = ap (λ (requests : List (ℕ × Request)). record c.args.into.now { requests = requests }) (sym (append-nil c.args.into.now.requests))

pub put_request-requires : goal.put_request-requires
put_request-requires c =
    let vlan : ℕ = c.args.access.now.vlan in
    let requests : List Request = c.args.access.now.requests in
    let i : ℕ = c.loop-request.request-index in
    let request : Request = c.request-item.result in
    let within : i < length requests = omega (arith, c.loop-request-test.true, ap length c.requests-request-items.ensures) in
    let is : request ≡ get_or requests i request = c.request-item.is ∙ ap (λ (l : List Request). get_or l i request) c.requests-request-items.ensures in
    record {
      room = request_fits c.args.t vlan requests i request c.loop-request.into c.args.into.now within is c.loop-request.invariant (sym c.is_open.ensures ∙ c.if-is_open.true) c.requires.few;
      order =
          subst (λ (v : ℕ). IsUpTo v c.loop-request.into.requests) (sym c.vlan.ensures)
          (requests_up c.args.t vlan requests i request c.loop-request.into c.args.into.now within is c.loop-request.invariant c.requires.order);
    }

pub loop-request-preserved : goal.loop-request-preserved
loop-request-preserved c =
    let vlan : ℕ = c.args.access.now.vlan in
    let requests : List Request = c.args.access.now.requests in
    let i : ℕ = c.loop-request.request-index in
    let request : Request = c.request-item.result in
    let within : i < length requests = omega (arith, c.loop-request-test.true, ap length c.requests-request-items.ensures) in
    let is : request ≡ get_or requests i request = c.request-item.is ∙ ap (λ (l : List Request). get_or l i request) c.requests-request-items.ensures in
    elim c.if-is_open.branch [
      | then-is_open w ↦
          w.into-is
          ∙ request_kept c.args.t vlan requests i request c.loop-request.into c.args.into.now within is c.loop-request.invariant w.put_request.new.self (sym c.is_open.ensures ∙ w.if-is_open.true)
          (w.put_request.ensures ∙ ap (λ (v : ℕ). with_requests ((v, request) ∷ []) c.loop-request.into) w.vlan.ensures)
      | else-is_open w ↦
          w.into-is ∙ request_passed c.args.t vlan requests i request c.loop-request.into c.args.into.now within is c.loop-request.invariant (sym c.is_open.ensures ∙ w.if-is_open.false)
    ]

pub returns : goal.returns
returns c =
    let requests : List Request = c.args.access.now.requests in
    let all : length requests ≤ c.loop-request.request-index = omega (arith, c.loop-request-test.false, ap length c.requests-request-items.ensures) in
    c.loop-request.invariant ∙ ap (λ (l : List Request). with_requests (each_of c.args.access.now.vlan (open_at c.args.t l)) c.args.into.now) (take_all c.loop-request.request-index requests all)
