use Rattle.std.proofs.Common.{◌<◌, ◌≡◌, List, None, length, refl, ap, ◌∙◌, arith}
use Rattle.savi_kinds.specs.Ports.{number_of}
use Rattle.dhcp_states.specs.declared.request.Request.{Request}
use Rattle.dhcp_states.specs.Requests.{request_of, open_at, refusal, without_pair, with_request}
use Rattle.dhcp_states.specs.Limits.{IsWithinLimits}
use Rattle.dhcp_states.proofs.Counts.{open_at-later, open_at-with_request, is_full-not_refused, IsWithinLimits-open_at, IsWithinLimits-with_request, length-without_pair-lt}
use Rattle.dhcp_states.proofs.pending.Pending.request.Goals as goal

pub invariant_of-self : goal.invariant_of-self
invariant_of-self c = rw c.keep_open.ensures.items (IsWithinLimits-open_at c.args.t c.self.invariant.0, omega (arith, c.self.invariant.1, c.keep_open.ensures.capacity))

pub returns-in-Some-clause-refused : goal.returns-in-Some-clause-refused
returns-in-Some-clause-refused c = rw (c.keep_open.ensures.items, ← c.self.view_is) (open_at-later c.args.t c.args.t c.self.inside.requests.items (omega arith))

pub returns-in-Some-clause-limits : goal.returns-in-Some-clause-limits
returns-in-Some-clause-limits c = rw c.keep_open.ensures.items (IsWithinLimits-open_at c.args.t c.self.invariant.0)

pub open_or_renew-requires-clause-room : goal.open_or_renew-requires-clause-room
open_or_renew-requires-clause-room c =
    let before : List Request = c.keep_open.new.requests.items in
    let within : IsWithinLimits before = rw c.keep_open.ensures.items (IsWithinLimits-open_at c.args.t c.self.invariant.0) in
    let not_refused : None ≡ refusal (number_of c.args.p) c.args.tid c.args.duid.now before = rw (← c.as_slice.ensures.value) c.in-None.ensures in
    let request : Request = request_of c.args.p c.args.tid c.args.duid.now c.args.t in
    let room : length (without_pair c.args.tid c.args.duid.now before) < 256 = length-without_pair-lt request before within (is_full-not_refused (number_of c.args.p) c.args.tid c.args.duid.now before not_refused) in
    omega (arith, room, c.self.invariant.1, c.keep_open.ensures.capacity)

-- the requests that are kept, and they are within the limits
kept : (c : goal.After-open_or_renew) → c.open_or_renew.new.requests.items ≡ with_request (request_of c.args.p c.args.tid c.args.duid.now c.args.t) (open_at c.args.t c.self.inside.requests.items)
kept c = c.open_or_renew.ensures.items ∙ ap (with_request (request_of c.args.p c.args.tid c.args.duid.now c.args.t)) c.keep_open.ensures.items

within : (c : goal.After-open_or_renew) → IsWithinLimits c.open_or_renew.new.requests.items
within c =
    let before : List Request = open_at c.args.t c.self.inside.requests.items in
    let not_refused : None ≡ refusal (number_of c.args.p) c.args.tid c.args.duid.now before = rw (← c.keep_open.ensures.items, ← c.as_slice.ensures.value) c.in-None.ensures in
    let request : Request = request_of c.args.p c.args.tid c.args.duid.now c.args.t in
    rw (kept c) (IsWithinLimits-with_request request (IsWithinLimits-open_at c.args.t c.self.invariant.0) (is_full-not_refused (number_of c.args.p) c.args.tid c.args.duid.now before not_refused))

pub invariant_of-self-in-None : goal.invariant_of-self-in-None
invariant_of-self-in-None c = (within c, omega (arith, c.self.invariant.1, c.open_or_renew.ensures.capacity, c.keep_open.ensures.capacity))

pub returns-in-None-clause-asked : goal.returns-in-None-clause-asked
returns-in-None-clause-asked c = rw (kept c, ← c.self.view_is) (open_at-with_request c.args.t (request_of c.args.p c.args.tid c.args.duid.now c.args.t) c.self.inside.requests.items refl)

pub returns-in-None-clause-limits : goal.returns-in-None-clause-limits
returns-in-None-clause-limits c = within c
