use Rattle.std.proofs.Common.{ℕ, ◌≡◌, ◌<◌, false, length, get_or, sym, ap, ◌∙◌, arith, below_more}
use Rattle.std.specs.List.{insert}
use Rattle.std.specs.Ordering.{is_lt}
use Rattle.dhcp_states.specs.declared.request.Request.{Request}
use Rattle.checkpoint.specs.Orders.{requests_in_order, request_order}
use Rattle.checkpoint.proofs.Placing.{comes_before, placed_here, placed_last, as_many, read_at, place_within}
use Rattle.checkpoint.proofs.request_order.place_among.Goals as goal

pub bounds-requests-from : goal.bounds-requests-from
bounds-requests-from c =
    let inside : get_or c.args.places.now c.loop-at.at 0 < length c.args.requests.now = place_within c.args.requests.now c.args.places.now c.loop-at.at c.args.request.now c.requires.ordered c.loop-at-test.true in
    omega (arith, inside, c.from.ensures)

pub returns-then-is_lt-clause-value : goal.returns-then-is_lt-clause-value
returns-then-is_lt-clause-value c =
    let request = c.args.request.now in
    let other : ℕ × Request = c.index-requests-from.result in
    let read : other ≡ get_or (requests_in_order c.args.requests.now) c.loop-at.at request =
    read_at c.args.requests.now c.args.places.now c.loop-at.at c.from.result other request c.requires.ordered c.loop-at-test.true c.from.ensures c.index-requests-from.is in
    placed_here request (requests_in_order c.args.requests.now) c.loop-at.at
    (omega (arith, as_many c.args.requests.now c.args.places.now c.requires.ordered, c.loop-at-test.true)) c.loop-at.invariant
    (ap (λ (o : ℕ × Request). is_lt (request_order request o)) (sym read) ∙ ap is_lt (sym c.order.ensures) ∙ sym c.is_lt.ensures ∙ c.if-is_lt.true)

pub loop-at-preserved : goal.loop-at-preserved
loop-at-preserved c =
    let request = c.args.request.now in
    let other : ℕ × Request = c.index-requests-from.result in
    let read : other ≡ get_or (requests_in_order c.args.requests.now) c.loop-at.at request =
    read_at c.args.requests.now c.args.places.now c.loop-at.at c.from.result other request c.requires.ordered c.loop-at-test.true c.from.ensures c.index-requests-from.is in
    below_more (λ (k : ℕ). comes_before request (requests_in_order c.args.requests.now) k ≡ false) c.loop-at.at c.loop-at.invariant
    (ap (λ (o : ℕ × Request). is_lt (request_order request o)) (sym read) ∙ ap is_lt (sym c.order.ensures) ∙ sym c.is_lt.ensures ∙ c.if-is_lt.false)

pub returns-clause-value : goal.returns-clause-value
returns-clause-value c =
    let request = c.args.request.now in
    let many : length c.args.places.now ≡ length (requests_in_order c.args.requests.now) = as_many c.args.requests.now c.args.places.now c.requires.ordered in
    placed_last request (requests_in_order c.args.requests.now) (λ (k : ℕ) (below : k < length (requests_in_order c.args.requests.now)). c.loop-at.invariant k (omega (arith, many, below, c.loop-at-test.false)))
    ∙ ap (λ (n : ℕ). insert (requests_in_order c.args.requests.now) n request) (sym many)
