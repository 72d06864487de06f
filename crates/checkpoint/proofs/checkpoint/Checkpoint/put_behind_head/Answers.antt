use Rattle.std.proofs.Common.{ℕ, ◌≡◌, ◌+◌, ◌*◌, ◌-◌, ◌<◌, ◌≤◌, List, length, get_or, refl, ap, subst, ◌∙◌, arith}
use Rattle.checkpoint.specs.Columns.{Columns}
use Rattle.checkpoint.specs.Kept.{IsKept}
use Rattle.checkpoint.proofs.Places.{read_there}
use Rattle.checkpoint.proofs.PartLines.{few_parts}
use Rattle.checkpoint.proofs.Placing.{as_many, length_in_order, place_inside, request_there}
use Rattle.checkpoint.proofs.Found.{part_found, request_found, station_found, ended_found, none_found}
use Rattle.checkpoint.proofs.checkpoint.Checkpoint.put_behind_head.Goals as goal

pub returns-then-i-len-clause-line : goal.returns-then-i-len-clause-line
returns-then-i-len-clause-line c =
    let parts = c.self.inside.parts.items in
    let places = c.self.inside.places.items in
    let kept = subst (λ (h : Columns). IsKept h.rows parts h.requests places h.stations) c.self.view_is c.self.invariant.0 in
    let one = c.index.result.now in
    part_found c.args.plan.now c.args.self.now parts places kept c.requires.plan c.args.i one c.put.new.into.items
    (read_there parts parts c.args.i c.args.i one refl refl (omega (arith, c.self.inside.parts.ok.0)) c.index.ensures) c.put.ensures

pub index-one-requires : goal.index-one-requires
index-one-requires c =
    let parts = c.self.inside.parts.items in
    let places = c.self.inside.places.items in
    let requests = c.self.inside.requests.items in
    let k : ℕ = c.args.i - c.len-2.result in
    let place_is : c.from.result ≡ get_or places k 0 = c.from.ensures ∙ ap (λ (l : List ℕ). get_or l k 0) c.deref.ensures.0 in
    let inside : get_or places k 0 < length requests = place_inside requests places k c.self.invariant.0.ordered (omega (arith, c.len-3.ensures.value)) in
    omega (arith, place_is, inside, c.self.inside.requests.ok.0)

pub returns-then-i-len-2-clause-line : goal.returns-then-i-len-2-clause-line
returns-then-i-len-2-clause-line c =
    let parts = c.self.inside.parts.items in
    let places = c.self.inside.places.items in
    let kept = subst (λ (h : Columns). IsKept h.rows parts h.requests places h.stations) c.self.view_is c.self.invariant.0 in
    let one = c.index-one.result.now in
    let k : ℕ = c.args.i - c.len-2.result in
    let place_is : c.from.result ≡ get_or places k 0 = c.from.ensures ∙ ap (λ (l : List ℕ). get_or l k 0) c.deref.ensures.0 in
    let at : k ≡ c.args.i - length parts = omega (arith, c.len-2.ensures, c.self.inside.parts.ok.0) in
    request_found c.args.plan.now c.args.self.now parts places kept c.requires.plan c.args.i one c.put_request.new.into.items
    (omega (arith, c.len.ensures, c.self.inside.parts.ok.0))
    (request_there c.self.inside.requests.items c.args.self.now.requests places k (c.args.i - length parts) c.from.result one c.self.invariant.0.ordered
    (ap (λ (h : Columns). h.requests) c.self.view_is) at (omega (arith, c.len-3.ensures.value)) place_is c.index-one.ensures)
    c.put_request.ensures

pub returns-then-i-len-3-clause-line : goal.returns-then-i-len-3-clause-line
returns-then-i-len-3-clause-line c =
    let parts = c.self.inside.parts.items in
    let places = c.self.inside.places.items in
    let stations = c.self.inside.stations.items in
    let kept = subst (λ (h : Columns). IsKept h.rows parts h.requests places h.stations) c.self.view_is c.self.invariant.0 in
    let one = c.index-one-then-i-len-3.result.now in
    let k : ℕ = c.args.i - c.len-2.result - c.len-4.result in
    let past : length parts ≤ c.args.i = omega (arith, c.len.ensures, c.self.inside.parts.ok.0) in
    let second : length places ≤ c.args.i - length parts = omega (arith, c.len-2.ensures, c.len-3.ensures.value, c.self.inside.parts.ok.0) in
    let at : k ≡ c.args.i - length parts - length places = omega (arith, c.len-2.ensures, c.len-4.ensures.value, c.self.inside.parts.ok.0) in
    station_found c.args.plan.now c.args.self.now parts places kept c.requires.plan c.args.i one c.put_station.new.into.items past second
    (read_there stations c.args.self.now.stations k (c.args.i - length parts - length places) one (ap (λ (h : Columns). h.stations) c.self.view_is) at
    (omega (arith, c.len-5.ensures, c.self.inside.stations.ok.0)) c.index-one-then-i-len-3.ensures)
    c.put_station.ensures

pub returns-then-i-len-4-clause-line : goal.returns-then-i-len-4-clause-line
returns-then-i-len-4-clause-line c =
    let parts = c.self.inside.parts.items in
    let places = c.self.inside.places.items in
    let kept = subst (λ (h : Columns). IsKept h.rows parts h.requests places h.stations) c.self.view_is c.self.invariant.0 in
    let ended_is = ap (λ (h : Columns). h.ended) c.self.view_is in
    let stations_are : length c.self.inside.stations.items ≡ length c.args.self.now.stations = ap (λ (h : Columns). length h.stations) c.self.view_is in
    let one = c.index-one-then-i-len-4.result.now in
    let k : ℕ = c.args.i - c.len-2.result - c.len-4.result - c.len-6.result in
    let past : length parts ≤ c.args.i = omega (arith, c.len.ensures, c.self.inside.parts.ok.0) in
    let second : length places ≤ c.args.i - length parts = omega (arith, c.len-2.ensures, c.len-3.ensures.value, c.self.inside.parts.ok.0) in
    let third : length c.args.self.now.stations ≤ c.args.i - length parts - length places =
    omega (arith, c.len-2.ensures, c.len-4.ensures.value, c.len-5.ensures, c.self.inside.parts.ok.0, c.self.inside.stations.ok.0, stations_are) in
    let at : k ≡ c.args.i - length parts - length places - length c.args.self.now.stations =
    omega (arith, c.len-2.ensures, c.len-4.ensures.value, c.len-6.ensures, c.self.inside.parts.ok.0, c.self.inside.stations.ok.0, stations_are) in
    ended_found c.args.plan.now c.args.self.now parts places kept c.requires.plan c.args.i one c.put_ended.new.into.items past second third
    (read_there c.self.inside.ended.items c.args.self.now.ended k (c.args.i - length parts - length places - length c.args.self.now.stations) one ended_is at
    (omega (arith, c.len-7.ensures, c.self.inside.ended.ok.0)) c.index-one-then-i-len-4.ensures)
    c.put_ended.ensures

pub returns-clause-past : goal.returns-clause-past
returns-clause-past c none =
    let parts = c.self.inside.parts.items in
    let places = c.self.inside.places.items in
    let kept = subst (λ (h : Columns). IsKept h.rows parts h.requests places h.stations) c.self.view_is c.self.invariant.0 in
    let stations_are : length c.self.inside.stations.items ≡ length c.args.self.now.stations = ap (λ (h : Columns). length h.stations) c.self.view_is in
    let ended_are : length c.self.inside.ended.items ≡ length c.args.self.now.ended = ap (λ (h : Columns). length h.ended) c.self.view_is in
    let past : length parts ≤ c.args.i = omega (arith, c.len.ensures, c.self.inside.parts.ok.0) in
    let second : length places ≤ c.args.i - length parts = omega (arith, c.len-2.ensures, c.len-3.ensures.value, c.self.inside.parts.ok.0) in
    let third : length c.args.self.now.stations ≤ c.args.i - length parts - length places =
    omega (arith, c.len-2.ensures, c.len-4.ensures.value, c.len-5.ensures, c.self.inside.parts.ok.0, c.self.inside.stations.ok.0, stations_are) in
    let fourth : length c.args.self.now.ended ≤ c.args.i - length parts - length places - length c.args.self.now.stations =
    omega (arith, c.len-2.ensures, c.len-4.ensures.value, c.len-6.ensures, c.len-7.ensures, c.self.inside.parts.ok.0, c.self.inside.stations.ok.0, c.self.inside.ended.ok.0, stations_are, ended_are) in
    none_found c.args.plan.now c.args.self.now parts places kept c.requires.plan c.args.i past second third fourth

-- how many lines there are at most, by the lengths of the columns
few_lines : (i rows parts requests places stations ended row_room station_room : ℕ) → parts ≤ 3 * rows → rows ≤ row_room → places ≡ requests → requests ≤ 256 → stations ≤ station_room → ended ≤ 34
    → i < parts + (places + (stations + ended)) → i < 290 + 3 * row_room + station_room
few_lines i rows parts requests places stations ended row_room station_room a b c d e f below = omega (arith, a, b, c, d, e, f, below)

pub returns-then-i-len-clause-few : goal.returns-then-i-len-clause-few
returns-then-i-len-clause-few c = λ yes. few_lines c.args.i (length c.self.inside.rows.items) (length c.self.inside.parts.items) (length c.self.inside.requests.items) (length c.self.inside.places.items) (length c.self.inside.stations.items) (length c.self.inside.ended.items)
    c.args.self.now.row_room c.args.self.now.station_room
    (omega (arith, few_parts c.self.inside.rows.items, ap length c.self.invariant.0.parts_is))
    (omega (arith, c.self.invariant.2.few_rows, ap (λ (h : Columns). h.row_room) c.self.view_is))
    (as_many c.self.inside.requests.items c.self.inside.places.items c.self.invariant.0.ordered ∙ length_in_order c.self.inside.requests.items)
    c.self.invariant.2.few_requests
    (omega (arith, c.self.invariant.2.few_stations, ap (λ (h : Columns). h.station_room) c.self.view_is))
    c.self.invariant.2.few_ended
    (omega (arith, c.if-i-len.true, c.len.ensures, c.self.inside.parts.ok.0))

pub returns-then-i-len-2-clause-few : goal.returns-then-i-len-2-clause-few
returns-then-i-len-2-clause-few c = λ yes. few_lines c.args.i (length c.self.inside.rows.items) (length c.self.inside.parts.items) (length c.self.inside.requests.items) (length c.self.inside.places.items) (length c.self.inside.stations.items) (length c.self.inside.ended.items)
    c.args.self.now.row_room c.args.self.now.station_room
    (omega (arith, few_parts c.self.inside.rows.items, ap length c.self.invariant.0.parts_is))
    (omega (arith, c.self.invariant.2.few_rows, ap (λ (h : Columns). h.row_room) c.self.view_is))
    (as_many c.self.inside.requests.items c.self.inside.places.items c.self.invariant.0.ordered ∙ length_in_order c.self.inside.requests.items)
    c.self.invariant.2.few_requests
    (omega (arith, c.self.invariant.2.few_stations, ap (λ (h : Columns). h.station_room) c.self.view_is))
    c.self.invariant.2.few_ended
    (omega (arith, c.if-i-len-2.true, c.len.ensures, c.len-2.ensures, c.len-3.ensures.value, c.self.inside.parts.ok.0))

pub returns-then-i-len-3-clause-few : goal.returns-then-i-len-3-clause-few
returns-then-i-len-3-clause-few c = λ yes. few_lines c.args.i (length c.self.inside.rows.items) (length c.self.inside.parts.items) (length c.self.inside.requests.items) (length c.self.inside.places.items) (length c.self.inside.stations.items) (length c.self.inside.ended.items)
    c.args.self.now.row_room c.args.self.now.station_room
    (omega (arith, few_parts c.self.inside.rows.items, ap length c.self.invariant.0.parts_is))
    (omega (arith, c.self.invariant.2.few_rows, ap (λ (h : Columns). h.row_room) c.self.view_is))
    (as_many c.self.inside.requests.items c.self.inside.places.items c.self.invariant.0.ordered ∙ length_in_order c.self.inside.requests.items)
    c.self.invariant.2.few_requests
    (omega (arith, c.self.invariant.2.few_stations, ap (λ (h : Columns). h.station_room) c.self.view_is))
    c.self.invariant.2.few_ended
    (omega (arith, c.if-i-len-3.true, c.len.ensures, c.len-2.ensures, c.len-3.ensures.value, c.len-4.ensures.value, c.len-5.ensures, c.self.inside.parts.ok.0, c.self.inside.stations.ok.0))

pub returns-then-i-len-4-clause-few : goal.returns-then-i-len-4-clause-few
returns-then-i-len-4-clause-few c = λ yes.
    few_lines c.args.i (length c.self.inside.rows.items) (length c.self.inside.parts.items) (length c.self.inside.requests.items) (length c.self.inside.places.items) (length c.self.inside.stations.items) (length c.self.inside.ended.items)
    c.args.self.now.row_room c.args.self.now.station_room
    (omega (arith, few_parts c.self.inside.rows.items, ap length c.self.invariant.0.parts_is))
    (omega (arith, c.self.invariant.2.few_rows, ap (λ (h : Columns). h.row_room) c.self.view_is))
    (as_many c.self.inside.requests.items c.self.inside.places.items c.self.invariant.0.ordered ∙ length_in_order c.self.inside.requests.items)
    c.self.invariant.2.few_requests
    (omega (arith, c.self.invariant.2.few_stations, ap (λ (h : Columns). h.station_room) c.self.view_is))
    c.self.invariant.2.few_ended
    (omega (arith, c.if-i-len-4.true, c.len.ensures, c.len-2.ensures, c.len-3.ensures.value, c.len-4.ensures.value, c.len-5.ensures, c.len-6.ensures, c.len-7.ensures, c.self.inside.parts.ok.0, c.self.inside.stations.ok.0, c.self.inside.ended.ok.0))
