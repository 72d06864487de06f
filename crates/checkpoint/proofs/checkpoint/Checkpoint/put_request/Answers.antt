use Rattle.std.proofs.Common.{ℕ, ◌≡◌, ◌<◌, ◌≤◌, List, [], ◌∷◌, length, sym, ap, subst, arith}
use Rattle.std.proofs.lemmas.List.{length-append}
use Rattle.std.specs.List.{insert}
use Rattle.dhcp_states.specs.declared.request.Request.{Request}
use Rattle.checkpoint.specs.Columns.{Columns, IsUpTo}
use Rattle.checkpoint.specs.Orders.{requests_in_order, request_placed}
use Rattle.checkpoint.proofs.Keeping.{kept_request}
use Rattle.checkpoint.proofs.Placing.{as_many, length_in_order}
use Rattle.checkpoint.proofs.checkpoint.Checkpoint.put_request.Goals as goal

pub insert-requires : goal.insert-requires
insert-requires c =
    let requests = c.self.inside.requests.items in
    let places = c.self.inside.places.items in
    let many : length places ≡ length (requests_in_order requests) = as_many requests places c.self.invariant.0.ordered in
    let bound : c.place_among-at.result ≤ length places = omega (arith, c.place_among-at.ensures.bound, ap length c.as_slice-2.ensures.value) in
    let few : length places < 256 = omega (arith, many, length_in_order requests, c.requires.room, ap (λ (h : Columns). length h.requests) c.self.view_is) in
    (omega arith, (bound, few))

pub invariant_of-self : goal.invariant_of-self
invariant_of-self c =
    let one : ℕ × Request = (c.args.vlan, c.copy_of.result) in
    let up : IsUpTo c.args.vlan c.self.inside.requests.items = subst (λ (h : Columns). IsUpTo c.args.vlan h.requests) (sym c.self.view_is) c.requires.order in
    let at : request_placed one (requests_in_order c.self.inside.requests.items) ≡ insert (requests_in_order c.self.inside.requests.items) c.place_among-at.result one =
    subst (λ (l : List (ℕ × Request)). request_placed one (requests_in_order l) ≡ insert (requests_in_order l) c.place_among-at.result one) c.as_slice.ensures.value c.place_among-at.ensures.value in (
      kept_request c.self.inside.rows.items c.self.inside.parts.items c.self.inside.requests.items c.self.inside.places.items c.self.inside.stations.items c.self.invariant.0
          one c.place_among-at.result _ c.put_behind.new.column.items c.insert.new.self.items up at c.put_behind.ensures.items c.insert.ensures.items
          (omega (arith, c.len-place.ensures, c.requires.room, ap (λ (h : Columns). length h.requests) c.self.view_is)),
      record {
        for_rows = c.self.invariant.1.for_rows;
        for_parts = c.self.invariant.1.for_parts;
        for_requests = omega (arith, c.self.invariant.1.for_requests, c.put_behind.ensures.capacity);
        for_stations = c.self.invariant.1.for_stations;
        for_ended = c.self.invariant.1.for_ended;
      },
      record {
        few_rows = c.self.invariant.2.few_rows;
        few_requests = omega (
          arith,
          c.requires.room,
          ap (λ (h : Columns). length h.requests) c.self.view_is,
          ap length c.put_behind.ensures.items,
          length-append c.self.inside.requests.items (one ∷ []),
        );
        few_stations = c.self.invariant.2.few_stations;
        few_ended = c.self.invariant.2.few_ended;
      },
    )
