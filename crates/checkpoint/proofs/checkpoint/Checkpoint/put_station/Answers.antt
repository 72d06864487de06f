use Rattle.std.proofs.Common.{ℕ, [], ◌∷◌, length, sym, ap, subst, arith}
use Rattle.std.proofs.lemmas.List.{length-append}
use Rattle.bridge_fdb.specs.declared.station.Station.{Station}
use Rattle.checkpoint.specs.Columns.{Columns, IsUpTo}
use Rattle.checkpoint.proofs.Keeping.{kept_station}
use Rattle.checkpoint.proofs.checkpoint.Checkpoint.put_station.Goals as goal

pub invariant_of-self : goal.invariant_of-self
invariant_of-self c =
    let station : ℕ × Station = (c.args.vlan, c.args.station) in
    let up : IsUpTo c.args.vlan c.self.inside.stations.items = subst (λ (h : Columns). IsUpTo c.args.vlan h.stations) (sym c.self.view_is) c.requires.order in (
      kept_station c.self.inside.rows.items c.self.inside.parts.items c.self.inside.requests.items c.self.inside.places.items c.self.inside.stations.items c.self.invariant.0
          station c.put_behind.new.column.items up c.put_behind.ensures.items,
      record {
        for_rows = c.self.invariant.1.for_rows;
        for_parts = c.self.invariant.1.for_parts;
        for_requests = c.self.invariant.1.for_requests;
        for_stations = omega (arith, c.self.invariant.1.for_stations, c.put_behind.ensures.capacity);
        for_ended = c.self.invariant.1.for_ended;
      },
      record {
        few_rows = c.self.invariant.2.few_rows;
        few_requests = c.self.invariant.2.few_requests;
        few_stations = omega (
          arith,
          c.requires.room,
          ap (λ (h : Columns). length h.stations) c.self.view_is,
          ap (λ (h : Columns). h.station_room) c.self.view_is,
          ap length c.put_behind.ensures.items,
          length-append c.self.inside.stations.items (station ∷ []),
        );
        few_ended = c.self.invariant.2.few_ended;
      },
    )
