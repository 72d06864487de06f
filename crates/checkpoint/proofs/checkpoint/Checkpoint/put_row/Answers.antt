use Rattle.std.proofs.Common.{ℕ, [], ◌∷◌, length, sym, ap, subst, arith}
use Rattle.std.proofs.lemmas.List.{length-append}
use Rattle.savi_access.specs.declared.row.Row.{Row}
use Rattle.checkpoint.specs.Columns.{Columns, IsUpTo}
use Rattle.checkpoint.proofs.PartLines.{few_parts}
use Rattle.checkpoint.proofs.Keeping.{kept_row}
use Rattle.checkpoint.proofs.checkpoint.Checkpoint.put_row.Goals as goal

pub put_parts-requires : goal.put_parts-requires
put_parts-requires c =
    omega (
      arith,
      c.requires.room,
      ap (λ (h : Columns). length h.rows) c.self.view_is,
      ap (λ (h : Columns). h.row_room) c.self.view_is,
      few_parts c.self.inside.rows.items,
      ap length c.self.invariant.0.parts_is,
      c.self.invariant.1.for_parts,
    )

pub invariant_of-self : goal.invariant_of-self
invariant_of-self c =
    let row : ℕ × Row = (c.args.vlan, c.args.row) in
    let up : IsUpTo c.args.vlan c.self.inside.rows.items = subst (λ (h : Columns). IsUpTo c.args.vlan h.rows) (sym c.self.view_is) c.requires.order in (
      kept_row c.self.inside.rows.items c.self.inside.parts.items c.self.inside.requests.items c.self.inside.places.items c.self.inside.stations.items c.self.invariant.0
          row c.put_behind.new.column.items c.put_parts.new.parts.items up c.put_behind.ensures.items c.put_parts.ensures.items,
      record {
        for_rows = omega (arith, c.self.invariant.1.for_rows, c.put_behind.ensures.capacity);
        for_parts = omega (arith, c.self.invariant.1.for_parts, c.put_parts.ensures.capacity);
        for_requests = c.self.invariant.1.for_requests;
        for_stations = c.self.invariant.1.for_stations;
        for_ended = c.self.invariant.1.for_ended;
      },
      record {
        few_rows = omega (
          arith,
          c.requires.room,
          ap (λ (h : Columns). length h.rows) c.self.view_is,
          ap (λ (h : Columns). h.row_room) c.self.view_is,
          ap length c.put_behind.ensures.items,
          length-append c.self.inside.rows.items (row ∷ []),
        );
        few_requests = c.self.invariant.2.few_requests;
        few_stations = c.self.invariant.2.few_stations;
        few_ended = c.self.invariant.2.few_ended;
      },
    )
