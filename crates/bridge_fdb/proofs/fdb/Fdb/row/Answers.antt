use Rattle.std.proofs.Common.{◌≡◌, ◌≤◌, ◌^◌, List, Some, All, sym, subst}
use Rattle.std.specs.List.{slice_get}
use Rattle.std.proofs.lemmas.Option.{slice_get_within, get_or_from_slice_get}
use Rattle.std.proofs.lemmas.List.Elements.{All-filter}
use Rattle.bridge_fdb.specs.declared.station.Station.{Station}
use Rattle.bridge_fdb.specs.Stations.{is_live, live_at}
use Rattle.bridge_fdb.specs.Kept.{listed}
use Rattle.bridge_fdb.proofs.fdb.Fdb.row.Goals as goal

pub end-requires : goal.end-requires
end-requires c =
    let live : List Station = live_at c.args.t (listed c.self.inside.kept) in
    let told : Some c.in-Some.station ≡ slice_get live c.args.i = c.in-Some.ensures in
    let in_time : All (λ (station : Station). station.last ≤ 2 ^ 62) live = All-filter (is_live c.args.t) (λ (station : Station). station.last ≤ 2 ^ 62) (listed c.self.inside.kept) c.self.invariant.1.in_time in
    subst (λ (station : Station). station.last ≤ 2 ^ 62) (get_or_from_slice_get live c.args.i c.in-Some.station c.in-Some.station (sym told))
    (in_time c.args.i c.in-Some.station (slice_get_within live c.args.i c.in-Some.station (sym told)))
