use Rattle.std.proofs.Common.{◌≡◌, ◌≤◌, ◌^◌, ◌∷◌, List, All, drop, subst}
use Rattle.std.proofs.lemmas.List.Elements.{All-filter, All-drop, All-head}
use Rattle.bridge_fdb.specs.declared.station.Station.{Station}
use Rattle.bridge_fdb.specs.Stations.{is_live, live_at}
use Rattle.bridge_fdb.specs.Kept.{listed}
use Rattle.bridge_fdb.proofs.fdb.Fdb.next_row.Goals as goal

pub end-requires : goal.end-requires
end-requires c =
    let all : List Station = listed c.self.inside.kept in
    let live : live_at c.args.t (drop c.args.from all) ≡ c.in-Some.station ∷ live_at c.args.t (drop c.in-Some.behind all) = c.in-Some.ensures.live in
    let in_time : All (λ (station : Station). station.last ≤ 2 ^ 62) (live_at c.args.t (drop c.args.from all)) =
    All-filter (is_live c.args.t) (λ (station : Station). station.last ≤ 2 ^ 62) (drop c.args.from all)
    (All-drop (λ (station : Station). station.last ≤ 2 ^ 62) c.args.from all c.self.invariant.1.in_time) in
    All-head (λ (station : Station). station.last ≤ 2 ^ 62) c.in-Some.station (live_at c.args.t (drop c.in-Some.behind all))
    (subst (λ (stations : List Station). All (λ (station : Station). station.last ≤ 2 ^ 62) stations) live in_time)
