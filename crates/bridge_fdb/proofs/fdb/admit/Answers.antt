use Rattle.std.proofs.Common.{◌≤◌, ℕ, List, sym, ◌∙◌, subst, arith}
use Rattle.savi_kinds.specs.Ports.{number_of}
use Rattle.bridge_fdb.specs.declared.station.Station.{Station}
use Rattle.bridge_fdb.specs.Stations.{is_at, is_live, live_at, stations_at}
use Rattle.bridge_fdb.specs.Learning.{with_station}
use Rattle.bridge_fdb.specs.Kept.{listed}
use Rattle.savi_kinds.proofs.Filters.{count_by-filter-le}
use Rattle.bridge_fdb.proofs.Within.{learned-room, learned-full}
use Rattle.bridge_fdb.proofs.Counting.{fewer_before}
use Rattle.bridge_fdb.proofs.fdb.admit.Goals as goal

pub returns-in-Ok-clause-learned : goal.returns-in-Ok-clause-learned
returns-in-Ok-clause-learned c =
    let station : Station = c.args.station in
    let t : ℕ = station.last in
    let port : ℕ = number_of station.port in
    let before : List Station = live_at t (listed c.args.kept.now) in
    let fewer : stations_at port (live_at t (listed c.put.new.kept)) ≤ stations_at port (listed c.put.new.kept) = count_by-filter-le (is_at port) (is_live t) (listed c.put.new.kept) in
    let most : stations_at port (live_at t (listed c.put.new.kept)) ≤ 256 = omega (arith, fewer, c.put.ensures.limits.room port) in
    let room : stations_at port (with_station station before) ≤ 256 = subst (λ (xs : List Station). stations_at port xs ≤ 256) c.put.ensures.live most in
    c.put.ensures.live ∙ sym (learned-room station before (fewer_before station before c.requires.unknown room))

pub returns-in-Err-clause-learned : goal.returns-in-Err-clause-learned
returns-in-Err-clause-learned c =
    let found = c.in-Err.ensures in
    sym (learned-full c.args.station (live_at c.args.station.last (listed c.args.kept.now)) (found.1 c.args.station.last found.0) c.requires.unknown)
