use Rattle.std.proofs.Common.{◌≡◌, ◌≤◌, ◌+◌, ℕ, List, true, subst, arith}
use Rattle.std.proofs.lemmas.Bool.{lt-ltb}
use Rattle.bridge_fdb.specs.declared.station.Station.{Station}
use Rattle.bridge_fdb.specs.Stations.{mac_number, is_of, is_live, stations_at}
use Rattle.bridge_fdb.specs.Learning.{with_station}
use Rattle.bridge_fdb.specs.Kept.{listed}
use Rattle.bridge_fdb.proofs.Parts.{live_with}
use Rattle.bridge_fdb.proofs.Within.{IsWithinLimits-with}
use Rattle.bridge_fdb.proofs.Without.{none_found}
use Rattle.bridge_fdb.proofs.Counting.{room_of}
use Rattle.bridge_fdb.proofs.Fullness.{Tells-with}
use Rattle.bridge_fdb.proofs.fdb.add.Goals as goal

pub returns-clause-live : goal.returns-clause-live
returns-clause-live c =
    let t : ℕ = c.args.station.last in
    let live : is_live t c.args.station ≡ true = lt-ltb t (t + 300000) (omega arith) in
    rw c.insert.ensures.listed (live_with t c.args.station (listed c.args.kept.now) live)

pub returns-clause-limits : goal.returns-clause-limits
returns-clause-limits c =
    let room : (port : ℕ) → stations_at port (with_station c.args.station (listed c.args.kept.now)) ≤ 256 =
    λ port. subst (λ (xs : List Station). stations_at port xs ≤ 256) c.insert.ensures.listed (room_of c.insert.new.self.stations.items c.insert.new.self.slots.items c.insert.new.self.numbers.items (listed c.insert.new.self) c.insert.ensures.kept.tied port) in
    rw c.insert.ensures.listed (IsWithinLimits-with c.args.station (listed c.args.kept.now) c.requires.limits c.requires.moment room)

pub returns-clause-full : goal.returns-clause-full
returns-clause-full c = rw c.insert.ensures.listed (Tells-with c.args.full.now c.args.station (listed c.args.kept.now) c.requires.full (none_found (is_of (mac_number c.args.station.mac)) (listed c.args.kept.now) c.requires.unknown))
