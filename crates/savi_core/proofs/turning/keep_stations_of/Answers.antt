use Rattle.std.proofs.Common.{List, drop, refl, arith}
use Rattle.bridge_fdb.specs.declared.station.Station.{Station}
use Rattle.bridge_fdb.specs.Stations.{live_at}
use Rattle.savi_core.proofs.Keeping.{station_kept, station_fits, stations_up, stations_kept}
use Rattle.savi_core.proofs.turning.keep_stations_of.Goals as goal

pub loop-station-init : goal.loop-station-init
loop-station-init c = record {
  kept = refl;
  within = omega arith;
}

pub put_station-requires : goal.put_station-requires
put_station-requires c =
    let left : List Station = live_at c.args.t (drop c.loop-station.from c.args.fdb.now) in
    let rest : List Station = live_at c.args.t (drop c.in-Some.behind c.args.fdb.now) in
    let all : List Station = live_at c.args.t c.args.fdb.now in
    record {
      room = station_fits c.args.vlan c.loop-station.into c.in-Some.station left rest all c.args.into.now c.in-Some.ensures.live c.loop-station.invariant.kept c.requires.room;
      order = stations_up c.args.vlan c.loop-station.into c.in-Some.station left rest all c.args.into.now c.in-Some.ensures.live c.loop-station.invariant.kept c.requires.order;
    }

pub loop-station-preserved : goal.loop-station-preserved
loop-station-preserved c =
    let left : List Station = live_at c.args.t (drop c.loop-station.from c.args.fdb.now) in
    let rest : List Station = live_at c.args.t (drop c.in-Some.behind c.args.fdb.now) in
    let all : List Station = live_at c.args.t c.args.fdb.now in
    record {
      kept = station_kept c.args.vlan c.loop-station.into c.in-Some.station left rest all c.args.into.now c.in-Some.ensures.live c.loop-station.invariant.kept c.put_station.new.self c.put_station.ensures;
      within = c.in-Some.ensures.behind.1;
    }

pub returns : goal.returns
returns c =
    stations_kept c.args.vlan c.loop-station.into c.args.into.now (live_at c.args.t (drop c.loop-station.from c.args.fdb.now)) (live_at c.args.t c.args.fdb.now) c.in_default.ensures.live c.loop-station.invariant.kept
