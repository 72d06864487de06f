use Rattle.std.proofs.Common.{List, ℕ, ◌++◌, map, ap, sym, ◌∙◌, arith}
use Rattle.savi_kinds.specs.declared.address.Mac.{Mac}
use Rattle.savi_kinds.specs.declared.port.Port.{Port}
use Rattle.bridge_fdb.specs.Stations.{live_at, rows_from}
use Rattle.hist_store.specs.TextOfLines.{lines_text}
use Rattle.control_replies.specs.Shows.{station_fields}
use Rattle.savi_history.specs.Shown.{station_row}
use Rattle.savi_core.proofs.Shown.{few_stations, next_station, no_station, own_rows, row_in_time}
use Rattle.savi_core.proofs.shows.put_stations.Goals as goal

pub put_station-requires-clause-room : goal.put_station-requires-clause-room
put_station-requires-clause-room c =
    omega (arith, c.loop-next.invariant.size, c.in-Some.ensures.behind, few_stations c.args.fdb.now c.next_row.ensures.limits, c.requires.room)

pub put_station-requires-clause-moment : goal.put_station-requires-clause-moment
put_station-requires-clause-moment c =
    row_in_time c.args.t c.loop-next.from c.args.fdb.now c.in-Some.next.row (rows_from c.args.t c.in-Some.next.behind c.args.fdb.now) c.next_row.ensures.limits c.in-Some.ensures.rows

pub loop-next-preserved : goal.loop-next-preserved
loop-next-preserved c =
    let row = station_row c.args.vlan c.in-Some.next.row in
    let rest = map (station_row c.args.vlan) (rows_from c.args.t c.in-Some.next.behind c.args.fdb.now) in
    let left = map (station_row c.args.vlan) (rows_from c.args.t c.loop-next.from c.args.fdb.now) in
    let all : List ℕ = c.args.into.now ++ lines_text (map station_fields (map (station_row c.args.vlan) (rows_from c.args.t 0 c.args.fdb.now))) in
    record {
      text = next_station row rest left c.loop-next.into c.put_station.new.self all (ap (map (station_row c.args.vlan)) c.in-Some.ensures.rows) c.put_station.ensures.text c.loop-next.invariant.text;
      within = c.in-Some.ensures.behind.1;
      size = omega (arith, c.loop-next.invariant.size, c.put_station.ensures.size, c.in-Some.ensures.behind);
    }

pub returns-clause-text : goal.returns-clause-text
returns-clause-text c =
    let left = map (station_row c.args.vlan) (rows_from c.args.t c.loop-next.from c.args.fdb.now) in
    let all : List ℕ = c.args.into.now ++ lines_text (map station_fields (map (station_row c.args.vlan) (rows_from c.args.t 0 c.args.fdb.now))) in
    no_station left c.loop-next.into all (ap (map (station_row c.args.vlan)) c.in_default.ensures.rows) c.loop-next.invariant.text
    ∙ ap (λ (rows : List (ℕ × Mac × Port × ℕ)). c.args.into.now ++ lines_text (map station_fields rows)) (sym (own_rows c.args.vlan (live_at c.args.t c.args.fdb.now)))

pub returns-clause-size : goal.returns-clause-size
returns-clause-size c =
    omega (arith, c.loop-next.invariant.size, c.loop-next.invariant.within, few_stations c.args.fdb.now c.next_row.ensures.limits)
