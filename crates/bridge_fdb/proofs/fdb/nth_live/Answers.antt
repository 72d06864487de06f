use Rattle.std.proofs.Common.{◌≡◌, count_by, filter, take, true, sym, ap, arith}
use Rattle.std.proofs.lemmas.List.{take_all}
use Rattle.std.proofs.lemmas.List.Sums.{length-filter}
use Rattle.std.proofs.lemmas.Option.{slice_get_past}
use Rattle.bridge_fdb.specs.Stations.{is_live}
use Rattle.bridge_fdb.specs.Kept.{listed}
use Rattle.bridge_fdb.proofs.Parts.{nth_passing}
use Rattle.bridge_fdb.proofs.fdb.nth_live.Goals as goal

pub returns-then-left-eq0 : goal.returns-then-left-eq0
returns-then-left-eq0 c =
    let live : is_live c.args.t c.at-station.result ≡ true = cc (c.is_live.ensures, c.if-is_live.true) in
    let count : count_by (is_live c.args.t) (take c.loop-at.at (listed c.args.kept.now)) ≡ c.args.i = omega (arith, c.loop-at.invariant, c.if-left-eq0.true) in
    sym (nth_passing (is_live c.args.t) (listed c.args.kept.now) c.loop-at.at c.args.i c.at-station.result (omega (arith, c.loop-at-test.true, c.len-at-end.ensures)) c.at-station.ensures live count)

pub returns : goal.returns
returns c =
    let all : take c.loop-at.at (listed c.args.kept.now) ≡ (listed c.args.kept.now) = take_all c.loop-at.at (listed c.args.kept.now) (omega (arith, c.loop-at-test.false, c.len-at-end.ensures)) in
    let count : count_by (is_live c.args.t) (take c.loop-at.at (listed c.args.kept.now)) ≡ count_by (is_live c.args.t) (listed c.args.kept.now) = ap (count_by (is_live c.args.t)) all in
    sym (slice_get_past (filter (is_live c.args.t) (listed c.args.kept.now)) c.args.i (omega (arith, length-filter (is_live c.args.t) (listed c.args.kept.now), count, c.loop-at.invariant)))
