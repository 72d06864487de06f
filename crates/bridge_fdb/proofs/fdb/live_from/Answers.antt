use Rattle.std.proofs.Common.{◌≡◌, true, false, ap, ◌∙◌, arith}
use Rattle.std.proofs.lemmas.List.{drop_all}
use Rattle.bridge_fdb.specs.Stations.{is_live, live_at}
use Rattle.bridge_fdb.specs.Kept.{listed}
use Rattle.bridge_fdb.proofs.Parts.{live_here, ended_here}
use Rattle.bridge_fdb.proofs.fdb.live_from.Goals as goal

pub loop-at-preserved : goal.loop-at-preserved
loop-at-preserved c =
    let ended : is_live c.args.t c.at-station.result ≡ false = cc (c.is_live.ensures, c.if-is_live.false) in
    record {
      ahead = omega (arith, c.loop-at.invariant.ahead);
      ended = c.loop-at.invariant.ended ∙ ended_here c.args.t (listed c.args.kept.now) c.loop-at.at c.at-station.result (omega (arith, c.loop-at-test.true, c.len-at-end.ensures)) c.at-station.ensures ended;
    }

pub returns-then-is_live-clause-live : goal.returns-then-is_live-clause-live
returns-then-is_live-clause-live c =
    let live : is_live c.args.t c.at-station.result ≡ true = cc (c.is_live.ensures, c.if-is_live.true) in
    c.loop-at.invariant.ended ∙ live_here c.args.t (listed c.args.kept.now) c.loop-at.at c.at-station.result (omega (arith, c.loop-at-test.true, c.len-at-end.ensures)) c.at-station.ensures live

pub returns-clause-live : goal.returns-clause-live
returns-clause-live c =
    c.loop-at.invariant.ended ∙ ap (live_at c.args.t) (drop_all c.loop-at.at (listed c.args.kept.now) (omega (arith, c.loop-at-test.false, c.len-at-end.ensures)))
