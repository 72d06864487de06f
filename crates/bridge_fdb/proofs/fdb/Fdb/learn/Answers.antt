use Rattle.std.proofs.Common.{◌≡◌, ◌+◌, List, true, sym, ◌∙◌, arith}
use Rattle.std.proofs.lemmas.Bool.{lt-ltb}
use Rattle.bridge_fdb.specs.declared.station.Station.{Station}
use Rattle.bridge_fdb.specs.Stations.{station_of, is_live, live_at}
use Rattle.bridge_fdb.specs.Kept.{listed}
use Rattle.bridge_fdb.proofs.Parts.{live_with}
use Rattle.bridge_fdb.proofs.Within.{learned-known}
use Rattle.bridge_fdb.proofs.fdb.Fdb.learn.Goals as goal

pub returns-else-not-renew-clause-learned : goal.returns-else-not-renew-clause-learned
returns-else-not-renew-clause-learned c =
    let station : Station = station_of c.args.mac c.args.p c.args.t in
    let before : List Station = (listed c.self.inside.kept) in
    let live : is_live c.args.t station ≡ true = lt-ltb c.args.t (c.args.t + 300000) (omega arith) in
    rw (← c.self.view_is, c.if-not-renew.ensures.renewed)
    (live_with c.args.t station before live ∙ sym (learned-known station (live_at c.args.t before) (sym c.if-not-renew.ensures.known)))
