use Rattle.std.proofs.Common.{◌≡◌, true, false, sym, refl, ◌∙◌}
use Rattle.bridge_fdb.specs.Stations.{mac_number, is_live}
use Rattle.bridge_fdb.specs.Places.{StandsAt, BelongsAt}
use Rattle.bridge_fdb.specs.Kept.{listed}
use Rattle.bridge_fdb.proofs.Parts.{place_found, place_missing}
use Rattle.bridge_fdb.proofs.fdb.Fdb.place.Goals as goal

pub returns-then-is_live : goal.returns-then-is_live
returns-then-is_live c =
    let at : StandsAt (mac_number c.args.mac) (listed c.self.inside.kept) c.in-Ok.at = c.in-Ok.ensures in
    let live : is_live c.args.t c.at-station.result ≡ true = sym c.is_live.ensures ∙ c.if-is_live.true in
    rw (← c.self.view_is) (sym (place_found c.args.mac c.args.t (listed c.self.inside.kept) c.in-Ok.at c.at-station.result c.self.invariant.1.rising at c.at-station.ensures ∙ rw live refl))

pub returns-else-is_live : goal.returns-else-is_live
returns-else-is_live c =
    let at : StandsAt (mac_number c.args.mac) (listed c.self.inside.kept) c.in-Ok.at = c.in-Ok.ensures in
    let ended : is_live c.args.t c.at-station.result ≡ false = sym c.is_live.ensures ∙ c.if-is_live.false in
    rw (← c.self.view_is) (sym (place_found c.args.mac c.args.t (listed c.self.inside.kept) c.in-Ok.at c.at-station.result c.self.invariant.1.rising at c.at-station.ensures ∙ rw ended refl))

pub returns-in-Err : goal.returns-in-Err
returns-in-Err c =
    let at : BelongsAt (mac_number c.args.mac) (listed c.self.inside.kept) c.in-Err.field-0 = c.in-Err.ensures in
    rw (← c.self.view_is) (sym (place_missing c.args.mac c.args.t (listed c.self.inside.kept) c.in-Err.field-0 c.self.invariant.1.rising at))
