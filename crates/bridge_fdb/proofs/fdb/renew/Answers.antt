use Rattle.std.proofs.Common.{◌≡◌, ◌≤◌, true, sym, refl, ◌∙◌, arith, filter}
use Rattle.std.proofs.lemmas.Bool.{and_parts, eqb-true}
use Rattle.savi_kinds.specs.Ports.{number_of}
use Rattle.bridge_fdb.specs.Stations.{mac_number, is_at, is_live, is_of, stations_at}
use Rattle.bridge_fdb.specs.Places.{StandsAt, BelongsAt}
use Rattle.bridge_fdb.specs.Kept.{listed}
use Rattle.bridge_fdb.proofs.Parts.{known_found, known_missing, of_count}
use Rattle.bridge_fdb.proofs.Within.{IsWithinLimits-with, room-with}
use Rattle.bridge_fdb.proofs.Fullness.{Tells-renewed}
use Rattle.bridge_fdb.proofs.fdb.renew.Goals as goal

pub returns-then-is_renewed_by-clause-known : goal.returns-then-is_renewed_by-clause-known
returns-then-is_renewed_by-clause-known c =
    let at : StandsAt (mac_number c.args.station.mac) (listed c.args.kept.now) c.in-Ok.at = c.in-Ok.ensures in
    sym (known_found c.args.station (listed c.args.kept.now) c.in-Ok.at c.at-old.result c.requires.limits.rising at c.at-old.ensures ∙ sym c.is_renewed_by.ensures ∙ c.if-is_renewed_by.true)

pub returns-then-is_renewed_by-clause-limits : goal.returns-then-is_renewed_by-clause-limits
returns-then-is_renewed_by-clause-limits c =
    let at : StandsAt (mac_number c.args.station.mac) (listed c.args.kept.now) c.in-Ok.at = c.in-Ok.ensures in
    let both : (is_at (number_of c.args.station.port) c.at-old.result ≡ true) × (is_live c.args.station.last c.at-old.result ≡ true) = and_parts (is_at (number_of c.args.station.port) c.at-old.result) (is_live c.args.station.last c.at-old.result) (sym c.is_renewed_by.ensures ∙ c.if-is_renewed_by.true) in
    let one : stations_at (number_of c.args.station.port) (filter (is_of (mac_number c.args.station.mac)) (listed c.args.kept.now)) ≡ 1 = of_count (is_at (number_of c.args.station.port)) (mac_number c.args.station.mac) (listed c.args.kept.now) c.in-Ok.at c.at-old.result c.requires.limits.rising at c.at-old.ensures ∙ rw both.0 refl in
    let most : stations_at (number_of c.args.station.port) (listed c.args.kept.now) ≤ 256 = c.requires.limits.room (number_of c.args.station.port) in
    rw c.renew.ensures.listed (IsWithinLimits-with c.args.station (listed c.args.kept.now) c.requires.limits c.requires.moment (room-with c.args.station (listed c.args.kept.now) c.requires.limits (omega (arith, one, most))))

pub returns-then-is_renewed_by-clause-full : goal.returns-then-is_renewed_by-clause-full
returns-then-is_renewed_by-clause-full c =
    let at : StandsAt (mac_number c.args.station.mac) (listed c.args.kept.now) c.in-Ok.at = c.in-Ok.ensures in
    let both : (is_at (number_of c.args.station.port) c.at-old.result ≡ true) × (is_live c.args.station.last c.at-old.result ≡ true) = and_parts (is_at (number_of c.args.station.port) c.at-old.result) (is_live c.args.station.last c.at-old.result) (sym c.is_renewed_by.ensures ∙ c.if-is_renewed_by.true) in
    rw c.renew.ensures.listed (Tells-renewed c.args.full.now c.see.new.self c.args.station (listed c.args.kept.now) c.in-Ok.at c.at-old.result c.requires.full c.requires.limits.rising at c.at-old.ensures (eqb-true (number_of c.at-old.result.port) (number_of c.args.station.port) both.0) c.see.ensures.lower c.see.ensures.own)

pub returns-else-is_renewed_by-clause-known : goal.returns-else-is_renewed_by-clause-known
returns-else-is_renewed_by-clause-known c =
    let at : StandsAt (mac_number c.args.station.mac) (listed c.args.kept.now) c.in-Ok.at = c.in-Ok.ensures in
    sym (known_found c.args.station (listed c.args.kept.now) c.in-Ok.at c.at-old.result c.requires.limits.rising at c.at-old.ensures ∙ sym c.is_renewed_by.ensures ∙ c.if-is_renewed_by.false)

pub returns-in-Err-clause-known : goal.returns-in-Err-clause-known
returns-in-Err-clause-known c =
    let at : BelongsAt (mac_number c.args.station.mac) (listed c.args.kept.now) c.in-Err.field-0 = c.in-Err.ensures in
    sym (known_missing c.args.station (listed c.args.kept.now) c.in-Err.field-0 c.requires.limits.rising at)
