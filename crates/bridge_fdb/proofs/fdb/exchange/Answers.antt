use Rattle.std.proofs.Common.{◌≡◌, ◌≤◌, ◌+◌, ℕ, List, true, false, not, ◌&&◌, All, get_or, count_by, refl, sym, ◌∙◌, ap, subst, arith}
use Rattle.std.proofs.lemmas.Bool.{eq-eqb, eqb-true, false≢true, lt-ltb}
use Rattle.savi_kinds.specs.Ports.{number_of}
use Rattle.bridge_fdb.specs.declared.station.Station.{Station}
use Rattle.bridge_fdb.specs.Stations.{mac_number, is_of, is_at, is_live, stations_at}
use Rattle.bridge_fdb.specs.Learning.{with_station}
use Rattle.bridge_fdb.specs.Places.{StandsAt, BelongsAt}
use Rattle.bridge_fdb.specs.Kept.{IsOwn, listed, without}
use Rattle.bridge_fdb.proofs.Parts.{live_with, stands_number}
use Rattle.bridge_fdb.proofs.Within.{IsWithinLimits-with}
use Rattle.bridge_fdb.proofs.Without.{none_found, remove_stands, All-without, IsWithinLimits-without}
use Rattle.bridge_fdb.proofs.Slots.{get_or_within}
use Rattle.bridge_fdb.proofs.Counting.{room_of, no_slot, slot_counted, ended_one, slot_stands}
use Rattle.bridge_fdb.proofs.Fullness.{Tells-with, Tells-without}
use Rattle.bridge_fdb.proofs.fdb.exchange.Goals as goal

pub unreachable-requires : goal.unreachable-requires
unreachable-requires c =
    let number : ℕ = mac_number c.args.ended.mac in
    let at : BelongsAt number (listed c.args.kept.now) c.in_default.field-0 = c.in_default.ensures in
    let other : is_of number c.args.ended ≡ false = no_slot c.args.kept.now.stations.items c.args.kept.now.slots.items c.args.kept.now.numbers.items (listed c.args.kept.now) (is_of number) c.requires.kept.tied (none_found (is_of number) (listed c.args.kept.now) at.none) c.args.slot c.args.ended c.requires.there in
    false≢true (sym other ∙ eq-eqb number number refl)

pub unreachable-requires-in_default-search : goal.unreachable-requires-in_default-search
unreachable-requires-in_default-search c =
    let number : ℕ = mac_number c.args.station.mac in
    let at : StandsAt number (listed c.args.kept.now) c.in_default-search.field-0 = c.in_default-search.ensures in
    let none : All (λ x. is_of number x ≡ false) (listed c.args.kept.now) = none_found (is_of number) (listed c.args.kept.now) c.requires.unknown in
    false≢true (sym (none c.in_default-search.field-0 c.args.station at.bound) ∙ eq-eqb _ number (stands_number number (listed c.args.kept.now) c.in_default-search.field-0 c.args.station at))

pub exchange-requires-clause-port : goal.exchange-requires-clause-port
exchange-requires-clause-port c =
    let port : ℕ = number_of c.args.station.port in
    let at : StandsAt (mac_number c.args.ended.mac) (listed c.args.kept.now) c.in-Ok.gone = c.in-Ok.ensures in
    let own : IsOwn c.args.slot c.args.ended = c.requires.kept.tied.own c.args.slot c.args.ended c.requires.there in
    let same : number_of c.args.ended.port ≡ port = omega (arith, own.place.0, own.place.1, c.requires.place.0, c.requires.place.1, c.args.ended.port.low, c.args.station.port.low) in
    let here : is_at port c.args.ended ≡ true = eq-eqb (number_of c.args.ended.port) port same in
    eqb-true _ port (slot_stands c.args.kept.now.stations.items c.args.kept.now.slots.items c.args.kept.now.numbers.items (listed c.args.kept.now) (is_at port) c.args.slot c.in-Ok.gone c.args.ended c.args.station c.requires.kept.tied c.requires.limits.rising at c.requires.there here)

left : (c : goal.After-set) → listed c.exchange.new.self ≡ with_station c.args.station (without (mac_number c.args.ended.mac) (listed c.args.kept.now))
left c =
    let at : StandsAt (mac_number c.args.ended.mac) (listed c.args.kept.now) c.in-Ok.gone = c.in-Ok.ensures in
    c.exchange.ensures.listed ∙ ap (with_station c.args.station) (remove_stands (mac_number c.args.ended.mac) (listed c.args.kept.now) c.in-Ok.gone at)

pub returns-clause-live : goal.returns-clause-live
returns-clause-live c =
    let t : ℕ = c.args.station.last in
    let number : ℕ = mac_number c.args.ended.mac in
    let live : is_live t c.args.station ≡ true = lt-ltb t (t + 300000) (omega arith) in
    let kind : (is_of number c.args.ended && not (is_live t c.args.ended)) ≡ true = simp (eq-eqb number number refl, c.requires.ended) refl in
    let some : 1 ≤ count_by (λ x. is_of number x && not (is_live t x)) (listed c.args.kept.now) = slot_counted c.args.kept.now.stations.items c.args.kept.now.slots.items c.args.kept.now.numbers.items (listed c.args.kept.now) (λ x. is_of number x && not (is_live t x)) c.args.slot c.args.ended c.requires.kept.tied c.requires.there kind in
    rw (left c)
    (live_with t c.args.station (without number (listed c.args.kept.now)) live ∙ ap (with_station c.args.station) (ended_one t number (listed c.args.kept.now) c.requires.limits.rising some))

pub returns-clause-limits : goal.returns-clause-limits
returns-clause-limits c =
    let others : List Station = without (mac_number c.args.ended.mac) (listed c.args.kept.now) in
    let room : (port : ℕ) → stations_at port (with_station c.args.station others) ≤ 256 =
    λ port. subst (λ (xs : List Station). stations_at port xs ≤ 256) (left c) (room_of c.exchange.new.self.stations.items c.exchange.new.self.slots.items c.exchange.new.self.numbers.items (listed c.exchange.new.self) c.exchange.ensures.kept.tied port) in
    rw (left c) (IsWithinLimits-with c.args.station others (IsWithinLimits-without (mac_number c.args.ended.mac) (listed c.args.kept.now) c.requires.limits) c.requires.moment room)

pub returns-clause-full : goal.returns-clause-full
returns-clause-full c =
    let number : ℕ = mac_number c.args.ended.mac in
    let xs : List Station = listed c.args.kept.now in
    let at : StandsAt number xs c.in-Ok.gone = c.in-Ok.ensures in
    let x : Station = get_or xs c.in-Ok.gone c.args.station in
    let own : IsOwn c.args.slot c.args.ended = c.requires.kept.tied.own c.args.slot c.args.ended c.requires.there in
    let same : number_of c.args.ended.port ≡ number_of c.args.station.port = omega (arith, own.place.0, own.place.1, c.requires.place.0, c.requires.place.1, c.args.ended.port.low, c.args.station.port.low) in
    let here : is_at (number_of c.args.station.port) c.args.ended ≡ true = eq-eqb (number_of c.args.ended.port) (number_of c.args.station.port) same in
    let port : number_of x.port ≡ number_of c.args.station.port = eqb-true (number_of x.port) (number_of c.args.station.port) (slot_stands c.args.kept.now.stations.items c.args.kept.now.slots.items c.args.kept.now.numbers.items xs (is_at (number_of c.args.station.port)) c.args.slot c.in-Ok.gone c.args.ended c.args.station c.requires.kept.tied c.requires.limits.rising at c.requires.there here) in
    let tells = Tells-without c.args.full.now c.set.new.self number xs c.in-Ok.gone x c.requires.full c.requires.limits.rising at (get_or_within xs c.in-Ok.gone c.args.station x at.bound) (λ k below. rw port (c.set.ensures k below)) in
    rw (left c) (Tells-with c.set.new.self c.args.station (without number xs) tells (All-without (λ y. is_of (mac_number c.args.station.mac) y ≡ false) number xs (none_found (is_of (mac_number c.args.station.mac)) xs c.requires.unknown)))
