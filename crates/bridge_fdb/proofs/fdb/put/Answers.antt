use Rattle.std.proofs.Common.{◌≡◌, ◌<◌, ℕ, List, None, Some, find, length, ◌∙◌, ap, arith}
use Rattle.bridge_fdb.specs.declared.station.Station.{Station}
use Rattle.bridge_fdb.specs.Stations.{mac_number, is_of, live_at}
use Rattle.bridge_fdb.specs.Learning.{with_station}
use Rattle.bridge_fdb.specs.Kept.{in_slot, listed, without}
use Rattle.savi_kinds.proofs.Filters.{find-none}
use Rattle.bridge_fdb.proofs.Without.{none_left, live_without, with_without}
use Rattle.bridge_fdb.proofs.Slots.{slot_read}
use Rattle.bridge_fdb.proofs.fdb.put.Goals as goal

-- none is left with the station's MAC address
gone : (n : ℕ) (xs ys : List Station) → ys ≡ without n xs → find (is_of n) ys ≡ None
gone n xs ys is = rw is (find-none (is_of n) (without n xs) (none_left n xs))

-- what is live once a station was put in where it was given up before
put_in : (s : Station) (t : ℕ) (xs ys zs : List Station) → ys ≡ without (mac_number s.mac) xs → live_at t zs ≡ with_station s (live_at t ys) → live_at t zs ≡ with_station s (live_at t xs)
put_in s t xs ys zs left live = live ∙ ap (with_station s) (ap (live_at t) left ∙ live_without t (mac_number s.mac) xs) ∙ with_without s (live_at t xs)

pub exchange-requires-clause-unknown : goal.exchange-requires-clause-unknown
exchange-requires-clause-unknown c = gone (mac_number c.args.station.mac) (listed c.args.kept.now) (listed c.give_up.new.kept) c.give_up.ensures.listed

pub exchange-requires-clause-there : goal.exchange-requires-clause-there
exchange-requires-clause-there c =
    let inside : c.args.slot < length c.give_up.new.kept.stations.items = omega (arith, c.requires.free.place.1, c.args.station.port.high, c.give_up.ensures.kept.tied.size) in
    slot_read c.give_up.new.kept.stations.items c.args.slot c.index.result.now inside c.index.ensures ∙ c.in-Some.is

pub exchange-requires-clause-ended : goal.exchange-requires-clause-ended
exchange-requires-clause-ended c =
    let inside : c.args.slot < length c.give_up.new.kept.stations.items = omega (arith, c.requires.free.place.1, c.args.station.port.high, c.give_up.ensures.kept.tied.size) in
    let there : in_slot c.give_up.new.kept.stations.items c.args.slot ≡ Some c.in-Some.ended = slot_read c.give_up.new.kept.stations.items c.args.slot c.index.result.now inside c.index.ensures ∙ c.in-Some.is in
    c.requires.free.ended c.in-Some.ended (c.give_up.ensures.slots c.args.slot c.in-Some.ended there).0

pub add-requires-clause-unknown : goal.add-requires-clause-unknown
add-requires-clause-unknown c = gone (mac_number c.args.station.mac) (listed c.args.kept.now) (listed c.give_up.new.kept) c.give_up.ensures.listed

pub add-requires-clause-empty : goal.add-requires-clause-empty
add-requires-clause-empty c =
    let inside : c.args.slot < length c.give_up.new.kept.stations.items = omega (arith, c.requires.free.place.1, c.args.station.port.high, c.give_up.ensures.kept.tied.size) in
    slot_read c.give_up.new.kept.stations.items c.args.slot c.index.result.now inside c.index.ensures ∙ c.in-None.is

pub returns-in-Some-clause-live : goal.returns-in-Some-clause-live
returns-in-Some-clause-live c = put_in c.args.station c.args.station.last (listed c.args.kept.now) (listed c.give_up.new.kept) (listed c.exchange.new.kept) c.give_up.ensures.listed c.exchange.ensures.live

pub returns-in-None-clause-live : goal.returns-in-None-clause-live
returns-in-None-clause-live c = put_in c.args.station c.args.station.last (listed c.args.kept.now) (listed c.give_up.new.kept) (listed c.add.new.kept) c.give_up.ensures.listed c.add.ensures.live
