use Rattle.std.proofs.Common.{◌≡◌, ◌<◌, ℕ, List, ◌∷◌, ◌++◌, Option, None, Some, refl, length, take, drop, ◌∙◌, arith}
use Rattle.bridge_fdb.specs.declared.station.Station.{Station}
use Rattle.bridge_fdb.specs.Kept.{IsTied, IsOwn, in_slot, listed}
use Rattle.std.proofs.Math.ListN.{set}
use Rattle.bridge_fdb.specs.Stations.{mac_number}
use Rattle.bridge_fdb.proofs.Numbers.{sorted_length}
use Rattle.bridge_fdb.proofs.Parts.{insert_belongs}
use Rattle.bridge_fdb.proofs.Within.{length-le}
use Rattle.bridge_fdb.proofs.Counting.{room_of}
use Rattle.bridge_fdb.proofs.Slots.{slots_length, IsTied-insert, listed_is}
use Rattle.bridge_fdb.proofs.kept.Kept.insert.Goals as goal

-- an empty slot leaves room for one more station
room : (stations : List (Option Station)) (slots numbers : List ℕ) (xs : List Station) (i slot : ℕ) (s : Station) → IsTied stations slots numbers xs → in_slot stations slot ≡ None → IsOwn slot s → length xs < 4096
room stations slots numbers xs i slot s tied empty own =
    let below : slot < 4096 = omega (arith, own.place.1, s.port.high) in
    let more : IsTied (set stations slot (Some s)) (slot ∷ slots) (mac_number s.mac ∷ numbers) (s ∷ xs) = IsTied-insert stations slots numbers xs 0 slot (mac_number s.mac) s tied empty below own refl in
    omega (arith, length-le (s ∷ xs) (room_of (set stations slot (Some s)) (slot ∷ slots) (mac_number s.mac ∷ numbers) (s ∷ xs) more))

pub insert_within-requires-clause-room : goal.insert_within-requires-clause-room
insert_within-requires-clause-room c =
    let fewer : length (listed c.args.self.now) < 4096 = room c.args.self.now.stations.items c.args.self.now.slots.items c.args.self.now.numbers.items (listed c.args.self.now) c.args.at c.args.slot c.args.station c.requires.kept.tied c.requires.empty c.requires.own in
    omega (arith, fewer, sorted_length (listed c.args.self.now) c.args.self.now.numbers.items c.requires.kept.tied.matching, c.requires.kept.numbers_room)

pub insert_within-requires-2-clause-room : goal.insert_within-requires-2-clause-room
insert_within-requires-2-clause-room c =
    let fewer : length (listed c.args.self.now) < 4096 = room c.args.self.now.stations.items c.args.self.now.slots.items c.args.self.now.numbers.items (listed c.args.self.now) c.args.at c.args.slot c.args.station c.requires.kept.tied c.requires.empty c.requires.own in
    omega (arith, fewer, slots_length c.args.self.now.stations.items c.args.self.now.slots.items c.args.self.now.numbers.items (listed c.args.self.now) c.requires.kept.tied, c.requires.kept.slots_room)

tied : (c : goal.After-self-1) → IsTied (set c.args.self.now.stations.items c.args.slot (Some c.args.station)) c.insert_within-2.new.values.items c.insert_within.new.values.items (take c.args.at (listed c.args.self.now) ++ c.args.station ∷ drop c.args.at (listed c.args.self.now))
tied c =
    rw (c.insert_within.ensures.items, c.insert_within-2.ensures.items)
    (IsTied-insert c.args.self.now.stations.items c.args.self.now.slots.items c.args.self.now.numbers.items (listed c.args.self.now) c.args.at c.args.slot c.number.result c.args.station c.requires.kept.tied c.requires.empty (omega (arith, c.requires.own.place.1, c.args.station.port.high)) c.requires.own c.number.ensures)

pub returns-clause-listed : goal.returns-clause-listed
returns-clause-listed c =
    listed_is (in_slot (set c.args.self.now.stations.items c.args.slot (Some c.args.station))) c.insert_within-2.new.values.items (take c.args.at (listed c.args.self.now) ++ c.args.station ∷ drop c.args.at (listed c.args.self.now)) (tied c).told
    ∙ insert_belongs c.args.station (listed c.args.self.now) c.args.at c.requires.place

pub returns-clause-kept : goal.returns-clause-kept
returns-clause-kept c = record {
  tied = rw (listed_is (in_slot (set c.args.self.now.stations.items c.args.slot (Some c.args.station))) c.insert_within-2.new.values.items (take c.args.at (listed c.args.self.now) ++ c.args.station ∷ drop c.args.at (listed c.args.self.now)) (tied c).told) (tied c);
  numbers_room = omega (arith, c.requires.kept.numbers_room, c.insert_within.ensures.capacity);
  slots_room = omega (arith, c.requires.kept.slots_room, c.insert_within-2.ensures.capacity);
}
