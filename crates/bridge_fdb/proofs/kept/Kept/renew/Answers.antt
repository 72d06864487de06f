use Rattle.std.proofs.Common.{◌≡◌, ◌<◌, Some, length, get_or, ◌∙◌, arith}
use Rattle.bridge_fdb.specs.Kept.{IsTied, in_slot, listed}
use Rattle.std.proofs.Math.ListN.{set}
use Rattle.bridge_fdb.specs.Stations.{mac_number}
use Rattle.bridge_fdb.proofs.Parts.{set_stands, stands_number}
use Rattle.bridge_fdb.proofs.Slots.{slot_at, slot_bound, IsTied-renew, listed_is}
use Rattle.bridge_fdb.proofs.kept.Kept.renew.Goals as goal

pub index_mut-requires : goal.index_mut-requires
index_mut-requires c =
    let bound : c.index.result.now < length c.args.self.now.stations.items = slot_bound c.args.self.now.stations.items c.args.self.now.slots.items c.args.self.now.numbers.items (listed c.args.self.now) c.args.at c.index.result.now c.requires.kept.tied c.requires.place.bound c.index.ensures in
    omega (arith, bound, c.from-slot.ensures, c.args.self.now.stations.ok.0)

tied : (c : goal.After-self-1) → IsTied (set c.args.self.now.stations.items c.from-slot.result (Some c.args.station)) c.args.self.now.slots.items c.args.self.now.numbers.items (set (listed c.args.self.now) c.args.at c.args.station)
tied c =
    let slot : c.from-slot.result ≡ get_or c.args.self.now.slots.items c.args.at 0 = c.from-slot.ensures ∙ slot_at c.args.self.now.stations.items c.args.self.now.slots.items c.args.self.now.numbers.items (listed c.args.self.now) c.args.at c.index.result.now c.requires.kept.tied c.requires.place.bound c.index.ensures in
    rw slot (IsTied-renew c.args.self.now.stations.items c.args.self.now.slots.items c.args.self.now.numbers.items (listed c.args.self.now) c.args.at c.args.station c.requires.kept.tied c.requires.rising c.requires.place c.requires.port (stands_number (mac_number c.args.station.mac) (listed c.args.self.now) c.args.at c.args.station c.requires.place) c.requires.moment)

pub returns-clause-listed : goal.returns-clause-listed
returns-clause-listed c =
    listed_is (in_slot (set c.args.self.now.stations.items c.from-slot.result (Some c.args.station))) c.args.self.now.slots.items (set (listed c.args.self.now) c.args.at c.args.station) (tied c).told
    ∙ set_stands c.args.station (listed c.args.self.now) c.args.at c.requires.place

pub returns-clause-kept : goal.returns-clause-kept
returns-clause-kept c = record {
  tied = rw (listed_is (in_slot (set c.args.self.now.stations.items c.from-slot.result (Some c.args.station))) c.args.self.now.slots.items (set (listed c.args.self.now) c.args.at c.args.station) (tied c).told) (tied c);
  numbers_room = c.requires.kept.numbers_room;
  slots_room = c.requires.kept.slots_room;
}
