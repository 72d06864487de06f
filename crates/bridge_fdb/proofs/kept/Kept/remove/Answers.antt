use Rattle.std.proofs.Common.{◌≡◌, ◌<◌, List, [], ◌∷◌, ◌++◌, None, length, get_or, take, drop, suc, ◌∙◌, arith}
use Rattle.bridge_fdb.specs.declared.station.Station.{Station}
use Rattle.bridge_fdb.specs.Kept.{IsTied, in_slot, listed}
use Rattle.std.proofs.Math.ListN.{set}
use Rattle.savi_kinds.specs.Orders.{IsRising}
use Rattle.bridge_fdb.specs.Stations.{station_number}
use Rattle.bridge_fdb.proofs.Slots.{slot_at, slot_bound, IsTied-remove, listed_is}
use Rattle.bridge_fdb.proofs.kept.Kept.remove.Goals as goal

pub index_mut-requires : goal.index_mut-requires
index_mut-requires c =
    let bound : c.remove-slot.result < length c.args.self.now.stations.items = slot_bound c.args.self.now.stations.items c.args.self.now.slots.items c.args.self.now.numbers.items (listed c.args.self.now) c.args.at c.remove-slot.result c.requires.kept.tied c.requires.within c.remove-slot.ensures.value in
    omega (arith, bound, c.from.ensures, c.args.self.now.stations.ok.0)

tied : (c : goal.After-self-1) → IsTied (set c.args.self.now.stations.items c.from.result None) c.remove-slot.new.self.items c.remove.new.self.items (take c.args.at (listed c.args.self.now) ++ drop (suc c.args.at) (listed c.args.self.now))
tied c =
    let slot : c.from.result ≡ get_or c.args.self.now.slots.items c.args.at 0 = c.from.ensures ∙ slot_at c.args.self.now.stations.items c.args.self.now.slots.items c.args.self.now.numbers.items (listed c.args.self.now) c.args.at c.remove-slot.result c.requires.kept.tied c.requires.within c.remove-slot.ensures.value in
    rw (slot, c.remove-slot.ensures.items, c.remove.ensures.items) (go (listed c.args.self.now) c.requires.kept.tied c.requires.rising c.requires.within)
  where
    go : (xs : List Station) → IsTied c.args.self.now.stations.items c.args.self.now.slots.items c.args.self.now.numbers.items xs → IsRising station_number xs → c.args.at < length xs → IsTied (set c.args.self.now.stations.items (get_or c.args.self.now.slots.items c.args.at 0) None) (take c.args.at c.args.self.now.slots.items ++ drop (suc c.args.at) c.args.self.now.slots.items) (take c.args.at c.args.self.now.numbers.items ++ drop (suc c.args.at) c.args.self.now.numbers.items) (take c.args.at xs ++ drop (suc c.args.at) xs)
    go [] t rising within = absurd (omega (arith, within))
    go (x ∷ xs) t rising within = IsTied-remove c.args.self.now.stations.items c.args.self.now.slots.items c.args.self.now.numbers.items (x ∷ xs) c.args.at x t rising within

pub returns-clause-listed : goal.returns-clause-listed
returns-clause-listed c = listed_is (in_slot (set c.args.self.now.stations.items c.from.result None)) c.remove-slot.new.self.items (take c.args.at (listed c.args.self.now) ++ drop (suc c.args.at) (listed c.args.self.now)) (tied c).told

pub returns-clause-kept : goal.returns-clause-kept
returns-clause-kept c = record {
  tied = rw (returns-clause-listed c) (tied c);
  numbers_room = omega (arith, c.requires.kept.numbers_room, c.remove.ensures.capacity);
  slots_room = omega (arith, c.requires.kept.slots_room, c.remove-slot.ensures.capacity);
}
