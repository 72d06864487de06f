use Rattle.std.proofs.Common.{◌≡◌, ◌<◌, ◌∷◌, ◌++◌, Some, length, get_or, take, drop, suc, ◌∙◌, arith}
use Rattle.std.proofs.Math.ListN.{set}
use Rattle.bridge_fdb.specs.Stations.{mac_number}
use Rattle.bridge_fdb.specs.Places.{BelongsAt}
use Rattle.bridge_fdb.specs.Kept.{IsTied, in_slot, listed}
use Rattle.bridge_fdb.proofs.Parts.{insert_belongs}
use Rattle.bridge_fdb.proofs.Without.{belongs_left}
use Rattle.bridge_fdb.proofs.Slots.{slot_at, slot_bound, IsTied-exchange, listed_is}
use Rattle.bridge_fdb.proofs.kept.Kept.exchange.Goals.{then-gone-at, else-gone-at}
use Rattle.bridge_fdb.proofs.kept.Kept.exchange.Goals as goal

pub index_mut-requires : goal.index_mut-requires
index_mut-requires c =
    let bound : c.index-slot.result.now < length c.args.self.now.stations.items = slot_bound c.args.self.now.stations.items c.args.self.now.slots.items c.args.self.now.numbers.items (listed c.args.self.now) c.args.gone c.index-slot.result.now c.requires.kept.tied c.requires.within c.index-slot.ensures in
    omega (arith, bound, c.from.ensures, c.args.self.now.stations.ok.0)

tied : (c : goal.After-self-1) → IsTied (set c.args.self.now.stations.items c.from.result (Some c.args.station)) c.exchange_within-2.new.values.items c.exchange_within.new.values.items (take c.if-gone-at.at (take c.args.gone (listed c.args.self.now) ++ drop (suc c.args.gone) (listed c.args.self.now)) ++ c.args.station ∷ drop c.if-gone-at.at (take c.args.gone (listed c.args.self.now) ++ drop (suc c.args.gone) (listed c.args.self.now)))
tied c =
    let slot : c.index-slot.result.now ≡ get_or c.args.self.now.slots.items c.args.gone 0 = slot_at c.args.self.now.stations.items c.args.self.now.slots.items c.args.self.now.numbers.items (listed c.args.self.now) c.args.gone c.index-slot.result.now c.requires.kept.tied c.requires.within c.index-slot.ensures in
    rw (c.exchange_within.ensures.items, c.exchange_within-2.ensures.items, c.from.ensures, slot)
    (IsTied-exchange c.args.self.now.stations.items c.args.self.now.slots.items c.args.self.now.numbers.items (listed c.args.self.now) c.args.gone c.if-gone-at.at c.number.result c.args.station c.requires.kept.tied c.requires.rising c.requires.within c.requires.port c.requires.moment c.number.ensures)

place : (c : goal.After-self-1) → BelongsAt (mac_number c.args.station.mac) (take c.args.gone (listed c.args.self.now) ++ drop (suc c.args.gone) (listed c.args.self.now)) c.if-gone-at.at
place c =
    elim c.if-gone-at.branch [
      | then-gone-at w ↦
          belongs_left (mac_number c.args.station.mac) (listed c.args.self.now) c.args.gone c.args.at c.if-gone-at.at c.requires.rising c.requires.within c.requires.place
          (λ before. omega (arith, before, w.at-is)) (λ after. absurd (omega (arith, after, w.if-gone-at.true)))
      | else-gone-at w ↦
          belongs_left (mac_number c.args.station.mac) (listed c.args.self.now) c.args.gone c.args.at c.if-gone-at.at c.requires.rising c.requires.within c.requires.place
          (λ before. absurd (omega (arith, before, w.if-gone-at.false))) (λ after. w.at-is)
    ]

pub returns-clause-listed : goal.returns-clause-listed
returns-clause-listed c =
    listed_is (in_slot (set c.args.self.now.stations.items c.from.result (Some c.args.station))) c.exchange_within-2.new.values.items (take c.if-gone-at.at (take c.args.gone (listed c.args.self.now) ++ drop (suc c.args.gone) (listed c.args.self.now)) ++ c.args.station ∷ drop c.if-gone-at.at (take c.args.gone (listed c.args.self.now) ++ drop (suc c.args.gone) (listed c.args.self.now))) (tied c).told
    ∙ insert_belongs c.args.station (take c.args.gone (listed c.args.self.now) ++ drop (suc c.args.gone) (listed c.args.self.now)) c.if-gone-at.at (place c)

pub returns-clause-kept : goal.returns-clause-kept
returns-clause-kept c = record {
  tied = rw (listed_is (in_slot (set c.args.self.now.stations.items c.from.result (Some c.args.station))) c.exchange_within-2.new.values.items (take c.if-gone-at.at (take c.args.gone (listed c.args.self.now) ++ drop (suc c.args.gone) (listed c.args.self.now)) ++ c.args.station ∷ drop c.if-gone-at.at (take c.args.gone (listed c.args.self.now) ++ drop (suc c.args.gone) (listed c.args.self.now))) (tied c).told) (tied c);
  numbers_room = omega (arith, c.requires.kept.numbers_room, c.exchange_within.ensures.capacity);
  slots_room = omega (arith, c.requires.kept.slots_room, c.exchange_within-2.ensures.capacity);
}
