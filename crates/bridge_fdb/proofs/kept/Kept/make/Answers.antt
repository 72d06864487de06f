use Rattle.std.proofs.Common.{◌≡◌, ℕ, List, [], length, sym, ap, subst, arith}
use Rattle.std.specs.List.{filter_map}
use Rattle.bridge_fdb.specs.declared.station.Station.{Station}
use Rattle.bridge_fdb.specs.Kept.{IsTied, in_slot}
use Rattle.bridge_fdb.proofs.Slots.{IsTied-empty}
use Rattle.bridge_fdb.proofs.kept.Kept.make.Goals as goal

pub returns : goal.returns
returns c =
    let n = c.in_ok-with_capacity.ensures in
    let s = c.in_ok-with_capacity-2.ensures in
    let size : length c.loop.stations.items ≡ 4096 = omega (arith, c.loop.invariant.1, c.loop-test.false, c.loop.auto.counter-end) in
    let none : filter_map (in_slot c.loop.stations.items) c.in_ok-with_capacity-2.field-0.items ≡ [] = ap (filter_map (in_slot c.loop.stations.items)) s.items in
    let no_slots : IsTied c.loop.stations.items c.in_ok-with_capacity-2.field-0.items [] [] = subst (λ (slots : List ℕ). IsTied c.loop.stations.items slots [] []) (sym s.items) (IsTied-empty c.loop.stations.items c.loop.invariant.0 size) in
    let no_numbers : IsTied c.loop.stations.items c.in_ok-with_capacity-2.field-0.items c.in_ok-with_capacity.field-0.items [] = subst (λ (numbers : List ℕ). IsTied c.loop.stations.items c.in_ok-with_capacity-2.field-0.items numbers []) (sym n.items) no_slots in (
      record {
        tied = subst (λ (all : List Station). IsTied c.loop.stations.items c.in_ok-with_capacity-2.field-0.items c.in_ok-with_capacity.field-0.items all) (sym none) no_numbers;
        numbers_room = n.capacity;
        slots_room = s.capacity;
      },
      none,
    )
