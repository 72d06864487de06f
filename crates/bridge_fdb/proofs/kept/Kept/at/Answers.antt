use Rattle.std.proofs.Common.{◌≡◌, ◌<◌, ℕ, List, [], ◌∷◌, Option, None, Some, length, get_or, sym, ◌∙◌, ap, arith}
use Rattle.bridge_fdb.specs.declared.station.Station.{Station}
use Rattle.bridge_fdb.specs.Kept.{IsTied, in_slot, listed}
use Rattle.bridge_fdb.proofs.Slots.{slot_at, slot_bound, slot_tells, slot_within, slot_read, station_in}
use Rattle.bridge_fdb.proofs.kept.Kept.at.Goals as goal

pub index-requires-2 : goal.index-requires-2
index-requires-2 c =
    let bound : c.index.result.now < length c.args.self.now.stations.items = slot_bound c.args.self.now.stations.items c.args.self.now.slots.items c.args.self.now.numbers.items (listed c.args.self.now) c.args.at c.index.result.now c.requires.kept.tied c.requires.within c.index.ensures in
    omega (arith, bound, c.from.ensures, c.args.self.now.stations.ok.0)

-- the slot of the station at a place has it
told : (stations : List (Option Station)) (slots numbers : List ℕ) (xs : List Station) (i v slot : ℕ) (o : Option Station) → IsTied stations slots numbers xs → i < length xs → v ≡ get_or slots i v → slot ≡ v → o ≡ get_or stations slot o → (d : Station) → o ≡ Some (get_or xs i d)
told stations slots numbers xs i v slot o tied within is same read d =
    let place : slot ≡ get_or slots i 0 = same ∙ slot_at stations slots numbers xs i v tied within is in
    let there : in_slot stations slot ≡ Some (get_or xs i d) = ap (in_slot stations) place ∙ slot_tells stations slots numbers xs tied i d within in
    let inside : slot < length stations = slot_within stations slot (get_or xs i d) there in
    sym (slot_read stations slot o inside read) ∙ there

pub unreachable-requires : goal.unreachable-requires
unreachable-requires c = none (listed c.args.self.now) c.requires.kept.tied c.requires.within
  where
    none : (xs : List Station) → IsTied c.args.self.now.stations.items c.args.self.now.slots.items c.args.self.now.numbers.items xs → c.args.at < length xs → ⊥
    none [] tied within = omega (arith, within)
    none (x ∷ xs) tied within =
        let both : None ≡ Some (get_or (x ∷ xs) c.args.at x) = sym c.in-None.is ∙ told c.args.self.now.stations.items c.args.self.now.slots.items c.args.self.now.numbers.items (x ∷ xs) c.args.at c.index.result.now c.from.result c.index-2.result.now tied within c.index.ensures c.from.ensures c.index-2.ensures x in
        cc

pub returns : goal.returns
returns c =
    let both : Some c.in-Some.station ≡ Some (get_or (listed c.args.self.now) c.args.at c.in-Some.station) = sym c.in-Some.is ∙ told c.args.self.now.stations.items c.args.self.now.slots.items c.args.self.now.numbers.items (listed c.args.self.now) c.args.at c.index.result.now c.from.result c.index-2.result.now c.requires.kept.tied c.requires.within c.index.ensures c.from.ensures c.index-2.ensures c.in-Some.station in
    ap (station_in c.in-Some.station) both
