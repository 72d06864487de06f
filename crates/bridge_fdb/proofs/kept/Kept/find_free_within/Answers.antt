use Rattle.std.proofs.Common.{◌≡◌, ◌≢◌, ◌⊎◌, ◌≤◌, ◌<◌, ◌+◌, ℕ, Some, length, sym, ◌∙◌, inl, inr, arith}
use Rattle.bridge_fdb.specs.Kept.{LivesUntil, in_slot}
use Rattle.std.proofs.lemmas.Bool.{cases_eq, ltb-true}
use Rattle.bridge_fdb.specs.Stations.{station_end}
use Rattle.bridge_fdb.proofs.Counting.{LivesUntil-earlier}
use Rattle.bridge_fdb.proofs.Slots.{slot_read}
use Rattle.bridge_fdb.proofs.kept.Kept.find_free_within.Goals as goal

pub loop-slot-init : goal.loop-slot-init
loop-slot-init c = (omega (arith, c.requires.moment), λ k from to. absurd (omega (arith, from, to)))

-- what the slot has
pub end-requires : goal.end-requires
end-requires c =
    let inside : c.loop-slot.slot < length c.args.self.now.stations.items = omega (arith, c.loop-slot-test.true, c.requires.last, c.args.p.high, c.requires.kept.tied.size) in
    let there : in_slot c.args.self.now.stations.items c.loop-slot.slot ≡ Some c.in-Some.station = slot_read c.args.self.now.stations.items c.loop-slot.slot c.index.result.now inside c.index.ensures ∙ c.in-Some.is in
    (c.requires.kept.tied.own c.loop-slot.slot c.in-Some.station there).in_time

pub loop-slot-preserved : goal.loop-slot-preserved
loop-slot-preserved c =
    let live : c.args.t < station_end c.in-Some.station = ltb-true c.args.t (station_end c.in-Some.station) (sym c.is_live.ensures ∙ c.if-not-is_live.false) in
    (omega (arith, c.loop-slot.invariant.0, live, c.min-end.ensures, c.end.ensures), λ k from to. go k from to (cases_eq k c.loop-slot.slot))
  where
    go : (k : ℕ) → c.args.from ≤ k → k < c.loop-slot.slot + 1 → (k ≡ c.loop-slot.slot) ⊎ (k ≢ c.loop-slot.slot) → LivesUntil c.min-end.result (in_slot c.args.self.now.stations.items k)
    go k from to (inl same) =
        let inside : c.loop-slot.slot < length c.args.self.now.stations.items = omega (arith, c.loop-slot-test.true, c.requires.last, c.args.p.high, c.requires.kept.tied.size) in
        let there : in_slot c.args.self.now.stations.items c.loop-slot.slot ≡ Some c.in-Some.station = slot_read c.args.self.now.stations.items c.loop-slot.slot c.index.result.now inside c.index.ensures ∙ c.in-Some.is in
        rw (same, there) (omega (arith, c.min-end.ensures, c.end.ensures))
    go k from to (inr other) = LivesUntil-earlier c.loop-slot.end c.min-end.result (in_slot c.args.self.now.stations.items k) (omega (arith, c.min-end.ensures)) (c.loop-slot.invariant.1 k from (omega (arith, to, other)))

pub returns : goal.returns
returns c = (c.loop-slot.invariant.0, λ k from to. c.loop-slot.invariant.1 k from (omega (arith, to, c.loop-slot-test.false)))
