use Rattle.std.proofs.Common.{◌≡◌, ◌≢◌, ◌⊎◌, ◌≤◌, ◌<◌, ◌+◌, ℕ, true, Some, length, sym, ◌∙◌, ap, inl, inr, arith}
use Rattle.std.proofs.lemmas.Bool.{cases_eq}
use Rattle.v4_snoop.specs.Leased.{is_live_lease}
use Rattle.v4_snoop.specs.KeptLeases.{lease_in, has_lease}
use Rattle.v4_snoop.proofs.Slots.{read_slot}
use Rattle.v4_snoop.proofs.leases.Leases.idle_within.Goals as goal

pub loop-slot-init : goal.loop-slot-init
loop-slot-init c = λ k from to. absurd (omega (arith, from, to))

pub loop-slot-preserved : goal.loop-slot-preserved
loop-slot-preserved c = λ k from to. go k from to (cases_eq k c.loop-slot.slot)
  where
    go : (k : ℕ) → c.args.from ≤ k → k < c.loop-slot.slot + 1 → (k ≡ c.loop-slot.slot) ⊎ (k ≢ c.loop-slot.slot) → has_lease (is_live_lease c.args.t) (lease_in c.args.self.now.slots.items k) ≡ true
    go k from to (inl same) =
        let inside : c.loop-slot.slot < length c.args.self.now.slots.items = omega (arith, c.loop-slot-test.true, c.requires.first, c.requires.last, c.args.p.high, c.requires.kept.most, c.requires.kept.size) in
        let there : lease_in c.args.self.now.slots.items c.loop-slot.slot ≡ Some c.in-Some.lease = read_slot c.args.self.now.slots.items c.loop-slot.slot c.index.result.now inside c.index.ensures ∙ c.in-Some.is in
        ap (λ j. has_lease (is_live_lease c.args.t) (lease_in c.args.self.now.slots.items j)) same ∙ ap (has_lease (is_live_lease c.args.t)) there ∙ sym c.is_live.ensures ∙ c.if-not-is_live.false
    go k from to (inr other) = c.loop-slot.invariant k from (omega (arith, to, other))

pub returns : goal.returns
returns c = λ slot own. c.loop-slot.invariant slot (omega (arith, own.first, c.requires.first)) (omega (arith, own.past, c.requires.first, c.requires.last, c.loop-slot-test.false))
