use Rattle.std.proofs.Common.{◌≡◌, length, refl, arith}
use Rattle.v4_snoop.proofs.Slots.{no_lease_kept}
use Rattle.v4_snoop.proofs.Holding.{none_held}
use Rattle.v4_snoop.proofs.leases.Leases.make.Goals as goal

pub returns : goal.returns
returns c =
    let size : length c.loop.slots.items ≡ 1024 = omega (arith, c.loop.invariant.1, c.loop-test.false, c.loop.auto.counter-end) in
    (no_lease_kept c.loop.invariant.0 size c.in_ok-make.ensures.0 c.in_ok-make.ensures.1 c.requires, refl, λ t. none_held t c.loop.invariant.0)
