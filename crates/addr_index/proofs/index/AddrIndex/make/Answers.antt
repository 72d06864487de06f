use Rattle.std.proofs.Common.{◌≡◌, ◌≤◌, ◌*◌, ◌^◌, [], refl, arith}
use Rattle.addr_index.specs.Places.{entries_of}
use Rattle.addr_index.proofs.Filling.{none_in_empty}
use Rattle.addr_index.proofs.Table.{IsTable-empty}
use Rattle.addr_index.proofs.index.AddrIndex.make.Goals as goal

none : (c : goal.After-loop) → entries_of c.loop.places.items ≡ []
none c = none_in_empty c.loop.places.items (λ p within. c.loop.invariant.0 p)

pub invariant_of-result : goal.invariant_of-result
invariant_of-result c =
    let power : 2 * c.args.most ≤ c.next_power_of_two-count.result = omega (arith, c.next_power_of_two-count.ensures.lower_bound) in
    let limit : c.next_power_of_two-count.result ≤ 2 ^ 22 = grind (arith, c.next_power_of_two-count.ensures.upper_bound, c.requires.limit) in
    IsTable-empty c.loop.places.items c.args.most (λ p within. c.loop.invariant.0 p) c.requires.some (omega (arith, power, c.loop.invariant.1, c.loop-test.false, c.loop.auto.counter-end)) (omega (arith, limit, c.loop.invariant.1, c.loop.auto.counter-end))

pub returns : goal.returns
returns c = (none c, refl)
