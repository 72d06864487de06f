use Rattle.std.proofs.Common.{◌≡◌, None, sym, ◌∙◌, arith}
use Rattle.addr_index.specs.Places.{in_place}
use Rattle.addr_index.proofs.Closing.{room_for, room_met}
use Rattle.addr_index.proofs.Table.{read_place}
use Rattle.addr_index.proofs.places.search.Goals as goal

pub returns-in-None : goal.returns-in-None
returns-in-None c =
    let none : in_place c.args.places.now c.loop.at ≡ None = sym (read_place c.args.places.now c.loop.at c.index-places-at.result c.loop.invariant.round.within c.index-places-at.is) ∙ sym c.entry.ensures ∙ c.in-None.is in
    room_for c.args.places.now c.args.address c.home-from.result c.loop.counter c.loop.at c.requires.reached c.home-from.ensures.home c.home-from.ensures.within c.loop-test.true c.loop.invariant.round c.loop.invariant.others none

pub unreachable-requires : goal.unreachable-requires
unreachable-requires c = room_met c.args.places.now c.args.address c.home-from.result c.loop.counter c.home-from.ensures.within (omega (arith, c.loop-test.false, c.loop.auto.counter-end)) c.requires.sparse c.loop.invariant.others
