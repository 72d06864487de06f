use Rattle.std.proofs.Common.{cond, ◌==◌, Some, refl, ◌∙◌, ap, arith}
use Rattle.addr_index.specs.Indexes.{key_in}
use Rattle.v4_snoop.proofs.Slots.{Keeps-filled, none_indexed, room_in_index}
use Rattle.v4_snoop.proofs.leases.Leases.fill.Goals as goal

pub overflow_cast-slot : goal.overflow_cast-slot
overflow_cast-slot c = omega (arith, c.requires.own.past, c.requires.kept.most, c.args.lease.port.high)

pub insert-requires-clause-absent : goal.insert-requires-clause-absent
insert-requires-clause-absent c = ap (key_in c.args.self.now.index) c.place_of.ensures ∙ none_indexed c.requires.kept c.args.lease.key c.requires.absent

pub insert-requires-clause-room : goal.insert-requires-clause-room
insert-requires-clause-room c = room_in_index c.requires.kept c.args.slot (omega (arith, c.requires.own.past, c.requires.kept.most, c.args.lease.port.high)) c.requires.empty

pub index_mut-requires : goal.index_mut-requires
index_mut-requires c = omega (arith, c.requires.own.past, c.requires.kept.most, c.requires.kept.size, c.args.lease.port.high, c.args.self.now.slots.ok.0)

pub returns-clause-kept : goal.returns-clause-kept
returns-clause-kept c =
    Keeps-filled c.args.self.now c.args.slot c.args.lease c.requires.kept c.requires.empty (omega (arith, c.requires.own.past, c.requires.kept.most, c.args.lease.port.high)) c.requires.own c.requires.absent refl
    (λ key. c.insert.ensures.keys key ∙ ap (λ k. cond (k == key) (Some c.args.slot) (key_in c.args.self.now.index key)) c.place_of.ensures)
    c.insert.ensures.len c.insert.ensures.most refl
