use Rattle.std.proofs.Common.{sym, ◌∙◌}
use Rattle.savi_kinds.specs.Ports.{number_of}
use Rattle.v4_snoop.proofs.Rooms.{own_free, own_room, free_of_idle, room_of_free, dead_elsewhere, dead_nowhere}
use Rattle.v4_snoop.proofs.leases.Leases.slot_for.Goals as goal

pub returns-then-is_at-clause-slot : goal.returns-then-is_at-clause-slot
returns-then-is_at-clause-slot c = own_free c.requires c.args.t c.args.key (number_of c.args.p) c.in-Some.found.slot c.in-Some.found.lease c.in-Some.ensures (sym c.is_at.ensures ∙ c.if-is_at.true)

pub returns-then-is_at-clause-room : goal.returns-then-is_at-clause-room
returns-then-is_at-clause-room c = λ leases holds. own_room c.requires c.args.t c.args.key (number_of c.args.p) c.in-Some.found.slot c.in-Some.found.lease leases c.args.p.low c.args.p.high c.in-Some.ensures (sym c.is_at.ensures ∙ c.if-is_at.true) holds

pub returns-else-is_at-clause-slot : goal.returns-else-is_at-clause-slot
returns-else-is_at-clause-slot c = free_of_idle c.args.self.now.slots.items c.args.key c.args.self.now.per_port (number_of c.args.p) c.args.t c.free_slot.result c.free_slot.ensures

pub returns-else-is_at-clause-room : goal.returns-else-is_at-clause-room
returns-else-is_at-clause-room c = λ leases holds. room_of_free c.requires c.args.t c.args.key (number_of c.args.p) leases c.args.p.low c.args.p.high holds (dead_elsewhere c.args.key (number_of c.args.p) c.in-Some.ensures (sym c.is_at.ensures ∙ c.if-is_at.false) holds) c.free_slot.result c.free_slot.ensures

pub returns-in-None-clause-slot : goal.returns-in-None-clause-slot
returns-in-None-clause-slot c = free_of_idle c.args.self.now.slots.items c.args.key c.args.self.now.per_port (number_of c.args.p) c.args.t c.free_slot-in-None.result c.free_slot-in-None.ensures

pub returns-in-None-clause-room : goal.returns-in-None-clause-room
returns-in-None-clause-room c = λ leases holds. room_of_free c.requires c.args.t c.args.key (number_of c.args.p) leases c.args.p.low c.args.p.high holds (dead_nowhere c.args.key (number_of c.args.p) c.in-None.ensures holds) c.free_slot-in-None.result c.free_slot-in-None.ensures
