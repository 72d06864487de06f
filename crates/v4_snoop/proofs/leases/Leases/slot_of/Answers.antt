use Rattle.std.proofs.Common.{sym, ◌∙◌, ap}
use Rattle.addr_index.specs.Indexes.{key_in}
use Rattle.v4_snoop.proofs.Slots.{no_slot}
use Rattle.v4_snoop.proofs.leases.Leases.slot_of.Goals as goal

pub returns-in-Some : goal.returns-in-Some
returns-in-Some c = c.requires.there c.args.key c.in-Some.slot (ap (key_in c.args.self.now.index) (sym c.place_of.ensures) ∙ sym c.in-Some.ensures)

pub returns-in-None : goal.returns-in-None
returns-in-None c = no_slot c.requires c.args.key (ap (key_in c.args.self.now.index) (sym c.place_of.ensures) ∙ sym c.in-None.ensures)
