use Rattle.std.proofs.Common.{◌<◌, length, ◌∙◌, arith}
use Rattle.v4_snoop.specs.KeptLeases.{lease_in}
use Rattle.v4_snoop.proofs.Slots.{leased_inside, read_slot, no_empty_slot}
use Rattle.v4_snoop.proofs.leases.Leases.held.Goals as goal

pub index-requires : goal.index-requires
index-requires c = omega (arith, leased_inside c.args.key c.args.slot c.args.self.now.slots.items c.requires, c.args.self.now.slots.ok.0)

pub unreachable-requires : goal.unreachable-requires
unreachable-requires c =
    let inside : c.args.slot < length c.args.self.now.slots.items = leased_inside c.args.key c.args.slot c.args.self.now.slots.items c.requires in
    no_empty_slot c.args.key (lease_in c.args.self.now.slots.items c.args.slot) c.requires (read_slot c.args.self.now.slots.items c.args.slot c.index.result.now inside c.index.ensures ∙ c.in-None.is)

pub returns : goal.returns
returns c =
    let inside : c.args.slot < length c.args.self.now.slots.items = leased_inside c.args.key c.args.slot c.args.self.now.slots.items c.requires in
    read_slot c.args.self.now.slots.items c.args.slot c.index.result.now inside c.index.ensures ∙ c.in-Some.is
