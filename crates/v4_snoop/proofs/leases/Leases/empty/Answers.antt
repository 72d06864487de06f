use Rattle.std.proofs.Common.{◌∙◌, ap, arith}
use Rattle.v4_snoop.specs.KeptLeases.{lease_in}
use Rattle.v4_snoop.proofs.Slots.{emptied_at, empty_at, read_slot}
use Rattle.v4_snoop.proofs.leases.Leases.empty.Goals as goal

pub index-requires : goal.index-requires
index-requires c = omega (arith, c.requires.within, c.requires.kept.size, c.args.self.now.slots.ok.0)

pub clear-requires-clause-there : goal.clear-requires-clause-there
clear-requires-clause-there c = read_slot c.args.self.now.slots.items c.args.slot c.index.result.now (omega (arith, c.requires.within, c.requires.kept.size)) c.index.ensures ∙ c.in-Some.is

pub returns-in-Some-clause-slots : goal.returns-in-Some-clause-slots
returns-in-Some-clause-slots c = λ other. ap (λ xs. lease_in xs other) c.clear.ensures.slots ∙ emptied_at c.args.self.now.slots.items c.args.slot other (omega (arith, c.requires.within, c.requires.kept.size))

pub returns-in-None-clause-slots : goal.returns-in-None-clause-slots
returns-in-None-clause-slots c = λ other. empty_at c.args.self.now.slots.items c.args.slot other (read_slot c.args.self.now.slots.items c.args.slot c.index.result.now (omega (arith, c.requires.within, c.requires.kept.size)) c.index.ensures ∙ c.in-None.is)
