use Rattle.std.proofs.Common.{arith, ◌-◌}
use Rattle.savi_kinds.proofs.Members.{is_member-with, bit_fits}
use Rattle.savi_kinds.proofs.port.PortSet.with.Goals as goal

pub returns-clause-members : goal.returns-clause-members
returns-clause-members c = λ n least. rw (bit_fits (c.args.port.number - 1) (omega (arith, c.args.port.high))) (is_member-with c.args.self c.args.port.number n c.args.port.low least)
