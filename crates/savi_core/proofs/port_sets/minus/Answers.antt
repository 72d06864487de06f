use Rattle.std.proofs.Common.{arith}
use Rattle.savi_core.proofs.Members.{member_minus}
use Rattle.savi_core.proofs.port_sets.minus.Goals as goal

pub returns : goal.returns
returns c = λ n least. member_minus c.args.set c.args.other (omega arith) (omega arith) n least
