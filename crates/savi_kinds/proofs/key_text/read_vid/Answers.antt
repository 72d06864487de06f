use Rattle.std.proofs.Common.{arith}
use Rattle.savi_kinds.proofs.KeyGrammar.{no_vid}
use Rattle.savi_kinds.proofs.key_text.read_vid.Goals as goal

pub returns-else-vlan-ge-WRITTEN_LEAST-clause-only : goal.returns-else-vlan-ge-WRITTEN_LEAST-clause-only
returns-else-vlan-ge-WRITTEN_LEAST-clause-only c =
    no_vid c.args.digits.now c.in_ok-vlan.vlan c.in_ok-vlan.ensures.read.0 (omega (arith, c.from.ensures, c.in_ok-vlan.ensures.read.1)) c.if-vlan-ge-WRITTEN_LEAST.false
