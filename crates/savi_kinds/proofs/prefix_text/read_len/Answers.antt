use Rattle.std.proofs.Common.{arith}
use Rattle.savi_kinds.proofs.DecimalGrammar.{no_length}
use Rattle.savi_kinds.proofs.prefix_text.read_len.Goals as goal

pub returns-else-len-gt0-clause-only : goal.returns-else-len-gt0-clause-only
returns-else-len-gt0-clause-only c = no_length c.args.digits.now c.in_ok-len.len c.in_ok-len.ensures.read.0 (omega (arith, c.from.ensures, c.in_ok-len.ensures.read.1)) c.if-len-gt0.false
