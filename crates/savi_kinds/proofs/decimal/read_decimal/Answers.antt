use Rattle.savi_kinds.proofs.DecimalGrammar.{past_most}
use Rattle.savi_kinds.proofs.decimal.read_decimal.Goals as goal

pub returns-else-number-most-clause-only : goal.returns-else-number-most-clause-only
returns-else-number-most-clause-only c = past_most c.args.text.now c.in_ok-number.number c.args.most c.in_ok-number.ensures.read.0 c.in_ok-number.ensures.read.1 c.if-number-most.false
