use Rattle.savi_kinds.proofs.MacGrammar.{no_pair_behind}
use Rattle.savi_kinds.proofs.mac_text.read_next.Goals as goal

pub returns-in-58-clause-only : goal.returns-in-58-clause-only
returns-in-58-clause-only c = no_pair_behind c.args.text.now c.read_pair.result c.read_pair.ensures.only
