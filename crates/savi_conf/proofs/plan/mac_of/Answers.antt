use Rattle.std.proofs.Common.{ap, ◌∙◌}
use Rattle.savi_kinds.specs.Macs.{is_group}
use Rattle.savi_kinds.proofs.MacGrammar.{one_mac}
use Rattle.savi_conf.proofs.plan.mac_of.Goals as goal

pub unreachable-requires : goal.unreachable-requires
unreachable-requires c = c.in-None.ensures.only c.requires.mac (rw c.as_bytes.ensures.value c.requires.spelled)

pub returns-clause-unicast : goal.returns-clause-unicast
returns-clause-unicast c =
    let read = rw c.as_bytes.ensures.value at c.in-Some.ensures.read in
    ap is_group (one_mac c.args.text.now c.in-Some.mac c.requires.mac read c.requires.spelled) ∙ c.requires.unicast
