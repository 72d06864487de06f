use Rattle.std.proofs.Common.{sym, ◌∙◌}
use Rattle.std.proofs.lemmas.List.{take_rest}
use Rattle.eth_frame.proofs.Untagged.{untagged_payload}
use Rattle.v4_snoop.proofs.inner_frame.untagged_payload.Goals as goal

pub returns : goal.returns
returns c = take_rest c.args.frame.now 18 ∙ sym (untagged_payload c.args.frame.now c.requires)
