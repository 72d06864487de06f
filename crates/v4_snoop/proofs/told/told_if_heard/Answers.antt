use Rattle.std.proofs.Common.{Some, ◌∙◌, ap}
use Rattle.v4_snoop.specs.DhcpMessages.{message_of}
use Rattle.v4_snoop.specs.Tellings.{told_if}
use Rattle.v4_snoop.proofs.told.told_if_heard.Goals as goal

pub returns-in-Some : goal.returns-in-Some
returns-in-Some c = c.told_at.ensures ∙ ap (told_if c.args.is_validating c.args.is_host (Some c.args.ports)) (c.in-Some.ensures ∙ ap message_of c.udp_payload.ensures)

pub returns-in-None : goal.returns-in-None
returns-in-None c = ap (told_if c.args.is_validating c.args.is_host (Some c.args.ports)) (c.in-None.ensures ∙ ap message_of c.udp_payload.ensures)
