use Rattle.std.proofs.Common.{sym, ◌∙◌, ap}
use Rattle.std.specs.Option.{option_and_then}
use Rattle.v4_snoop.specs.DhcpOptions.{dhcp_options, first_content, one_octet}
use Rattle.v4_snoop.proofs.Readings.{then_read}
use Rattle.v4_snoop.proofs.message.message_type.Goals as goal

pub returns-in-Some : goal.returns-in-Some
returns-in-Some c = c.one_octet.ensures ∙ sym (then_read one_octet (first_content 53) (dhcp_options c.args.options.now) ∙ ap (option_and_then one_octet) c.in-Some.ensures)

pub returns-in-None : goal.returns-in-None
returns-in-None c = sym (then_read one_octet (first_content 53) (dhcp_options c.args.options.now) ∙ ap (option_and_then one_octet) c.in-None.ensures)
