use Rattle.std.proofs.Common.{sym, ◌∙◌, ap}
use Rattle.std.specs.Option.{option_and_then}
use Rattle.v4_snoop.specs.DhcpOptions.{dhcp_options, first_content, four_octets}
use Rattle.v4_snoop.proofs.Readings.{then_read}
use Rattle.v4_snoop.proofs.message.number_in.Goals as goal

pub returns-in-Some : goal.returns-in-Some
returns-in-Some c = c.four_octets.ensures ∙ sym (then_read four_octets (first_content c.args.code) (dhcp_options c.args.options.now) ∙ ap (option_and_then four_octets) c.in-Some.ensures)

pub returns-in-None : goal.returns-in-None
returns-in-None c = sym (then_read four_octets (first_content c.args.code) (dhcp_options c.args.options.now) ∙ ap (option_and_then four_octets) c.in-None.ensures)
