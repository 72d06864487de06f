use Rattle.std.proofs.Common.{Some, None, sym, ◌∙◌}
use Rattle.v4_snoop.proofs.Readings.{told_unreadable, told_readable, ports_of_datagram}
use Rattle.v4_snoop.proofs.told.told_in.Goals as goal

pub returns-then-not-is_readable : goal.returns-then-not-is_readable
returns-then-not-is_readable c = sym (told_unreadable c.args.is_validating c.args.is_host c.args.packet.now (sym c.is_readable.ensures.value ∙ c.if-not-is_readable.true))

pub told_if_heard-requires-clause-udp : goal.told_if_heard-requires-clause-udp
told_if_heard-requires-clause-udp c = ports_of_datagram c.args.packet.now c.in-Some.ports (sym c.in-Some.ensures)

pub returns-in-Some : goal.returns-in-Some
returns-in-Some c = c.told_if_heard.ensures ∙ sym (told_readable c.args.is_validating c.args.is_host c.args.packet.now (Some c.in-Some.ports) (sym c.is_readable.ensures.value ∙ c.if-not-is_readable.false) (sym c.in-Some.ensures))

pub returns-in-None : goal.returns-in-None
returns-in-None c = sym (told_readable c.args.is_validating c.args.is_host c.args.packet.now None (sym c.is_readable.ensures.value ∙ c.if-not-is_readable.false) (sym c.in-None.ensures))
