use Rattle.dhcp6_read.specs.DhcpOf.{dhcp_of}
use Rattle.dhcp6_read.proofs.Readings.{dhcp_is, same_dhcp_reading}
use Rattle.dhcp6_read.proofs.laws.a_message_has_its_reading.Goals as goal

pub returns-clause-reading : goal.returns-clause-reading
returns-clause-reading c = dhcp_is

pub returns-clause-only : goal.returns-clause-only
returns-clause-only c = λ message other reads. same_dhcp_reading message other (dhcp_of message) reads (dhcp_is message)
