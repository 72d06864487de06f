-- What a probe is to whoever reads it: a packet with this header, and a message of neighbor discovery.
use Rattle.std.specs.Prelude.{ℕ, List, drop, true, Ok}
use Rattle.savi_kinds.specs.declared.address.Addr.{Addr}
use Rattle.v6_chain.specs.declared.packet.Ip.{Ip}
use Rattle.v6_chain.specs.Packet.{IsPacket}
use Rattle.nd_read.specs.declared.message.Nd.TheVariants.{Ns}
use Rattle.nd_read.specs.Tests.{Reads}
use Rattle.probe_write.specs.ProbeFrame.{no_address, solicited_node_of}

-- from :: to the solicited-node group of the target, ICMPv6, hop limit 255, 24 octets
abbrev pub ip_of : Addr → Ip
ip_of target = record { src = no_address; dst = solicited_node_of target; next = 58; hop = 255; len = 24 }

-- The frame's packet has this header, and its message is read as the solicitation for duplicate address detection of the
-- target (RFC 4861 section 7.1.1).
pub record AsksFor (target : Addr) (frame : List ℕ) : Type 0 where
  pub packet : IsPacket (drop 14 frame) (ip_of target)
  pub message : Reads (ip_of target) (drop 54 frame) (Ok (Ns target true))
