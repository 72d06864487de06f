-- The router advertisement that a frame carries: an ICMPv6 message of type 134 that no fragment header stands before
-- (RFC 2464 section 3, RFC 8200 section 4, RFC 4861 section 4.2). Whether it is a good one isn't asked.
use Rattle.std.specs.Prelude.{ℕ, ◌==◌, ◌&&◌, nat_le, not, Bool, if◌then◌else◌, List, length, Option, Some, None}
use Rattle.eth_frame.specs.Frame.{header_of, payload_of}
use Rattle.v6_chain.specs.declared.packet.Ip.{Ip}
use Rattle.v6_chain.specs.declared.outcome.Chain.{Chain}
use Rattle.v6_chain.specs.declared.outcome.Chain.TheVariants.{Bad, Hidden, Unknown, Later, Upper}
use Rattle.v6_chain.specs.Packet.{header_fields}
use Rattle.v6_chain.specs.Outcome.{message_of}
use Rattle.v6_chain.specs.ChainOf.{chain_of}
use Rattle.nd_read.specs.Messages.{kind_of}
use Rattle.frame_class.specs.Reading.{ipv6_type}
use Rattle.frame_class.specs.ClassOf.{is_packet}

-- a message, and the fixed header of its packet
pub record Carried : Type 0 where
  pub ip : Ip
  pub message : List ℕ

-- this message of a protocol, where it is a router advertisement: ICMPv6 is 58
abbrev pub upper_advert : Ip → ℕ → List ℕ → Bool → Option Carried
upper_advert ip proto message fragmented =
    if (proto == 58) && (not fragmented && (kind_of message == 134)) then Some (record { ip = ip; message = message }) else None

-- the advertisement of a packet, by what its header chain comes to
abbrev pub carried_by : Ip → List ℕ → Chain → Option Carried
carried_by ip payload (Upper proto at fragmented) = upper_advert ip proto (message_of ip payload at) fragmented
carried_by ip payload (Bad fault) = None
carried_by ip payload Hidden = None
carried_by ip payload (Unknown value) = None
carried_by ip payload Later = None

-- the advertisement of what a frame carries, where that is a packet
abbrev pub carried_in : List ℕ → Option Carried
carried_in payload =
    if is_packet payload then carried_by (header_fields payload) payload (chain_of (header_fields payload) payload) else None

-- the router advertisement that a frame carries, if it carries one
unfoldable pub carried : List ℕ → Option Carried
carried frame =
    if nat_le 14 (length frame) && ((header_of frame).kind == ipv6_type) then carried_in (payload_of frame) else None
