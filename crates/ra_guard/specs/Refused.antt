-- What the guard stops, by the octets of a frame and the definition of the header chain.
use Rattle.std.specs.Prelude.{◌≡◌, ◌≢◌, ℕ, ◌≤◌, Bool, List, slice_index, Option, IsSomeAnd}
use Rattle.savi_kinds.specs.declared.plan.Role.{Role}
use Rattle.savi_kinds.specs.declared.plan.Role.TheVariants.{Trusted}
use Rattle.savi_kinds.specs.declared.verdict.Rule.{Rule}
use Rattle.savi_kinds.specs.Prefixes.{LiesIn}
use Rattle.savi_kinds.specs.Rules.{rule_number}
use Rattle.eth_frame.specs.Frame.{header_of, payload_of}
use Rattle.v6_chain.specs.declared.packet.Ip.{Ip}
use Rattle.v6_chain.specs.Packet.{IsPacket}
use Rattle.v6_chain.specs.Outcome.{Shows, HidesUpper}
use Rattle.frame_class.specs.declared.classes.Class.{Class}
use Rattle.frame_class.specs.Reading.{ipv6_type, IsClassOf}
use Rattle.ra_guard.specs.Guard.{Applies, IsFirst, link_local_unicast}

-- A router advertisement that the header chain shows, in a whole packet or in a first fragment: ICMPv6 (58) of type 134,
-- from a link-local address, with hop limit 255 (RFC 4861 section 6.1.2).
pub record IsAdvertFrame (frame : List ℕ) : Type 0 where
  pub ip : Ip
  pub message : List ℕ
  pub fragmented : Bool
  pub ipv6 : (header_of frame).kind ≡ ipv6_type
  pub packet : IsPacket (payload_of frame) ip
  pub shows : Shows ip (payload_of frame) 58 message fragmented
  pub advert : slice_index message 0 ≡ 134
  pub source : LiesIn ip.src.0 link_local_unicast
  pub hop : ip.hop ≡ 255

-- a first fragment whose header chain, or the least of its upper header, isn't whole (RFC 7112)
pub record IsHiddenFrame (frame : List ℕ) : Type 0 where
  pub ip : Ip
  pub ipv6 : (header_of frame).kind ≡ ipv6_type
  pub packet : IsPacket (payload_of frame) ip
  pub hidden : HidesUpper ip (payload_of frame)

-- the guard stops each frame with this property, at a port whose sources are validated, by a rule up to this number
abbrev pub GuardStops : (List ℕ → Type 0) → ℕ → Type 0
GuardStops Has most =
    (frame : List ℕ) (class : Class) (role : Role) (drop_unknown : Bool) (rule : Option Rule)
    → Has frame → IsClassOf frame class → role ≢ Trusted → IsFirst (Applies role drop_unknown class) rule
    → IsSomeAnd rule (λ given. rule_number given ≤ most)
