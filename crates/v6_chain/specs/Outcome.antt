-- What the chain of a packet comes to (RFC 8200 section 4, RFC 7112).
use Rattle.std.specs.Prelude.{◌≡◌, ◌≢◌, ℕ, ◌<◌, ◌≤◌, Bool, true, false, List, [], ◌++◌, length, drop}
use Rattle.v6_chain.specs.declared.kind.Kind.{Kind}
use Rattle.v6_chain.specs.declared.kind.Kind.TheVariants as kinds
use Rattle.v6_chain.specs.declared.packet.Ip.{Ip}
use Rattle.v6_chain.specs.declared.outcome.Chain.{Chain}
use Rattle.v6_chain.specs.declared.outcome.Chain.TheVariants.{Bad, Hidden, Unknown, Later, Upper}
use Rattle.v6_chain.specs.declared.outcome.ChainFault.TheVariants.{Cut, HopByHop, Twice}
use Rattle.v6_chain.specs.Packet.{body_of}
use Rattle.v6_chain.specs.Kinds.{kind_of}
use Rattle.v6_chain.specs.Headers.{Header, size_at, offset_of, has_fragment, MayStand, value_behind, AreChained, octets_of}

-- what may stand here isn't whole: the octets that are left are fewer than a header of this value has, or than an upper
-- header has at least
abbrev pub IsCut : List Header → ℕ → List ℕ → Type 0
IsCut before value rest = MayStand before (kind_of value) × (length rest < size_at (kind_of value) rest)

-- an upper header with at least its least octets
abbrev pub IsWholeUpper : Kind → List ℕ → Type 0
IsWholeUpper (kinds.Upper least) message = least ≤ length message
IsWholeUpper kinds.HopByHop message = ⊥
IsWholeUpper kinds.Extension message = ⊥
IsWholeUpper kinds.Authentication message = ⊥
IsWholeUpper kinds.Fragment message = ⊥
IsWholeUpper kinds.Unknown message = ⊥

-- How the chain ends behind these headers, at a value and the octets that are left for what it names.
abbrev pub EndsIn : List Header → ℕ → List ℕ → Chain → Type 0
EndsIn before value rest (Bad HopByHop) = (kind_of value ≡ kinds.HopByHop) × (before ≢ [])
EndsIn before value rest (Bad Twice) = (kind_of value ≡ kinds.Fragment) × (has_fragment before ≡ true)
EndsIn before value rest (Bad Cut) = IsCut before value rest × (has_fragment before ≡ false)
EndsIn before value rest Hidden = IsCut before value rest × (has_fragment before ≡ true)
EndsIn before value rest Later = (kind_of value ≡ kinds.Fragment) × (has_fragment before ≡ false) × (8 ≤ length rest) × (offset_of rest ≢ 0)
EndsIn before value rest (Unknown unknown) = (kind_of value ≡ kinds.Unknown) × (unknown ≡ value)
EndsIn before value rest (Upper proto at fragmented) = IsWholeUpper (kind_of value) rest × (proto ≡ value) × (at ≡ length (octets_of before)) × (fragmented ≡ has_fragment before)

-- Headers stand at the front of the body one behind the other, and behind the last of them the chain ends so.
pub record IsOutcome (ip : Ip) (payload : List ℕ) (outcome : Chain) : Type 0 where
  pub headers : List Header
  pub rest : List ℕ
  pub chained : AreChained ip.next headers
  pub tiled : body_of ip payload ≡ octets_of headers ++ rest
  pub ends : EndsIn headers (value_behind ip.next headers) rest outcome

-- the message of an upper header at this place of the body: it goes on to the body's end
abbrev pub message_of : Ip → List ℕ → ℕ → List ℕ
message_of ip payload at = drop at (body_of ip payload)

-- an upper header begins within the body, and has at least its least octets
abbrev pub IsWithinBody : Ip → List ℕ → Chain → Type 0
IsWithinBody ip payload (Upper proto at fragmented) = (at ≤ ip.len) × IsWholeUpper (kind_of proto) (message_of ip payload at)
IsWithinBody ip payload (Bad fault) = Unit {0}
IsWithinBody ip payload Hidden = Unit {0}
IsWithinBody ip payload Later = Unit {0}
IsWithinBody ip payload (Unknown unknown) = Unit {0}

-- the packet shows this message of this protocol, fragmented where a fragment header stands before it
abbrev pub Shows : Ip → List ℕ → ℕ → List ℕ → Bool → Type 0
Shows ip payload proto message fragmented = (at : ℕ) × IsOutcome ip payload (Upper proto at fragmented) × (message ≡ message_of ip payload at)

-- the packet is a first fragment in which the chain, or the least of its upper header, isn't whole (RFC 7112)
abbrev pub HidesUpper : Ip → List ℕ → Type 0
HidesUpper ip payload = IsOutcome ip payload Hidden
