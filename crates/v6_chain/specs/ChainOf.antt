-- The outcome of a packet's chain as a function: the headers are passed one after the other, up to where the chain ends.
-- That it is the one outcome which `IsOutcome` allows is a law, `a_chain_has_its_outcome`.
use Rattle.std.specs.Prelude.{ℕ, zero, suc, nat_lt, ◌==◌, Bool, if◌then◌else◌, List, [], ◌∷◌, length, take, drop, Option, Some, None, unwrap_or}
use Rattle.v6_chain.specs.declared.kind.Kind.{Kind}
use Rattle.v6_chain.specs.declared.kind.Kind.TheVariants as kinds
use Rattle.v6_chain.specs.declared.packet.Ip.{Ip}
use Rattle.v6_chain.specs.declared.outcome.Chain.{Chain}
use Rattle.v6_chain.specs.declared.outcome.Chain.TheVariants.{Bad, Hidden, Unknown, Later, Upper}
use Rattle.v6_chain.specs.declared.outcome.ChainFault.TheVariants.{Cut, HopByHop, Twice}
use Rattle.v6_chain.specs.Packet.{body_of}
use Rattle.v6_chain.specs.Kinds.{kind_of}
use Rattle.v6_chain.specs.Headers.{Header, next_of, size_at, offset_of, has_fragment, octets_of}

-- what isn't whole is hidden in a first fragment, and else at fault
abbrev pub cut_outcome : Bool → Chain
cut_outcome fragmented = if fragmented then Hidden else Bad Cut

-- this end where what stands here is whole
abbrev pub unless_cut : Kind → List Header → List ℕ → Option Chain → Option Chain
unless_cut kind before rest end = if nat_lt (length rest) (size_at kind rest) then Some (cut_outcome (has_fragment before)) else end

-- how the chain ends behind these headers, or None where it goes on
abbrev pub chain_end : Kind → List Header → ℕ → List ℕ → Option Chain
chain_end kinds.HopByHop [] value rest = unless_cut kinds.HopByHop [] rest None
chain_end kinds.HopByHop (last ∷ before) value rest = Some (Bad HopByHop)
chain_end kinds.Extension before value rest = unless_cut kinds.Extension before rest None
chain_end kinds.Authentication before value rest = unless_cut kinds.Authentication before rest None
chain_end kinds.Fragment before value rest =
    if has_fragment before then Some (Bad Twice) else unless_cut kinds.Fragment before rest (if offset_of rest == 0 then None else Some Later)
chain_end (kinds.Upper least) before value rest =
    unless_cut (kinds.Upper least) before rest (Some (Upper value (length (octets_of before)) (has_fragment before)))
chain_end kinds.Unknown before value rest = Some (Unknown value)

-- the header of this value at the front of these octets
abbrev pub front_header : ℕ → List ℕ → Header
front_header value rest = record { value = value; octets = take (size_at (kind_of value) rest) rest }

-- the octets behind it
abbrev pub behind_header : ℕ → List ℕ → List ℕ
behind_header value rest = drop (size_at (kind_of value) rest) rest

-- the outcome behind these headers, the last of them first; fewer than so many more can follow
abbrev pub chain_from : ℕ → List Header → ℕ → List ℕ → Chain
chain_from zero before value rest = cut_outcome (has_fragment before)
chain_from (suc more) before value rest =
    unwrap_or (chain_end (kind_of value) before value rest)
    (chain_from more (front_header value rest ∷ before) (next_of (front_header value rest)) (behind_header value rest))

-- a body has fewer headers than octets, or none
abbrev pub chain_of : Ip → List ℕ → Chain
chain_of ip payload = chain_from (suc (length (body_of ip payload))) [] ip.next (body_of ip payload)
