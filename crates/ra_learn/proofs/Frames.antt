-- The advertisement of a packet, by the outcome of its header chain.
use Rattle.std.proofs.Common.{◌≡◌, ℕ, true, List, None, refl, ap, subst, inl, inr}
use Rattle.std.proofs.lemmas.Bool.{cases_Bool}
use Rattle.v6_chain.specs.declared.packet.Ip.{Ip}
use Rattle.v6_chain.specs.declared.outcome.Chain.{Chain}
use Rattle.v6_chain.specs.declared.packet.IpFault.{IpFault}
use Rattle.v6_chain.specs.Packet.{IsPacket, IsRefused, header_fields}
use Rattle.v6_chain.specs.ChainOf.{chain_of}
use Rattle.frame_class.specs.ClassOf.{is_packet}
use Rattle.frame_class.proofs.ClassIs.{packet_decided}
use Rattle.frame_class.proofs.OneClass.{refused_not_packet}
use Rattle.ra_learn.specs.Carried.{carried_by, carried_in}

pub carried_is : (payload : List ℕ) (ip : Ip) (outcome : Chain) → IsPacket payload ip → chain_of ip payload ≡ outcome → carried_in payload ≡ carried_by ip payload outcome
carried_is payload ip outcome packet chain =
    let P : Ip → Type 0 = λ header. IsPacket payload header in
    let Q : Ip → Type 0 = λ header. carried_by header payload (chain_of header payload) ≡ carried_by ip payload outcome in
    let holds : is_packet payload ≡ true = (packet_decided payload).1 (subst P packet.header packet) in
    rw holds (subst Q packet.header (ap (carried_by ip payload) chain))

-- what isn't a packet carries none
pub carried_none : (payload : List ℕ) (fault : IpFault) → IsRefused payload fault → carried_in payload ≡ None
carried_none payload fault refused =
    elim (cases_Bool (is_packet payload)) [
      | inl packet ↦ absurd (refused_not_packet payload (header_fields payload) fault refused ((packet_decided payload).0 packet))
      | inr other ↦ rw other refl
    ]
