-- The VLAN of a frame at its port, and what the frame is in it.
use Rattle.std.proofs.Common.{◌≡◌, ◌≢◌, ◌<◌, ◌==◌, ℕ, zero, suc, true, cond, is_some, List, [], ◌∷◌, length, drop, get_or, Option, Some, None, refl, sym, ◌∙◌, ap, arith, inl, inr}
use Rattle.std.specs.List.{list_any}
use Rattle.std.specs.Option.{option_map}
use Rattle.std.proofs.lemmas.Bool.{cases_Bool, false≢true, eq-eqb, ne_eqb}
use Rattle.eth_frame.specs.declared.header.Eth.{Eth}
use Rattle.eth_frame.specs.declared.vlan_tag.Tag.TheVariants as tags
use Rattle.eth_frame.specs.Frame.{header_of, payload_of}
use Rattle.eth_frame.specs.Tags.{inner}
use Rattle.savi_kinds.specs.declared.plan.Plan.{Plan}
use Rattle.savi_kinds.specs.declared.plan.PortPlan.{PortPlan}
use Rattle.savi_kinds.specs.declared.plan.Vlan.{Vlan}
use Rattle.savi_kinds.specs.declared.plan.Vlan.TheVariants.{Access, Trunk}
use Rattle.savi_kinds.specs.declared.port.Port.{Port}
use Rattle.savi_kinds.specs.Ports.{number_of}
use Rattle.savi_kinds.specs.Vlans.{vlan_among}
use Rattle.savi_history.specs.Vlans.{vlan_at_port, vlan_of_frame}
use Rattle.v4_snoop.specs.Reasons.{PassedFrame, VlanFrame, frame_of_vlan, vlan_frame}

pub value_of : {T : Type 0} (o : Option T) → is_some o ≡ true → (x : T) × (o ≡ Some x)
value_of None is = absurd (false≢true is)
value_of (Some x) is = (x, refl)

-- a frame without a tag has the VLAN of an access port
pub access_of : (port : Option Vlan) (vlan : ℕ) → vlan_at_port port tags.None ≡ Some vlan → port ≡ Some (Access vlan)
access_of None vlan is =
    let none : None ≡ Some vlan = is in
    cc
access_of (Some (Access own)) vlan is =
    let same : Some own ≡ Some vlan = is in
    cc
access_of (Some (Trunk vlans)) vlan is =
    let none : None ≡ Some vlan = is in
    cc

-- one whose tag names a VLAN has that one, if any
pub named_by_tag : (port : Option Vlan) (vid vlan : ℕ) → vlan_at_port port (tags.Vid vid) ≡ Some vlan → Some vid ≡ Some vlan
named_by_tag None vid vlan is =
    let none : None ≡ Some vlan = is in
    cc
named_by_tag (Some (Access own)) vid vlan is =
    let none : None ≡ Some vlan = is in
    cc
named_by_tag (Some (Trunk vlans)) vid vlan is =
    elim (cases_Bool (list_any (λ v. v == vid) vlans.items)) [
      | inl listed ↦ sym (ap (λ b. cond b (Some vid) None) listed) ∙ is
      | inr unlisted ↦ let none : None ≡ Some vlan = sym (ap (λ b. cond b (Some vid) None) unlisted) ∙ is in cc
    ]

-- one with another tag has none
pub none_by_tag : (port : Option Vlan) (vlan : ℕ) → vlan_at_port port tags.Bad ≡ Some vlan → None ≡ Some vlan
none_by_tag None vlan is = is
none_by_tag (Some (Access own)) vlan is = is
none_by_tag (Some (Trunk vlans)) vlan is = is

abbrev pub frame_with : ℕ → Port → ℕ → Eth → List ℕ → VlanFrame
frame_with vlan port moment header payload = record { vlan = vlan; port = port; moment = moment; header = header; payload = payload }

-- a frame of a VLAN with the header and the payload of the inner frame is the one that passed
pub passed_as : (plan : Plan) (passed : PassedFrame) (vlan found : ℕ) (header : Eth) (payload : List ℕ) → vlan_of_frame plan (number_of passed.port) passed.octets ≡ Some found → vlan ≡ found → header ≡ header_of (inner passed.octets) → payload ≡ payload_of (inner passed.octets) → Some (frame_with vlan passed.port passed.moment header payload) ≡ vlan_frame plan passed
passed_as plan passed vlan found header payload is same header_is payload_is =
    ap (λ n. Some (frame_with n passed.port passed.moment header payload)) same
    ∙ ap (λ (e : Eth). Some (frame_with found passed.port passed.moment e payload)) header_is
    ∙ ap (λ octets. Some (frame_with found passed.port passed.moment (header_of (inner passed.octets)) octets)) payload_is
    ∙ sym (ap (option_map (frame_of_vlan passed)) is)

-- ports are gone through to the first one of a number

pub first_is : (ports : List PortPlan) (i number : ℕ) (d : PortPlan) → i < length ports → number_of (get_or ports i d).number ≡ number → vlan_among (drop i ports) number ≡ Some (get_or ports i d).vlan
first_is [] i number d within is = absurd (omega (arith, within))
first_is (p ∷ ports) zero number d within is = ap (λ b. cond b (Some p.vlan) (vlan_among ports number)) (eq-eqb (number_of p.number) number is)
first_is (p ∷ ports) (suc i) number d within is = first_is ports i number d (omega (arith, within)) is

pub first_isnt : (ports : List PortPlan) (i number : ℕ) (d : PortPlan) → i < length ports → number_of (get_or ports i d).number ≢ number → vlan_among (drop i ports) number ≡ vlan_among (drop (suc i) ports) number
first_isnt [] i number d within isnt = absurd (omega (arith, within))
first_isnt (p ∷ ports) zero number d within isnt = ap (λ b. cond b (Some p.vlan) (vlan_among ports number)) (ne_eqb (number_of p.number) number isnt)
first_isnt (p ∷ ports) (suc i) number d within isnt = first_isnt ports i number d (omega (arith, within)) isnt
