-- Each packet has an outcome, the one that `chain_of` gives.
use Rattle.std.proofs.Common.{◌≡◌, ℕ, zero, suc, ◌<◌, ◌≤◌, Bool, true, false, List, [], ◌∷◌, ◌++◌, length, take, drop, IsTrue, refl, arith, ap, sym, ◌∙◌, ◌⊎◌, inl, inr, Some, None}
use Rattle.std.proofs.lemmas.Bool.{lt-ltb, le-ltb, cases_lt, cases_Bool, cases_eq, eq-eqb, ne_eqb}
use Rattle.std.proofs.lemmas.List.{append_assoc, length-drop, length-take-le, take-append-drop}
use Rattle.v6_chain.specs.declared.kind.Kind.{Kind}
use Rattle.v6_chain.specs.declared.kind.Kind.TheVariants as kinds
use Rattle.v6_chain.specs.declared.packet.Ip.{Ip}
use Rattle.v6_chain.specs.declared.outcome.Chain.{Chain}
use Rattle.v6_chain.specs.declared.outcome.Chain.TheVariants.{Bad, Unknown, Later, Upper}
use Rattle.v6_chain.specs.declared.outcome.ChainFault.TheVariants.{Cut, HopByHop, Twice}
use Rattle.v6_chain.specs.Packet.{body_of}
use Rattle.v6_chain.specs.Kinds.{kind_of}
use Rattle.v6_chain.specs.Headers.{Header, next_of, size_at, offset_of, has_fragment, is_extension, MayStand, IsPassed, value_behind, AreChained, octets_of}
use Rattle.v6_chain.specs.Outcome.{IsCut, EndsIn, IsOutcome}
use Rattle.v6_chain.specs.ChainOf.{cut_outcome, chain_end, front_header, behind_header, chain_from, chain_of}
use Rattle.v6_chain.proofs.Sizes.{size_least, size_at-append, offset_of-append}
use Rattle.v6_chain.proofs.Unique.{one_outcome}

-- what stands in the first place
may_first : (kind : Kind) → MayStand [] kind
may_first kind = record { hop_by_hop = λ h. refl; fragment = λ h. refl }

-- what is neither hop-by-hop options nor a fragment header
may_other : (before : List Header) (kind : Kind) → (kind ≡ kinds.HopByHop → ⊥) → (kind ≡ kinds.Fragment → ⊥) → MayStand before kind
may_other before kind options fragment = record { hop_by_hop = λ h. absurd (options h); fragment = λ h. absurd (fragment h) }

may_fragment : (before : List Header) → has_fragment before ≡ false → MayStand before kinds.Fragment
may_fragment before once = record { hop_by_hop = λ h. absurd (let e : kinds.Fragment ≡ kinds.HopByHop = h in cc); fragment = λ h. once }

cut_by : (b : Bool) (before : List Header) (value : ℕ) (rest : List ℕ) → has_fragment before ≡ b → IsCut before value rest → EndsIn before value rest (cut_outcome b)
cut_by true before value rest e cut = (cut, e)
cut_by false before value rest e cut = (cut, e)

-- the chain ends here in this way
record EndsHere (kind : Kind) (before : List Header) (value : ℕ) (rest : List ℕ) : Type 0 where
  outcome : Chain
  is : chain_end kind before value rest ≡ Some outcome
  ends : EndsIn before value rest outcome

-- the chain goes on here
record GoesOn (kind : Kind) (before : List Header) (value : ℕ) (rest : List ℕ) : Type 0 where
  is : chain_end kind before value rest ≡ None
  extension : IsTrue (is_extension kind)
  may : MayStand before kind
  fits : size_at kind rest ≤ length rest
  first_fragment : kind ≡ kinds.Fragment → offset_of rest ≡ 0

cut_here : (kind : Kind) (before : List Header) (value : ℕ) (rest : List ℕ) → kind ≡ kind_of value → MayStand before kind → length rest < size_at kind rest → EndsIn before value rest (cut_outcome (has_fragment before))
cut_here kind before value rest kind_is may short =
    let cut : MayStand before kind × (length rest < size_at kind rest) = (may, short) in
    cut_by (has_fragment before) before value rest refl (rw (← kind_is) cut)

-- the chain ends or goes on
decide : (kind : Kind) (before : List Header) (value : ℕ) (rest : List ℕ) → kind ≡ kind_of value → EndsHere kind before value rest ⊎ GoesOn kind before value rest
decide kinds.HopByHop [] value rest kind_is =
    elim (cases_lt (length rest) (size_at kinds.HopByHop rest)) [
      | inl short ↦ inl (record { outcome = Bad Cut; is = rw (lt-ltb _ _ short) refl; ends = cut_here kinds.HopByHop [] value rest kind_is (may_first _) short })
      | inr whole ↦ inr (record { is = rw (le-ltb _ _ whole) refl; extension = refl; may = may_first _; fits = whole; first_fragment = λ h. absurd (let e : kinds.HopByHop ≡ kinds.Fragment = h in cc) })
    ]
decide kinds.HopByHop (last ∷ before) value rest kind_is =
    inl (record { outcome = Bad HopByHop; is = refl; ends = (sym kind_is, λ h. let e : last ∷ before ≡ [] = h in cc) })
decide kinds.Extension before value rest kind_is =
    let may : MayStand before kinds.Extension = may_other before kinds.Extension (λ h. cc) (λ h. cc) in
    elim (cases_lt (length rest) (size_at kinds.Extension rest)) [
      | inl short ↦ inl (record { outcome = cut_outcome (has_fragment before); is = rw (lt-ltb _ _ short) refl; ends = cut_here kinds.Extension before value rest kind_is may short })
      | inr whole ↦ inr (record { is = rw (le-ltb _ _ whole) refl; extension = refl; may = may; fits = whole; first_fragment = λ h. absurd (let e : kinds.Extension ≡ kinds.Fragment = h in cc) })
    ]
decide kinds.Authentication before value rest kind_is =
    let may : MayStand before kinds.Authentication = may_other before kinds.Authentication (λ h. cc) (λ h. cc) in
    elim (cases_lt (length rest) (size_at kinds.Authentication rest)) [
      | inl short ↦ inl (record { outcome = cut_outcome (has_fragment before); is = rw (lt-ltb _ _ short) refl; ends = cut_here kinds.Authentication before value rest kind_is may short })
      | inr whole ↦ inr (record { is = rw (le-ltb _ _ whole) refl; extension = refl; may = may; fits = whole; first_fragment = λ h. absurd (let e : kinds.Authentication ≡ kinds.Fragment = h in cc) })
    ]
decide kinds.Fragment before value rest kind_is =
    elim (cases_Bool (has_fragment before)) [
      | inl twice ↦ inl (record { outcome = Bad Twice; is = rw twice refl; ends = (sym kind_is, twice) })
      | inr once ↦
          elim (cases_lt (length rest) 8) [
            | inl short ↦ inl (record { outcome = cut_outcome (has_fragment before); is = rw (once, lt-ltb _ _ short) refl; ends = cut_here kinds.Fragment before value rest kind_is (may_fragment before once) short })
            | inr whole ↦
                elim (cases_eq (offset_of rest) 0) [
                  | inl front ↦ inr (record { is = rw (once, le-ltb _ _ whole, eq-eqb _ _ front) refl; extension = refl; may = may_fragment before once; fits = whole; first_fragment = λ h. front })
                  | inr later ↦ inl (record { outcome = Later; is = rw (once, le-ltb _ _ whole, ne_eqb _ _ later) refl; ends = (sym kind_is, once, whole, later) })
                ]
          ]
    ]
decide (kinds.Upper least) before value rest kind_is =
    let may : MayStand before (kinds.Upper least) = may_other before (kinds.Upper least) (λ h. cc) (λ h. cc) in
    elim (cases_lt (length rest) least) [
      | inl short ↦ inl (record { outcome = cut_outcome (has_fragment before); is = rw (lt-ltb _ _ short) refl; ends = cut_here (kinds.Upper least) before value rest kind_is may short })
      | inr whole ↦ inl (record { outcome = Upper value (length (octets_of before)) (has_fragment before); is = rw (le-ltb _ _ whole) refl; ends = (rw (← kind_is) whole, refl, refl, refl) })
    ]
decide kinds.Unknown before value rest kind_is = inl (record { outcome = Unknown value; is = refl; ends = (sym kind_is, refl) })

-- the header that is passed
passed : (before : List Header) (value : ℕ) (rest : List ℕ) → GoesOn (kind_of value) before value rest → IsPassed before (front_header value rest)
passed before value rest on =
    let kind : Kind = kind_of value in
    let octets : List ℕ = take (size_at kind rest) rest in
    let tail : List ℕ = drop (size_at kind rest) rest in
    let split : octets ++ tail ≡ rest = take-append-drop (size_at kind rest) rest in
    let least : 8 ≤ size_at kind rest = size_least kind rest on.extension in
    let length_is : length octets ≡ size_at kind rest = length-take-le (size_at kind rest) rest on.fits in
    let long : 8 ≤ length octets = omega (arith, length_is, least) in
    record {
      extension = on.extension;
      may_stand = on.may;
      whole = length_is ∙ ap (λ (x : List ℕ). size_at kind x) (sym split) ∙ size_at-append kind octets tail long;
      first_fragment = λ h. sym (offset_of-append octets tail long) ∙ ap (λ (x : List ℕ). offset_of x) split ∙ on.first_fragment h;
    }

-- headers in front of a body, and the end of their chain
record IsReached (first : ℕ) (body : List ℕ) (outcome : Chain) : Type 0 where
  headers : List Header
  rest : List ℕ
  chained : AreChained first headers
  tiled : body ≡ octets_of headers ++ rest
  ends : EndsIn headers (value_behind first headers) rest outcome

shorter : (size : ℕ) (rest : List ℕ) (more : ℕ) → 8 ≤ size → size ≤ length rest → length rest < suc more → length (drop size rest) < more
shorter size rest more least fits few = omega (arith, length-drop size rest, least, fits, few)

reached : (first more : ℕ) (before : List Header) (rest : List ℕ) → AreChained first before → length rest < more → IsReached first (octets_of before ++ rest) (chain_from more before (value_behind first before) rest)
reached first zero before rest chained few = absurd (omega (arith, few))
reached first (suc more) before rest chained few =
    let value : ℕ = value_behind first before in
    elim (decide (kind_of value) before value rest refl) [
      | inl here ↦ record { headers = before; rest = rest; chained = chained; tiled = refl; ends = rw here.is here.ends }
      | inr on ↦
          let header : Header = front_header value rest in
          let tail : List ℕ = behind_header value rest in
          let least : 8 ≤ size_at (kind_of value) rest = size_least (kind_of value) rest on.extension in
          let further : AreChained first (header ∷ before) = (chained, refl, passed before value rest on) in
          let end : IsReached first (octets_of (header ∷ before) ++ tail) (chain_from more (header ∷ before) (next_of header) tail) =
          reached first more (header ∷ before) tail further (shorter (size_at (kind_of value) rest) rest more least on.fits few) in
          let split : header.octets ++ tail ≡ rest = take-append-drop (size_at (kind_of value) rest) rest in
          record {
            headers = end.headers;
            rest = end.rest;
            chained = end.chained;
            tiled = ap (λ (x : List ℕ). octets_of before ++ x) (sym split) ∙ sym (append_assoc (octets_of before) header.octets tail) ∙ end.tiled;
            ends = rw on.is end.ends;
          }
    ]

-- `chain_of` is an outcome of each packet
pub chain_of-outcome : (ip : Ip) (payload : List ℕ) → IsOutcome ip payload (chain_of ip payload)
chain_of-outcome ip payload =
    let end : IsReached ip.next (body_of ip payload) (chain_of ip payload) = reached ip.next (suc (length (body_of ip payload))) [] (body_of ip payload) tt (omega arith) in
    record { headers = end.headers; rest = end.rest; chained = end.chained; tiled = end.tiled; ends = end.ends }

-- and the only one
pub chain_is : (ip : Ip) (payload : List ℕ) (outcome : Chain) → IsOutcome ip payload outcome → outcome ≡ chain_of ip payload
chain_is ip payload outcome is = one_outcome ip payload outcome (chain_of ip payload) is (chain_of-outcome ip payload)
