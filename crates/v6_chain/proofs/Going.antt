-- Going on from one header to the next.
use Rattle.std.proofs.Common.{◌≡◌, ℕ, ◌+◌, ◌<◌, ◌≤◌, Bool, false, List, [], ◌∷◌, ◌++◌, length, take, drop, slice_index, IsTrue, refl, arith, ap, sym, ◌∙◌, ◌||◌, ◌⊎◌, inl, inr}
use Rattle.std.proofs.lemmas.List.{length-append, append_assoc, length-take-le, get_or_append_left, take-append-drop, drop-drop}
use Rattle.v6_chain.specs.declared.kind.Kind.{Kind}
use Rattle.v6_chain.specs.declared.kind.Kind.TheVariants.{HopByHop, Extension, Authentication, Fragment}
use Rattle.v6_chain.specs.declared.place.Place.{Place}
use Rattle.v6_chain.specs.Kinds.{kind_of}
use Rattle.v6_chain.specs.Headers.{Header, size_at, offset_of, is_extension, is_fragment, has_fragment, MayStand, octets_of, AreChained}
use Rattle.v6_chain.specs.declared.packet.Ip.{Ip}
use Rattle.v6_chain.specs.declared.outcome.Chain.{Chain}
use Rattle.v6_chain.specs.Packet.{body_of}
use Rattle.v6_chain.specs.Outcome.{IsCut, EndsIn, IsOutcome}
use Rattle.v6_chain.specs.Places.{IsBehind, header_at}
use Rattle.v6_chain.proofs.Sizes.{size_least, size_at-append, offset_of-append}

-- a header has octets
pub no_headers : (first : ℕ) (headers : List Header) → AreChained first headers → length (octets_of headers) ≡ 0 → headers ≡ []
no_headers first [] chained h = refl
no_headers first (last ∷ before) chained h =
    let least : 8 ≤ size_at (kind_of last.value) last.octets = size_least _ last.octets chained.2.extension in
    absurd (omega (arith, length-append (octets_of before) last.octets, chained.2.whole))

-- what isn't misplaced may stand
pub may_stand : (first : ℕ) (body : List ℕ) (headers : List Header) (place : Place) (kind : Kind) → IsBehind first body headers place → (kind ≡ HopByHop → place.at ≡ 0) → (kind ≡ Fragment → place.fragmented ≡ false) → MayStand headers kind
may_stand first body headers place kind behind at_start once = record {
  hop_by_hop = λ h. no_headers first headers behind.chained (let start : place.at ≡ 0 = at_start h in (cc behind.at));
  fragment = λ h. (let single : place.fragmented ≡ false = once h in (cc behind.fragmented));
}

-- what may stand and doesn't fit is cut
pub is_cut : (first : ℕ) (body : List ℕ) (headers : List Header) (place : Place) (kind : Kind) (size : ℕ) (rest : List ℕ)
    → IsBehind first body headers place
    → kind ≡ kind_of place.next
    → (kind ≡ HopByHop → place.at ≡ 0)
    → (kind ≡ Fragment → place.fragmented ≡ false)
    → rest ≡ drop place.at body
    → size ≡ size_at kind rest
    → length rest < size
    → IsCut headers place.next (drop place.at body)
is_cut first body headers place kind size rest behind kind_is at_start once rest_is size_is short =
    let may : MayStand headers kind = may_stand first body headers place kind behind at_start once in
    let cut : MayStand headers kind × (length rest < size_at kind rest) = (may, omega (arith, size_is, short)) in
    rw (← kind_is, ← rest_is) cut

-- behind a header that is passed is the place after it
pub goes_on : (first : ℕ) (body : List ℕ) (headers : List Header) (place : Place) (size next : ℕ) (fragmented : Bool)
    → IsBehind first body headers place
    → size ≡ size_at (kind_of place.next) (drop place.at body)
    → size ≤ length (drop place.at body)
    → IsTrue (is_extension (kind_of place.next))
    → MayStand headers (kind_of place.next)
    → (kind_of place.next ≡ Fragment → offset_of (drop place.at body) ≡ 0)
    → next ≡ slice_index (drop place.at body) 0
    → fragmented ≡ (is_fragment (kind_of place.next) || has_fragment headers)
    → IsBehind first body (header_at body place ∷ headers) (record { next = next; at = place.at + size; fragmented = fragmented })
goes_on first body headers place size next fragmented behind size_is fits extension may first_fragment next_is fragmented_is =
    let kind : Kind = kind_of place.next in
    let rest : List ℕ = drop place.at body in
    let octets : List ℕ = take (size_at kind rest) rest in
    let tail : List ℕ = drop (size_at kind rest) rest in
    let split : octets ++ tail ≡ rest = take-append-drop (size_at kind rest) rest in
    let least : 8 ≤ size_at kind rest = size_least kind rest extension in
    let length_is : length octets ≡ size_at kind rest = length-take-le (size_at kind rest) rest (omega (arith, size_is, fits)) in
    let long : 8 ≤ length octets = omega (arith, length_is, least) in
    let some : 0 < length octets = omega (arith, long) in
    record {
      chained = (
        behind.chained,
        behind.next,
        record {
          extension = extension;
          may_stand = may;
          whole = length_is ∙ ap (λ (x : List ℕ). size_at kind x) (sym split) ∙ size_at-append kind octets tail long;
          first_fragment = λ h. sym (offset_of-append octets tail long) ∙ ap (λ (x : List ℕ). offset_of x) split ∙ first_fragment h;
        },
      );
      tiled = behind.tiled ∙ ap (λ (x : List ℕ). octets_of headers ++ x) (sym split) ∙ sym (append_assoc (octets_of headers) octets tail) ∙ ap (λ (x : List ℕ). (octets_of headers ++ octets) ++ x) (drop-drop (size_at kind rest) place.at body ∙ ap (λ (x : ℕ). drop (place.at + x) body) (sym size_is));
      at = omega (arith, behind.at, length-append (octets_of headers) octets, length_is, size_is);
      next = next_is ∙ ap (λ (x : List ℕ). slice_index x 0) (sym split) ∙ get_or_append_left octets tail 0 0 some;
      fragmented = fragmented_is;
    }

-- the same by the kind and the octets that a step has seen, where neither rule of place is broken
pub passes : (first : ℕ) (body : List ℕ) (headers : List Header) (place : Place) (kind : Kind) (rest : List ℕ) (size : ℕ) (fragmented : Bool)
    → IsBehind first body headers place
    → kind ≡ kind_of place.next
    → rest ≡ drop place.at body
    → (kind ≡ HopByHop → place.at ≡ 0)
    → (kind ≡ Fragment → place.fragmented ≡ false)
    → IsTrue (is_extension kind)
    → size ≡ size_at kind rest
    → size ≤ length rest
    → (kind ≡ Fragment → offset_of rest ≡ 0)
    → fragmented ≡ (is_fragment kind || place.fragmented)
    → IsBehind first body (header_at body place ∷ headers) (record { next = slice_index rest 0; at = place.at + size; fragmented = fragmented })
passes first body headers place kind rest size fragmented behind kind_is rest_is at_start once extension size_is fits first_fragment fragmented_is =
    goes_on first body headers place size (slice_index rest 0) fragmented behind
    (size_is ∙ ap (λ (k : Kind). size_at k rest) kind_is ∙ ap (λ (x : List ℕ). size_at (kind_of place.next) x) rest_is)
    (rw (← rest_is) fits)
    (rw (← kind_is) extension)
    (rw (← kind_is) (may_stand first body headers place kind behind at_start once))
    (λ h. rw (← rest_is) (first_fragment (kind_is ∙ h)))
    (ap (λ (x : List ℕ). slice_index x 0) rest_is)
    (fragmented_is ∙ ap (λ (k : Kind). is_fragment k || place.fragmented) kind_is ∙ ap (λ (b : Bool). is_fragment (kind_of place.next) || b) behind.fragmented)

-- the extension headers that aren't fragment headers
pub unfragmented : (kind : Kind) → (kind ≡ HopByHop) ⊎ ((kind ≡ Extension) ⊎ (kind ≡ Authentication)) → IsTrue (is_extension kind) × (is_fragment kind ≡ false) × (kind ≡ Fragment → ⊥)
unfragmented kind (inl h) = rw h (refl, refl, λ e. cc)
unfragmented kind (inr (inl h)) = rw h (refl, refl, λ e. cc)
unfragmented kind (inr (inr h)) = rw h (refl, refl, λ e. cc)

-- the loop's invariant: some headers stand before the place
pub record IsUnderway (first : ℕ) (body : List ℕ) (place : Place) : Type 0 where
  pub headers : List Header
  pub behind : IsBehind first body headers place
  pub within : place.at ≤ length body

-- the end of the chain is the packet's outcome
pub comes_to : (ip : Ip) (payload body : List ℕ) (headers : List Header) (place : Place) (outcome : Chain)
    → body ≡ body_of ip payload
    → IsBehind ip.next body headers place
    → EndsIn headers place.next (drop place.at body) outcome
    → IsOutcome ip payload outcome
comes_to ip payload body headers place outcome body_is behind ends = record {
  headers = headers;
  rest = drop place.at body;
  chained = behind.chained;
  tiled = sym body_is ∙ behind.tiled;
  ends = rw (← behind.next) ends;
}
