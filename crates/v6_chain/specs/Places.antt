-- A place of the body, and one step of the chain from it.
use Rattle.std.specs.Prelude.{◌≡◌, ℕ, ◌<◌, ◌≤◌, true, false, List, ◌∷◌, ◌++◌, length, take, drop, Option, Some, None}
use Rattle.v6_chain.specs.declared.kind.Kind.{Kind}
use Rattle.v6_chain.specs.declared.kind.Kind.TheVariants as kinds
use Rattle.v6_chain.specs.declared.place.Place.{Place}
use Rattle.v6_chain.specs.declared.place.Step.{Step}
use Rattle.v6_chain.specs.declared.place.Step.TheVariants.{On, End}
use Rattle.v6_chain.specs.declared.outcome.ChainFault.{ChainFault}
use Rattle.v6_chain.specs.declared.outcome.ChainFault.TheVariants.{Cut, HopByHop, Twice}
use Rattle.v6_chain.specs.Kinds.{kind_of}
use Rattle.v6_chain.specs.Headers.{Header, size_at, has_fragment, value_behind, AreChained, octets_of}
use Rattle.v6_chain.specs.Outcome.{EndsIn}

-- the place behind these headers, which stand at the front of the body
pub record IsBehind (first : ℕ) (body : List ℕ) (headers : List Header) (place : Place) : Type 0 where
  pub chained : AreChained first headers
  pub tiled : body ≡ octets_of headers ++ drop place.at body
  pub at : place.at ≡ length (octets_of headers)
  pub next : place.next ≡ value_behind first headers
  pub fragmented : place.fragmented ≡ has_fragment headers

-- the extension header at a place
abbrev pub header_at : List ℕ → Place → Header
header_at body place = record {
  value = place.next;
  octets = take (size_at (kind_of place.next) (drop place.at body)) (drop place.at body);
}

-- the rule that what a place names breaks there, by its kind
abbrev pub IsMisplaced : Kind → Place → Option ChainFault → Type 0
IsMisplaced kind place (Some HopByHop) = (kind ≡ kinds.HopByHop) × (0 < place.at)
IsMisplaced kind place (Some Twice) = (kind ≡ kinds.Fragment) × (place.fragmented ≡ true)
IsMisplaced kind place (Some Cut) = ⊥
IsMisplaced kind place None = (kind ≡ kinds.HopByHop → place.at ≡ 0) × (kind ≡ kinds.Fragment → place.fragmented ≡ false)

-- a step from the place behind these headers: behind one header more, or to the end of the chain
abbrev pub Steps : ℕ → List ℕ → List Header → Place → Step → Type 0
Steps first body headers place (On further) = IsBehind first body (header_at body place ∷ headers) further
Steps first body headers place (End outcome) = EndsIn headers place.next (drop place.at body) outcome

-- a step comes further, within the body
abbrev pub ComesFurther : List ℕ → Place → Step → Type 0
ComesFurther body place (On further) = (place.at < further.at) × (further.at ≤ length body)
ComesFurther body place (End outcome) = Unit {0}
