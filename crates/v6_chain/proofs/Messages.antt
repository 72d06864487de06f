-- The message of an upper header.
use Rattle.std.proofs.Common.{◌≡◌, ℕ, Bool, ◌+◌, ◌≤◌, List, ◌++◌, length, drop, refl, arith, ap, sym, ◌∙◌}
use Rattle.std.proofs.lemmas.List.{length-append, length-take-le, length-drop, drop_at}
use Rattle.v6_chain.specs.declared.packet.Ip.{Ip}
use Rattle.v6_chain.specs.declared.outcome.Chain.{Chain}
use Rattle.v6_chain.specs.declared.outcome.Chain.TheVariants.{Bad, Hidden, Unknown, Later, Upper}
use Rattle.v6_chain.specs.Kinds.{kind_of}
use Rattle.v6_chain.specs.Packet.{body_of}
use Rattle.v6_chain.specs.Headers.{Header, has_fragment, octets_of, value_behind, AreChained}
use Rattle.v6_chain.specs.Outcome.{IsWholeUpper, IsOutcome, IsWithinBody, HidesUpper, Shows, message_of}
use Rattle.v6_chain.proofs.Unique.{one_outcome}

-- the body has as many octets as the payload length says
pub length-body_of : (ip : Ip) (payload : List ℕ) → 40 + ip.len ≤ length payload → length (body_of ip payload) ≡ ip.len
length-body_of ip payload whole = length-take-le ip.len (drop 40 payload) (omega (arith, length-drop 40 payload, whole))

-- an upper header begins within the body
pub within_body : (ip : Ip) (payload : List ℕ) (outcome : Chain) → 40 + ip.len ≤ length payload → IsOutcome ip payload outcome → IsWithinBody ip payload outcome
within_body ip payload (Upper proto at fragmented) whole outcome =
    let joined : length (body_of ip payload) ≡ length (octets_of outcome.headers) + length outcome.rest = ap length outcome.tiled ∙ length-append (octets_of outcome.headers) outcome.rest in
    let at_is : at ≡ length (octets_of outcome.headers) = outcome.ends.2 in
    let message : message_of ip payload at ≡ outcome.rest = ap (λ (x : List ℕ). drop at x) outcome.tiled ∙ drop_at (octets_of outcome.headers) outcome.rest at (sym at_is) in
    let there : IsWholeUpper (kind_of (value_behind ip.next outcome.headers)) outcome.rest = outcome.ends.0 in
    (omega (arith, joined, length-body_of ip payload whole, at_is), rw (outcome.ends.1, message) there)
within_body ip payload (Bad fault) whole outcome = tt
within_body ip payload Hidden whole outcome = tt
within_body ip payload Later whole outcome = tt
within_body ip payload (Unknown unknown) whole outcome = tt

-- a packet shows what stands behind its headers, where an upper header begins there
pub shows_behind : (ip : Ip) (payload : List ℕ) (headers : List Header) (message : List ℕ)
    → AreChained ip.next headers
    → body_of ip payload ≡ octets_of headers ++ message
    → IsWholeUpper (kind_of (value_behind ip.next headers)) message
    → Shows ip payload (value_behind ip.next headers) message (has_fragment headers)
shows_behind ip payload headers message chained tiled whole = (
  length (octets_of headers),
  record { headers = headers; rest = message; chained = chained; tiled = tiled; ends = (whole, refl, refl, refl) },
  sym (ap (λ (x : List ℕ). drop (length (octets_of headers)) x) tiled ∙ drop_at (octets_of headers) message (length (octets_of headers)) refl),
)

-- a packet shows one message
pub one_message : (ip : Ip) (payload : List ℕ) (p q : ℕ) (m n : List ℕ) (f g : Bool) → Shows ip payload p m f → Shows ip payload q n g → (p ≡ q) × (m ≡ n) × (f ≡ g)
one_message ip payload p q m n f g a b =
    let same : Upper p a.0 f ≡ Upper q b.0 g = one_outcome ip payload (Upper p a.0 f) (Upper q b.0 g) a.1 b.1 in
    let at_is : a.0 ≡ b.0 = cc in
    (cc, a.2 ∙ ap (λ (x : ℕ). message_of ip payload x) at_is ∙ sym b.2, cc)

-- and none where it is hidden
pub shows_not_hidden : (ip : Ip) (payload : List ℕ) (proto : ℕ) (message : List ℕ) (fragmented : Bool) → Shows ip payload proto message fragmented → HidesUpper ip payload → ⊥
shows_not_hidden ip payload proto message fragmented shown hidden =
    let same : Upper proto shown.0 fragmented ≡ Hidden = one_outcome ip payload (Upper proto shown.0 fragmented) Hidden shown.1 hidden in
    cc
