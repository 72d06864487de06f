-- A packet has one outcome.
use Rattle.std.proofs.Common.{◌≡◌, ℕ, ◌≤◌, List, [], ◌∷◌, ◌++◌, length, take, refl, arith, ap, sym, ◌∙◌, inl, inr}
use Rattle.std.proofs.lemmas.Bool.{cases_lt}
use Rattle.std.proofs.lemmas.List.{append_assoc, append_cancel_left, take_at}
use Rattle.v6_chain.specs.declared.packet.Ip.{Ip}
use Rattle.v6_chain.specs.declared.outcome.Chain.{Chain}
use Rattle.v6_chain.specs.Kinds.{kind_of}
use Rattle.v6_chain.specs.Headers.{Header, size_at, IsPassed, octets_of, value_behind, AreChained}
use Rattle.v6_chain.specs.Outcome.{EndsIn, IsOutcome}
use Rattle.v6_chain.proofs.Sizes.{size_least, size_at-append}
use Rattle.v6_chain.proofs.Ends.{one_end, no_end}

-- two headers of one value at one place are one
same_header : (before behind : List Header) (h k : Header) (r s : List ℕ) → IsPassed before h → IsPassed behind k → h.value ≡ k.value → h.octets ++ r ≡ k.octets ++ s → h ≡ k
same_header before behind h k r s passed passed' value joined =
    let least : 8 ≤ length h.octets = omega (arith, size_least (kind_of h.value) h.octets passed.extension, passed.whole) in
    let least' : 8 ≤ length k.octets = omega (arith, size_least (kind_of k.value) k.octets passed'.extension, passed'.whole) in
    let long : length h.octets ≡ length k.octets =
    passed.whole ∙ sym (size_at-append (kind_of h.value) h.octets r least) ∙ ap (λ (x : List ℕ). size_at (kind_of h.value) x) joined
    ∙ ap (λ (v : ℕ). size_at (kind_of v) (k.octets ++ s)) value ∙ size_at-append (kind_of k.value) k.octets s least' ∙ sym passed'.whole in
    let octets : h.octets ≡ k.octets =
    sym (take_at h.octets r (length h.octets) refl) ∙ ap (λ (x : List ℕ). take (length h.octets) x) joined ∙ take_at k.octets s (length h.octets) (sym long) in
    let first : h ≡ record { value = k.value; octets = h.octets } = ap (λ (v : ℕ). let x : Header = record { value = v; octets = h.octets } in x) value in
    first ∙ ap (λ (o : List ℕ). let x : Header = record { value = k.value; octets = o } in x) octets

-- as many headers in front of one body are the same
same_chain : (first : ℕ) (p q : List Header) (r s : List ℕ) → AreChained first p → AreChained first q → octets_of p ++ r ≡ octets_of q ++ s → length p ≡ length q → p ≡ q
same_chain first [] [] r s cp cq joined as_many = refl
same_chain first [] (k ∷ q) r s cp cq joined as_many = absurd (omega arith)
same_chain first (h ∷ p) [] r s cp cq joined as_many = absurd (omega arith)
same_chain first (h ∷ p) (k ∷ q) r s cp cq joined as_many =
    let whole : octets_of p ++ (h.octets ++ r) ≡ octets_of q ++ (k.octets ++ s) = sym (append_assoc (octets_of p) h.octets r) ∙ joined ∙ append_assoc (octets_of q) k.octets s in
    let before : p ≡ q = same_chain first p q (h.octets ++ r) (k.octets ++ s) cp.0 cq.0 whole (omega arith) in
    let rest : h.octets ++ r ≡ k.octets ++ s = append_cancel_left (octets_of q) (h.octets ++ r) (k.octets ++ s) (ap (λ (x : List Header). octets_of x ++ (h.octets ++ r)) (sym before) ∙ whole) in
    let value : h.value ≡ k.value = cp.1 ∙ ap (λ (x : List Header). value_behind first x) before ∙ sym cq.1 in
    let header : h ≡ k = same_header p q h k r s cp.2 cq.2 value rest in
    cc

-- behind the end of the chain there is no header
no_longer : (first : ℕ) (p q : List Header) (r s : List ℕ) (outcome : Chain) → AreChained first p → EndsIn p (value_behind first p) r outcome → AreChained first q → octets_of p ++ r ≡ octets_of q ++ s → length q ≤ length p
no_longer first p [] r s outcome cp ends cq joined = omega arith
no_longer first p (k ∷ q) r s outcome cp ends cq joined =
    let whole : octets_of p ++ r ≡ octets_of q ++ (k.octets ++ s) = joined ∙ append_assoc (octets_of q) k.octets s in
    let fewer : length q ≤ length p = no_longer first p q r (k.octets ++ s) outcome cp ends cq.0 whole in
    elim (cases_lt (length q) (length p)) [
      | inl less ↦ omega arith
      | inr more ↦
          let before : p ≡ q = same_chain first p q r (k.octets ++ s) cp cq.0 whole (omega arith) in
          let rest : r ≡ k.octets ++ s = append_cancel_left (octets_of q) r (k.octets ++ s) (ap (λ (x : List Header). octets_of x ++ r) (sym before) ∙ whole) in
          let value : value_behind first p ≡ k.value = ap (λ (x : List Header). value_behind first x) before ∙ sym cq.1 in
          let there : EndsIn q k.value (k.octets ++ s) outcome = rw (← before, ← value, ← rest) ends in
          absurd (no_end q k s outcome cq.2 there)
    ]

pub one_outcome : (ip : Ip) (payload : List ℕ) (a b : Chain) → IsOutcome ip payload a → IsOutcome ip payload b → a ≡ b
one_outcome ip payload a b ha hb =
    let joined : octets_of ha.headers ++ ha.rest ≡ octets_of hb.headers ++ hb.rest = sym ha.tiled ∙ hb.tiled in
    let fewer : length hb.headers ≤ length ha.headers = no_longer ip.next ha.headers hb.headers ha.rest hb.rest a ha.chained ha.ends hb.chained joined in
    let more : length ha.headers ≤ length hb.headers = no_longer ip.next hb.headers ha.headers hb.rest ha.rest b hb.chained hb.ends ha.chained (sym joined) in
    let headers : ha.headers ≡ hb.headers = same_chain ip.next ha.headers hb.headers ha.rest hb.rest ha.chained hb.chained joined (omega arith) in
    let rest : ha.rest ≡ hb.rest = append_cancel_left (octets_of hb.headers) ha.rest hb.rest (ap (λ (x : List Header). octets_of x ++ ha.rest) (sym headers) ∙ joined) in
    let ends : EndsIn hb.headers (value_behind ip.next hb.headers) hb.rest a = rw (← headers, ← rest) ha.ends in
    one_end hb.headers (value_behind ip.next hb.headers) hb.rest a b ends hb.ends
