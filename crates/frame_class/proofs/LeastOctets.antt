-- The octets that an upper header has at least.
use Rattle.std.proofs.Common.{◌≡◌, ℕ, ◌≤◌, List, length, subst}
use Rattle.v6_chain.specs.Kinds.{kind_of}
use Rattle.v6_chain.specs.Outcome.{IsWholeUpper}

pub icmpv6_least : (proto : ℕ) (message : List ℕ) → proto ≡ 58 → IsWholeUpper (kind_of proto) message → 4 ≤ length message
unfolding kind_of
icmpv6_least proto message is whole = let P : ℕ → Type 0 = λ n. IsWholeUpper (kind_of n) message in subst P is whole

pub udp_least : (proto : ℕ) (message : List ℕ) → proto ≡ 17 → IsWholeUpper (kind_of proto) message → 8 ≤ length message
unfolding kind_of
udp_least proto message is whole = let P : ℕ → Type 0 = λ n. IsWholeUpper (kind_of n) message in subst P is whole
