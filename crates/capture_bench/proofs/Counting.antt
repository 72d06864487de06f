-- What one call of a reader adds to what was counted.
use Rattle.std.proofs.Common.{◌≡◌, ℕ, List, take, Option, inl, inr, ◌⊎◌, subst}
use Rattle.savi_kinds.specs.declared.arrival.Next.{Next}
use Rattle.savi_kinds.specs.declared.arrival.Next.TheVariants as next
use Rattle.savi_kinds.specs.Arrivals.{Arrival, Frame, Long}
use Rattle.pcap_io.specs.Readers.{State, HasReadOne, Answers}

-- an answer that is a frame, long or not, tells of one arrival
pub one_read : (old new : State) (gave buf : List ℕ) (left : Option (List ℕ)) (answer : Next) → Answers old new gave buf left answer → ((stamp : ℕ) × (len : ℕ) × (answer ≡ next.Frame stamp len)) ⊎ ((stamp : ℕ) × (len : ℕ) × (answer ≡ next.Long stamp len)) → (a : Arrival) × HasReadOne old new gave a
one_read old new gave buf left answer answers (inl is) =
    let frame = subst (λ (given : Next). Answers old new gave buf left given) is.2 answers in
    (Frame is.0 (take is.1 buf), frame.1)
one_read old new gave buf left answer answers (inr is) =
    let long = subst (λ (given : Next). Answers old new gave buf left given) is.2 answers in
    (Long is.0 is.1, long.2)
