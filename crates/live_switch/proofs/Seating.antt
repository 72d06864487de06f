-- The seats of one port more.
use Rattle.std.proofs.Common.{ℕ, ◌+◌, List, [], ◌∷◌, ◌++◌, slice_index_or, sym, subst, ◌∙◌, length-append, arith, inl, inr}
use Rattle.std.proofs.Math.Nat.{eq-or-lt_of_le}
use Rattle.savi_kinds.specs.declared.plan.PortPlan.{PortPlan}
use Rattle.live_switch.specs.Seated.{IsSeat, AreSeats}
use Rattle.live_switch.specs.declared.seats.Seat.{Seat}
use Rattle.live_switch.proofs.Dealing.{at_front, at_end}

pub seats_more : (ports : List PortPlan) (count : ℕ) (seats : List Seat) (seat : Seat) → AreSeats ports count seats → ((p : PortPlan) → IsSeat (slice_index_or ports count p) seat) → AreSeats ports (count + 1) (seats ++ seat ∷ [])
seats_more ports count seats seat were here = record {
  size = omega (arith, were.size, length-append seats (seat ∷ []));
  each = λ k p d within.
      elim (eq-or-lt_of_le {n = k} {m = count} (omega arith)) [
        | inl at ↦
            subst (IsSeat (slice_index_or ports k p)) (sym (at_end seats seat k d (at ∙ sym were.size)))
            (subst (λ (j : ℕ). IsSeat (slice_index_or ports j p) seat) (sym at) (here p))
        | inr below ↦
            subst (IsSeat (slice_index_or ports k p)) (sym (at_front seats seat k d (omega (arith, were.size)))) (were.each k p d below)
      ];
}
