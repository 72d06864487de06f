-- One port, read ahead.
use Rattle.std.proofs.Common.{ℕ, ◌<◌, List, length, get_or, subst, Option}
use Rattle.port_worker.specs.declared.port_ends.PortEnds.{PortEnds}
use Rattle.port_worker.specs.Inputs.{IsLooked}
use Rattle.port_worker.proofs.SoFar.{PairsSoFar, element_first}

pub looked_at : {S K C : Type 0} (left : S → Option (List ℕ)) (faults : S → ℕ) (place : ℕ) (old new : List (PortEnds S K C)) (d y : PortEnds S K C) (R : PortEnds S K C → PortEnds S K C → Type 0)
    → PairsSoFar R place old new → place < length new → IsLooked left faults (get_or new place d) y → IsLooked left faults (get_or old place y) y
looked_at {S} {K} {C} left faults place old new d y R so_far inside looked = subst (λ (p : PortEnds S K C). IsLooked left faults p y) (element_first R place old new d y so_far inside) looked
