-- What the octets of a source are to the history, by how the input ended there. `Arrives` says which arrivals some octets
-- are, and how they end; `before` and `after` are what the source had left, where it tells that.
use Rattle.std.specs.Prelude.{ℕ, Bool, true, false, List, [], ◌∷◌, ◌++◌, Option, Some, None, IfSome}
use Rattle.savi_kinds.specs.declared.entry.How.{How}
use Rattle.savi_kinds.specs.declared.entry.How.TheVariants as hows
use Rattle.savi_kinds.specs.Arrivals.{Arrival}
use Rattle.savi_ends.specs.Octets.{Takes}

-- all that the source had left is these arrivals, and ends so
abbrev pub IsWhole : {A : Type 0} → (List ℕ → List A → How → Type 0) → Option (List ℕ) → List A → How → Type 0
IsWhole Arrives before arrivals ending = IfSome before (λ octets. Arrives octets arrivals ending)

-- what the source gave up is these arrivals and one more, for which there was no room
pub record IsCut {A : Type 0} (Arrives : List ℕ → List A → How → Type 0)
    (before after : Option (List ℕ)) (arrivals : List A) : Type 0 where
  pub gave : List ℕ
  pub takes : Takes before after gave
  pub refused : A
  pub read : Arrives gave (arrivals ++ refused ∷ []) hows.End

-- What the source gave up is these arrivals, in front of the read that failed: behind them no whole arrival was read, and
-- none that is at fault.
pub record IsBroken {A : Type 0} (Arrives : List ℕ → List A → How → Type 0)
    (before after : Option (List ℕ)) (arrivals : List A) : Type 0 where
  pub gave : List ℕ
  pub takes : Takes before after gave
  pub read : Arrives gave arrivals hows.Failed

-- The input of a capture ends in no other way. `Arrives` is told whether the input was seen to end.
abbrev pub Fits : (Bool → List ℕ → List Arrival → How → Type 0)
    → Option (List ℕ) → Option (List ℕ) → List Arrival → Option How → Type 0
Fits Arrives before after arrivals (Some hows.End) = IsWhole (Arrives true) before arrivals hows.End
Fits Arrives before after arrivals (Some (hows.Malformed at)) = IsWhole (Arrives true) before arrivals (hows.Malformed at)
Fits Arrives before after arrivals (Some hows.Failed) = IsBroken (Arrives false) before after arrivals
Fits Arrives before after arrivals (Some hows.Paused) = IsCut (Arrives true) before after arrivals
Fits Arrives before after arrivals (Some hows.Quit) = ⊥
Fits Arrives before after arrivals (Some (hows.Overlong at)) = ⊥
Fits Arrives before after arrivals (Some hows.Unwritten) = ⊥
Fits Arrives before after arrivals None = ⊥
