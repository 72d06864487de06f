-- Places that weren't opened may be opened.
use Rattle.std.proofs.Common.{◌≡◌, refl, ap, subst, sym, false}
use Rattle.savi_ends.specs.declared.world.Std.{Std}
use Rattle.savi_ends.specs.declared.world.Std.TheVariants.{Out, Err}
use Rattle.savi_ends.specs.Places.{Place, IsReady}
use Rattle.end_places.specs.Spots.{unopened}

-- one that wasn't opened is ready, whatever is asked of an end that is told
pub ready_unopened : {X : Type 0} → (IsFresh : X → Type 0) (place : Place X) → place ≡ unopened → IsReady IsFresh place
ready_unopened IsFresh place same = subst (IsReady IsFresh) (sym same) (record { here = refl; fresh = tt })

pub in_unopened : {X : Type 0} → (place : Place X) → place ≡ unopened → place.is_out ≡ false
in_unopened place same = ap (λ (p : Place _). p.is_out) same

-- both standard outputs
pub std_ready : {X : Type 0} → (IsFresh : X → Type 0) (of : Std → Place X) → of Out ≡ unopened → of Err ≡ unopened
    → (which : Std) → IsReady IsFresh (of which)
std_ready IsFresh of out err Out = ready_unopened IsFresh (of Out) out
std_ready IsFresh of out err Err = ready_unopened IsFresh (of Err) err
