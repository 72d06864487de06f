-- One place more.
use Rattle.std.proofs.Common.{◌≡◌, ℕ, zero, suc, List, [], ◌∷◌, ◌++◌, refl, slice_get}
use Rattle.end_places.specs.declared.spot.Spot.{Spot}
use Rattle.end_places.specs.Spots.{spot_place, unopened}
use Rattle.end_places.specs.PortPlaces.{place_at, nth_place}

place_at-push : {X : Type 0} (spots : List (Spot X)) (s : Spot X) (n : ℕ) → ((k : ℕ) → place_at (slice_get spots k) ≡ unopened) → spot_place s ≡ unopened → place_at (slice_get (spots ++ s ∷ []) n) ≡ unopened
place_at-push [] s zero all new = new
place_at-push [] s (suc n) all new = refl
place_at-push (x ∷ spots) s zero all new = all 0
place_at-push (x ∷ spots) s (suc n) all new = place_at-push spots s n (λ k. all (suc k)) new

pub nth_place-push : {X : Type 0} (spots : List (Spot X)) (s : Spot X) → ((n : ℕ) → nth_place spots n ≡ unopened) → spot_place s ≡ unopened → (n : ℕ) → nth_place (spots ++ s ∷ []) n ≡ unopened
nth_place-push spots s all new zero = refl
nth_place-push spots s all new (suc n) = place_at-push spots s n (λ k. all (suc k)) new
