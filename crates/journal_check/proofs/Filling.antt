-- A piece that was read in place of one of which nothing was held.
use Rattle.std.proofs.Common.{◌≡◌, ◌≤◌, ℕ, List, [], take, drop, length-take, Option, ap, ◌∙◌, arith}
use Rattle.std.proofs.lemmas.List.{drop_all}
use Rattle.savi_ends.specs.Octets.{in_front}
use Rattle.journal_check.proofs.FeedPlaces.{in_front_none}

-- nothing is held from the end on
pub none_held : (piece : List ℕ) (at end : ℕ) → end ≤ at → drop at (take end piece) ≡ []
none_held piece at end over = let size = length-take end piece in drop_all at (take end piece) (omega (arith, over, size))

-- what is to come is what the source has left
pub left_to_come : (piece : List ℕ) (at end : ℕ) (left : Option (List ℕ)) → end ≤ at → in_front (drop at (take end piece)) left ≡ left
left_to_come piece at end left over = ap (λ (l : List ℕ). in_front l left) (none_held piece at end over) ∙ in_front_none left
