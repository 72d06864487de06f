-- What call after call gave or wrote, joined.
use Rattle.std.proofs.Common.{◌≡◌, ℕ, List, ◌++◌, Option, Some, None, IfSome, refl, ap, sym, append_assoc, ◌∙◌}
use Rattle.savi_ends.specs.Octets.{in_front, behind, Takes}

pub in_front_again : (a b : List ℕ) (o : Option (List ℕ)) → in_front a (in_front b o) ≡ in_front (a ++ b) o
in_front_again a b None = refl
in_front_again a b (Some rest) = ap (λ (l : List ℕ). Some l) (sym (append_assoc a b rest))

pub behind_again : (o : Option (List ℕ)) (a b : List ℕ) → behind (behind o a) b ≡ behind o (a ++ b)
behind_again None a b = refl
behind_again (Some w) a b = ap (λ (l : List ℕ). Some l) (append_assoc w a b)

-- what holds of the octets given so far with any rest holds of what was left at first
pub if_told : (P : List ℕ → Type 0) (gave : List ℕ) (before after : Option (List ℕ)) → before ≡ in_front gave after → ((rest : List ℕ) → after ≡ Some rest → P (gave ++ rest)) → IfSome before P
if_told P gave before None e h = rw e tt
if_told P gave before (Some rest) e h = rw e (h rest refl)

-- what one call took and then what the next one took
pub takes_more : (a b : List ℕ) (before mid after : Option (List ℕ)) → Takes before mid a → Takes mid after b → Takes before after (a ++ b)
takes_more a b before mid after first second = first ∙ ap (in_front a) second ∙ in_front_again a b after
