-- What was taken of several lists of turns so far, with whatever is left behind it, comes together as what was taken in all,
-- and then what is left.
use Rattle.std.proofs.Common.{◌≡◌, ◌≢◌, ℕ, suc, zero, ◌<◌, ◌≤◌, List, [], ◌∷◌, ◌++◌, map, get_or, set, length, length-set, subst, refl, ap, sym, ◌∙◌, arith, ◌⊎◌, inl, inr, None, append_assoc, append-nil}
use Rattle.std.proofs.lemmas.Bool.{cases_eq, cases_lt}
use Rattle.std.proofs.lemmas.List.{get_or-set_same, get_or-set_other, get_or_past, set-set, set-get_or, ext_get_or, length-map}
use Rattle.savi_history.specs.Merges.{merged}
use Rattle.savi_history.specs.Turns.{Turn, turn_at}
use Rattle.savi_history.specs.Picks.{IsLeast}
use Rattle.savi_history.proofs.Merging.{first_at, picked}
use Rattle.savi_segments.proofs.Order.{get_or-map_past}
use Rattle.savi_segments.proofs.Reaching.{Head, Unread, Known, Done, moment_of, IsRead, AllRead, joined, joined_move}

-- these turns may be left of an input of which that is known
abbrev pub IsRest : Head → List Turn → Type 0
IsRest Unread turns = Unit {0}
IsRest (Known turn) turns = (behind : List Turn) × (turns ≡ turn ∷ behind)
IsRest Done turns = turns ≡ []

pub record AreRest (heads : List Head) (rest : List (List Turn)) : Type 0 where
  pub size : length rest ≡ length heads
  pub each : (k : ℕ) → IsRest (get_or heads k Done) (get_or rest k [])

abbrev pub Reaches : List Head → List (List Turn) → List Turn → Type 0
Reaches heads taken past = (rest : List (List Turn)) → AreRest heads rest → merged turn_at (joined taken rest) ≡ past ++ merged turn_at rest

-- nothing of any
abbrev pub nothing_of : {X : Type 0} → List X → List (List Turn)
nothing_of [] = []
nothing_of (x ∷ xs) = [] ∷ nothing_of xs

pub nothing_size : {X : Type 0} (xs : List X) → length (nothing_of xs) ≡ length xs
nothing_size [] = refl
nothing_size (x ∷ xs) = ap (λ (n : ℕ). suc n) (nothing_size xs)

pub nothing_at : {X : Type 0} (xs : List X) (k : ℕ) → get_or (nothing_of xs) k [] ≡ []
nothing_at [] k = refl
nothing_at (x ∷ xs) zero = refl
nothing_at (x ∷ xs) (suc k) = nothing_at xs k

merged_nothing : {X : Type 0} (xs : List X) → merged turn_at (nothing_of xs) ≡ []
merged_nothing [] = refl
merged_nothing (x ∷ xs) = merged_nothing xs

joined_nothing : {X : Type 0} (xs : List X) (rest : List (List Turn)) → length rest ≡ length xs → joined (nothing_of xs) rest ≡ rest
joined_nothing [] [] size = refl
joined_nothing [] (r ∷ rest) size = absurd (omega arith)
joined_nothing (x ∷ xs) [] size = absurd (omega arith)
joined_nothing (x ∷ xs) (r ∷ rest) size = ap (λ (l : List (List Turn)). r ∷ l) (joined_nothing xs rest (omega arith))

-- at first nothing was taken
pub reaches_start : {X : Type 0} (heads : List Head) (xs : List X) → length heads ≡ length xs → Reaches heads (nothing_of xs) []
reaches_start heads xs size rest left = ap (merged turn_at) (joined_nothing xs rest (left.size ∙ size))

-- to know more of the inputs leaves fewer rests
pub reaches_looked : (old new : List Head) (taken : List (List Turn)) (past : List Turn) → length new ≡ length old → ((k : ℕ) (turns : List Turn) → IsRest (get_or new k Done) turns → IsRest (get_or old k Done) turns) → Reaches old taken past → Reaches new taken past
reaches_looked old new taken past size less reaches rest left = reaches rest (record { size = left.size ∙ size; each = λ k. less k (get_or rest k []) (left.each k) })

moment_is : (head : Head) (turns : List Turn) → IsRead head → IsRest head turns → first_at turn_at turns ≡ moment_of head
moment_is Unread turns read left = absurd read
moment_is (Known turn) turns read left = ap (first_at turn_at) left.1
moment_is Done turns read left = ap (first_at turn_at) left

read_at : (heads : List Head) (k : ℕ) → AllRead heads → (k < length heads) ⊎ (length heads ≤ k) → IsRead (get_or heads k Done)
read_at heads k read (inl inside) = read k inside
read_at heads k read (inr outside) = rw (get_or_past heads k Done outside) tt

moments_are : (heads : List Head) (rest : List (List Turn)) → AllRead heads → AreRest heads rest → map (first_at turn_at) rest ≡ map moment_of heads
moments_are heads rest read left =
    let size = left.size in
    let length_left = length-map rest (first_at turn_at) in
    let length_right = length-map heads moment_of in
    ext_get_or None (map (first_at turn_at) rest) (map moment_of heads) (omega arith)
    (λ k inside.
    get_or-map_past (first_at turn_at) rest k []
    ∙ moment_is (get_or heads k Done) (get_or rest k []) (read_at heads k read (cases_lt k (length heads))) (left.each k)
    ∙ sym (get_or-map_past moment_of heads k Done))

front_is : (x y : Turn) (xs ys : List Turn) → x ∷ xs ≡ y ∷ ys → x ≡ y
front_is x y xs ys e = cc

behind_is : (x y : Turn) (xs ys : List Turn) → x ∷ xs ≡ y ∷ ys → xs ≡ ys
behind_is x y xs ys e = cc

module _ (heads : List Head) (j : ℕ) (turn : Turn) (next : Head) (rest : List (List Turn)) (inside : j < length heads) (there : get_or heads j Done ≡ Known turn) (left : AreRest (set heads j next) rest) where
  abbrev before : List (List Turn)
  before = set rest j (turn ∷ get_or rest j [])

  size_rest : length rest ≡ length heads
  size_rest = left.size ∙ length-set heads j next

  here : get_or before j [] ≡ turn ∷ get_or rest j []
  here = let size = size_rest in get_or-set_same rest j (turn ∷ get_or rest j []) [] (omega arith)

  rest_at : (k : ℕ) → (k ≡ j) ⊎ (k ≢ j) → IsRest (get_or heads k Done) (get_or before k [])
  rest_at k (inl same) = rw (same, there) (get_or rest j [], here)
  rest_at k (inr other) =
      rw (get_or-set_other rest j k (turn ∷ get_or rest j []) [] other)
      (subst (λ (h : Head). IsRest h (get_or rest k [])) (get_or-set_other heads j k next Done other) (left.each k))

  rest_before : AreRest heads before
  rest_before = record {
    size = length-set rest j (turn ∷ get_or rest j []) ∙ size_rest;
    each = λ k. rest_at k (cases_eq k j);
  }

  back_again : set before j (get_or rest j []) ≡ rest
  back_again = set-set rest j (turn ∷ get_or rest j []) (get_or rest j []) ∙ set-get_or rest j []

-- The turn that comes first is taken.
pub reaches_take : (heads : List Head) (taken : List (List Turn)) (past : List Turn) (j : ℕ) (turn : Turn) (next : Head)
    → get_or heads j Done ≡ Known turn → AllRead heads → IsLeast (map moment_of heads) j
    → Reaches heads taken past → Reaches (set heads j next) (set taken j (get_or taken j [] ++ turn ∷ [])) (past ++ turn ∷ [])
reaches_take heads taken past j turn next there read least reaches rest left =
    let inside : j < length heads = let inside = least.inside in let size = length-map heads moment_of in omega arith in
    let earlier = before heads j turn next rest inside there left in
    let left_earlier = rest_before heads j turn next rest inside there left in
    let first : IsLeast (map (first_at turn_at) earlier) j = rw (moments_are heads earlier read left_earlier) least in
    let p = picked turn_at earlier j first in
    let same : turn ∷ get_or rest j [] ≡ p.turn ∷ p.left = sym (here heads j turn next rest inside there left) ∙ p.there in
    let turn_is : p.turn ≡ turn = sym (front_is turn p.turn (get_or rest j []) p.left same) in
    let left_is : p.left ≡ get_or rest j [] = sym (behind_is turn p.turn (get_or rest j []) p.left same) in
    let split : merged turn_at earlier ≡ turn ∷ merged turn_at rest =
    p.first
    ∙ ap (λ (t : Turn). t ∷ merged turn_at (set earlier j p.left)) turn_is
    ∙ ap (λ (l : List Turn). turn ∷ merged turn_at (set earlier j l)) left_is
    ∙ ap (λ (l : List (List Turn)). turn ∷ merged turn_at l) (back_again heads j turn next rest inside there left) in
    ap (merged turn_at) (sym (joined_move taken rest j turn))
    ∙ reaches earlier left_earlier
    ∙ ap (λ (l : List Turn). past ++ l) split
    ∙ sym (append_assoc past (turn ∷ []) (merged turn_at rest))

joined_end : (taken : List (List Turn)) → joined taken (nothing_of taken) ≡ taken
joined_end [] = refl
joined_end (t ∷ taken) = ap (λ (l : List (List Turn)). (t ++ []) ∷ l) (joined_end taken) ∙ ap (λ (l : List Turn). l ∷ taken) (append-nil t)

end_at : (heads : List Head) (k : ℕ) → ((n : ℕ) → n < length heads → get_or heads n Done ≡ Done) → (k < length heads) ⊎ (length heads ≤ k) → get_or heads k Done ≡ Done
end_at heads k done (inl inside) = done k inside
end_at heads k done (inr outside) = get_or_past heads k Done outside

-- All inputs have ended: what was taken of each comes together as what was taken in all.
pub reaches_end : (heads : List Head) (taken : List (List Turn)) (past : List Turn) → length taken ≡ length heads → ((k : ℕ) → k < length heads → get_or heads k Done ≡ Done) → Reaches heads taken past → past ≡ merged turn_at taken
reaches_end heads taken past size done reaches =
    let rest = nothing_of taken in
    let left : AreRest heads rest = record {
      size = nothing_size taken ∙ size;
      each = λ k. rw (end_at heads k done (cases_lt k (length heads))) (nothing_at taken k);
    } in
    sym (sym (ap (merged turn_at) (joined_end taken)) ∙ reaches rest left ∙ ap (λ (l : List Turn). past ++ l) (merged_nothing taken) ∙ append-nil past)
