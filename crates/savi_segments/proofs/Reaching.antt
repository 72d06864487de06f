-- Control's input comes first, and behind it those of the ports. What was taken of each input so far, with whatever may come
-- behind it, makes of the start what the rest makes of the history so far.
use Rattle.std.proofs.Common.{◌≡◌, ◌≢◌, ℕ, suc, zero, ◌<◌, ◌≤◌, true, false, List, [], ◌∷◌, ◌++◌, map, get_or, set, length, length-set, subst, refl, ap, sym, ◌∙◌, arith, ◌⊎◌, inl, inr, Option, Some, None, append_assoc}
use Rattle.std.proofs.lemmas.Bool.{cases_eq}
use Rattle.std.proofs.lemmas.List.{get_or-set_same, get_or-set_other, get_or_past, set-set, set-get_or, ext_get_or, length-map, get_or-map}
use Rattle.std.specs.List.{filter}
use Rattle.savi_kinds.specs.declared.plan.Plan.{Plan}
use Rattle.savi_history.specs.Passes.{control_pass, pass_count, pass_of}
use Rattle.savi_history.specs.Merges.{merged}
use Rattle.savi_history.specs.Turns.{Turn, who_of, turn_at}
use Rattle.savi_history.specs.Picks.{IsLeast}
use Rattle.savi_history.specs.Replay.{Stops}
use Rattle.savi_history.proofs.Merging.{first_at, merged_none}
use Rattle.savi_segments.specs.Replay.{Run, all_taken, has_ended_in, taken_if_open}
use Rattle.savi_segments.proofs.ForGood.{AreOf, AreSingle, IsOfOne, is_open_in, still_open_in, stopped}
use Rattle.savi_segments.proofs.Order.{cases_below, get_or-map_past, of_open, of_ended, next_turn}

-- the pass of the input at a place
abbrev pub pass_at : Plan → ℕ → ℕ
pass_at plan zero = control_pass plan
pass_at plan (suc k) = k

-- what is known of an input: nothing, its next turn, or that its pass has ended
pub data Head : Type 0 where
  Unread : Head
  Known : (turn : Turn) → Head
  Done : Head

abbrev pub moment_of : Head → Option ℕ
moment_of Unread = None
moment_of (Known turn) = Some (turn_at turn)
moment_of Done = None

-- these turns may be left of the input
abbrev pub IsLeft : Head → List Turn → Type 0
IsLeft Unread turns = Unit {0}
IsLeft (Known turn) turns = (behind : List Turn) × (turns ≡ turn ∷ behind)
IsLeft Done turns = Unit {0}

-- the pass has ended exactly where the input is done
abbrev pub Agrees : Plan → Run → ℕ → Head → Type 0
Agrees plan run pass Unread = has_ended_in plan pass run ≡ false
Agrees plan run pass (Known turn) = has_ended_in plan pass run ≡ false
Agrees plan run pass Done = has_ended_in plan pass run ≡ true

abbrev pub IsRead : Head → Type 0
IsRead Unread = ⊥
IsRead (Known turn) = Unit {0}
IsRead Done = Unit {0}

abbrev pub AllRead : List Head → Type 0
AllRead heads = (k : ℕ) → k < length heads → IsRead (get_or heads k Done)

abbrev pub AllAgree : Plan → Run → List Head → Type 0
AllAgree plan run heads = (k : ℕ) → k < length heads → Agrees plan run (pass_at plan k) (get_or heads k Done)

-- these turns may be left of the inputs, each of the pass at its place
pub record AreLeft (plan : Plan) (heads : List Head) (rest : List (List Turn)) : Type 0 where
  pub size : length rest ≡ length heads
  pub low : (k : ℕ) → k < length heads → pass_at plan k < pass_count plan
  pub of : (k : ℕ) → AreOf plan (pass_at plan k) (get_or rest k [])
  pub each : (k : ℕ) → IsLeft (get_or heads k Done) (get_or rest k [])

-- what was taken of each input, and what is left of it behind that
abbrev pub joined : List (List Turn) → List (List Turn) → List (List Turn)
joined [] rest = []
joined (t ∷ taken) [] = []
joined (t ∷ taken) (r ∷ rest) = (t ++ r) ∷ joined taken rest

abbrev pub Reaches : Plan → Stops → Run → List Head → List (List Turn) → Run → Type 0
Reaches plan stops start heads taken run =
    (rest : List (List Turn)) → AreLeft plan heads rest
    → all_taken plan stops (merged turn_at (joined taken rest)) start ≡ all_taken plan stops (merged turn_at rest) run

single_left : (plan : Plan) (heads : List Head) (rest : List (List Turn)) → AreLeft plan heads rest → AreSingle plan rest
single_left plan heads rest left k = left_at k (cases_below k (length heads))
  where
    left_at : (k : ℕ) → (k < length heads) ⊎ (length heads ≤ k) → IsOfOne plan (get_or rest k [])
    left_at k (inl inside) = record { pass = pass_at plan k; low = left.low k inside; of = left.of k }
    left_at k (inr outside) = record { pass = 0; low = omega arith; of = rw (get_or_past rest k [] (omega (arith, left.size, outside))) tt }

-- the moments of what comes first are those of the heads
moment_is : (plan : Plan) (run : Run) (k : ℕ) (head : Head) (turns : List Turn) → IsRead head → AreOf plan k turns → Agrees plan run k head → IsLeft head turns → first_at turn_at (filter (is_open_in plan run) turns) ≡ moment_of head
moment_is plan run k Unread turns read of agrees left = absurd read
moment_is plan run k (Known turn) turns read of agrees left =
    ap (first_at turn_at) (of_open plan run k turns of agrees) ∙ ap (first_at turn_at) left.1
moment_is plan run k Done turns read of agrees left = ap (first_at turn_at) (of_ended plan run k turns of agrees)

pub moments_are : (plan : Plan) (run : Run) (heads : List Head) (rest : List (List Turn)) → AllRead heads → AllAgree plan run heads → AreLeft plan heads rest
    → map (first_at turn_at) (still_open_in plan run rest) ≡ map moment_of heads
moments_are plan run heads rest read agree left =
    let keeps = filter (is_open_in plan run) in
    let size = left.size in
    let length_left : length (map (first_at turn_at) (map keeps rest)) ≡ length heads = length-map (map keeps rest) (first_at turn_at) ∙ length-map rest keeps ∙ size in
    let length_right = length-map heads moment_of in
    ext_get_or None (map (first_at turn_at) (still_open_in plan run rest)) (map moment_of heads) (omega arith)
    (λ k inside.
    get_or-map_past (first_at turn_at) (map keeps rest) k []
    ∙ ap (first_at turn_at) (get_or-map_past keeps rest k [])
    ∙ moment_is plan run (pass_at plan k) (get_or heads k Done) (get_or rest k []) (read k (omega arith)) (left.of k) (agree k (omega arith)) (left.each k)
    ∙ sym (get_or-map_past moment_of heads k Done))

-- at first nothing was read
pub start_heads : List (List Turn) → List Head
start_heads [] = []
start_heads (t ∷ taken) = Unread ∷ start_heads taken

pub reaches_start : (plan : Plan) (stops : Stops) (start : Run) (heads : List Head) (taken : List (List Turn)) → ((rest : List (List Turn)) → length rest ≡ length heads → joined taken rest ≡ rest)
    → Reaches plan stops start heads taken start
reaches_start plan stops start heads taken none rest left = ap (λ (l : List (List Turn)). all_taken plan stops (merged turn_at l) start) (none rest left.size)

-- one turn goes over from what is left to what was taken
pub joined_move : (taken rest : List (List Turn)) (j : ℕ) (turn : Turn) → joined taken (set rest j (turn ∷ get_or rest j [])) ≡ joined (set taken j (get_or taken j [] ++ turn ∷ [])) rest
joined_move [] rest j turn = refl
joined_move (t ∷ taken) [] zero turn = refl
joined_move (t ∷ taken) [] (suc j) turn = refl
joined_move (t ∷ taken) (r ∷ rest) zero turn = ap (λ (l : List Turn). l ∷ joined taken rest) (sym (append_assoc t (turn ∷ []) r))
joined_move (t ∷ taken) (r ∷ rest) (suc j) turn = ap (λ (l : List (List Turn)). (t ++ r) ∷ l) (joined_move taken rest j turn)

module _ (plan : Plan) (heads : List Head) (j : ℕ) (turn : Turn) (next : Head) (rest : List (List Turn)) (inside : j < length heads) (there : get_or heads j Done ≡ Known turn) (of : pass_of plan (who_of turn) ≡ pass_at plan j) (left : AreLeft plan (set heads j next) rest) where
  abbrev before : List (List Turn)
  before = set rest j (turn ∷ get_or rest j [])

  size_rest : length rest ≡ length heads
  size_rest = left.size ∙ length-set heads j next

  here : get_or before j [] ≡ turn ∷ get_or rest j []
  here = let size = size_rest in get_or-set_same rest j (turn ∷ get_or rest j []) [] (omega arith)

  of_at : (k : ℕ) → (k ≡ j) ⊎ (k ≢ j) → AreOf plan (pass_at plan k) (get_or before k [])
  of_at k (inl same) = rw (same, here) (of, left.of j)
  of_at k (inr other) = rw (get_or-set_other rest j k (turn ∷ get_or rest j []) [] other) (left.of k)

  left_at : (k : ℕ) → (k ≡ j) ⊎ (k ≢ j) → IsLeft (get_or heads k Done) (get_or before k [])
  left_at k (inl same) = rw (same, there) (get_or rest j [], here)
  left_at k (inr other) =
      rw (get_or-set_other rest j k (turn ∷ get_or rest j []) [] other)
      (subst (λ (h : Head). IsLeft h (get_or rest k [])) (get_or-set_other heads j k next Done other) (left.each k))

  left_before : AreLeft plan heads before
  left_before = record {
    size = length-set rest j (turn ∷ get_or rest j []) ∙ size_rest;
    low = λ k inside. left.low k (omega (arith, inside, length-set heads j next));
    of = λ k. of_at k (cases_eq k j);
    each = λ k. left_at k (cases_eq k j);
  }

  back_again : set before j (get_or rest j []) ≡ rest
  back_again = set-set rest j (turn ∷ get_or rest j []) (get_or rest j []) ∙ set-get_or rest j []

-- The turn that comes first is taken and entered.
pub reaches_take : (plan : Plan) (stops : Stops) (start : Run) (heads : List Head) (taken : List (List Turn)) (run : Run) (j : ℕ) (turn : Turn) (next : Head)
    → get_or heads j Done ≡ Known turn → pass_of plan (who_of turn) ≡ pass_at plan j → AllRead heads → AllAgree plan run heads → IsLeast (map moment_of heads) j
    → Reaches plan stops start heads taken run → Reaches plan stops start (set heads j next) (set taken j (get_or taken j [] ++ turn ∷ [])) (taken_if_open plan stops turn run)
reaches_take plan stops start heads taken run j turn next there of read agree least reaches rest left =
    let inside : j < length heads = let inside = least.inside in let size = length-map heads moment_of in omega arith in
    let earlier = before plan heads j turn next rest inside there of left in
    let left_earlier = left_before plan heads j turn next rest inside there of left in
    let running : has_ended_in plan (pass_of plan (who_of turn)) run ≡ false =
    ap (λ (n : ℕ). has_ended_in plan n run) of ∙ subst (λ (h : Head). Agrees plan run (pass_at plan j) h) there (agree j inside) in
    let first : IsLeast (map (first_at turn_at) (still_open_in plan run earlier)) j = rw (moments_are plan run heads earlier read agree left_earlier) least in
    let now = taken_if_open plan stops turn run in
    let step = next_turn plan stops run earlier j turn (get_or rest j []) (single_left plan heads earlier left_earlier) (here plan heads j turn next rest inside there of left) running first in
    ap (λ (l : List (List Turn)). all_taken plan stops (merged turn_at l) start) (sym (joined_move taken rest j turn))
    ∙ reaches earlier left_earlier
    ∙ step
    ∙ ap (λ (l : List (List Turn)). all_taken plan stops (merged turn_at l) now) (back_again plan heads j turn next rest inside there of left)

all_none : (heads : List Head) → ((k : ℕ) → k < length heads → get_or heads k Done ≡ Done) → (k : ℕ) (d : Option ℕ) → k < length (map moment_of heads) → get_or (map moment_of heads) k d ≡ None
all_none heads done k d inside =
    let inside_heads : k < length heads = let size = length-map heads moment_of in omega arith in
    get_or-map moment_of heads k Done d inside_heads ∙ ap moment_of (done k inside_heads)

read_done : (heads : List Head) → ((k : ℕ) → k < length heads → get_or heads k Done ≡ Done) → AllRead heads
read_done heads done k inside = rw (done k inside) tt

-- All inputs have ended: what is left of them changes nothing.
pub reaches_end : (plan : Plan) (stops : Stops) (start : Run) (heads : List Head) (taken : List (List Turn)) (run : Run) (rest : List (List Turn))
    → ((k : ℕ) → k < length heads → get_or heads k Done ≡ Done) → AllAgree plan run heads → AreLeft plan heads rest → Reaches plan stops start heads taken run
    → run ≡ all_taken plan stops (merged turn_at (joined taken rest)) start
reaches_end plan stops start heads taken run rest done agree left reaches =
    let open_now = still_open_in plan run rest in
    let moments = moments_are plan run heads rest (read_done heads done) agree left in
    let none : merged turn_at open_now ≡ [] = merged_none turn_at open_now (rw moments (all_none heads done)) in
    sym (reaches rest left ∙ stopped plan stops run rest (single_left plan heads rest left) ∙ ap (λ (l : List Turn). all_taken plan stops l run) none)
