-- One turn after another, where of each input only what was read is known.
use Rattle.std.proofs.Common.{◌≡◌, ◌≢◌, ℕ, suc, zero, ◌<◌, ◌≤◌, not, Bool, true, false, List, [], ◌∷◌, map, get_or, set, length, length-set, subst, refl, ap, sym, ◌∙◌, arith, ◌⊎◌, inl, inr, cond}
use Rattle.std.proofs.lemmas.Bool.{cases_eq}
use Rattle.std.proofs.lemmas.List.{get_or-set_same, get_or-set_other, get_or_past, map-set}
use Rattle.std.specs.List.{filter}
use Rattle.savi_kinds.specs.declared.plan.Plan.{Plan}
use Rattle.savi_history.specs.Passes.{pass_count, pass_of}
use Rattle.savi_history.specs.Merges.{merged}
use Rattle.savi_history.specs.Turns.{Turn, who_of, turn_at}
use Rattle.savi_history.specs.Picks.{IsLeast}
use Rattle.savi_history.specs.Replay.{Stops}
use Rattle.savi_history.proofs.Merging.{first_at, picked}
use Rattle.savi_segments.specs.Replay.{Run, all_taken, has_ended_in, taken_if_open}
use Rattle.savi_segments.proofs.EachTurn.{Each}
use Rattle.savi_segments.proofs.ForGood.{AreOf, AreSingle, IsLow, IsOfOne, LaterIn, is_open_in, later_if_open, low_of, still_open_in, stopped}

-- where a list ends, its default stands
pub get_or-map_past : {X Y : Type 0} (f : X → Y) (xs : List X) (k : ℕ) (d : X) → get_or (map f xs) k (f d) ≡ f (get_or xs k d)
get_or-map_past f [] k d = refl
get_or-map_past f (x ∷ xs) zero d = refl
get_or-map_past f (x ∷ xs) (suc k) d = get_or-map_past f xs k d

-- of the turns of one pass all are kept, or none
pub of_open : (plan : Plan) (run : Run) (pass : ℕ) (xs : List Turn) → AreOf plan pass xs → has_ended_in plan pass run ≡ false → filter (is_open_in plan run) xs ≡ xs
of_open plan run pass [] of is = refl
of_open plan run pass (x ∷ xs) of is =
    let open_x : is_open_in plan run x ≡ true = ap (λ (n : ℕ). not (has_ended_in plan n run)) of.0 ∙ ap not is in
    rw open_x (ap (λ (l : List Turn). x ∷ l) (of_open plan run pass xs of.1 is))

pub of_ended : (plan : Plan) (run : Run) (pass : ℕ) (xs : List Turn) → AreOf plan pass xs → has_ended_in plan pass run ≡ true → filter (is_open_in plan run) xs ≡ []
of_ended plan run pass [] of is = refl
of_ended plan run pass (x ∷ xs) of is =
    let open_x : is_open_in plan run x ≡ false = ap (λ (n : ℕ). not (has_ended_in plan n run)) of.0 ∙ ap not is in
    rw open_x (of_ended plan run pass xs of.1 is)

of_filter_at : (plan : Plan) (keeps : Turn → Bool) (pass : ℕ) (x : Turn) (xs : List Turn) (b : Bool) → pass_of plan (who_of x) ≡ pass → AreOf plan pass (filter keeps xs) → AreOf plan pass (cond b (x ∷ filter keeps xs) (filter keeps xs))
of_filter_at plan keeps pass x xs true is of = (is, of)
of_filter_at plan keeps pass x xs false is of = of

of_filter : (plan : Plan) (keeps : Turn → Bool) (pass : ℕ) (xs : List Turn) → AreOf plan pass xs → AreOf plan pass (filter keeps xs)
of_filter plan keeps pass [] of = tt
of_filter plan keeps pass (x ∷ xs) of = of_filter_at plan keeps pass x xs (keeps x) of.0 (of_filter plan keeps pass xs of.1)

single_open : (plan : Plan) (run : Run) (inputs : List (List Turn)) → AreSingle plan inputs → AreSingle plan (still_open_in plan run inputs)
single_open plan run inputs single k = record {
  pass = (single k).pass;
  low = (single k).low;
  of = rw (get_or-map_past (filter (is_open_in plan run)) inputs k []) (of_filter plan (is_open_in plan run) (single k).pass (get_or inputs k []) (single k).of);
}

single_set_at : (plan : Plan) (inputs : List (List Turn)) (j pass : ℕ) (xs : List Turn) → pass < pass_count plan → AreOf plan pass xs → AreSingle plan inputs → (k : ℕ) → (k ≡ j) ⊎ (k ≢ j) → (k < length inputs) ⊎ (length inputs ≤ k)
    → IsOfOne plan (get_or (set inputs j xs) k [])
single_set_at plan inputs j pass xs low of single k (inl same) (inl inside) = record { pass = pass; low = low; of = rw (same, get_or-set_same inputs j xs [] (omega (arith, same, inside))) of }
single_set_at plan inputs j pass xs low of single k (inr other) range = record { pass = (single k).pass; low = (single k).low; of = rw (get_or-set_other inputs j k xs [] other) (single k).of }
single_set_at plan inputs j pass xs low of single k (inl same) (inr outside) = record { pass = pass; low = low; of = rw (get_or_past (set inputs j xs) k [] (omega (arith, outside, length-set inputs j xs))) tt }

pub cases_below : (k n : ℕ) → (k < n) ⊎ (n ≤ k)
cases_below k n = grind arith

pub single_set : (plan : Plan) (inputs : List (List Turn)) (j pass : ℕ) (xs : List Turn) → pass < pass_count plan → AreOf plan pass xs → AreSingle plan inputs → AreSingle plan (set inputs j xs)
single_set plan inputs j pass xs low of single k = single_set_at plan inputs j pass xs low of single k (cases_eq k j) (cases_below k (length inputs))

filter_again_at : (p q : Turn → Bool) (x : Turn) (xs : List Turn) (b c : Bool) → q x ≡ b → p x ≡ c → (q x ≡ true → p x ≡ true) → filter q (filter p xs) ≡ filter q xs → filter q (filter p (x ∷ xs)) ≡ filter q (x ∷ xs)
filter_again_at p q x xs b true is_q is_p implies step = rw is_p (ap (λ (l : List Turn). cond (q x) (x ∷ l) l) step)
filter_again_at p q x xs true false is_q is_p implies step = let e = implies is_q in cc
filter_again_at p q x xs false false is_q is_p implies step = rw (is_p, is_q) step

filter_again : (p q : Turn → Bool) (xs : List Turn) → Each (λ x. q x ≡ true → p x ≡ true) xs → filter q (filter p xs) ≡ filter q xs
filter_again p q [] implies = refl
filter_again p q (x ∷ xs) implies = filter_again_at p q x xs (q x) (p x) refl refl implies.0 (filter_again p q xs implies.1)

open_before_at : (a b : Bool) → (a ≡ true → b ≡ true) → not b ≡ true → not a ≡ true
open_before_at true b later is = let e = later refl in cc
open_before_at false b later is = refl

-- a turn that is open behind others was open before them
open_before : (plan : Plan) (before now : Run) (xs : List Turn) → Each (IsLow plan) xs → LaterIn plan before now → Each (λ x. is_open_in plan now x ≡ true → is_open_in plan before x ≡ true) xs
open_before plan before now [] low later = tt
open_before plan before now (x ∷ xs) low later =
    (λ is. open_before_at (has_ended_in plan (pass_of plan (who_of x)) before) (has_ended_in plan (pass_of plan (who_of x)) now) (later (pass_of plan (who_of x)) low.0) is, open_before plan before now xs low.1 later)

still_open_again : (plan : Plan) (before now : Run) (inputs : List (List Turn)) → AreSingle plan inputs → LaterIn plan before now → still_open_in plan now (still_open_in plan before inputs) ≡ still_open_in plan now inputs
still_open_again plan before now [] single later = refl
still_open_again plan before now (input ∷ inputs) single later =
    let low = low_of plan (single 0).pass (single 0).low input (single 0).of in
    let one = filter_again (is_open_in plan before) (is_open_in plan now) input (open_before plan before now input low later) in
    let more = still_open_again plan before now inputs (λ k. single (suc k)) later in
    ap (λ (l : List Turn). l ∷ still_open_in plan now (still_open_in plan before inputs)) one ∙ ap (λ (l : List (List Turn)). filter (is_open_in plan now) input ∷ l) more

same_head : (x y : Turn) (xs ys : List Turn) → x ∷ xs ≡ y ∷ ys → (x ≡ y) × (xs ≡ ys)
same_head x y xs ys e = (cc, cc)

-- The turn that comes first is entered, whatever comes behind it.
pub next_turn : (plan : Plan) (stops : Stops) (run : Run) (inputs : List (List Turn)) (j : ℕ) (turn : Turn) (left : List Turn)
    → AreSingle plan inputs → get_or inputs j [] ≡ turn ∷ left → has_ended_in plan (pass_of plan (who_of turn)) run ≡ false → IsLeast (map (first_at turn_at) (still_open_in plan run inputs)) j
    → all_taken plan stops (merged turn_at inputs) run ≡ all_taken plan stops (merged turn_at (set inputs j left)) (taken_if_open plan stops turn run)
next_turn plan stops run inputs j turn left single there running least =
    let open_now = still_open_in plan run inputs in
    let now = taken_if_open plan stops turn run in
    let first = picked turn_at open_now j least in
    let of : AreOf plan (single j).pass (turn ∷ left) = subst (λ (l : List Turn). AreOf plan (single j).pass l) there (single j).of in
    let runs : has_ended_in plan (single j).pass run ≡ false = sym (ap (λ (n : ℕ). has_ended_in plan n run) of.0) ∙ running in
    let kept : get_or open_now j [] ≡ turn ∷ left =
    get_or-map_past (filter (is_open_in plan run)) inputs j [] ∙ ap (filter (is_open_in plan run)) there ∙ of_open plan run (single j).pass (turn ∷ left) of runs in
    let same : (first.turn ≡ turn) × (first.left ≡ left) = same_head first.turn turn first.left left (sym first.there ∙ kept) in
    let split : merged turn_at open_now ≡ turn ∷ merged turn_at (set open_now j left) =
    first.first ∙ ap (λ (t : Turn). t ∷ merged turn_at (set open_now j first.left)) same.0 ∙ ap (λ (l : List Turn). turn ∷ merged turn_at (set open_now j l)) same.1 in
    let keeps = filter (is_open_in plan now) in
    let again : still_open_in plan now (set open_now j left) ≡ still_open_in plan now (set inputs j left) =
    map-set keeps open_now j left
    ∙ ap (λ (l : List (List Turn)). set l j (keeps left)) (still_open_again plan run now inputs single (later_if_open plan stops turn run))
    ∙ sym (map-set keeps inputs j left) in
    stopped plan stops run inputs single
    ∙ ap (λ (l : List Turn). all_taken plan stops l run) split
    ∙ stopped plan stops now (set open_now j left) (single_set plan open_now j (single j).pass left (single j).low of.1 (single_open plan run inputs single))
    ∙ ap (λ (l : List (List Turn)). all_taken plan stops (merged turn_at l) now) again
    ∙ sym (stopped plan stops now (set inputs j left) (single_set plan inputs j (single j).pass left (single j).low of.1 single))
