-- The ending of each input is among the turns of a replay.
use Rattle.std.proofs.Common.{◌≡◌, ℕ, suc, zero, ◌<◌, nat_lt, Bool, true, false, List, [], ◌∷◌, ◌++◌, map, get_or, length, refl, arith, if◌then◌else◌, ◌⊎◌, inl, inr, Option, Some, None}
use Rattle.savi_kinds.specs.declared.port.Port.{Port}
use Rattle.savi_kinds.specs.declared.plan.Plan.{Plan}
use Rattle.savi_kinds.specs.declared.plan.PortPlan.{PortPlan}
use Rattle.savi_kinds.specs.declared.entry.Who.TheVariants as passes
use Rattle.savi_kinds.specs.declared.entry.How.{How}
use Rattle.savi_kinds.specs.ValidPlan.{numbers_of}
use Rattle.savi_kinds.specs.Arrivals.{Arrival, Input}
use Rattle.cli_lang.specs.Arrivals.{Line}
use Rattle.cli_lang.specs.Arrivals as control
use Rattle.savi_history.specs.Passes.{pass_of, place_of, control_pass}
use Rattle.savi_history.specs.Merges.{enter, merge, merged}
use Rattle.savi_history.specs.Turns.{Turn, Arrives, Commands, Ends, turn_at, port_turns, control_turns}

-- an ending of this pass is among the turns
abbrev pub EndsIn : Plan → ℕ → List Turn → Type 0
EndsIn plan pass [] = ⊥
EndsIn plan pass (Arrives port a ∷ xs) = EndsIn plan pass xs
EndsIn plan pass (Commands line ∷ xs) = EndsIn plan pass xs
EndsIn plan pass (Ends who how ∷ xs) = (pass_of plan who ≡ pass) ⊎ EndsIn plan pass xs

in_tail : (plan : Plan) (pass : ℕ) (x : Turn) (xs : List Turn) → EndsIn plan pass xs → EndsIn plan pass (x ∷ xs)
in_tail plan pass (Arrives port a) xs is = is
in_tail plan pass (Commands line) xs is = is
in_tail plan pass (Ends who how) xs is = inr is

-- where one list has what another one has, so it is with a turn in front
in_both : (plan : Plan) (pass : ℕ) (x : Turn) (xs ys : List Turn) → (EndsIn plan pass xs → EndsIn plan pass ys) → EndsIn plan pass (x ∷ xs) → EndsIn plan pass (x ∷ ys)
in_both plan pass (Arrives port a) xs ys more is = more is
in_both plan pass (Commands line) xs ys more is = more is
in_both plan pass (Ends who how) xs ys more (inl here) = inl here
in_both plan pass (Ends who how) xs ys more (inr there) = inr (more there)

module _ (plan : Plan) (pass : ℕ) (x : Turn) (xs : List Turn) (rest : List Turn → List Turn) (left : (ys : List Turn) → EndsIn plan pass xs → EndsIn plan pass (rest ys)) (right : (ys : List Turn) → EndsIn plan pass ys → EndsIn plan pass (rest ys)) where
  enter_left_at : (b : Bool) (y : Turn) (ys : List Turn) → EndsIn plan pass (x ∷ xs) → EndsIn plan pass (enter turn_at x rest ys) → EndsIn plan pass (if b then y ∷ enter turn_at x rest ys else x ∷ rest (y ∷ ys))
  enter_left_at true y ys is step = in_tail plan pass y (enter turn_at x rest ys) step
  enter_left_at false y ys is step = in_both plan pass x xs (rest (y ∷ ys)) (left (y ∷ ys)) is

  in_enter_left : (ys : List Turn) → EndsIn plan pass (x ∷ xs) → EndsIn plan pass (enter turn_at x rest ys)
  in_enter_left [] is = in_both plan pass x xs (rest []) (left []) is
  in_enter_left (y ∷ ys) is = enter_left_at (nat_lt (turn_at y) (turn_at x)) y ys is (in_enter_left ys is)

  enter_right_at : (b : Bool) (y : Turn) (ys : List Turn) → EndsIn plan pass (y ∷ ys) → (EndsIn plan pass ys → EndsIn plan pass (enter turn_at x rest ys)) → EndsIn plan pass (if b then y ∷ enter turn_at x rest ys else x ∷ rest (y ∷ ys))
  enter_right_at true y ys is step = in_both plan pass y ys (enter turn_at x rest ys) step is
  enter_right_at false y ys is step = in_tail plan pass x (rest (y ∷ ys)) (right (y ∷ ys) is)

  in_enter_right : (ys : List Turn) → EndsIn plan pass ys → EndsIn plan pass (enter turn_at x rest ys)
  in_enter_right [] is = absurd is
  in_enter_right (y ∷ ys) is = enter_right_at (nat_lt (turn_at y) (turn_at x)) y ys is (in_enter_right ys)

in_merge_right : (plan : Plan) (pass : ℕ) (xs ys : List Turn) → EndsIn plan pass ys → EndsIn plan pass (merge turn_at xs ys)
in_merge_right plan pass [] ys is = is
in_merge_right plan pass (x ∷ xs) ys is = in_enter_right plan pass x [] (merge turn_at xs) (λ zs none. absurd none) (λ zs there. in_merge_right plan pass xs zs there) ys is

in_merge_left : (plan : Plan) (pass : ℕ) (xs ys : List Turn) → EndsIn plan pass xs → EndsIn plan pass (merge turn_at xs ys)
in_merge_left plan pass [] ys is = absurd is
in_merge_left plan pass (x ∷ xs) ys is = in_enter_left plan pass x xs (merge turn_at xs) (λ zs there. in_merge_left plan pass xs zs there) (λ zs there. in_merge_right plan pass xs zs there) ys is

pub in_merged : (plan : Plan) (pass : ℕ) (inputs : List (List Turn)) (k : ℕ) → EndsIn plan pass (get_or inputs k []) → EndsIn plan pass (merged turn_at inputs)
in_merged plan pass [] k is = absurd is
in_merged plan pass (input ∷ inputs) zero is = in_merge_left plan pass input (merged turn_at inputs) is
in_merged plan pass (input ∷ inputs) (suc k) is = in_merge_right plan pass input (merged turn_at inputs) (in_merged plan pass inputs k is)

in_turns_from : (plan : Plan) (port : Port) (before : List Arrival) (how : How) → EndsIn plan (pass_of plan (passes.Ingress port)) (map (λ a. Arrives port a) before ++ Ends (passes.Ingress port) how ∷ [])
in_turns_from plan port [] how = inl refl
in_turns_from plan port (a ∷ before) how = in_turns_from plan port before how

pub in_port_turns : (plan : Plan) (plans : List PortPlan) (inputs : List Input) (k : ℕ) → length inputs ≡ length plans → k < length plans → EndsIn plan (place_of plan (get_or (numbers_of plans) k 0)) (get_or (port_turns plans inputs) k [])
in_port_turns plan [] inputs k size inside = absurd (omega arith)
in_port_turns plan (p ∷ plans) [] k size inside = absurd (omega arith)
in_port_turns plan (p ∷ plans) (i ∷ inputs) zero size inside = in_turns_from plan p.number i.arrivals i.ending
in_port_turns plan (p ∷ plans) (i ∷ inputs) (suc k) size inside = in_port_turns plan plans inputs k (omega arith) (omega arith)

in_lines_from : (plan : Plan) (lines : List Line) (how : How) → EndsIn plan (control_pass plan) (map (λ line. Commands line) lines ++ Ends passes.Control how ∷ [])
in_lines_from plan [] how = inl refl
in_lines_from plan (line ∷ lines) how = in_lines_from plan lines how

pub in_control_turns : (plan : Plan) (lines : Option control.Input) → EndsIn plan (control_pass plan) (control_turns lines)
in_control_turns plan None = inl refl
in_control_turns plan (Some input) = in_lines_from plan input.arrivals input.ending
