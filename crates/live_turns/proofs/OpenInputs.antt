-- Whether an input hasn't ended.
use Rattle.std.proofs.Common.{◌≡◌, ℕ, zero, suc, ◌+◌, ◌<◌, ◌≤◌, Bool, true, false, if◌then◌else◌, List, refl, ap, ◌∙◌, arith}
use Rattle.std.specs.Prelude.{MatchBool, nat_lt}
use Rattle.std.proofs.lemmas.Bool.{ltb-false, ltb-true}
use Rattle.savi_kinds.specs.declared.plan.Plan.{Plan}
use Rattle.hist_store.specs.Rows.{Row}
use Rattle.checkpoint.specs.Bases.{Base}
use Rattle.savi_history.specs.Legal.{InputsEnded}
use Rattle.savi_history.specs.Passes.{AllEnded, control_pass, has_ended}
use Rattle.savi_core.specs.Counts.{open_below}
use Rattle.savi_core.proofs.Counting.{all_ended}

none_open : (base : Base) (past : List Row) (n : ℕ) → AllEnded base n past → open_below base past n ≡ 0
none_open base past zero all = refl
none_open base past (suc n) all =
    let before = none_open base past n (λ pass within. all pass (omega (arith, within))) in
    let last : has_ended base n past ≡ true = all n (omega arith) in
    let sum : open_below base past n + 0 ≡ 0 = omega (arith, before) in
    ap (λ (b : Bool). open_below base past n + (if b then 0 else 1)) last ∙ sum

pub some_open : (base : Base) (past : List Row) (n : ℕ) → 0 < open_below base past n → ¬ AllEnded base n past
some_open base past n some all = let none = none_open base past n all in absurd (omega (arith, some, none))

input_by : (plan : Plan) (base : Base) (past : List Row) (left : ℕ) → left ≡ open_below base past (control_pass plan + 1) → (b : Bool) → nat_lt 0 left ≡ b → MatchBool b (¬ InputsEnded plan base past) (InputsEnded plan base past)
input_by plan base past left is true some = some_open base past (control_pass plan + 1) (let more : 0 < left = ltb-true 0 left some in omega (arith, more, is))
input_by plan base past left is false none = all_ended base past (control_pass plan + 1) (let fewer : left ≤ 0 = ltb-false 0 left none in omega (arith, fewer, is))

-- an input may still come exactly where the count of those that are open isn't 0
pub input_open : (plan : Plan) (base : Base) (past : List Row) (left : ℕ) → left ≡ open_below base past (control_pass plan + 1) → MatchBool (nat_lt 0 left) (¬ InputsEnded plan base past) (InputsEnded plan base past)
input_open plan base past left is = input_by plan base past left is (nat_lt 0 left) refl
