use Rattle.std.proofs.Common.{◌≡◌, Result, Ok, Err, Option, Some, IfOk, subst, sym, ◌∙◌}
use Rattle.std.proofs.lemmas.Option.{none-some}
use Rattle.std.specs.Result.{result_ok}
use Rattle.learn_run.specs.Begun.{IsBegun}
use Rattle.switch_run.proofs.learning.room_for.Goals as goal

of_ok : {T E : Type 0} (P : T → Type 0) (r : Result T E) (o : Option T) (x : T) → o ≡ result_ok r → o ≡ Some x → IfOk r P → P x
of_ok P (Ok y) o x is some h = let same : y ≡ x = cc in subst P same h
of_ok P (Err e) o x is some h = absurd (none-some x (sym is ∙ some))

pub returns-clause-begun : goal.returns-clause-begun
returns-clause-begun g c = of_ok (IsBegun c.args.plan.now c.args.window) c.make.result c.ok.result c.in_ok-learning.learning c.ok.ensures.value c.in_ok-learning.was c.make.ensures
