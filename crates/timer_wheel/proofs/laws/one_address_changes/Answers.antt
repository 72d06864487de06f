use Rattle.std.proofs.Common.{◌≡◌, ◌==◌, ℕ, cond, List, Option, sym, ap, ◌∙◌, inl, inr}
use Rattle.std.proofs.lemmas.Bool.{cases_Bool, eqb-true, eq-eqb, false≢true}
use Rattle.timer_wheel.specs.declared.armed.Armed.{Armed}
use Rattle.timer_wheel.specs.Arms.{due_in, with_due}
use Rattle.timer_wheel.proofs.Rising.{IsRising-with_due}
use Rattle.timer_wheel.proofs.Pointwise.{due_in-with_same, due_in-with_other}
use Rattle.timer_wheel.proofs.laws.one_address_changes.Goals as goal

due_of : (a b : ℕ) (due : Option ℕ) (arms : List Armed) → due_in (with_due a due arms) b ≡ cond (a == b) due (due_in arms b)
due_of a b due arms =
    elim (cases_Bool (a == b)) [
      | inl same ↦ rw same (ap (due_in (with_due a due arms)) (sym (eqb-true a b same)) ∙ due_in-with_same a due arms)
      | inr differs ↦ rw differs (due_in-with_other a b due arms (λ same. false≢true (sym differs ∙ eq-eqb a b (sym same))))
    ]

pub returns : goal.returns
returns c = record { due = due_of; rising = IsRising-with_due }
