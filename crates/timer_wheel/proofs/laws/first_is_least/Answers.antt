use Rattle.savi_kinds.proofs.Orders.{not_due_before}
use Rattle.timer_wheel.proofs.Pointwise.{all_pairs, IsNoLater, first_is}
use Rattle.timer_wheel.proofs.laws.first_is_least.Goals as goal

pub returns : goal.returns
returns c = λ arms a due rising found least. first_is a due arms rising found (all_pairs (λ b other. IsNoLater due a other b) arms rising (λ b other there. not_due_before due a other b (least b other there)))
