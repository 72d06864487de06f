use Rattle.std.proofs.Common.{Some, ap}
use Rattle.savi_conf.proofs.document.integers_of.Goals as goal

pub returns-in_ok-integers_among-in-Some : goal.returns-in_ok-integers_among-in-Some
returns-in_ok-integers_among-in-Some c = rw (← c.in-Some.ensures) (ap Some (rw c.as_slice.ensures.value at c.in_ok-integers_among-in-Some.ensures))

pub returns-in-None : goal.returns-in-None
returns-in-None c = rw (← c.in-None.ensures)
