use Rattle.std.proofs.lemmas.Bool.{false≢true}
use Rattle.toml.specs.View.{view}
use Rattle.savi_conf.proofs.Integers.{array_tells}
use Rattle.savi_conf.proofs.vlans.is_trunk.Goals as goal

pub returns-in-Some : goal.returns-in-Some
returns-in-Some c = rw (← c.in-Some.ensures) (array_tells (view c.in-Some.value.now) c.is_array.result c.is_array.ensures)

pub returns-in-None : goal.returns-in-None
returns-in-None c = rw (← c.in-None.ensures) (λ no. absurd (false≢true no), λ no. absurd (false≢true no))
