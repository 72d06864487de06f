use Rattle.std.proofs.lemmas.Bool.{false≢true}
use Rattle.savi_conf.proofs.PartsLemmas.{switch_mac}
use Rattle.savi_conf.proofs.parts.is_switch_mac.Goals as goal

pub returns-in-Some : goal.returns-in-Some
returns-in-Some c = rw (← c.as_bytes.ensures.value) (switch_mac c.as_bytes.result.now c.in-Some.mac c.is_group.result c.is_group.ensures c.in-Some.ensures.read)

pub returns-in-None : goal.returns-in-None
returns-in-None c = (λ no. absurd (false≢true no), λ switch. absurd (c.in-None.ensures.only switch.mac (rw c.as_bytes.ensures.value switch.spelled)))
