use Rattle.switch_ports.proofs.control.open_live_control.Goals as goal

pub returns-in-Some-clause-opened : goal.returns-in-Some-clause-opened
returns-in-Some-clause-opened g c = rw (c.in-Some.is, ← c.as_str.ensures, ← c.as_str-in-Some.ensures) c.open_named_live.ensures.opened
