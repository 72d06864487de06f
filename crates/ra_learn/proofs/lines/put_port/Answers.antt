use Rattle.std.proofs.Common.{append_assoc}
use Rattle.ra_learn.proofs.lines.put_port.Goals as goal

pub returns-in-Learning : goal.returns-in-Learning
returns-in-Learning c = simp (c.put_last.ensures, c.put_number.ensures.text, c.put_word.ensures.text, c.new-line.ensures, c.from.ensures, c.get.ensures.value, c.in-Learning.is, append_assoc)

pub returns-in-Blocking : goal.returns-in-Blocking
returns-in-Blocking c = simp (c.put_last-in-Blocking.ensures, c.put_number.ensures.text, c.put_word.ensures.text, c.new-line.ensures, c.from.ensures, c.get.ensures.value, c.in-Blocking.is, append_assoc)

pub returns-in-Forwarding : goal.returns-in-Forwarding
returns-in-Forwarding c = simp (c.put_last-in-Forwarding.ensures, c.put_number.ensures.text, c.put_word.ensures.text, c.new-line.ensures, c.from.ensures, c.get.ensures.value, c.in-Forwarding.is, append_assoc)
