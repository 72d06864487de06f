use Rattle.control_replies.proofs.Counting.{counted_all}
use Rattle.control_replies.proofs.reply.Reply.put_counters.Goals as goal

pub returns-clause-text : goal.returns-clause-text
returns-clause-text c = counted_all c.args.counts.now c.args.self.now c.put_rules.new.self c.put_others.new.self c.put_end.new.self c.put_rules.ensures.text c.put_others.ensures.text c.put_end.ensures.text
