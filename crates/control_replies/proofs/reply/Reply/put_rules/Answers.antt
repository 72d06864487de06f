use Rattle.std.proofs.Common.{arith}
use Rattle.control_replies.proofs.Counting.{counted_next}
use Rattle.control_replies.proofs.reply.Reply.put_rules.Goals as goal

pub loop-rule-preserved : goal.loop-rule-preserved
loop-rule-preserved c =
    let was = c.loop-rule.invariant in
    record {
      text = counted_next c.args.counts.now c.loop-rule.rule-index c.name_of.result.now c.of.result c.args.self.now c.loop-rule.self c.put_counter.new.self c.loop-rule-test.true c.name_of.ensures.name c.of.ensures was.text c.put_counter.ensures.text;
      size = omega (arith, was.size, c.put_counter.ensures.size);
    }
