use Rattle.std.proofs.Common.{◌≡◌, ◌+◌, ◌*◌, ◌≤◌, ◌++◌, length, take, map}
use Rattle.hist_store.specs.TextOfLines.{lines_text}
use Rattle.control_replies.specs.Counters.{all_rules, rule_fields}
use Rattle.control_replies.proofs.reply.Reply.put_rules.Given as goal

abbrev pub invariant-loop-rule : goal.invariant-loop-rule
invariant-loop-rule l = record {
  text : l.self ≡ l.initial.self ++ lines_text (map (rule_fields l.counts) (take l.rule-index all_rules));
  size : length l.self ≤ length l.initial.self + 39 * l.rule-index;
}
