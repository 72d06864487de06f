-- What a history counts are numbers of 64 bits.
use Rattle.std.proofs.Common.{ℕ, ◌-◌, ◌^◌, ◌<◌, List, [], ◌∷◌, count_ones, Option, Some, None}
use Rattle.savi_kinds.specs.declared.entry.Entry.{Entry}
use Rattle.savi_kinds.specs.declared.verdict.Rule.{Rule}
use Rattle.savi_kinds.specs.declared.verdict.Verdict.{Verdict}
use Rattle.savi_kinds.specs.declared.verdict.Verdict.TheVariants.{Pass, Drop}
use Rattle.savi_kinds.specs.Rules.{rule_number}
use Rattle.hist_store.specs.Rows.{Row}
use Rattle.control_replies.specs.declared.counts.Counts.{Counts}
use Rattle.control_replies.specs.Counters.{AreCounts, dropped_count}
use Rattle.control_replies.specs.Counting.{count_more, with_verdict, counted_with}
use Rattle.control_replies.proofs.Counted.{counted_small, set_holds}
use Rattle.checkpoint.specs.Bases.{Base}
use Rattle.savi_history.specs.Shown.{counts_of}

rules_next : (verdict : Option Verdict) (counts : Counts) → AreCounts counts → (rule : Rule) → dropped_count (with_verdict verdict counts) rule < 2 ^ 64
rules_next None counts are rule = are.by_rule rule
rules_next (Some (Pass scope)) counts are rule = are.by_rule rule
rules_next (Some (Drop by)) counts are rule =
    set_holds (λ (n : ℕ). n < 2 ^ 64) counts.by_rule (rule_number by - 1) (count_more (dropped_count counts by) 1) (rule_number rule - 1) (counted_small (dropped_count counts by) 1) (are.by_rule rule)

pass_next : (verdict : Option Verdict) (counts : Counts) → AreCounts counts → (with_verdict verdict counts).pass < 2 ^ 64
pass_next None counts are = are.pass
pass_next (Some (Pass scope)) counts are = counted_small counts.pass 1
pass_next (Some (Drop by)) counts are = are.pass

counts_next : (entry : Entry) (counts : Counts) → AreCounts counts → AreCounts (counted_with entry counts)
counts_next entry counts are = record {
  by_rule = rules_next entry.verdict counts are;
  pass = pass_next entry.verdict counts are;
  cut = counted_small counts.cut (count_ones entry.cuts.0);
  probes = counted_small counts.probes entry.probes;
  lost = counted_small counts.lost entry.lost;
}

pub counts_stay : (base : Base) (past : List Row) → AreCounts base.counts → AreCounts (counts_of base past)
counts_stay base [] are = are
counts_stay base (r ∷ past) are = counts_next r.entry (counts_of base past) (counts_stay base past are)
