-- What is counted of the entries of a history: each adds what it has. A count that has reached 2^64 - 1 stays there.
use Rattle.std.specs.Prelude.{ℕ, ◌+◌, ◌-◌, ◌^◌, min, List, [], ◌∷◌, ◌++◌, map, slice_index, slice_set, count_ones, Option, Some, None}
use Rattle.std.specs.List.{repeat}
use Rattle.savi_kinds.specs.declared.entry.Entry.{Entry}
use Rattle.savi_kinds.specs.declared.verdict.Verdict.{Verdict}
use Rattle.savi_kinds.specs.declared.verdict.Verdict.TheVariants.{Pass, Drop}
use Rattle.savi_kinds.specs.Rules.{rule_number}
use Rattle.control_replies.specs.declared.counts.Counts.{Counts}
use Rattle.control_replies.specs.Counters.{all_rules, dropped_count}

-- nothing was counted: 0 for each of the 23 rules, and for the others
abbrev pub nothing_counted : Counts
nothing_counted = record { by_rule = repeat 23 (0 ∷ []); pass = 0; cut = 0; probes = 0; lost = 0 }

-- a count with so many more
abbrev pub count_more : ℕ → ℕ → ℕ
count_more count more = min (count + more) (2 ^ 64 - 1)

-- the counts with a verdict: one frame more that passed, or that a rule dropped
abbrev pub with_verdict : Option Verdict → Counts → Counts
with_verdict None counts = counts
with_verdict (Some (Pass scope)) counts = record counts { pass = count_more counts.pass 1 }
with_verdict (Some (Drop rule)) counts = record counts { by_rule = slice_set counts.by_rule (rule_number rule - 1) (count_more (dropped_count counts rule) 1) }

-- with an entry: its verdict, at how many ports a full queue left its frame out, and its probes
abbrev pub counted_with : Entry → Counts → Counts
counted_with entry counts = record {
  by_rule = (with_verdict entry.verdict counts).by_rule;
  pass = (with_verdict entry.verdict counts).pass;
  cut = count_more counts.cut (count_ones entry.cuts.0);
  probes = count_more counts.probes entry.probes;
  lost = count_more counts.lost entry.lost;
}

-- all counts, in the order in which they are printed
abbrev pub all_counts : Counts → List ℕ
all_counts counts = map (dropped_count counts) all_rules ++ counts.pass ∷ counts.cut ∷ counts.probes ∷ counts.lost ∷ []

-- one of these 27, the first at 0
abbrev pub counter_at : ℕ → Counts → ℕ
counter_at i counts = slice_index (all_counts counts) i
