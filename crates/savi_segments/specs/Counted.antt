-- A history in segments, summed up by what was counted of its entries.
use Rattle.std.specs.Prelude.{ℕ, ◌+◌, map, sum}
use Rattle.control_replies.specs.declared.counts.Counts.{Counts}
use Rattle.control_replies.specs.Counters.{all_rules, dropped_count}
use Rattle.savi_history.specs.Summary.{Summary, capped}

-- how many frames all rules dropped
abbrev pub all_dropped : Counts → ℕ
all_dropped counts = capped (sum (map (dropped_count counts) all_rules))

-- the summary of so many entries of which so much was counted: each frame passed or was dropped
abbrev pub summary_by : ℕ → Counts → Summary
summary_by entries counts = record {
  entries = entries;
  frames = capped (counts.pass + all_dropped counts);
  passed = counts.pass;
  dropped = all_dropped counts;
  probes = counts.probes;
  lost = counts.lost;
  cut = counts.cut;
}
