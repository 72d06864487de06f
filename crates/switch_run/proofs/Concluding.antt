-- What the counters of a switch sum up, and what is told of a session that was summed up.
use Rattle.std.proofs.Common.{◌≡◌, ℕ, ◌+◌, ◌-◌, ◌^◌, ◌<◌, ◌≤◌, ◌&&◌, min, Bool, List, [], ◌∷◌, ◌++◌, get_or, map, take, sym, ap, ◌∙◌, subst, Option, Some, IfSome}
use Rattle.std.specs.List.{sum_by}
use Rattle.std.proofs.lemmas.List.{get_or-map, get_or_append_left, take_all}
use Rattle.std.proofs.lemmas.List.Sums.{sum_by_more}
use Rattle.savi_kinds.specs.declared.verdict.Rule.{Rule}
use Rattle.savi_kinds.specs.declared.verdict.Rule.TheVariants.{PortDown}
use Rattle.savi_ends.specs.Places.{Place}
use Rattle.control_replies.specs.declared.counts.Counts.{Counts}
use Rattle.control_replies.specs.Counters.{all_rules, dropped_count}
use Rattle.control_replies.specs.Counting.{counter_at}
use Rattle.hist_store.specs.Rows.{Row}
use Rattle.savi_history.specs.EndLines.{told_lines}
use Rattle.savi_history.specs.Shown.{counts_of}
use Rattle.savi_history.specs.Summary.{Summary, capped, summary_text}
use Rattle.savi_segments.specs.Counted.{all_dropped, summary_by}
use Rattle.savi_segments.specs.Segments.{joined}
use Rattle.savi_segments.specs.Unbroken.{unbroken}
use Rattle.savi_core.specs.Machines.{base_of}
use Rattle.audit_run.proofs.Watching.{capped_behind}
use Rattle.switch_report.specs.declared.summary.Summary.{Summary as Counted}
use Rattle.switch_report.specs.Sums.{sum_of}
use Rattle.switch_run.specs.declared.outcome.Outcome.{Outcome}
use Rattle.switch_run.specs.Causes.{Keeps, TookOrPart}
use Rattle.switch_run.specs.Played.{IsOutcomeOf}
use Rattle.switch_run.specs.Session.{IsSummed, journal_lines, told_status}
use Rattle.switch_run.proofs.ToldEnds.{ends_as_told, status_as_told}

-- what the rules dropped, one rule after another
rule_at : (counts : Counts) (i : ℕ) → i < 23 → counter_at i counts ≡ dropped_count counts (get_or all_rules i PortDown)
rule_at counts i inside =
    get_or_append_left (map (dropped_count counts) all_rules) (counts.pass ∷ counts.cut ∷ counts.probes ∷ counts.lost ∷ []) 0 i inside
    ∙ get_or-map (dropped_count counts) all_rules i PortDown 0 inside

pub dropped_more : (counts : Counts) (i so_far here now : ℕ) → i < 23 → so_far ≡ capped (sum_by (dropped_count counts) (take i all_rules)) → here ≡ counter_at i counts → now ≡ min (so_far + here) (2 ^ 64 - 1)
    → now ≡ capped (sum_by (dropped_count counts) (take (i + 1) all_rules))
dropped_more counts i so_far here now inside before is added =
    added
    ∙ ap (λ (n : ℕ). min (n + here) (2 ^ 64 - 1)) before
    ∙ ap (λ (n : ℕ). min (capped (sum_by (dropped_count counts) (take i all_rules)) + n) (2 ^ 64 - 1)) (is ∙ rule_at counts i inside)
    ∙ capped_behind (2 ^ 64 - 1) (sum_by (dropped_count counts) (take i all_rules)) (dropped_count counts (get_or all_rules i PortDown))
    ∙ ap capped (sym (sum_by_more (dropped_count counts) all_rules i PortDown inside))

pub dropped_all : (counts : Counts) (i so_far : ℕ) → 23 ≤ i → so_far ≡ capped (sum_by (dropped_count counts) (take i all_rules)) → so_far ≡ all_dropped counts
dropped_all counts i so_far all before = before ∙ ap (λ (rules : List Rule). capped (sum_by (dropped_count counts) rules)) (take_all i all_rules all)

-- the summary by the counters
pub summed_by : (entries : ℕ) (counts : Counts) (s : Counted) → s.entries ≡ entries → s.passed ≡ counter_at 23 counts → s.dropped ≡ all_dropped counts → s.frames ≡ min (s.passed + s.dropped) (2 ^ 64 - 1)
    → s.cut ≡ counter_at 24 counts → s.probes ≡ counter_at 25 counts → s.lost ≡ counter_at 26 counts → sum_of s ≡ summary_by entries counts
summed_by entries counts s entries_are passed dropped frames cut probes lost = λ i. record {
  entries = entries_are i;
  frames = (frames ∙ ap (λ (n : ℕ). min (n + s.dropped) (2 ^ 64 - 1)) passed ∙ ap (λ (n : ℕ). min (counts.pass + n) (2 ^ 64 - 1)) dropped) i;
  passed = passed i;
  dropped = dropped i;
  probes = probes i;
  lost = lost i;
  cut = cut i;
}

-- what was written of a session by the counters and the ends that are told is what its segments come to
pub concluded : {K : Type 0} (written : K → Option (List ℕ)) (faults : K → ℕ) (Says : List ℕ → Type 0) (outcome : Option Outcome) (o : Outcome) (sum : Summary) (done : Bool) (old new : Place K) (status : ℕ)
    → outcome ≡ Some o → sum ≡ summary_by o.entries (counts_of (base_of o.core) o.core.past) → Keeps (TookOrPart faults written done (summary_text sum)) old new
    → Says (told_lines o.ends.items ++ journal_lines o.journal_written) → status ≡ told_status (o.journal_written && done) o.ends.items
    → IfSome outcome (λ o. (segments : List (List Row)) → IsOutcomeOf segments o → IsSummed written faults Says (joined segments) (unbroken segments) o.journal_written old new status)
concluded written faults Says outcome o sum done old new status is summed keeps says status_is =
    let all : (segments : List (List Row)) → IsOutcomeOf segments o → IsSummed written faults Says (joined segments) (unbroken segments) o.journal_written old new status = λ segments left. record {
      summary_written = done;
      summary = subst (λ (s : Summary). Keeps (TookOrPart faults written done (summary_text s)) old new) (summed ∙ sym left.counted) keeps;
      errors = subst (λ (l : List ℕ). Says (l ++ journal_lines o.journal_written)) (ap told_lines (left.tells.ends_are ∙ ends_as_told (joined segments))) says;
      cause = status_is ∙ status_as_told (o.journal_written && done) o.ends.items (joined segments) left.tells.ends_are;
    } in
    subst (λ (out : Option Outcome). IfSome out (λ o. (segments : List (List Row)) → IsOutcomeOf segments o → IsSummed written faults Says (joined segments) (unbroken segments) o.journal_written old new status)) (sym is) all
