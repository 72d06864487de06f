-- What is counted from segment to segment sums up the joined rows.
use Rattle.std.proofs.Common.{◌≡◌, ℕ, ◌+◌, ◌-◌, ◌<◌, ◌≤◌, if◌then◌else◌, Option, Some, None, List, [], ◌∷◌, ◌++◌, length, map, count_ones, refl, sym, ap, subst, ◌∙◌, arith}
use Rattle.std.specs.Prelude.{sum}
use Rattle.std.proofs.lemmas.List.{ext_get_or, get_or_append_left, length-set}
use Rattle.std.proofs.lemmas.List.Sums.{get_or-le-sum_by, sum_by-set}
use Rattle.savi_kinds.specs.declared.plan.Plan.{Plan}
use Rattle.savi_kinds.specs.declared.verdict.Verdict.{Verdict}
use Rattle.savi_kinds.specs.declared.verdict.Verdict.TheVariants.{Pass, Drop}
use Rattle.savi_kinds.specs.Rules.{rule_number}
use Rattle.control_replies.specs.declared.counts.Counts.{Counts}
use Rattle.control_replies.specs.Counters.{all_rules, dropped_count}
use Rattle.control_replies.specs.Counting.{count_more, counted_with, with_verdict}
use Rattle.control_replies.proofs.Counting.{counted_at}
use Rattle.hist_store.specs.Rows.{Row}
use Rattle.hist_store.proofs.VerdictRead.{rule_low}
use Rattle.checkpoint.specs.Bases.{Base, empty}
use Rattle.savi_history.specs.Events.{Event, Frame, Long, Command, Tick, Drain, End, row_of, verdict_of}
use Rattle.savi_history.specs.Judged.{judged_long}
use Rattle.savi_history.specs.Legal.{IsLegal}
use Rattle.savi_history.specs.Shown.{counts_of}
use Rattle.savi_history.specs.Summary.{capped, is_drop, is_frame, is_pass, number_with, summary_of, total}
use Rattle.savi_segments.specs.Counted.{all_dropped, summary_by}
use Rattle.savi_segments.specs.Segments.{AreLegal, base_after, joined}

-- what a base counted goes on as if its rows stood before

counts_behind : (base : Base) (early late : List Row) → base.counts ≡ counts_of empty early → counts_of base late ≡ counts_of empty (late ++ early)
counts_behind base early [] same = same
counts_behind base early (r ∷ late) same = ap (λ (counts : Counts). counted_with r.entry counts) (counts_behind base early late same)

counts_left : (plan : Plan) (segments : List (List Row)) → (base_after plan segments).counts ≡ counts_of empty (joined segments)
counts_left plan [] = refl
counts_left plan (segment ∷ before) = counts_behind (base_after plan before) (joined before) segment (counts_left plan before)

-- each count is that of the rows, capped

-- how many rows have such a verdict, and how much they add up to
abbrev passed_in : List Row → ℕ
passed_in rows = number_with (λ r. is_pass r.entry.verdict) rows

abbrev dropped_in : List Row → ℕ
dropped_in rows = number_with (λ r. is_drop r.entry.verdict) rows

abbrev frames_in : List Row → ℕ
frames_in rows = number_with (λ r. is_frame r.entry.act) rows

more_capped : (kept more n : ℕ) → kept ≡ capped n → count_more kept more ≡ capped (more + n)
more_capped kept more n is = omega (arith, is)

none_capped : (n : ℕ) → capped n ≡ capped (0 + n)
none_capped n = omega arith

-- one more in a place of a list is one more in its sum, capped
sum_capped : (x before now n : ℕ) → now + x ≡ before + count_more x 1 → x ≤ before → capped before ≡ capped n → capped now ≡ capped (1 + n)
sum_capped x before now n more part is = omega (arith, more, part, is)

pass_next : (verdict : Option Verdict) (counts : Counts) (n : ℕ) → counts.pass ≡ capped n → (with_verdict verdict counts).pass ≡ capped ((if is_pass verdict then 1 else 0) + n)
pass_next None counts n is = is ∙ none_capped n
pass_next (Some (Pass scope)) counts n is = more_capped counts.pass 1 n is
pass_next (Some (Drop rule)) counts n is = is ∙ none_capped n

size_next : (verdict : Option Verdict) (counts : Counts) → length counts.by_rule ≡ 23 → length (with_verdict verdict counts).by_rule ≡ 23
size_next None counts size = size
size_next (Some (Pass scope)) counts size = size
size_next (Some (Drop rule)) counts size = length-set counts.by_rule (rule_number rule - 1) (count_more (dropped_count counts rule) 1) ∙ size

dropped_next : (verdict : Option Verdict) (counts : Counts) (n : ℕ) → length counts.by_rule ≡ 23 → capped (sum counts.by_rule) ≡ capped n
    → capped (sum (with_verdict verdict counts).by_rule) ≡ capped ((if is_drop verdict then 1 else 0) + n)
dropped_next None counts n size is = is ∙ none_capped n
dropped_next (Some (Pass scope)) counts n size is = is ∙ none_capped n
dropped_next (Some (Drop rule)) counts n size is =
    let place : ℕ = rule_number rule - 1 in
    let old : ℕ = dropped_count counts rule in
    let inside : place < length counts.by_rule = omega (arith, size, rule_low rule) in
    sum_capped old (sum counts.by_rule) (sum (with_verdict (Some (Drop rule)) counts).by_rule) n
    (sum_by-set (λ (x : ℕ). x) counts.by_rule place (count_more old 1) 0 inside)
    (get_or-le-sum_by (λ (x : ℕ). x) counts.by_rule place 0 inside)
    is

record IsCounted (rows : List Row) (counts : Counts) : Type 0 where
  size : length counts.by_rule ≡ 23
  pass : counts.pass ≡ capped (passed_in rows)
  dropped : capped (sum counts.by_rule) ≡ capped (dropped_in rows)
  probes : counts.probes ≡ capped (total (λ r. r.entry.probes) rows)
  lost : counts.lost ≡ capped (total (λ r. r.entry.lost) rows)
  cut : counts.cut ≡ capped (total (λ r. count_ones r.entry.cuts.0) rows)

counted_next : (r : Row) (rows : List Row) (counts : Counts) → IsCounted rows counts → IsCounted (r ∷ rows) (counted_with r.entry counts)
counted_next r rows counts is = record {
  size = size_next r.entry.verdict counts is.size;
  pass = pass_next r.entry.verdict counts (passed_in rows) is.pass;
  dropped = dropped_next r.entry.verdict counts (dropped_in rows) is.size is.dropped;
  probes = more_capped counts.probes r.entry.probes (total (λ r. r.entry.probes) rows) is.probes;
  lost = more_capped counts.lost r.entry.lost (total (λ r. r.entry.lost) rows) is.lost;
  cut = more_capped counts.cut (count_ones r.entry.cuts.0) (total (λ r. count_ones r.entry.cuts.0) rows) is.cut;
}

counted : (rows : List Row) → IsCounted rows (counts_of empty rows)
counted [] = record { size = refl; pass = omega arith; dropped = refl; probes = omega arith; lost = omega arith; cut = omega arith }
counted (r ∷ rows) = counted_next r rows (counts_of empty rows) (counted rows)

-- the counts of all rules are those that are kept
all_rules_are : (counts : Counts) → length counts.by_rule ≡ 23 → map (dropped_count counts) all_rules ≡ counts.by_rule
all_rules_are counts size =
    let all : List ℕ = map (dropped_count counts) all_rules in
    let others : List ℕ = counts.pass ∷ counts.cut ∷ counts.probes ∷ counts.lost ∷ [] in
    ext_get_or 0 all counts.by_rule (sym size) (λ i inside. sym (counted_at counts i inside ∙ get_or_append_left all others 0 i inside))

-- each frame of a legal history passed or was dropped

-- one frame, or none, of which this is the verdict
abbrev IsJudged : Row → Type 0
IsJudged r = (if is_frame r.entry.act then 1 else 0) ≡ (if is_pass r.entry.verdict then 1 else 0) + (if is_drop r.entry.verdict then 1 else 0)

abbrev AreJudged : List Row → Type 0
AreJudged rows = frames_in rows ≡ passed_in rows + dropped_in rows

one_verdict : (verdict : Verdict) → 1 ≡ (if is_pass (Some verdict) then 1 else 0) + (if is_drop (Some verdict) then 1 else 0)
one_verdict (Pass scope) = refl
one_verdict (Drop rule) = refl

judged_event : (plan : Plan) (base : Base) (past : List Row) (event : Event) → IsJudged (row_of plan base past event)
judged_event plan base past (Frame port stamp octets) = one_verdict (verdict_of plan base past port stamp octets)
judged_event plan base past (Long port stamp len) = one_verdict (judged_long plan base past port)
judged_event plan base past (Command stamp line) = refl
judged_event plan base past (Tick stamp) = refl
judged_event plan base past (Drain port count) = refl
judged_event plan base past (End who how) = refl

one_more : (frame pass drop frames passes drops : ℕ) → frame ≡ pass + drop → frames ≡ passes + drops → frame + frames ≡ pass + passes + (drop + drops)
one_more frame pass drop frames passes drops one all = omega (arith, one, all)

judged_rows : (plan : Plan) (base : Base) (segment before : List Row) → IsLegal plan base segment → AreJudged before → AreJudged (segment ++ before)
judged_rows plan base [] before legal are = are
judged_rows plan base (r ∷ segment) before legal are =
    let rows = segment ++ before in
    one_more (if is_frame r.entry.act then 1 else 0) (if is_pass r.entry.verdict then 1 else 0) (if is_drop r.entry.verdict then 1 else 0) (frames_in rows) (passed_in rows) (dropped_in rows)
    (subst (λ (x : Row). IsJudged x) (sym legal.0.2) (judged_event plan base segment legal.0.0))
    (judged_rows plan base segment before legal.1 are)

judged_segments : (plan : Plan) (segments : List (List Row)) → AreLegal plan segments → AreJudged (joined segments)
judged_segments plan [] legal = refl
judged_segments plan (segment ∷ before) legal = judged_rows plan (base_after plan before) segment (joined before) legal.0 (judged_segments plan before legal.2)

-- So the counts sum the rows up.

frames_capped : (frames passes drops pass dropped : ℕ) → frames ≡ passes + drops → pass ≡ capped passes → capped drops ≡ dropped → capped frames ≡ capped (pass + dropped)
frames_capped frames passes drops pass dropped all passed drop = omega (arith, all, passed, drop)

summed : (rows : List Row) (counts : Counts) → IsCounted rows counts → AreJudged rows → summary_of rows ≡ summary_by (capped (length rows)) counts
summed rows counts is are =
    let dropped : capped (dropped_in rows) ≡ all_dropped counts = sym is.dropped ∙ ap (λ (l : List ℕ). capped (sum l)) (sym (all_rules_are counts is.size)) in
    let frames : capped (frames_in rows) ≡ capped (counts.pass + all_dropped counts) = frames_capped (frames_in rows) (passed_in rows) (dropped_in rows) counts.pass (all_dropped counts) are is.pass dropped in
    let passed = sym is.pass in
    let probes = sym is.probes in
    let lost = sym is.lost in
    let cut = sym is.cut in
    λ i. record { entries = capped (length rows); frames = frames i; passed = passed i; dropped = dropped i; probes = probes i; lost = lost i; cut = cut i }

pub segments_summed : (plan : Plan) (segment : List Row) (before : List (List Row)) → AreLegal plan (segment ∷ before)
    → let rows = joined (segment ∷ before) in summary_of rows ≡ summary_by (capped (length rows)) (counts_of (base_after plan before) segment)
segments_summed plan segment before legal =
    let rows = joined (segment ∷ before) in
    summed rows (counts_of empty rows) (counted rows) (judged_segments plan (segment ∷ before) legal)
    ∙ ap (λ (counts : Counts). summary_by (capped (length rows)) counts) (sym (counts_behind (base_after plan before) (joined before) segment (counts_left plan before)))
