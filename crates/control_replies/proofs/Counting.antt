-- The counters of the rules, one behind the other.
use Rattle.std.proofs.Common.{ℕ, ◌≡◌, ◌+◌, ◌-◌, ◌<◌, List, [], ◌∷◌, ◌++◌, length, map, take, get_or, refl, sym, ap, ◌∙◌, append_assoc, arith}
use Rattle.std.specs.List.{range_with_len}
use Rattle.std.proofs.lemmas.List.{get_or-map, get_or_append_left}
use Rattle.std.proofs.lemmas.List.FromFn.{get_or-range_with_len}
use Rattle.savi_kinds.specs.declared.verdict.Rule.{Rule}
use Rattle.savi_kinds.specs.declared.verdict.Rule.TheVariants.{PortDown}
use Rattle.savi_kinds.specs.Rules.{rule_number}
use Rattle.hist_store.specs.TextOfLines.{lines_text}
use Rattle.hist_store.specs.VerdictTexts.{rule_name}
use Rattle.hist_store.proofs.LineLemmas.{written_each, written_more}
use Rattle.control_replies.specs.Replies.{end_text}
use Rattle.control_replies.specs.declared.counts.Counts.{Counts}
use Rattle.control_replies.specs.Counters.{all_rules, dropped_count, counter_fields, rule_fields, other_lines, counters_text}
use Rattle.control_replies.specs.Counting.{counter_at}

-- the lines of the rules up to the next one
pub counted_next : (counts : Counts) (i : ℕ) (name : List ℕ) (count : ℕ) (old items new : List ℕ)
    → i < length all_rules
    → name ≡ rule_name (get_or all_rules i PortDown)
    → count ≡ dropped_count counts (get_or all_rules i PortDown)
    → items ≡ old ++ lines_text (map (rule_fields counts) (take i all_rules))
    → new ≡ items ++ lines_text (counter_fields name count ∷ [])
    → new ≡ old ++ lines_text (map (rule_fields counts) (take (i + 1) all_rules))
counted_next counts i name count old items new within name_is count_is was added =
    let rule : Rule = get_or all_rules i PortDown in
    written_each (rule_fields counts) all_rules i PortDown old items new within was
    (added ∙ ap (λ n. items ++ lines_text (counter_fields n count ∷ [])) name_is ∙ ap (λ k. items ++ lines_text (counter_fields (rule_name rule) k ∷ [])) count_is)

in_order : (lines more : List (List (List ℕ))) (end old first second new : List ℕ) → first ≡ old ++ lines_text lines → second ≡ first ++ lines_text more → new ≡ second ++ end → new ≡ old ++ (lines_text (lines ++ more) ++ end)
in_order lines more end old first second new one two three =
    three ∙ ap (λ text. text ++ end) (written_more old first second lines more one two) ∙ append_assoc old (lines_text (lines ++ more)) end

-- the lines of the rules, those behind them, and the last line
pub counted_all : (counts : Counts) (old first second new : List ℕ) → first ≡ old ++ lines_text (map (rule_fields counts) all_rules) → second ≡ first ++ lines_text (other_lines counts) → new ≡ second ++ end_text → new ≡ old ++ counters_text counts
counted_all counts old first second new one two three = in_order (map (rule_fields counts) all_rules) (other_lines counts) end_text old first second new one two three

in_number_order : map rule_number all_rules ≡ range_with_len 1 23
in_number_order = refl

-- the rule at a place has the number behind it
rule_at : (i : ℕ) → i < 23 → rule_number (get_or all_rules i PortDown) - 1 ≡ i
rule_at i within =
    let number : rule_number (get_or all_rules i PortDown) ≡ 1 + i =
    sym (get_or-map rule_number all_rules i PortDown 0 within) ∙ ap (λ (ns : List ℕ). get_or ns i 0) in_number_order ∙ get_or-range_with_len 1 23 i 0 within in
    omega (arith, number)

-- the count at the place of a rule is the one that is kept there
pub counted_at : (counts : Counts) (i : ℕ) → i < 23 → get_or counts.by_rule i 0 ≡ counter_at i counts
counted_at counts i within =
    let tail : List ℕ = counts.pass ∷ counts.cut ∷ counts.probes ∷ counts.lost ∷ [] in
    sym (get_or_append_left (map (dropped_count counts) all_rules) tail 0 i within ∙ get_or-map (dropped_count counts) all_rules i PortDown 0 within
    ∙ ap (λ k. get_or counts.by_rule k 0) (rule_at i within))
