-- The lines of counters, each by its name and its count.
use Rattle.std.proofs.Common.{ℕ, zero, suc, ◌≡◌, ◌-◌, ◌<◌, ◌≤◌, List, [], ◌∷◌, ◌++◌, length, map, get_or, codes, decimal, Some, refl, ap, ◌∙◌, arith}
use Rattle.std.specs.Prelude.{slice_get}
use Rattle.std.specs.Option.{option_map}
use Rattle.std.proofs.lemmas.Option.{slice_get-map}
use Rattle.hist_store.specs.TextOfLines.{joined}
use Rattle.hist_store.specs.VerdictTexts.{rule_name}
use Rattle.control_replies.specs.declared.counts.Counts.{Counts}
use Rattle.control_replies.specs.Counters.{all_rules}
use Rattle.control_replies.specs.Counting.{all_counts, counter_at}
use Rattle.checkpoint.specs.Bases.{Base}
use Rattle.checkpoint.specs.BaseLines.{count_lines, counter_name, head_lines, moment_line, shut_line}
use Rattle.checkpoint.proofs.Places.{behind}

-- the names of all counters
abbrev counter_names : List (List ℕ)
counter_names = map rule_name all_rules ++ codes "Pass" ∷ codes "Cut" ∷ codes "Probes" ∷ codes "Lost" ∷ []

-- the line of a counter
abbrev pub named : List ℕ → ℕ → List (List ℕ)
named name count = codes "count" ∷ name ∷ decimal count ∷ []

-- a line for each name with its count
abbrev pub named_lines : List (List ℕ) → List ℕ → List (List (List ℕ))
named_lines [] counts = []
named_lines (name ∷ names) [] = []
named_lines (name ∷ names) (count ∷ counts) = named name count ∷ named_lines names counts

line_at : (names : List (List ℕ)) (counts : List ℕ) (i : ℕ) → length names ≡ length counts → i < length names → slice_get (named_lines names counts) i ≡ Some (named (get_or names i []) (get_or counts i 0))
line_at [] counts i same within = absurd (omega arith)
line_at (name ∷ names) [] i same within = absurd (omega (arith, same))
line_at (name ∷ names) (count ∷ counts) zero same within = refl
line_at (name ∷ names) (count ∷ counts) (suc i) same within = line_at names counts i (omega (arith, same)) (omega arith)

all_named : (counts : Counts) → count_lines counts ≡ named_lines counter_names (all_counts counts)
all_named counts = refl

as_many : (counts : Counts) → length counter_names ≡ length (all_counts counts)
as_many counts = refl

-- the text of the i-th counter
pub count_text : (counts : Counts) (i : ℕ) → i < 27 → slice_get (map joined (count_lines counts)) i ≡ Some (joined (named (counter_name i) (counter_at i counts)))
count_text counts i within =
    slice_get-map joined (count_lines counts) i
    ∙ ap (λ (l : List (List (List ℕ))). option_map joined (slice_get l i)) (all_named counts)
    ∙ ap (option_map joined) (line_at counter_names (all_counts counts) i (as_many counts) within)

-- the counters stand behind the moment and the ports
pub head_text : (base : Base) (i : ℕ) → 2 ≤ i → slice_get (map joined (head_lines base)) i ≡ slice_get (map joined (count_lines base.counts)) (i - 2)
head_text base i past = behind (joined (moment_line base) ∷ joined (shut_line base) ∷ []) (map joined (count_lines base.counts)) i past
