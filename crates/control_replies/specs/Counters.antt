-- What `show counters` prints: how many frames each rule dropped, in the order of the rules' numbers, and then how many
-- passed, how often a full queue left a frame out, and how many probes were sent and how many left out.
use Rattle.std.specs.Prelude.{ℕ, ◌-◌, ◌^◌, ◌<◌, List, [], ◌∷◌, ◌++◌, map, codes, decimal, slice_index}
use Rattle.savi_kinds.specs.declared.verdict.Rule.{Rule}
use Rattle.savi_kinds.specs.declared.verdict.Rule.TheVariants.{PortDown, Malformed, ReservedGroup, SourceMac, Tagged, BadIpv6, HiddenUpper, UnknownNextHeader, RouterAdvert, FragmentedNd, BadNd, Redirect, DhcpServer, UnspecifiedSource, OffLink, NotAssigned, PortFull, WrongPort, Unverified, Contested, NaTarget, PendingFull, DhcpContested}
use Rattle.savi_kinds.specs.Rules.{rule_number}
use Rattle.hist_store.specs.TextOfLines.{lines_text}
use Rattle.hist_store.specs.VerdictTexts.{rule_name}
use Rattle.control_replies.specs.declared.counts.Counts.{Counts}
use Rattle.control_replies.specs.Replies.{end_text}

-- the rules, in the order of their numbers
abbrev pub all_rules : List Rule
all_rules =
    PortDown ∷ Malformed ∷ ReservedGroup ∷ SourceMac ∷ Tagged ∷ BadIpv6 ∷ HiddenUpper ∷ UnknownNextHeader
    ∷ RouterAdvert ∷ FragmentedNd ∷ BadNd ∷ Redirect ∷ DhcpServer ∷ UnspecifiedSource
    ∷ OffLink ∷ NotAssigned ∷ PortFull ∷ WrongPort ∷ Unverified ∷ Contested ∷ NaTarget ∷ PendingFull ∷ DhcpContested ∷ []

-- how many frames a rule dropped: that of number 1 stands at index 0
abbrev pub dropped_count : Counts → Rule → ℕ
dropped_count counts rule = slice_index counts.by_rule (rule_number rule - 1)

-- a line: a name and a count
abbrev pub counter_fields : List ℕ → ℕ → List (List ℕ)
counter_fields name count = name ∷ decimal count ∷ []

-- the line of a rule
abbrev pub rule_fields : Counts → Rule → List (List ℕ)
rule_fields counts rule = counter_fields (rule_name rule) (dropped_count counts rule)

-- the lines behind those of the rules
abbrev pub other_lines : Counts → List (List (List ℕ))
other_lines counts =
    counter_fields (codes "Pass") counts.pass
    ∷ counter_fields (codes "Cut") counts.cut
    ∷ counter_fields (codes "Probes") counts.probes
    ∷ counter_fields (codes "Lost") counts.lost
    ∷ []

abbrev pub counters_text : Counts → List ℕ
counters_text counts = lines_text (map (rule_fields counts) all_rules ++ other_lines counts) ++ end_text

-- each count is a number of 64 bits, as the code has them
pub record AreCounts (counts : Counts) : Type 0 where
  pub by_rule : (rule : Rule) → dropped_count counts rule < 2 ^ 64
  pub pass : counts.pass < 2 ^ 64
  pub cut : counts.cut < 2 ^ 64
  pub probes : counts.probes < 2 ^ 64
  pub lost : counts.lost < 2 ^ 64
