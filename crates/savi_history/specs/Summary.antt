-- The line that sums a history up.
use Rattle.std.specs.Prelude.{ℕ, ◌+◌, ◌-◌, ◌^◌, min, Bool, true, false, if◌then◌else◌, List, [], ◌∷◌, ◌++◌, length, codes, decimal, count_ones, Option, Some, None}
use Rattle.savi_kinds.specs.declared.entry.Act.{Act}
use Rattle.savi_kinds.specs.declared.entry.Act.TheVariants.{Frame, Long, Tick, Command, Drain, End}
use Rattle.savi_kinds.specs.declared.verdict.Verdict.{Verdict}
use Rattle.savi_kinds.specs.declared.verdict.Verdict.TheVariants.{Pass, Drop}
use Rattle.hist_store.specs.Rows.{Row}

-- an entry of a frame, however long
abbrev pub is_frame : Act → Bool
is_frame (Frame port stamp at len) = true
is_frame (Long port stamp len) = true
is_frame (Tick stamp) = false
is_frame (Command stamp at len) = false
is_frame (Drain port count) = false
is_frame (End who how) = false

abbrev pub is_pass : Option Verdict → Bool
is_pass None = false
is_pass (Some (Pass scope)) = true
is_pass (Some (Drop rule)) = false

abbrev pub is_drop : Option Verdict → Bool
is_drop None = false
is_drop (Some (Pass scope)) = false
is_drop (Some (Drop rule)) = true

-- the sum of a number over the rows
abbrev pub total : (Row → ℕ) → List Row → ℕ
total count [] = 0
total count (r ∷ past) = count r + total count past

-- the number of rows with a property
abbrev pub number_with : (Row → Bool) → List Row → ℕ
number_with has past = total (λ r. if has r then 1 else 0) past

-- a count that has reached 2^64 - 1 stays there
abbrev pub capped : ℕ → ℕ
capped n = min n (2 ^ 64 - 1)

-- what was counted of a history, each count capped
pub record Summary : Type 0 where
  pub entries : ℕ
  pub frames : ℕ
  pub passed : ℕ
  pub dropped : ℕ
  -- the probes that were queued, and those that were left out
  pub probes : ℕ
  pub lost : ℕ
  -- how often a frame was left out at a port
  pub cut : ℕ

abbrev pub summary_of : List Row → Summary
summary_of past = record {
  entries = capped (length past);
  frames = capped (number_with (λ r. is_frame r.entry.act) past);
  passed = capped (number_with (λ r. is_pass r.entry.verdict) past);
  dropped = capped (number_with (λ r. is_drop r.entry.verdict) past);
  probes = capped (total (λ r. r.entry.probes) past);
  lost = capped (total (λ r. r.entry.lost) past);
  cut = capped (total (λ r. count_ones r.entry.cuts.0) past);
}

-- the line, with its line feed
abbrev pub summary_text : Summary → List ℕ
summary_text s =
    codes "entries " ++ decimal s.entries ++ codes " frames " ++ decimal s.frames ++ codes " passed " ++ decimal s.passed
    ++ codes " dropped " ++ decimal s.dropped ++ codes " probes " ++ decimal s.probes ++ codes " lost " ++ decimal s.lost
    ++ codes " cut " ++ decimal s.cut ++ 10 ∷ []
