-- Which passes of a switch have ended, by number. The inputs have the first numbers: the ingress of each port, and control.
use Rattle.std.specs.Prelude.{ℕ, zero, suc, ◌+◌, Bool, false, if◌then◌else◌, List, slice_index_or, replicate}

pub record PassMarks : Type 0 where
  -- how many inputs there are
  pub inputs : ℕ
  -- whether a pass has ended
  pub ended : List Bool

-- none has ended
abbrev pub all_open : ℕ → PassMarks
all_open inputs = record { inputs = inputs; ended = replicate 34 false }

-- how many of the passes below a number haven't ended
abbrev pub open_among : List Bool → ℕ → ℕ
open_among ended zero = 0
open_among ended (suc n) = open_among ended n + (if slice_index_or ended n false then 0 else 1)
