-- The lines of live control, which its clock stamps.
use Rattle.std.specs.Prelude.{ℕ, Bool, true, List, map}
use Rattle.savi_kinds.specs.declared.entry.How.{How}
use Rattle.cli_lang.specs.Arrivals.{Line, IsRun}

-- these octets, seen to end or not, are these live lines and end so
abbrev pub AreLiveLines : Bool → List ℕ → List Line → How → Type 0
AreLiveLines seen octets lines ending = IsRun true seen 0 lines ending octets

abbrev pub line_stamps : List Line → List ℕ
line_stamps lines = map (λ line. line.stamp) lines
