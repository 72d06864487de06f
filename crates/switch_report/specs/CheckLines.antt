-- The lines of standard output that say what the text of a journal is, and what its audit has counted, each with its line
-- feed.
use Rattle.std.specs.Prelude.{ℕ, List, ◌++◌, codes, decimal}
use Rattle.switch_report.specs.RunLines.{line}

-- the journal of a finished history with so many entries
abbrev pub good_line : ℕ → List ℕ
good_line entries = line (codes "good: " ++ (decimal entries ++ codes " entries"))

-- the entry of this number can't stand: a field would have the one text, and it has the other
abbrev pub wrong_line : ℕ → List ℕ → List ℕ → List ℕ
wrong_line entry want have = line (codes "wrong at entry " ++ (decimal entry ++ (codes ": want " ++ (want ++ (codes " have " ++ have)))))

-- the line of this number may not stand where it does
abbrev pub bad_line : ℕ → List ℕ
bad_line n = line (codes "bad line " ++ decimal n)

-- the journal of a finished history with so many entries was audited: so many frames of IPv4 and ARP passed, and so many
-- frames are reported
abbrev pub audited_line : ℕ → ℕ → ℕ → List ℕ
audited_line entries frames violations =
    line (codes "audited " ++ (decimal entries ++ (codes " frames " ++ (decimal frames ++ (codes " violations " ++ decimal violations)))))
