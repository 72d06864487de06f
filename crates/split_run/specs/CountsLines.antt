-- The line of standard output that says what was counted, with its line feed.
use Rattle.std.specs.Prelude.{ℕ, List, [], ◌∷◌, ◌++◌, codes, decimal}
use Rattle.pcap_split.specs.declared.counts.Counts.{Counts}

abbrev pub counts_line : Counts → List ℕ
counts_line counts =
    codes "interfaces " ++ (decimal counts.interfaces
    ++ (codes " frames " ++ (decimal counts.frames
    ++ (codes " long " ++ (decimal counts.long
    ++ (codes " skipped " ++ (decimal counts.skipped ++ 10 ∷ [])))))))
