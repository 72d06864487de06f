-- The lines on standard error, each with its line feed.
use Rattle.std.specs.Prelude.{ℕ, List, [], ◌∷◌, ◌++◌, codes, decimal}
use Rattle.savi_conf.specs.declared.fault.ConfFault.{ConfFault}
use Rattle.savi_conf.specs.FaultTexts.{fault_text}

abbrev pub line : List ℕ → List ℕ
line text = text ++ 10 ∷ []

abbrev pub memory_line : List ℕ
memory_line = line (codes "out of memory")

abbrev pub usage_line : List ℕ
usage_line = line (codes "usage: savi_switch replay FILE, serve FILE, check FILE, gen SEED FRAMES, split FILE, learn FILE MS, audit FILE")

-- why a configuration gives no plan
abbrev pub config_line : ConfFault → List ℕ
config_line fault = line (fault_text fault)

-- what could not be opened: FILE, a port, control or the journal
abbrev pub cannot_open_line : List ℕ → List ℕ
cannot_open_line name = line (codes "cannot open " ++ name)

abbrev pub port_name : ℕ → List ℕ
port_name number = codes "port " ++ decimal number

abbrev pub control_word : List ℕ
control_word = codes "control"

abbrev pub journal_word : List ℕ
journal_word = codes "journal"

abbrev pub read_failed_line : List ℕ → List ℕ
read_failed_line name = line (name ++ codes ": read failed")

abbrev pub write_failed_line : List ℕ → List ℕ
write_failed_line name = line (name ++ codes ": write failed")

abbrev pub malformed_line : List ℕ → ℕ → List ℕ
malformed_line name at = line (name ++ (codes ": malformed at " ++ decimal at))
