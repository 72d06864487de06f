-- What `show ports` and `show stations` print: a line for each port of the plan, and one for each live station of each VLAN.
use Rattle.std.specs.Prelude.{ℕ, ◌^◌, ◌<◌, ◌≤◌, Bool, if◌then◌else◌, List, [], ◌∷◌, ◌++◌, map, codes, decimal}
use Rattle.savi_kinds.specs.declared.address.Mac.{Mac}
use Rattle.savi_kinds.specs.declared.port.Port.{Port}
use Rattle.savi_kinds.specs.MacText.{HasSixOctets}
use Rattle.savi_kinds.specs.KeyText.{mac_key_text}
use Rattle.savi_kinds.specs.PlanWords.{role_word}
use Rattle.hist_store.specs.TextOfLines.{lines_text}
use Rattle.hist_store.specs.PortTexts.{port_text}
use Rattle.control_replies.specs.declared.port_row.PortRow.{PortRow}
use Rattle.control_replies.specs.Replies.{end_text}

-- whether the operator has shut a port
abbrev pub shut_word : Bool → List ℕ
shut_word is_shut = if is_shut then codes "down" else codes "up"

-- the port, its role, `up` or `down`, and how many addresses it holds, requests are open there, and items wait there
abbrev pub port_fields : PortRow → List (List ℕ)
port_fields row =
    port_text row.number ∷ role_word row.role ∷ shut_word row.is_shut ∷ decimal row.held ∷ decimal row.pending ∷ decimal row.queued ∷ []

abbrev pub port_line : PortRow → List ℕ
port_line row = lines_text (port_fields row ∷ [])

abbrev pub ports_text : List PortRow → List ℕ
ports_text rows = lines_text (map port_fields rows) ++ end_text

-- the counts are numbers of 64 bits, as the code has them
pub record HasCounts (row : PortRow) : Type 0 where
  pub held : row.held < 2 ^ 64
  pub pending : row.pending < 2 ^ 64
  pub queued : row.queued < 2 ^ 64

-- a station: its VLAN and its MAC address, its port, and the moment (ms) at which it ends
abbrev pub station_fields : ℕ × Mac × Port × ℕ → List (List ℕ)
station_fields row = mac_key_text row.0 row.1 ∷ port_text row.2 ∷ decimal row.3 ∷ []

abbrev pub station_line : ℕ × Mac × Port × ℕ → List ℕ
station_line row = lines_text (station_fields row ∷ [])

abbrev pub stations_text : List (ℕ × Mac × Port × ℕ) → List ℕ
stations_text rows = lines_text (map station_fields rows) ++ end_text

-- a VLAN has a number that it may have (IEEE 802.1Q), a MAC address six octets as the code has them, and a station ends 300 s
-- after a moment of at most 2^62
pub record IsStation (row : ℕ × Mac × Port × ℕ) : Type 0 where
  pub vlan : row.0 ≤ 4094
  pub mac : HasSixOctets row.1
  pub until : row.3 < 2 ^ 63
