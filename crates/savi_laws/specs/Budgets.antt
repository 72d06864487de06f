-- How many entries a history may come to, by what came in.
use Rattle.std.specs.Prelude.{ℕ, ◌+◌, ◌*◌, ◌≤◌, Option, Some, None, List, [], length, sum_by}
use Rattle.std.specs.List.{flat_map}
use Rattle.savi_kinds.specs.declared.plan.Plan.{Plan}
use Rattle.savi_kinds.specs.Arrivals.{Arrival, Frame, Long, Input}
use Rattle.savi_kinds.specs.Ports.{number_of}
use Rattle.savi_kinds.specs.Vlans.{vlans_of}
use Rattle.cli_lang.specs.Arrivals.{Line}
use Rattle.cli_lang.specs.Arrivals as control
use Rattle.hist_store.specs.Rows.{Row}
use Rattle.checkpoint.specs.Bases.{Base}
use Rattle.savi_history.specs.PortInputs.{arrived}
use Rattle.savi_laws.specs.Answered.{inputs}

-- how many frames, longer frames and lines came in
abbrev pub input_count : List Row → ℕ
input_count past = length (inputs past)

-- how many these lines and these arrivals are
abbrev pub given_count : List Line → List Arrival → ℕ
given_count lines arrivals = length lines + length arrivals

-- how many octets are kept of an arrival: those of a longer frame aren't
abbrev pub kept_of : Arrival → ℕ
kept_of (Frame stamp octets) = length octets
kept_of (Long stamp len) = 0

-- how many octets are kept of these lines and arrivals
abbrev pub given_octets : List Line → List Arrival → ℕ
given_octets lines arrivals = sum_by (λ line. length line.command) lines + sum_by kept_of arrivals

-- the lines of control's input, where it has one
abbrev pub lines_of : Option control.Input → List Line
lines_of None = []
lines_of (Some input) = input.arrivals

-- the arrivals of all these inputs
abbrev pub arrivals_of : List Input → List Arrival
arrivals_of inputs = flat_map (λ input. input.arrivals) inputs

-- the arrivals that a history holds of all ports of its plan
abbrev pub all_arrived : Plan → List Row → List Arrival
all_arrived plan past = flat_map (λ p. arrived (number_of p.number) past) plan.ports

-- the plan has room for so many entries and octets beside those that stay free: 4,130 entries for drains and ends, and
-- 1,518 octets for the longest frame
pub record HasRoomFor (plan : Plan) (count octets : ℕ) : Type 0 where
  pub entries : 4130 + count ≤ plan.entries
  pub bytes : 1518 + octets ≤ plan.bytes

-- as many entries as a replay with so many inputs comes to at most: an input and a drain of each port for each, and the ends
abbrev pub replay_entries : Plan → ℕ → ℕ
replay_entries plan count = 34 + (length plan.ports + 1) * count

-- the plan has room for a replay with so many inputs, of so many octets
abbrev pub SufficesForReplay : Plan → ℕ → ℕ → Type 0
SufficesForReplay plan count octets = HasRoomFor plan (replay_entries plan count) octets

-- how many addresses of the VLANs of a plan had a state before
abbrev pub standing : Plan → Base → ℕ
standing plan base = sum_by (λ vlan. length (base.rows vlan)) (vlans_of plan)

-- what may bring entries about: frames, longer frames and lines that came in, and addresses that had a state before
abbrev pub causes : Plan → Base → List Row → ℕ
causes plan base past = input_count past + standing plan base

-- as many entries as any history with so many causes comes to at most: the ends of all passes, and 256 for each cause
abbrev pub entries_most : ℕ → ℕ
entries_most count = 34 + 256 * count

-- the plan has room for any history with so many causes, of so many octets
abbrev pub Suffices : Plan → ℕ → ℕ → Type 0
Suffices plan count octets = HasRoomFor plan (entries_most count) octets
