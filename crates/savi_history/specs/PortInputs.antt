-- What a history holds of the input of one port, by the port's number: the arrivals that were entered, and how it ended.
use Rattle.std.specs.Prelude.{ℕ, ◌==◌, if◌then◌else◌, List, [], ◌∷◌, ◌++◌, Option, Some, None}
use Rattle.savi_kinds.specs.declared.entry.Act.{Act}
use Rattle.savi_kinds.specs.declared.entry.Act.TheVariants as acts
use Rattle.savi_kinds.specs.declared.entry.Who.{Who}
use Rattle.savi_kinds.specs.declared.entry.Who.TheVariants.{Ingress, Control, Ticker, Egress}
use Rattle.savi_kinds.specs.declared.entry.How.{How}
use Rattle.savi_kinds.specs.Ports.{number_of}
use Rattle.savi_kinds.specs.Arrivals.{Arrival, Frame, Long}
use Rattle.hist_store.specs.Rows.{Row}

-- the arrival that an entry with these octets is, where it came in at this port
abbrev pub arrived_by : ℕ → List ℕ → Act → List Arrival
arrived_by port octets (acts.Frame p stamp at len) = if number_of p == port then Frame stamp octets ∷ [] else []
arrived_by port octets (acts.Long p stamp len) = if number_of p == port then Long stamp len ∷ [] else []
arrived_by port octets (acts.Tick stamp) = []
arrived_by port octets (acts.Command stamp at len) = []
arrived_by port octets (acts.Drain p count) = []
arrived_by port octets (acts.End who how) = []

-- the arrivals that were entered at a port, the oldest first
abbrev pub arrived : ℕ → List Row → List Arrival
arrived port [] = []
arrived port (r ∷ past) = arrived port past ++ arrived_by port r.octets r.entry.act

-- how the input of a port has ended behind the end of a pass, by how it had ended before
abbrev pub ended_by : ℕ → Who → How → Option How → Option How
ended_by port (Ingress p) how before = if number_of p == port then Some how else before
ended_by port Control how before = before
ended_by port Ticker how before = before
ended_by port (Egress p) how before = before

abbrev pub ended_behind : ℕ → Act → Option How → Option How
ended_behind port (acts.Frame p stamp at len) before = before
ended_behind port (acts.Long p stamp len) before = before
ended_behind port (acts.Tick stamp) before = before
ended_behind port (acts.Command stamp at len) before = before
ended_behind port (acts.Drain p count) before = before
ended_behind port (acts.End who how) before = ended_by port who how before

-- how the input of a port has ended
abbrev pub input_end : ℕ → List Row → Option How
input_end port [] = None
input_end port (r ∷ past) = ended_behind port r.entry.act (input_end port past)
