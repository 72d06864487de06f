-- What a history goes on from: what the one before it left.
use Rattle.std.specs.Prelude.{ℕ, Bool, true, List, []}
use Rattle.savi_kinds.specs.declared.entry.How.{How}
use Rattle.bridge_fdb.specs.declared.station.Station.{Station}
use Rattle.dhcp_states.specs.declared.request.Request.{Request}
use Rattle.savi_access.specs.declared.row.Row.{Row}
use Rattle.savi_access.specs.Rules.{AccessBase}
use Rattle.control_replies.specs.declared.counts.Counts.{Counts}
use Rattle.control_replies.specs.Counting.{nothing_counted}

pub record Base : Type 0 where
  -- nothing came before
  pub is_start : Bool
  -- the moment of the last entry before it
  pub moment : ℕ
  -- the passes that ended for good before it, by number, and why each did
  pub ended : List (ℕ × How)
  -- the numbers of the ports that were shut then
  pub shut : List ℕ
  -- the stations of each VLAN that were known at that moment
  pub stations : ℕ → List Station
  -- the states of the addresses of each VLAN then
  pub rows : ℕ → List Row
  -- the requests of each VLAN that were open then, the one that was asked last at the end
  pub requests : ℕ → List Request
  -- what was counted of all entries before it
  pub counts : Counts

-- the start of a switch: nothing came before
abbrev pub empty : Base
empty = record { is_start = true; moment = 0; ended = []; shut = []; stations = λ vlan. []; rows = λ vlan. []; requests = λ vlan. []; counts = nothing_counted }

-- what states and requests go on from
abbrev pub access_of : Base → AccessBase
access_of base = record { addresses = record { moment = base.moment; rows = base.rows }; requests = base.requests }
