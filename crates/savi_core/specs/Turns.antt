-- What a switch is behind a turn, and what is kept of its tables then.
use Rattle.std.specs.Prelude.{◌≡◌, ℕ, ◌+◌, Option, None, List, [], ◌∷◌, ◌++◌, slice_index_or}
use Rattle.std.specs.Option.{is_some}
use Rattle.savi_kinds.specs.declared.entry.How.{How}
use Rattle.bridge_fdb.specs.declared.station.Station.{Station}
use Rattle.dhcp_states.specs.declared.request.Request.{Request}
use Rattle.savi_access.specs.declared.row.Row.{Row}
use Rattle.checkpoint.specs.Columns.{Columns}
use Rattle.savi_segments.specs.Checkpoints.{after}
use Rattle.savi_core.specs.Lanes.{Lane, with_reopened}
use Rattle.savi_core.specs.Machines.{Machine, base_of}

-- the switch goes on from what its history leaves, with an empty one
pub record IsTurned (old new : Machine) : Type 0 where
  pub plan : new.plan ≡ old.plan
  pub base : base_of new ≡ after old.plan (base_of old) old.past
  pub past : new.past ≡ []

-- what is kept with these ends of passes, and with these rows, requests or stations of VLANs behind the others

abbrev pub with_ends : List (ℕ × How) → Columns → Columns
with_ends ended columns = record columns { ended = ended }

abbrev pub with_rows : List (ℕ × Row) → Columns → Columns
with_rows rows columns = record columns { rows = columns.rows ++ rows }

abbrev pub with_requests : List (ℕ × Request) → Columns → Columns
with_requests requests columns = record columns { requests = columns.requests ++ requests }

abbrev pub with_stations : List (ℕ × Station) → Columns → Columns
with_stations stations columns = record columns { stations = columns.stations ++ stations }

-- the lanes once a new history begins, by how the passes from the first lane's on have ended for good
abbrev pub reopened : {A : Type 0} → ℕ → List (Option How) → List (Lane A) → List (Lane A)
reopened first ends [] = []
reopened first ends (lane ∷ lanes) = with_reopened (is_some (slice_index_or ends first None)) lane ∷ reopened (first + 1) ends lanes
