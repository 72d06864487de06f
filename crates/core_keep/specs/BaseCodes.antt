-- What no entry changes of a switch, as numbers: its plan, and the columns of what its history goes on from. Where a part may
-- be longer or shorter, its length stands in front.
use Rattle.std.specs.Prelude.{ℕ, List, [], ◌∷◌, ◌++◌, Option, Some, None}
use Rattle.savi_kinds.specs.declared.port.Port.{Port}
use Rattle.savi_kinds.specs.declared.plan.Plan.{Plan}
use Rattle.savi_kinds.specs.declared.entry.How.{How}
use Rattle.savi_kinds.specs.Ports.{number_of}
use Rattle.fcfs_states.specs.declared.state.Fcfs.{Fcfs}
use Rattle.fcfs_states.specs.declared.state.Fcfs.TheVariants.{NoBind, Tentative, Valid, TestLt, TestVp}
use Rattle.dhcp_states.specs.declared.bound.Bound.{Bound}
use Rattle.dhcp_states.specs.declared.request.Request.{Request}
use Rattle.mix_rules.specs.declared.state.AddrState.{AddrState}
use Rattle.savi_access.specs.declared.row.Row.{Row}
use Rattle.bridge_fdb.specs.declared.station.Station.{Station}
use Rattle.control_replies.specs.declared.counts.Counts.{Counts}
use Rattle.checkpoint.specs.Columns.{Columns}
use Rattle.core_keep.specs.RowCodes.{how_code}
use Rattle.core_keep.specs.PlanCodes.{bit_code, text_code, list_code, plan_code}

abbrev pub number_code : ℕ → List ℕ
number_code n = n ∷ []

abbrev pub port_number_code : Port → List ℕ
port_number_code port = number_of port ∷ []

abbrev pub maybe_code : {X : Type 0} → (X → List ℕ) → Option X → List ℕ
maybe_code code None = 0 ∷ []
maybe_code code (Some x) = 1 ∷ code x

-- five numbers
abbrev pub fcfs_code : Fcfs → List ℕ
fcfs_code NoBind = 0 ∷ 0 ∷ 0 ∷ 0 ∷ 0 ∷ []
fcfs_code (Tentative p since two) = 1 ∷ number_of p ∷ 0 ∷ since ∷ bit_code two
fcfs_code (Valid p until) = 2 ∷ number_of p ∷ 0 ∷ until ∷ 0 ∷ []
fcfs_code (TestLt p since two) = 3 ∷ number_of p ∷ 0 ∷ since ∷ bit_code two
fcfs_code (TestVp p q since two) = 4 ∷ number_of p ∷ number_of q ∷ since ∷ bit_code two

abbrev pub bound_code : Bound → List ℕ
bound_code bound = number_of bound.p ∷ maybe_code number_code bound.until

abbrev pub state_code : AddrState → List ℕ
state_code state = (maybe_code port_number_code state.fixed ++ maybe_code bound_code state.dhcp) ++ fcfs_code state.fcfs

abbrev pub address_code : Row → List ℕ
address_code row = row.address.0 ∷ state_code row.state

abbrev pub request_code : Request → List ℕ
request_code request = number_of request.port ∷ request.tid ∷ request.opened ∷ text_code request.duid.items

abbrev pub station_code : Station → List ℕ
station_code station = number_of station.port ∷ station.last ∷ text_code station.mac.0

abbrev pub ended_code : ℕ × How → List ℕ
ended_code ended = ended.0 ∷ how_code ended.1

abbrev pub counts_code : Counts → List ℕ
counts_code counts = counts.pass ∷ counts.cut ∷ counts.probes ∷ counts.lost ∷ text_code counts.by_rule

-- a row of a column, with its VLAN
abbrev pub with_vlan : {X : Type 0} → (X → List ℕ) → ℕ × X → List ℕ
with_vlan code row = row.0 ∷ code row.1

abbrev pub columns_code : Columns → List ℕ
columns_code columns =
    columns.moment ∷ columns.shut.0 ∷ columns.row_room ∷ columns.station_room
    ∷ (bit_code columns.is_start ++ (list_code ended_code columns.ended ++ (counts_code columns.counts
    ++ (list_code (with_vlan address_code) columns.rows ++ (list_code (with_vlan request_code) columns.requests
    ++ list_code (with_vlan station_code) columns.stations)))))

-- the plan, and the columns behind it
abbrev pub fixed_code : Plan → Columns → List ℕ
fixed_code plan columns = text_code (plan_code plan) ++ columns_code columns
