-- A base as text: what a journal says of it in front of the history that goes on from there.
use Rattle.std.specs.Prelude.{ℕ, ◌+◌, ◌==◌, ◌≡◌, Bool, false, if◌then◌else◌, List, [], ◌∷◌, ◌++◌, map, codes, decimal, Option, Some, None, slice_get, slice_index_or}
use Rattle.std.specs.List.{flat_map, join_with_byte, list_any}
use Rattle.savi_kinds.specs.declared.plan.Plan.{Plan}
use Rattle.savi_kinds.specs.declared.plan.PortPlan.{PortPlan}
use Rattle.savi_kinds.specs.declared.entry.Who.{Who}
use Rattle.savi_kinds.specs.declared.entry.Who.TheVariants.{Ingress, Control, Ticker, Egress}
use Rattle.savi_kinds.specs.declared.entry.How.{How}
use Rattle.savi_kinds.specs.MacText.{mac_text}
use Rattle.savi_kinds.specs.Vlans.{vlans_of}
use Rattle.bridge_fdb.specs.declared.station.Station.{Station}
use Rattle.dhcp_states.specs.declared.request.Request.{Request}
use Rattle.hist_store.specs.TextOfLines.{comma, joined, or_dash}
use Rattle.hist_store.specs.PortTexts.{port_text}
use Rattle.hist_store.specs.VerdictTexts.{rule_name}
use Rattle.hist_store.specs.EndTexts.{who_text, how_fields}
use Rattle.hist_store.specs.LineTexts.{hex_text}
use Rattle.control_replies.specs.declared.counts.Counts.{Counts}
use Rattle.control_replies.specs.Counters.{all_rules, rule_fields, other_lines}
use Rattle.checkpoint.specs.Bases.{Base}
use Rattle.checkpoint.specs.Columns.{by_vlan}
use Rattle.checkpoint.specs.Orders.{requests_in_order}
use Rattle.checkpoint.specs.StateLines.{text_in_vlan, state_base_lines}

-- the passes of a plan by number: one for the ingress of each port, then control and the ticker, then one for the egress of
-- each port
abbrev pub passes_of : Plan → List Who
passes_of plan =
    map (λ (port : PortPlan). Ingress port.number) plan.ports ++ Control ∷ Ticker ∷ map (λ (port : PortPlan). Egress port.number) plan.ports

abbrev pub moment_line : Base → List (List ℕ)
moment_line base = codes "moment" ∷ decimal base.moment ∷ []

-- the ports that are shut, with commas between, or `-` for none
abbrev pub shut_line : Base → List (List ℕ)
shut_line base = codes "shut" ∷ or_dash (join_with_byte comma (map decimal base.shut)) ∷ []

-- the name of a counter, the first at 0
abbrev pub counter_name : ℕ → List ℕ
counter_name i = slice_index_or (map rule_name all_rules ++ codes "Pass" ∷ codes "Cut" ∷ codes "Probes" ∷ codes "Lost" ∷ []) i []

-- a line for each counter, in the order in which they are shown
abbrev pub count_lines : Counts → List (List (List ℕ))
count_lines counts = map (λ fields. codes "count" ∷ fields) (map (rule_fields counts) all_rules ++ other_lines counts)

-- a request of a VLAN: its port, its transaction id, its DUID, and the moment (ms) at which it ends: 120 s after it was asked,
-- MAX_DHCP_RESPONSE_TIME (RFC 7513 section 10)
abbrev pub request_line : ℕ × Request → List (List ℕ)
request_line p =
    codes "request" ∷ decimal p.0 ∷ port_text p.1.port ∷ decimal p.1.tid ∷ hex_text p.1.duid.items ∷ decimal (p.1.opened + 120000) ∷ []

-- a station of a VLAN: its MAC address, its port, and the moment (ms) at which it was seen last
abbrev pub station_base_line : ℕ × Station → List (List ℕ)
station_base_line p = codes "station" ∷ text_in_vlan (mac_text p.1.mac) p.0 ∷ port_text p.1.port ∷ decimal p.1.last ∷ []

-- a pass by its text; a number that no pass has is told by none
abbrev pub pass_text : Option Who → List ℕ
pass_text (Some who) = who_text who
pass_text None = []

-- a pass that ended for good, and why
abbrev pub ended_line : Plan → ℕ × How → List (List ℕ)
ended_line plan p = codes "ended" ∷ pass_text (slice_get (passes_of plan) p.0) ∷ how_fields p.1

-- the first lines: the moment, the ports that are shut, and the counts
abbrev pub head_lines : Base → List (List (List ℕ))
head_lines base = moment_line base ∷ shut_line base ∷ count_lines base.counts

-- those behind them: of addresses, requests, stations and passes
abbrev pub column_lines : Plan → Base → List (List (List ℕ))
column_lines plan base =
    flat_map state_base_lines (by_vlan (vlans_of plan) base.rows)
    ++ map request_line (requests_in_order (by_vlan (vlans_of plan) base.requests))
    ++ map station_base_line (by_vlan (vlans_of plan) base.stations)
    ++ map (ended_line plan) base.ended

-- the lines of a base: the start has none
abbrev pub base_lines : Plan → Base → List (List (List ℕ))
base_lines plan base = if base.is_start then [] else head_lines base ++ column_lines plan base

-- the same as texts, each without its line feed
abbrev pub base_texts : Plan → Base → List (List ℕ)
base_texts plan base = map joined (base_lines plan base)

-- the plan has this VLAN
abbrev pub has_vlan : Plan → ℕ → Bool
has_vlan plan vlan = list_any (λ v. v == vlan) (vlans_of plan)

-- a base has nothing of a VLAN that the plan hasn't
pub record HasNothingElsewhere (plan : Plan) (base : Base) : Type 0 where
  pub rows : (vlan : ℕ) → has_vlan plan vlan ≡ false → base.rows vlan ≡ []
  pub requests : (vlan : ℕ) → has_vlan plan vlan ≡ false → base.requests vlan ≡ []
  pub stations : (vlan : ℕ) → has_vlan plan vlan ≡ false → base.stations vlan ≡ []
