-- What the shows print, line by line.
use Rattle.std.proofs.Common.{ℕ, ◌≡◌, ◌+◌, ◌^◌, ◌<◌, ◌≤◌, All, List, [], ◌∷◌, ◌++◌, length, map, take, drop, get_or, Some, None, true, inl, inr, refl, sym, ap, ◌∙◌, append_assoc, arith}
use Rattle.std.specs.List.{slice_get}
use Rattle.std.specs.Option.{option_map}
use Rattle.std.proofs.lemmas.Option.{slice_get-get_or, slice_get_cases, none-some, same_Some}
use Rattle.std.proofs.lemmas.List.{take_more, take_all, append-nil, get_or-map, map-append}
use Rattle.std.proofs.lemmas.List.Elements.{All-drop, All-filter, All-head}
use Rattle.savi_kinds.specs.declared.address.Addr.{Addr}
use Rattle.savi_kinds.specs.declared.address.Mac.{Mac}
use Rattle.savi_kinds.specs.declared.port.Port.{Port}
use Rattle.savi_kinds.specs.declared.plan.Plan.{Plan}
use Rattle.savi_kinds.specs.declared.plan.PortPlan.{PortPlan}
use Rattle.savi_kinds.specs.Ports.{number_of}
use Rattle.savi_kinds.proofs.PortCounts.{length-by_port}
use Rattle.fcfs_states.specs.declared.times.Times.{Times}
use Rattle.mix_rules.specs.declared.state.AddrState.{AddrState}
use Rattle.savi_access.specs.declared.row.Row.{Row}
use Rattle.savi_access.specs.Rows.{pair_of}
use Rattle.bridge_fdb.specs.declared.station.Station.{Station}
use Rattle.bridge_fdb.specs.Limits.{IsWithinLimits}
use Rattle.hist_store.specs.TextOfLines.{lines_text}
use Rattle.hist_store.proofs.LineLemmas.{lines_text-append}
use Rattle.control_replies.specs.Bindings.{binding_lines, all_binding_lines}
use Rattle.control_replies.specs.declared.port_row.PortRow.{PortRow}
use Rattle.control_replies.specs.Replies.{end_text}
use Rattle.control_replies.specs.Shows.{port_fields, ports_text, station_fields, station_line}
use Rattle.bridge_fdb.specs.Stations.{is_live, live_at, rows_from, station_end, station_told}
use Rattle.savi_history.specs.Passes.{has_port}
use Rattle.savi_history.specs.Shown.{station_row}
use Rattle.savi_history.proofs.PassNumbers.{known_at}
use Rattle.savi_core.specs.Machines.{port_number_at}
use Rattle.savi_core.specs.Shows.{kept_station_row}

-- the lines of addresses

pub more_bindings : (times : Times) (rows more : List (ℕ × Row)) → all_binding_lines times (rows ++ more) ≡ all_binding_lines times rows ++ all_binding_lines times more
more_bindings times [] more = refl
more_bindings times (row ∷ rows) more =
    ap (λ text. binding_lines times row ++ text) (more_bindings times rows more)
    ∙ sym (append_assoc (binding_lines times row) (all_binding_lines times rows) (all_binding_lines times more))

abbrev row_with : Addr × AddrState → Row
row_with pair = record { address = pair.0; state = pair.1 }

-- the rows up to the next one, which is told
pub row_more : (rows : List Row) (i : ℕ) (address : Addr) (state : AddrState) → i < length rows → Some (address, state) ≡ option_map pair_of (slice_get rows i) → take (i + 1) rows ≡ take i rows ++ record { address = address; state = state } ∷ []
row_more rows i address state within told =
    let row : Row = row_with (address, state) in
    let at : slice_get rows i ≡ Some (get_or rows i row) = slice_get-get_or rows i row within in
    let pair : (address, state) ≡ pair_of (get_or rows i row) = same_Some (address, state) (pair_of (get_or rows i row)) (told ∙ ap (option_map pair_of) at) in
    take_more rows i row within ∙ ap (λ r. take i rows ++ r ∷ []) (sym (ap row_with pair))

-- those of the rows of a VLAN up to the next one, behind others
pub next_binding : (times : Times) (vlan : ℕ) (rows : List Row) (i : ℕ) (address : Addr) (state : AddrState) (before was now : List ℕ)
    → i < length rows
    → Some (address, state) ≡ option_map pair_of (slice_get rows i)
    → was ≡ before ++ all_binding_lines times (map (λ row. (vlan, row)) (take i rows))
    → now ≡ was ++ binding_lines times (vlan, row_with (address, state))
    → now ≡ before ++ all_binding_lines times (map (λ row. (vlan, row)) (take (i + 1) rows))
next_binding times vlan rows i address state before was now within told was_is now_is =
    let with_vlan : Row → ℕ × Row = λ row. (vlan, row) in
    let row : Row = row_with (address, state) in
    let some : List ℕ = all_binding_lines times (map (λ r. (vlan, r)) (take i rows)) in
    let more : take (i + 1) rows ≡ take i rows ++ row ∷ [] = row_more rows i address state within told in
    now_is
    ∙ ap (λ text. text ++ binding_lines times (vlan, row)) was_is
    ∙ append_assoc before some (binding_lines times (vlan, row))
    ∙ ap (λ text. before ++ text)
    (ap (λ text. some ++ text) (sym (append-nil (binding_lines times (vlan, row))))
    ∙ sym (more_bindings times (map with_vlan (take i rows)) ((vlan, row) ∷ []))
    ∙ ap (all_binding_lines times) (sym (map-append with_vlan (take i rows) (row ∷ [])) ∙ ap (map with_vlan) (sym more)))

-- a row is told wherever one is
pub some_row : (rows : List Row) (i : ℕ) → i < length rows → None ≡ option_map pair_of (slice_get rows i) → ⊥
some_row rows i within none =
    elim (slice_get_cases rows i).1 [
      | inl found ↦ none-some (pair_of found.0) (none ∙ ap (option_map pair_of) found.2)
      | inr past ↦ omega (arith, within, past.0)
    ]

-- the lines of ports

map_both : {A B C : Type 0} (f : A → B) (g : B → C) (xs : List A) → map g (map f xs) ≡ map (λ x. g (f x)) xs
map_both f g [] = refl
map_both f g (x ∷ xs) = ap (λ ys. g (f x) ∷ ys) (map_both f g xs)

-- a port of the plan
pub item_known : (plan : Plan) (i : ℕ) (port : PortPlan) → i < length plan.ports → port ≡ get_or plan.ports i port → has_port plan (number_of port.number) ≡ true
item_known plan i port within is =
    let number : PortPlan → ℕ = λ p. number_of p.number in
    let at : port_number_at plan i ≡ number_of port.number = get_or-map number plan.ports i port 0 within ∙ ap number (sym is) in
    ap (has_port plan) (sym at) ∙ known_at plan i within

-- the lines of all ports, and the last line
pub all_ports : (row : PortPlan → PortRow) (ports : List PortPlan) (i : ℕ) (was now : List ℕ)
    → length ports ≤ i
    → was ≡ lines_text (map (λ port. port_fields (row port)) (take i ports))
    → now ≡ was ++ end_text
    → now ≡ ports_text (map row ports)
all_ports row ports i was now all was_is now_is =
    now_is
    ∙ ap (λ text. text ++ end_text) was_is
    ∙ ap (λ some. lines_text (map (λ port. port_fields (row port)) some) ++ end_text) (take_all i ports all)
    ∙ ap (λ lines. lines_text lines ++ end_text) (sym (map_both row port_fields ports))

-- the lines of stations

-- what is left once the next one was written
pub next_station : (row : ℕ × Mac × Port × ℕ) (rows left : List (ℕ × Mac × Port × ℕ)) (was now all : List ℕ)
    → left ≡ row ∷ rows
    → now ≡ was ++ station_line row
    → was ++ lines_text (map station_fields left) ≡ all
    → now ++ lines_text (map station_fields rows) ≡ all
next_station row rows left was now all left_is now_is was_is =
    let rest : List ℕ = lines_text (map station_fields rows) in
    ap (λ text. text ++ rest) now_is
    ∙ append_assoc was (station_line row) rest
    ∙ ap (λ text. was ++ text) (sym (lines_text-append (station_fields row ∷ []) (map station_fields rows)))
    ∙ ap (λ all. was ++ lines_text (map station_fields all)) (sym left_is)
    ∙ was_is

-- nothing is left
pub no_station : (left : List (ℕ × Mac × Port × ℕ)) (was all : List ℕ) → left ≡ [] → was ++ lines_text (map station_fields left) ≡ all → was ≡ all
no_station left was all left_is was_is =
    sym (append-nil was) ∙ ap (λ some. was ++ lines_text (map station_fields some)) (sym left_is) ∙ was_is

-- the rows of the stations of a VLAN
pub own_rows : (vlan : ℕ) (live : List Station) → map kept_station_row (map (λ (a : Station). (vlan, a)) live) ≡ map (station_row vlan) (map station_told live)
own_rows vlan [] = refl
own_rows vlan (station ∷ live) = ap (λ (rows : List (ℕ × Mac × Port × ℕ)). station_row vlan (station_told station) ∷ rows) (own_rows vlan live)

-- at most 256 stations are kept of each of 16 ports
pub few_stations : (stations : List Station) → IsWithinLimits stations → length stations ≤ 4096
few_stations stations limits = omega (arith, length-by_port (λ (station : Station). station.port) 256 stations limits.room)

-- a station that is shown ends 300 s after a moment of 62 bits

first_in_time : (live : List Station) → All (λ (station : Station). station.last ≤ 2 ^ 62) live → (row : Mac × Port × ℕ) (rest : List (Mac × Port × ℕ)) → map station_told live ≡ row ∷ rest → row.2 < 2 ^ 63
first_in_time [] early row rest is = absurd cc
first_in_time (station ∷ live) early row rest is =
    let first : station_told station ≡ row = (cc) in
    let end : station_end station ≡ row.2 = ap (λ (told : Mac × Port × ℕ). told.2) first in
    let last : station.last ≤ 2 ^ 62 = All-head (λ (s : Station). s.last ≤ 2 ^ 62) station live early in
    omega (arith, end, last)

pub row_in_time : (t from : ℕ) (stations : List Station) (row : Mac × Port × ℕ) (rest : List (Mac × Port × ℕ)) → IsWithinLimits stations → rows_from t from stations ≡ row ∷ rest → row.2 < 2 ^ 63
row_in_time t from stations row rest limits is =
    first_in_time (live_at t (drop from stations))
    (All-filter (is_live t) (λ (station : Station). station.last ≤ 2 ^ 62) (drop from stations) (All-drop (λ (station : Station). station.last ≤ 2 ^ 62) from stations limits.in_time))
    row rest is
