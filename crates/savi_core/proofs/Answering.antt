-- What the newest entry of a history is answered, by what a core keeps.
use Rattle.std.proofs.Common.{ℕ, suc, ◌≡◌, ◌+◌, ◌-◌, ◌<◌, Bool, true, List, [], ◌∷◌, ◌++◌, length, map, get_or, Option, Some, None, Result, Ok, inl, inr, refl, sym, ap, subst, ◌∙◌, arith, ◌==◌, ◌||◌, false, All}
use Rattle.std.specs.Prelude.{reverse, IsSomeAnd}
use Rattle.std.specs.List.{flat_map, list_any, slice_get}
use Rattle.std.proofs.lemmas.Bool.{cases_Bool, cond-true, cond-false, eqb-true}
use Rattle.std.proofs.lemmas.List.Elements.{All-head, All-tail, All-weaker}
use Rattle.std.proofs.lemmas.Option.{slice_get_cases}
use Rattle.std.proofs.lemmas.List.{get_or-reverse, length-reverse, map-append}
use Rattle.savi_kinds.specs.declared.plan.Plan.{Plan}
use Rattle.savi_kinds.specs.declared.plan.PortPlan.{PortPlan}
use Rattle.savi_kinds.specs.declared.plan.Role.{Role}
use Rattle.savi_kinds.specs.declared.port.Port.{Port}
use Rattle.savi_kinds.specs.declared.port.PortSet.{PortSet}
use Rattle.savi_kinds.specs.declared.entry.Act.{Act}
use Rattle.savi_kinds.specs.declared.entry.Act.TheVariants as acts
use Rattle.savi_kinds.specs.Ports.{number_of}
use Rattle.dhcp_states.specs.Requests.{open_at, requests_at_port}
use Rattle.savi_access.specs.Rows.{count_at}
use Rattle.bridge_fdb.specs.declared.station.Station.{Station}
use Rattle.bridge_fdb.specs.Stations.{live_at, station_told}
use Rattle.cli_lang.specs.declared.kinds.Command.{Command}
use Rattle.cli_lang.specs.declared.kinds.Command.TheVariants.{ShowBindings, ShowPorts, ShowCounters, ShowStations}
use Rattle.cli_lang.specs.declared.kinds.CmdFault.{CmdFault}
use Rattle.cli_lang.specs.CommandOf.{command_of}
use Rattle.egress_ring.specs.declared.item.Item.{Item as Queued}
use Rattle.control_replies.specs.declared.refusal.Refusal.{Refusal}
use Rattle.control_replies.specs.declared.port_row.PortRow.{PortRow}
use Rattle.control_replies.specs.declared.counts.Counts.{Counts}
use Rattle.control_replies.specs.Replies.{refusal_text}
use Rattle.control_replies.specs.Bindings.{bindings_text}
use Rattle.control_replies.specs.Shows.{ports_text, stations_text}
use Rattle.control_replies.specs.Counters.{counters_text}
use Rattle.savi_kinds.specs.Vlans.{access_vlan}
use Rattle.savi_kinds.specs.declared.address.Mac.{Mac}
use Rattle.dhcp_states.specs.declared.request.Request.{Request}
use Rattle.savi_access.specs.declared.row.Row.{Row as AddressRow}
use Rattle.savi_access.specs.Tables.{held_in}
use Rattle.savi_access.specs.Marks.{told, open_requests}
use Rattle.savi_access.specs.Plans.{rules_of, times_of}
use Rattle.hist_store.specs.Rows.{Row}
use Rattle.checkpoint.specs.Bases.{Base, access_of}
use Rattle.checkpoint.specs.BaseLines.{HasNothingElsewhere}
use Rattle.checkpoint.specs.Columns.{by_vlan}
use Rattle.savi_history.specs.Passes.{has_port, place_of}
use Rattle.savi_history.specs.Moments.{last_moment}
use Rattle.savi_history.specs.Marks.{marks}
use Rattle.savi_history.specs.Commands.{rows_told, refusal_of}
use Rattle.savi_history.specs.Stations.{stations}
use Rattle.savi_history.specs.Shown.{pending_in, port_row, reply_to, reply_unless, shown, counts_of, station_row}
use Rattle.savi_core.specs.Knows.{Knows}
use Rattle.savi_core.specs.Lanes.{Lane, no_lane}
use Rattle.savi_core.specs.Refused.{IsCommand, EndsWithCommand, IsRefusalBy, IsRefusal}
use Rattle.savi_core.specs.Remembers.{CoreState, Remembers}
use Rattle.savi_core.specs.Rings.{Rings, shut_in}
use Rattle.savi_core.specs.Shows.{held_by, kept_row, pending_by, kept_station_row, stations_told}
use Rattle.savi_core.specs.declared.vlan_set.VlanSet.{VlanSet}
use Rattle.savi_core.specs.VlanSets.{of_sets, requests_in, rows_by_vlan, vlans_of_sets}
use Rattle.savi_segments.specs.Checkpoints.{after}
use Rattle.savi_segments.proofs.Elsewhere.{after_elsewhere}
use Rattle.savi_core.specs.Tells.{Tells, TellOfAll}
use Rattle.savi_core.proofs.Knowing.{live_later}
use Rattle.savi_core.proofs.Remembering.{waits_at}
use Rattle.savi_core.proofs.Shown.{item_known, own_rows}
use Rattle.savi_core.proofs.Telling.{states_now}
use Rattle.savi_core.proofs.Turned.{sets_by}

-- the newest row

abbrev pub newest_octets : List Row → List ℕ
newest_octets [] = []
newest_octets (r ∷ past) = r.octets

newest_at : (past : List Row) (d : Row) → 0 < length past → newest_octets past ≡ (get_or past 0 d).octets
newest_at [] d some = absurd (omega (arith, some))
newest_at (r ∷ past) d some = refl

-- the octets of the last row are those of the newest
pub newest_is : (rows : List Row) (n : ℕ) (octets : List ℕ) → n + 1 ≡ length rows → IsSomeAnd (slice_get rows n) (λ row. row.octets ≡ octets) → newest_octets (reverse rows) ≡ octets
newest_is rows n octets last is =
    elim (slice_get_cases rows n).1 [
      | inl found ↦
          let r : Row = found.0 in
          let here : r.octets ≡ octets = subst (λ (o : Option Row). IsSomeAnd o (λ row. row.octets ≡ octets)) found.2 is in
          let front : get_or (reverse rows) 0 r ≡ get_or rows (length rows - 1 - 0) r = get_or-reverse rows 0 r (omega (arith, last)) in
          let number : length rows - 1 - 0 ≡ n = omega (arith, last) in
          newest_at (reverse rows) r (omega (arith, last, length-reverse rows))
          ∙ ap (λ (x : Row). x.octets) (front ∙ ap (λ k. get_or rows k r) number ∙ found.3)
          ∙ here
      | inr past ↦ absurd (omega (arith, last, past.0))
    ]

refusal_by : (plan : Plan) (base : Base) (past : List Row) (r : Row) (act : Act) (refused : Option Refusal) → IsCommand act → IsRefusalBy plan base past r act refused
    → refused ≡ refusal_of plan (rows_told plan (access_of base) (marks plan base past) r.entry.moment) (command_of r.octets)
refusal_by plan base past r (acts.Command stamp at len) refused is by = by
refusal_by plan base past r (acts.Frame port stamp at len) refused is by = absurd is
refusal_by plan base past r (acts.Long port stamp len) refused is by = absurd is
refusal_by plan base past r (acts.Tick stamp) refused is by = absurd is
refusal_by plan base past r (acts.Drain port count) refused is by = absurd is
refusal_by plan base past r (acts.End who how) refused is by = absurd is

-- a command is answered by why it was refused
pub answered : (plan : Plan) (base : Base) (past : List Row) (refused : Option Refusal) → EndsWithCommand past → IsRefusal plan base past refused
    → shown plan base past ≡ reply_unless plan base past (last_moment base past) (command_of (newest_octets past)) refused
answered plan base [] refused ends is = absurd ends
answered plan base (r ∷ past) refused ends is =
    ap (reply_unless plan base (r ∷ past) r.entry.moment (command_of r.octets)) (sym (refusal_by plan base past r r.entry.act refused ends is))

some_rows : (past : List Row) → EndsWithCommand past → 0 < length past
some_rows [] ends = absurd ends
some_rows (r ∷ past) ends = omega arith

-- what a line is answered that wasn't refused, which is that of the last row
pub told_all : (plan : Plan) (base : Base) (rows : List Row) (refused : Option Refusal) (n : ℕ) (octets : List ℕ) (order : Result Command CmdFault) (text : List ℕ)
    → EndsWithCommand (reverse rows)
    → IsRefusal plan base (reverse rows) refused
    → refused ≡ None
    → n ≡ length rows
    → IsSomeAnd (slice_get rows (n - 1)) (λ row. row.octets ≡ octets)
    → order ≡ command_of octets
    → text ≡ reply_to plan base (reverse rows) (last_moment base (reverse rows)) order
    → text ≡ shown plan base (reverse rows)
told_all plan base rows refused n octets order text ends is none size at order_is text_is =
    let past : List Row = reverse rows in
    let moment : ℕ = last_moment base past in
    let last : n - 1 + 1 ≡ length rows = omega (arith, size, some_rows (reverse rows) ends, length-reverse rows) in
    text_is
    ∙ ap (reply_to plan base (reverse rows) moment) (order_is ∙ ap command_of (sym (newest_is rows (n - 1) octets last at)))
    ∙ ap (reply_unless plan base (reverse rows) moment (command_of (newest_octets (reverse rows)))) (sym none)
    ∙ sym (answered plan base (reverse rows) refused ends is)

-- what one is answered that was refused
pub refused_all : (plan : Plan) (base : Base) (past : List Row) (refused : Option Refusal) (refusal : Refusal) (was text : List ℕ)
    → EndsWithCommand past
    → IsRefusal plan base past refused
    → refused ≡ Some refusal
    → was ≡ []
    → text ≡ was ++ refusal_text refusal
    → text ≡ shown plan base past
refused_all plan base past refused refusal was text ends is some empty text_is =
    text_is
    ∙ ap (λ all. all ++ refusal_text refusal) empty
    ∙ ap (reply_unless plan base past (last_moment base past) (command_of (newest_octets past))) (sym some)
    ∙ sym (answered plan base past refused ends is)

-- the counters
pub counters_are : (plan : Plan) (base : Base) (past : List Row) (moment : ℕ) (counts : Counts) (was now : List ℕ) → was ≡ [] → counts ≡ counts_of base past → now ≡ was ++ counters_text counts → now ≡ reply_to plan base past moment (Ok ShowCounters)
counters_are plan base past moment counts was now empty is now_is =
    now_is ∙ ap (λ text. text ++ counters_text counts) empty ∙ ap counters_text is

-- the row of a port
abbrev row_with : Port → Role → Bool → ℕ → ℕ → ℕ → PortRow
row_with number role is_shut held pending queued = record { number = number; role = role; is_shut = is_shut; held = held; pending = pending; queued = queued }

row_same : (number : Port) (role : Role) {s s' : Bool} {h h' p p' q q' : ℕ} → s ≡ s' → h ≡ h' → p ≡ p' → q ≡ q' → row_with number role s h p q ≡ row_with number role s' h' p' q'
row_same number role {s} {s'} {h} {h'} {p} {p'} {q} {q'} shut held pending queued =
    ap (λ x. row_with number role x h p q) shut
    ∙ ap (λ x. row_with number role s' x p q) held
    ∙ ap (λ x. row_with number role s' h' x q) pending
    ∙ ap (λ x. row_with number role s' h' p' x) queued

map_same : {A B : Type 0} (f g : A → B) (xs : List A) → ((k : ℕ) (x : A) → k < length xs → x ≡ get_or xs k x → f x ≡ g x) → map f xs ≡ map g xs
map_same f g [] same = refl
map_same f g (x ∷ xs) same =
    ap (λ y. y ∷ map f xs) (same 0 x (omega arith) refl) ∙ ap (λ ys. g x ∷ ys) (map_same f g xs (λ k y within is. same (suc k) y (omega (arith, within)) is))

module _ {k : CoreState} (was : Remembers k) (sets : List VlanSet) (tells : TellOfAll k.plan k.base (reverse k.rows) k.moment sets) where
  abbrev past : List Row
  past = reverse k.rows

  abbrev now : ℕ
  now = last_moment k.base (reverse k.rows)

  abbrev told_now : ℕ → List AddressRow
  told_now = rows_told k.plan (access_of k.base) (marks k.plan k.base (reverse k.rows)) (last_moment k.base (reverse k.rows))

  abbrev asked_now : ℕ → List Request
  asked_now vlan = open_requests (access_of k.base) vlan (marks k.plan k.base (reverse k.rows)) (last_moment k.base (reverse k.rows))

  abbrev TellsNow : VlanSet → Type 0
  TellsNow set = Tells k.plan k.base (reverse k.rows) k.moment set.access

  -- what is kept of each VLAN is what the history tells of it, and of a VLAN that the plan hasn't it tells nothing

  nothing : HasNothingElsewhere k.plan (after k.plan k.base (reverse k.rows))
  nothing = after_elsewhere k.plan k.base was.within.elsewhere (reverse k.rows)

  rows_among : (l : List VlanSet) → All TellsNow l → (vlan : ℕ) → (list_any (λ v. v == vlan) (vlans_of_sets l) ≡ false → told_now vlan ≡ []) → rows_by_vlan l vlan ≡ told_now vlan
  rows_among [] all vlan none = sym (none refl)
  rows_among (set ∷ l) all vlan none =
      elim (cases_Bool (set.access.vlan == vlan)) [
        | inl same ↦
            cond-true (set.access.vlan == vlan) set.access.addresses.rows (rows_by_vlan l vlan) same
            ∙ (states_now was set.access (All-head TellsNow set l all)).rows
            ∙ ap told_now (eqb-true set.access.vlan vlan same)
        | inr other ↦
            cond-false (set.access.vlan == vlan) set.access.addresses.rows (rows_by_vlan l vlan) other
            ∙ rows_among l (All-tail TellsNow set l all) vlan (λ not. none (ap (λ (b : Bool). b || list_any (λ v. v == vlan) (vlans_of_sets l)) other ∙ not))
      ]

  pub rows_are : (vlan : ℕ) → rows_by_vlan sets vlan ≡ told_now vlan
  rows_are vlan =
      rows_among sets tells.tell vlan (λ not. nothing.rows vlan (ap (λ (vs : List ℕ). list_any (λ v. v == vlan) vs) (sym tells.vlans) ∙ not))

  requests_among : (l : List VlanSet) → All TellsNow l → (vlan : ℕ) → (list_any (λ v. v == vlan) (vlans_of_sets l) ≡ false → asked_now vlan ≡ []) → open_at k.moment (requests_in l vlan) ≡ asked_now vlan
  requests_among [] all vlan none = sym (none refl)
  requests_among (set ∷ l) all vlan none =
      elim (cases_Bool (set.access.vlan == vlan)) [
        | inl same ↦
            ap (open_at k.moment) (cond-true (set.access.vlan == vlan) set.access.requests (requests_in l vlan) same)
            ∙ ap (λ t. open_at t set.access.requests) was.last
            ∙ (states_now was set.access (All-head TellsNow set l all)).requests
            ∙ ap asked_now (eqb-true set.access.vlan vlan same)
        | inr other ↦
            ap (open_at k.moment) (cond-false (set.access.vlan == vlan) set.access.requests (requests_in l vlan) other)
            ∙ requests_among l (All-tail TellsNow set l all) vlan (λ not. none (ap (λ (b : Bool). b || list_any (λ v. v == vlan) (vlans_of_sets l)) other ∙ not))
      ]

  requests_are : (vlan : ℕ) → open_at k.moment (requests_in sets vlan) ≡ asked_now vlan
  requests_are vlan =
      requests_among sets tells.tell vlan (λ not. nothing.requests vlan (ap (λ (vs : List ℕ). list_any (λ v. v == vlan) vs) (sym tells.vlans) ∙ not))

  -- what the shows print

  pub bindings_are : (text : List ℕ) → text ≡ bindings_text (times_of k.plan) (of_sets (λ set. set.access.addresses.rows) sets) → text ≡ reply_to k.plan k.base (reverse k.rows) now (Ok ShowBindings)
  bindings_are text is =
      is
      ∙ ap (bindings_text (times_of k.plan))
      (sets_by (λ set. set.access.addresses.rows) told_now sets
      (All-weaker TellsNow (λ (set : VlanSet). set.access.addresses.rows ≡ told_now set.access.vlan) (λ set one. (states_now was set.access one).rows) sets tells.tell)
      ∙ ap (λ (vs : List ℕ). by_vlan vs told_now) tells.vlans)

  held_is : (n : ℕ) (own : Option ℕ) → held_by sets n own ≡ held_in (rules_of k.plan).addresses (access_of k.base).addresses (told (marks k.plan k.base (reverse k.rows))) now n own
  held_is n None = refl
  held_is n (Some vlan) = ap (count_at n) (rows_are vlan)

  pending_is : (n : ℕ) (own : Option ℕ) → pending_by sets k.moment n own ≡ pending_in (access_of k.base) (marks k.plan k.base (reverse k.rows)) now n own
  pending_is n None = refl
  pending_is n (Some vlan) = ap (requests_at_port n) (requests_are vlan)

  row_is : (rings : Rings) (port : PortPlan) → rings.lanes ≡ k.lanes → rings.shut ≡ k.shut → has_port k.plan (number_of port.number) ≡ true
      → kept_row sets rings k.plan k.moment port ≡ port_row k.plan k.base (reverse k.rows) now port
  row_is rings port lanes shut known =
      let n : ℕ = number_of port.number in
      let place : ℕ = place_of k.plan n in
      row_same port.number port.role
      (ap (λ (set : PortSet). shut_in set n) shut ∙ ap (λ (by : ℕ → Bool). by n) was.shut_ports)
      (held_is n (access_vlan k.plan n))
      (pending_is n (access_vlan k.plan n))
      (ap (λ (all : List (Lane Queued)). length (get_or all place no_lane).items) lanes ∙ sym (waits_at was n place no_lane known refl))

  pub ports_are : (rings : Rings) (text : List ℕ) → rings.lanes ≡ k.lanes → rings.shut ≡ k.shut
      → text ≡ ports_text (map (kept_row sets rings k.plan k.moment) k.plan.ports) → text ≡ reply_to k.plan k.base (reverse k.rows) now (Ok ShowPorts)
  ports_are rings text lanes shut is =
      is
      ∙ ap ports_text
      (map_same (kept_row sets rings k.plan k.moment) (port_row k.plan k.base (reverse k.rows) now) k.plan.ports
      (λ i port within at. row_is rings port lanes shut (item_known k.plan i port within at)))

  abbrev rows_of_vlan : ℕ → List (ℕ × Mac × Port × ℕ)
  rows_of_vlan vlan = map (station_row vlan) (map station_told (live_at now (stations vlan k.plan k.base (reverse k.rows))))

  station_rows_are : (l : List VlanSet) → All (Knows k.plan k.base (reverse k.rows) k.moment) l → stations_told (of_sets (λ set. live_at k.moment set.fdb) l) ≡ flat_map rows_of_vlan (vlans_of_sets l)
  station_rows_are [] all = refl
  station_rows_are (set ∷ l) all =
      let vlan : ℕ = set.access.vlan in
      let live : List Station = live_at k.moment set.fdb in
      let knows : Knows k.plan k.base (reverse k.rows) k.moment set = All-head (Knows k.plan k.base (reverse k.rows) k.moment) set l all in
      let of : List Station = stations vlan k.plan k.base (reverse k.rows) in
      let live_is : live_at k.moment set.fdb ≡ live_at now of = live_later set.fdb of k.moment k.moment (omega arith) knows ∙ ap (λ t. live_at t of) was.last in
      map-append kept_station_row (map (λ (a : Station). (vlan, a)) live) (of_sets (λ set. live_at k.moment set.fdb) l)
      ∙ ap (λ (rows : List (ℕ × Mac × Port × ℕ)). rows ++ stations_told (of_sets (λ set. live_at k.moment set.fdb) l)) (own_rows vlan live ∙ ap (λ (some : List Station). map (station_row vlan) (map station_told some)) live_is)
      ∙ ap (λ (rows : List (ℕ × Mac × Port × ℕ)). rows_of_vlan vlan ++ rows) (station_rows_are l (All-tail (Knows k.plan k.base (reverse k.rows) k.moment) set l all))

  pub stations_are : (text : List ℕ) → text ≡ stations_text (stations_told (of_sets (λ set. live_at k.moment set.fdb) sets)) → text ≡ reply_to k.plan k.base (reverse k.rows) now (Ok ShowStations)
  stations_are text is =
      is ∙ ap stations_text (station_rows_are sets tells.know ∙ ap (flat_map rows_of_vlan) tells.vlans)
