-- What a core keeps behind a turn.
use Rattle.std.proofs.Common.{◌≡◌, ℕ, suc, ◌+◌, ◌-◌, ◌^◌, ◌<◌, ◌≤◌, ◌==◌, ◌&&◌, Bool, true, false, if◌then◌else◌, Option, None, List, [], ◌∷◌, length, map, get_or, refl, sym, ap, subst, ◌∙◌, inl, inr, arith, ◌++◌}
use Rattle.std.specs.Prelude.{All, reverse, slice_index_or}
use Rattle.std.specs.Option.{is_some}
use Rattle.std.specs.List.{filter}
use Rattle.std.proofs.Math.Path.{fun_ext}
use Rattle.std.proofs.lemmas.Bool.{false≢true, cases_eq, or_left, or_right, or_cases, le-leb}
use Rattle.std.proofs.lemmas.List.{length-map, get_or-map, length-reverse, get_or-reverse}
use Rattle.std.proofs.lemmas.List.Elements.{All-nil, All-cons, All-head, All-tail, All-weaker}
use Rattle.hex.specs.Hex.{IsBytes}
use Rattle.savi_kinds.specs.declared.plan.Plan.{Plan}
use Rattle.savi_kinds.specs.declared.entry.How.{How}
use Rattle.savi_kinds.specs.declared.port.PortSet.{PortSet}
use Rattle.savi_kinds.specs.declared.plan.PortPlan.{PortPlan}
use Rattle.savi_kinds.specs.Ports.{number_of}
use Rattle.savi_kinds.specs.Vlans.{vlan_among}
use Rattle.savi_kinds.specs.PortSets.{is_member}
use Rattle.bridge_fdb.specs.declared.station.Station.{Station}
use Rattle.bridge_fdb.specs.Stations.{live_at}
use Rattle.dhcp_states.specs.declared.request.Request.{Request}
use Rattle.dhcp_states.specs.Requests.{open_at}
use Rattle.control_replies.specs.declared.counts.Counts.{Counts}
use Rattle.savi_access.specs.declared.row.Row.{Row as Address}
use Rattle.savi_access.specs.Tables.{rows_at}
use Rattle.savi_access.specs.Rules.{AccessRules, AccessBase}
use Rattle.savi_access.specs.Marks.{Mark, told, open_requests, base_at}
use Rattle.savi_access.specs.Plans.{rules_of}
use Rattle.access_table.specs.Kept.{Kept as Table, Represents}
use Rattle.savi_kinds.specs.ValidPlan.{numbers_of}
use Rattle.egress_ring.specs.declared.item.Item.{Item as Queued}
use Rattle.hist_store.specs.Rows.{Row}
use Rattle.checkpoint.specs.Bases.{Base, access_of}
use Rattle.savi_history.specs.Marks.{marks as marks_of}
use Rattle.savi_history.specs.Shown.{counts_of}
use Rattle.savi_history.specs.Passes.{has_ended, has_port, pass_count, place_of, egress_pass, role_of, is_trusted}
use Rattle.savi_history.specs.ShutPorts.{is_shut}
use Rattle.savi_history.specs.Limits.{IsWithinLimits}
use Rattle.savi_history.specs.Queues.{Item, queue, room_at}
use Rattle.savi_history.specs.Legal.{IsFinished}
use Rattle.savi_history.proofs.PassNumbers.{number_at, place_at, known_at}
use Rattle.savi_history.proofs.Closed.{closed_empty}
use Rattle.savi_history.proofs.Teaching.{last_small}
use Rattle.savi_segments.specs.Checkpoints.{up_to, ends_of, after}
use Rattle.checkpoint.specs.Columns.{Columns, by_vlan, kept_base, nothing_before}
use Rattle.savi_segments.proofs.Passing.{is_in, in_filtered}
use Rattle.savi_segments.proofs.Reading.{LeaveLimits, after_within}
use Rattle.savi_core.specs.Lanes.{Lane, numbers_by, with_reopened, lane_of}
use Rattle.savi_core.specs.Waits.{queued_item, shown_lane, IsThere, AreThere}
use Rattle.savi_core.specs.declared.vlan_set.VlanSet.{VlanSet}
use Rattle.savi_core.specs.VlanSets.{of_sets, vlans_of_sets}
use Rattle.savi_core.specs.Rings.{shut_in}
use Rattle.savi_core.specs.Ends.{EndMarks, AreEnds}
use Rattle.savi_core.specs.Turns.{with_ends, with_rows, with_requests, with_stations, reopened}
use Rattle.savi_core.specs.Remembers.{CoreState, Remembers}
use Rattle.savi_core.specs.Tells.{Tells, TellOfAll}
use Rattle.savi_core.proofs.Over.{over_behind}
use Rattle.savi_core.proofs.Rising.{in_behind}
use Rattle.savi_core.proofs.Leaving.{left_is, ended_left}

head : {A : Type 0} (x y : A) (xs ys : List A) → x ∷ xs ≡ y ∷ ys → x ≡ y
head x y xs ys e = cc

tail : {A : Type 0} (x y : A) (xs ys : List A) → x ∷ xs ≡ y ∷ ys → xs ≡ ys
tail x y xs ys e = cc

none_mapped : {A B : Type 0} (f : A → B) (xs : List A) → map f xs ≡ [] → xs ≡ []
none_mapped f [] none = refl
none_mapped f (x ∷ xs) none = cc

-- among those that pass there is none that isn't one of all
in_front : (n m : ℕ) (some ns : List ℕ) (passes : Bool) → (is_in n some ≡ true → is_in n ns ≡ true) → is_in n (if passes then m ∷ some else some) ≡ true → is_in n (m ∷ ns) ≡ true
in_front n m some ns false all there = or_right (m == n) (is_in n ns) (all there)
in_front n m some ns true all there =
    elim (or_cases (m == n) (is_in n some) there) [
      | inl here ↦ or_left (m == n) (is_in n ns) here
      | inr behind ↦ or_right (m == n) (is_in n ns) (all behind)
    ]

in_all : (p : ℕ → Bool) (n : ℕ) (ns : List ℕ) → is_in n (filter p ns) ≡ true → is_in n ns ≡ true
in_all p n [] there = there
in_all p n (m ∷ ns) there = in_front n m (filter p ns) ns (p m) (in_all p n ns) there

-- a port of a plan has a number from 1 on

least_of : (ports : List PortPlan) (n : ℕ) → is_in n (numbers_of ports) ≡ true → 1 ≤ n
least_of [] n there = absurd (false≢true there)
least_of (p ∷ ports) n there =
    elim (cases_eq (number_of p.number) n) [
      | inl same ↦ omega (arith, p.number.low, same)
      | inr other ↦ least_of ports n (in_behind (number_of p.number) n (numbers_of ports) other there)
    ]

module _ (plan : Plan) (base mid : Base) (past rows : List Row) (ends : List (Option How)) where
  -- a lane that shows that of a port, at which nothing waits
  empty_lane : (lane : Lane Queued) (q : ℕ) → shown_lane plan rows lane ≡ lane_of plan base past q → queue plan base q past ≡ [] → lane.items ≡ []
  empty_lane lane q shows none = none_mapped (queued_item plan rows lane.number) lane.items (ap (λ (x : Lane Item). x.items) shows ∙ none)

  lane_opened : (lane : Lane Queued) (q : ℕ) (over : Bool) → shown_lane plan rows lane ≡ lane_of plan base past q → queue plan base q past ≡ [] → over ≡ has_ended mid (egress_pass plan q) []
      → shown_lane plan [] (with_reopened over lane) ≡ lane_of plan mid [] q
  lane_opened lane q over shows none flag =
      let number_is : lane.number ≡ q = ap (λ (x : Lane Item). x.number) shows in
      let trusted_is : lane.trusted ≡ is_trusted (role_of plan q) = ap (λ (x : Lane Item). x.trusted) shows in
      let vlans_are : lane.vlans ≡ numbers_by (vlan_among plan.ports q) = ap (λ (x : Lane Item). x.vlans) shows in
      let depth_is : lane.depth ≡ plan.depth = ap (λ (x : Lane Item). x.depth) shows in
      let room_is : (if over then 0 else lane.depth) ≡ room_at plan mid [] q =
      ap (λ (b : Bool). if b then 0 else lane.depth) flag ∙ ap (λ (depth : ℕ). if has_ended mid (egress_pass plan q) [] then 0 else depth) depth_is in
      let items_are : map (queued_item plan [] lane.number) lane.items ≡ [] = ap (λ (items : List Queued). map (queued_item plan [] lane.number) items) (empty_lane lane q shows none) in
      λ i. record { number = number_is i; trusted = trusted_is i; vlans = vlans_are i; depth = depth_is i; room = room_is i; items = items_are i }

  -- what is said of the ports from one on
  abbrev Quiet : ℕ → List ℕ → Type 0
  Quiet first numbers =
      (k : ℕ) → k < length numbers
      → (queue plan base (get_or numbers k 0) past ≡ []) × (is_some (slice_index_or ends (first + k) None) ≡ has_ended mid (egress_pass plan (get_or numbers k 0)) [])

  quiet_front : (first n : ℕ) (numbers : List ℕ) → Quiet first (n ∷ numbers) → (queue plan base n past ≡ []) × (is_some (slice_index_or ends first None) ≡ has_ended mid (egress_pass plan n) [])
  quiet_front first n numbers quiet =
      let here = quiet 0 (omega arith) in
      let same : first ≡ first + 0 = omega arith in
      (here.0, ap (λ (pass : ℕ). is_some (slice_index_or ends pass None)) same ∙ here.1)

  quiet_behind : (first n : ℕ) (numbers : List ℕ) → Quiet first (n ∷ numbers) → Quiet (first + 1) numbers
  quiet_behind first n numbers quiet k inside =
      let here = quiet (suc k) (omega (arith, inside)) in
      let same : first + suc k ≡ first + 1 + k = omega arith in
      (here.0, ap (λ (pass : ℕ). is_some (slice_index_or ends pass None)) (sym same) ∙ here.1)

  lanes_opened : (lanes : List (Lane Queued)) (numbers : List ℕ) (first : ℕ) → map (shown_lane plan rows) lanes ≡ map (lane_of plan base past) numbers → Quiet first numbers
      → map (shown_lane plan []) (reopened first ends lanes) ≡ map (lane_of plan mid []) numbers
  lanes_opened [] [] first show quiet = refl
  lanes_opened [] (n ∷ numbers) first show quiet = cc
  lanes_opened (lane ∷ lanes) [] first show quiet = cc
  lanes_opened (lane ∷ lanes) (n ∷ numbers) first show quiet =
      let here = quiet_front first n numbers quiet in
      let one : shown_lane plan rows lane ≡ lane_of plan base past n = head (shown_lane plan rows lane) (lane_of plan base past n) (map (shown_lane plan rows) lanes) (map (lane_of plan base past) numbers) show in
      let more : map (shown_lane plan rows) lanes ≡ map (lane_of plan base past) numbers = tail (shown_lane plan rows lane) (lane_of plan base past n) (map (shown_lane plan rows) lanes) (map (lane_of plan base past) numbers) show in
      ap (λ (x : Lane Item). x ∷ map (shown_lane plan []) (reopened (first + 1) ends lanes)) (lane_opened lane n (is_some (slice_index_or ends first None)) one here.0 here.1)
      ∙ ap (λ (xs : List (Lane Item)). lane_of plan mid [] n ∷ xs) (lanes_opened lanes numbers (first + 1) more (quiet_behind first n numbers quiet))

  lanes_there : (lanes : List (Lane Queued)) (numbers : List ℕ) (first : ℕ) → map (shown_lane plan rows) lanes ≡ map (lane_of plan base past) numbers → Quiet first numbers
      → All (AreThere []) (reopened first ends lanes)
  lanes_there [] numbers first show quiet = All-nil (AreThere [])
  lanes_there (lane ∷ lanes) [] first show quiet = cc
  lanes_there (lane ∷ lanes) (n ∷ numbers) first show quiet =
      let here = quiet_front first n numbers quiet in
      let one : shown_lane plan rows lane ≡ lane_of plan base past n = head (shown_lane plan rows lane) (lane_of plan base past n) (map (shown_lane plan rows) lanes) (map (lane_of plan base past) numbers) show in
      let more : map (shown_lane plan rows) lanes ≡ map (lane_of plan base past) numbers = tail (shown_lane plan rows lane) (lane_of plan base past n) (map (shown_lane plan rows) lanes) (map (lane_of plan base past) numbers) show in
      All-cons (AreThere []) (with_reopened (is_some (slice_index_or ends first None)) lane) (reopened (first + 1) ends lanes)
      (subst (λ (items : List Queued). All (IsThere []) items) (sym (empty_lane lane n one here.0)) (All-nil (IsThere [])))
      (lanes_there lanes numbers (first + 1) more (quiet_behind first n numbers quiet))

module _ {k : CoreState} (was : Remembers k) (marks : EndMarks) (are : AreEnds k.plan k.base (reverse k.rows) marks) (finished : IsFinished k.plan k.base (reverse k.rows)) where
  abbrev past : List Row
  past = reverse k.rows

  abbrev mid : Base
  mid = after k.plan k.base past

  -- by a pass's mark it has ended behind the turn
  over_is : (pass : ℕ) → pass < pass_count k.plan → is_some (slice_index_or marks.ends pass None) ≡ has_ended mid pass []
  over_is pass below = ap (λ (end : Option How). is_some end) (are.ends pass below) ∙ sym (over_behind k.plan k.base past pass below)

  quiet : (j : ℕ) → j < length (numbers_of k.plan.ports)
      → (queue k.plan k.base (get_or (numbers_of k.plan.ports) j 0) past ≡ [])
      × (is_some (slice_index_or marks.ends (length k.plan.ports + 2 + j) None) ≡ has_ended mid (egress_pass k.plan (get_or (numbers_of k.plan.ports) j 0)) [])
  quiet j inside =
      let size : length (numbers_of k.plan.ports) ≡ length k.plan.ports = length-map k.plan.ports (λ p. number_of p.number) in
      let within : j < length k.plan.ports = omega (arith, inside, size) in
      let place : place_of k.plan (number_at k.plan j) ≡ j = place_at k.plan j was.valid.ports within in
      let pass_is : egress_pass k.plan (number_at k.plan j) ≡ length k.plan.ports + 2 + j = ap (λ (p : ℕ). length k.plan.ports + 2 + p) place in
      let below : egress_pass k.plan (number_at k.plan j) < pass_count k.plan = omega (arith, pass_is, within) in (
        closed_empty k.plan k.base past (number_at k.plan j) was.legal (known_at k.plan j within) (finished (egress_pass k.plan (number_at k.plan j)) below),
        ap (λ (pass : ℕ). is_some (slice_index_or marks.ends pass None)) (sym pass_is) ∙ over_is (egress_pass k.plan (number_at k.plan j)) below,
      )

  -- the same ports are shut
  shut_same : shut_in k.shut ≡ (λ number. is_shut k.plan mid number [])
  shut_same = fun_ext (λ number. shut_at number (has_port k.plan number) refl)
    where
      shut_now : (number : ℕ) → shut_in k.shut number ≡ is_shut k.plan k.base number past
      shut_now number = ap (λ (shut : ℕ → Bool). shut number) was.shut_ports

      nothing_in : (number : ℕ) (b : Bool) → is_shut k.plan mid number [] ≡ b → has_port k.plan number ≡ false → is_shut k.plan mid number [] ≡ false
      nothing_in number false is unknown = is
      nothing_in number true is unknown = absurd (false≢true (sym unknown ∙ in_all (λ n. is_shut k.plan k.base n past) number (numbers_of k.plan.ports) is))

      nothing_shut : (number : ℕ) (b : Bool) → shut_in k.shut number ≡ b → has_port k.plan number ≡ false → shut_in k.shut number ≡ false
      nothing_shut number false is unknown = is
      nothing_shut number true is unknown = absurd (false≢true (sym unknown ∙ was.shut_inside number is))

      shut_at : (number : ℕ) (known : Bool) → has_port k.plan number ≡ known → shut_in k.shut number ≡ is_shut k.plan mid number []
      shut_at number true known = shut_now number ∙ sym (in_filtered (λ n. is_shut k.plan k.base n past) number (numbers_of k.plan.ports) known)
      shut_at number false unknown = nothing_shut number (shut_in k.shut number) refl unknown ∙ sym (nothing_in number (is_shut k.plan mid number []) refl unknown)

  pub remembers_turned : IsWithinLimits k.plan mid → (lanes : List (Lane Queued)) → lanes ≡ reopened (length k.plan.ports + 2) marks.ends k.lanes
      → Remembers (record { plan = k.plan; base = mid; rows = []; moment = k.moment; ended = map is_some marks.ends; shut = k.shut; lanes = lanes })
  remembers_turned within lanes lanes_are = record {
    valid = was.valid;
    within = within;
    legal = tt;
    last = was.last;
    passes = λ pass below. get_or-map (λ (end : Option How). is_some end) marks.ends pass None false (omega (arith, below, are.size, was.valid.port_count.1)) ∙ over_is pass below;
    marks = length-map marks.ends (λ (end : Option How). is_some end) ∙ are.size;
    shut_ports = shut_same;
    shut_inside = was.shut_inside;
    queues = record {
      there = subst (λ (ls : List (Lane Queued)). All (AreThere []) ls) (sym lanes_are) (lanes_there k.plan k.base mid past k.rows marks.ends k.lanes (numbers_of k.plan.ports) (length k.plan.ports + 2) was.queues.same quiet);
      same =
          ap (λ (ls : List (Lane Queued)). map (shown_lane k.plan []) ls) lanes_are
          ∙ lanes_opened k.plan k.base mid past k.rows marks.ends k.lanes (numbers_of k.plan.ports) (length k.plan.ports + 2) was.queues.same quiet;
    };
    octets = omega arith;
    room = λ near. absurd (omega (arith, near, was.valid.entries.0));
  }

-- what is remembered, over the same base given otherwise
pub over_base : {k : CoreState} {base : Base} → k.base ≡ base → Remembers k → Remembers (record k { base = base })
over_base {k} same was = subst (λ (b : Base). Remembers (record k { base = b })) same was

-- what is begun at a turn
abbrev pub begun : ℕ → ℕ → ℕ → PortSet → Counts → Columns
begun row_room station_room moment shut counts = record (nothing_before row_room station_room) { is_start = false; moment = moment; shut = shut; counts = counts }

-- the ends of so many passes
abbrev pub ends_below : EndMarks → ℕ → List (ℕ × How)
ends_below marks passes = ends_of (λ pass. slice_index_or marks.ends pass None) (up_to passes)

-- what the sets have, by VLAN
pub sets_by : {A : Type 0} (has : VlanSet → List A) (of : ℕ → List A) (sets : List VlanSet) → All (λ set. has set ≡ of set.access.vlan) sets → of_sets has sets ≡ by_vlan (vlans_of_sets sets) of
sets_by has of [] all = refl
sets_by {A} has of (set ∷ sets) all =
    ap (λ (l : List A). map (λ (a : A). (set.access.vlan, a)) l ++ of_sets has sets) (All-head (λ (s : VlanSet). has s ≡ of s.access.vlan) set sets all)
    ∙ ap (λ (l : List (ℕ × A)). map (λ (a : A). (set.access.vlan, a)) (of set.access.vlan) ++ l) (sets_by has of sets (All-tail (λ (s : VlanSet). has s ≡ of s.access.vlan) set sets all))

module _ {k : CoreState} (was : Remembers k) (row_room station_room : ℕ) (marks : EndMarks) (sets : List VlanSet) (counts : Counts) where
  abbrev rows_of_sets : List (ℕ × Address)
  rows_of_sets = of_sets (λ set. set.access.addresses.rows) sets

  abbrev requests_of_sets : List (ℕ × Request)
  requests_of_sets = of_sets (λ set. open_at k.moment set.access.requests) sets

  abbrev live_of_sets : List (ℕ × Station)
  live_of_sets = of_sets (λ set. live_at k.moment set.fdb) sets

  -- what a turn keeps
  abbrev pub kept : Columns
  kept =
      with_stations live_of_sets
      (with_requests requests_of_sets (with_rows rows_of_sets (with_ends (ends_below marks (pass_count k.plan)) (begun row_room station_room k.moment k.shut counts))))

  -- it is that, one by one
  pub kept_is : (start ended rows requests stations : Columns) (passes : ℕ) → passes ≡ pass_count k.plan → start ≡ begun row_room station_room k.moment k.shut counts
      → ended ≡ with_ends (ends_below marks passes) start → rows ≡ with_rows rows_of_sets ended → requests ≡ with_requests requests_of_sets rows → stations ≡ with_stations live_of_sets requests
      → stations ≡ kept
  kept_is start ended rows requests stations passes all start_is ended_is rows_are requests_are stations_are =
      stations_are
      ∙ ap (with_stations live_of_sets)
      (requests_are
      ∙ ap (with_requests requests_of_sets)
      (rows_are ∙ ap (with_rows rows_of_sets) (ended_is ∙ ap (λ (n : ℕ). with_ends (ends_below marks n) start) all ∙ ap (with_ends (ends_below marks (pass_count k.plan))) start_is)))

  -- which is what the history leaves
  pub turned_left : AreEnds k.plan k.base (reverse k.rows) marks → TellOfAll k.plan k.base (reverse k.rows) k.moment sets → counts ≡ counts_of k.base (reverse k.rows)
      → kept_base kept ≡ after k.plan k.base (reverse k.rows)
  turned_left ends tells counted =
      left_is k.plan was.valid k.base was.within (reverse k.rows) kept
      (record {
        goes_on = refl;
        moment = was.last;
        ended = ended_left k.plan k.base (reverse k.rows) marks.ends ends.ends;
        shut = λ n known. member n (least n known) ∙ ap (λ (shut : ℕ → Bool). shut n) was.shut_ports;
        inside = λ n low is. was.shut_inside n (sym (member n low) ∙ is);
        counts = counted;
        stations = sets_by (λ set. live_at k.moment set.fdb) (after k.plan k.base (reverse k.rows)).stations sets tells.know ∙ ap (λ (vs : List ℕ). by_vlan vs (after k.plan k.base (reverse k.rows)).stations) tells.vlans;
        rows =
            sets_by (λ set. set.access.addresses.rows) (after k.plan k.base (reverse k.rows)).rows sets
            (All-weaker (λ (set : VlanSet). Tells k.plan k.base (reverse k.rows) k.moment set.access) (λ (set : VlanSet). set.access.addresses.rows ≡ (after k.plan k.base (reverse k.rows)).rows set.access.vlan)
            (λ set of. of.states.rows ∙ ap (λ (t : ℕ). rows_at (rules_of k.plan).addresses (access_of k.base).addresses (told (marks_of k.plan k.base (reverse k.rows))) t set.access.vlan) was.last) sets tells.tell)
            ∙ ap (λ (vs : List ℕ). by_vlan vs (after k.plan k.base (reverse k.rows)).rows) tells.vlans;
        requests =
            sets_by (λ set. open_at k.moment set.access.requests) (after k.plan k.base (reverse k.rows)).requests sets
            (All-weaker (λ (set : VlanSet). Tells k.plan k.base (reverse k.rows) k.moment set.access) (λ (set : VlanSet). open_at k.moment set.access.requests ≡ (after k.plan k.base (reverse k.rows)).requests set.access.vlan)
            (λ set of. of.states.requests ∙ ap (λ (t : ℕ). open_requests (access_of k.base) set.access.vlan (marks_of k.plan k.base (reverse k.rows)) t) was.last) sets tells.tell)
            ∙ ap (λ (vs : List ℕ). by_vlan vs (after k.plan k.base (reverse k.rows)).requests) tells.vlans;
      })
    where
      member : (n : ℕ) → 1 ≤ n → is_member k.shut n ≡ shut_in k.shut n
      member n low = ap (λ (b : Bool). b && is_member k.shut n) (sym (le-leb 1 n low))

      least : (n : ℕ) → has_port k.plan n ≡ true → 1 ≤ n
      least n known = least_of k.plan.ports n known

-- a table that stands for all marks goes on from what they leave
abbrev pub GoOn : Type 0
GoOn = (r : AccessRules) (base : AccessBase) (past : List Mark) (t : ℕ) (table : Table) → t ≤ 2 ^ 62 → Represents r base past t table → Represents r (base_at r base past t) [] t table

-- what is left is within the limits, by the law on what is told
pub within_turned : {k : CoreState} → Remembers k → LeaveLimits → All (λ (r : Row). IsBytes r.octets) k.rows → IsWithinLimits k.plan (after k.plan k.base (reverse k.rows))
within_turned {k} was limits octets = after_within limits k.plan was.valid k.base was.within (reverse k.rows) was.legal octets_behind
  where
    octets_behind : All (λ (r : Row). IsBytes r.octets) (reverse k.rows)
    octets_behind n d inside =
        let low : n < length k.rows = omega (arith, inside, length-reverse k.rows) in
        subst (λ (r : Row). IsBytes r.octets) (sym (get_or-reverse k.rows n d low)) (octets (length k.rows - 1 - n) d (omega (arith, low)))

module _ {k : CoreState} (was : Remembers k) where
  pub tells_turned : GoOn → (table : Table) → Tells k.plan k.base (reverse k.rows) k.moment table → Tells k.plan (after k.plan k.base (reverse k.rows)) [] k.moment table
  tells_turned go_on table tells =
      let all : List Mark = marks_of k.plan k.base (reverse k.rows) in
      let small : k.moment ≤ 2 ^ 62 = subst (λ (t : ℕ). t ≤ 2 ^ 62) (sym was.last) (last_small k.plan k.base (reverse k.rows) was.within was.legal) in
      let on : Represents (rules_of k.plan) (base_at (rules_of k.plan) (access_of k.base) all k.moment) [] k.moment table = go_on (rules_of k.plan) (access_of k.base) all k.moment table small tells.states in
      record {
        states = subst (λ (t : ℕ). Represents (rules_of k.plan) (base_at (rules_of k.plan) (access_of k.base) all t) [] k.moment table) was.last on;
        ready = tells.ready;
      }

  -- so do all sets
  pub all_turned : GoOn → (sets : List VlanSet) → TellOfAll k.plan k.base (reverse k.rows) k.moment sets → TellOfAll k.plan (after k.plan k.base (reverse k.rows)) [] k.moment sets
  all_turned go_on sets tells = record {
    vlans = tells.vlans;
    tell =
        All-weaker (λ (set : VlanSet). Tells k.plan k.base (reverse k.rows) k.moment set.access) (λ (set : VlanSet). Tells k.plan (after k.plan k.base (reverse k.rows)) [] k.moment set.access)
        (λ set of. tells_turned go_on set.access of) sets tells.tell;
    know = tells.know;
  }
