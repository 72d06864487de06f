-- A history that goes on from what earlier rows left reads as it does behind them. The earlier rows needn't be legal.
use Rattle.std.proofs.Common.{◌≡◌, ℕ, ◌^◌, min, max, ◌<◌, ◌≤◌, ◌&&◌, not, Bool, true, false, Option, Some, None, Result, Ok, Err, List, [], ◌∷◌, ◌++◌, map, filter, refl, sym, ap, ◌∙◌, subst, arith}
use Rattle.std.proofs.Math.Path.{fun_ext}
use Rattle.std.proofs.lemmas.List.Elements.{All-tail, All-filter}
use Rattle.hex.specs.Hex.{IsBytes}
use Rattle.savi_kinds.specs.declared.plan.Plan.{Plan}
use Rattle.savi_kinds.specs.declared.port.Port.{Port}
use Rattle.savi_kinds.specs.declared.port.PortSet.{PortSet}
use Rattle.savi_kinds.specs.declared.entry.How.{How}
use Rattle.savi_kinds.specs.declared.plan.Role.TheVariants.{Trusted}
use Rattle.savi_kinds.specs.declared.verdict.Rule.{Rule}
use Rattle.savi_kinds.specs.declared.verdict.Verdict.{Verdict}
use Rattle.savi_kinds.specs.Ports.{number_of}
use Rattle.savi_kinds.specs.PortSets.{is_member, set_of}
use Rattle.savi_kinds.specs.Orders.{AreInTurn}
use Rattle.savi_kinds.specs.Vlans.{access_vlan, vlans_of}
use Rattle.savi_kinds.specs.ValidPlan.{IsValidPlan, numbers_of}
use Rattle.cli_lang.specs.declared.kinds.Command.{Command as Order}
use Rattle.cli_lang.specs.declared.kinds.Command.TheVariants as orders
use Rattle.cli_lang.specs.declared.kinds.CmdFault.{CmdFault}
use Rattle.cli_lang.specs.CommandOf.{command_of}
use Rattle.eth_frame.specs.Tags.{inner}
use Rattle.frame_class.specs.declared.classes.Class.{Class}
use Rattle.frame_class.specs.ClassOf.{class_of}
use Rattle.ra_guard.specs.GuardOf.{guard_of}
use Rattle.fcfs_states.specs.Premises.{AreTimes}
use Rattle.fcfs_states.specs.declared.event.Ev.{Ev}
use Rattle.fcfs_states.specs.declared.event.Ev.TheVariants.{Fix, Clear}
use Rattle.bridge_fdb.specs.declared.station.Station.{Station}
use Rattle.bridge_fdb.specs.Stations.{live_at}
use Rattle.hist_store.specs.Rows.{Row}
use Rattle.control_replies.specs.declared.counts.Counts.{Counts}
use Rattle.control_replies.specs.declared.refusal.Refusal.{Refusal}
use Rattle.savi_access.specs.declared.row.Row.{Row as AddressRow}
use Rattle.savi_access.specs.Bases.{AreTables}
use Rattle.savi_access.specs.declared.sent.SentProbe.{SentProbe}
use Rattle.savi_access.specs.NamedMarks.{Named, named_moment}
use Rattle.savi_access.specs.States.{state_at}
use Rattle.savi_access.specs.Sends.{sends}
use Rattle.savi_access.specs.Probes.{probes_between}
use Rattle.savi_access.specs.Tables.{rows_after, rows_at}
use Rattle.savi_access.specs.Rules.{AccessRules, AccessBase, IsAccessBase}
use Rattle.savi_access.specs.Marks.{Mark, Told, told, named_for, open_requests, base_at}
use Rattle.savi_access.specs.Judged.{Judged}
use Rattle.savi_access.specs.Plans.{rules_of}
use Rattle.savi_access.proofs.AllSends.{sends-late}
use Rattle.savi_access.proofs.StatesKept.{base_times, base_tables}
use Rattle.checkpoint.specs.Bases.{Base, access_of}
use Rattle.savi_history.specs.Vlans.{vlan_of_frame}
use Rattle.savi_history.specs.Passes.{has_port, pass_count}
use Rattle.savi_history.specs.ShutPorts.{shut_after, is_shut}
use Rattle.savi_history.specs.Moments.{last_moment, moment_at}
use Rattle.savi_history.specs.Commands.{rows_told, refusal_of, fixed_in, ordered, ordered_unless, commanded}
use Rattle.savi_history.specs.Marks.{marks, judged_after, untold}
use Rattle.savi_history.specs.Judged.{judged_of, verdict_of}
use Rattle.savi_history.specs.Stations.{stations, after_entry, port_among, ethernet_of}
use Rattle.savi_history.specs.Outs.{outs, outs_by, without_shut}
use Rattle.control_replies.specs.Counting.{counted_with}
use Rattle.savi_history.specs.Shown.{counts_of}
use Rattle.savi_history.specs.Offers.{Offer, offer_of, due_by, due_in}
use Rattle.savi_history.specs.Merges.{merged}
use Rattle.savi_history.specs.Limits.{IsWithinLimits}
use Rattle.savi_history.specs.Accesses.{IsTold}
use Rattle.savi_history.specs.Events.{Event, Frame, Long, Command, Tick, Drain, End, row_of, outs_of}
use Rattle.savi_history.specs.Legal.{MayCome, Stands, IsLegal}
use Rattle.savi_history.proofs.Telling.{risen, told_rightly}
use Rattle.savi_history.proofs.Teaching.{stations_stay}
use Rattle.savi_history.proofs.Counting.{counts_stay}
use Rattle.savi_segments.specs.Checkpoints.{up_to, ended_after, end_of, ends_of, after}
use Rattle.savi_segments.specs.Segments.{AreOctets}
use Rattle.savi_segments.specs.Readings.{with_behind, ReadsAs}
use Rattle.savi_segments.proofs.Passing.{in_filtered, same_filtered, below_in, in_below, all_in, all_below, in_ends, same_ends, all_ends}
use Rattle.savi_segments.proofs.MarksJoined.{turns}
use Rattle.savi_segments.proofs.Elsewhere.{after_elsewhere}
use Rattle.savi_segments.proofs.Behind.{rows_cut, states_cut, requests_cut, named_cut, judged_cut}

-- a base at the start of a switch or not
abbrev pub started : Bool → Base → Base
started begins base = record base { is_start = begins }

-- It is read from what they left, whether that is said to be the start of a switch or not.
module _ (plan : Plan) (valid : IsValidPlan plan) (base : Base) (within : IsWithinLimits plan base) (first : List Row) (begins : Bool) (within_mid : IsWithinLimits plan (started begins (after plan base first))) where
  abbrev r : AccessRules
  r = rules_of plan

  abbrev start : AccessBase
  start = access_of base

  abbrev mid : Base
  mid = started begins (after plan base first)

  abbrev before : List Mark
  before = marks plan base first

  abbrev turn : ℕ
  turn = last_moment base first

  tables : AreTables start.addresses
  tables = base_tables r.addresses start.addresses within.access.addresses

  times : AreTimes r.addresses.times
  times = base_times r.addresses start.addresses within.access.addresses

  abbrev InTurn : ℕ → List Mark → Type 0
  InTurn t late = AreInTurn named_moment turn t (told late)

  pub moment_cut : (late : List Row) → last_moment base (late ++ first) ≡ last_moment mid late
  moment_cut [] = refl
  moment_cut (r ∷ late) = refl

  pub shut_cut : (late : List Row) (q : ℕ) → has_port plan q ≡ true → is_shut plan base q (late ++ first) ≡ is_shut plan mid q late
  shut_cut [] q known = sym (in_filtered (λ number. is_shut plan base number first) q (numbers_of plan.ports) known)
  shut_cut (row ∷ late) q known = ap (λ (b : Bool). shut_after plan q row.octets row.entry.act b) (shut_cut late q known)

  pub ended_cut : (late : List Row) (pass : ℕ) → pass < pass_count plan → end_of base pass (late ++ first) ≡ end_of mid pass late
  ended_cut [] pass low = sym (in_ends (λ number. end_of base number first) pass (up_to (pass_count plan)) (below_in (pass_count plan) pass low))
  ended_cut (row ∷ late) pass low = ap (λ (end : Option How). ended_after pass row.entry.by row.entry.act end) (ended_cut late pass low)

  pub counts_cut : (late : List Row) → counts_of base (late ++ first) ≡ counts_of mid late
  counts_cut [] = refl
  counts_cut (row ∷ late) = ap (λ (counts : Counts). counted_with row.entry counts) (counts_cut late)

  pub stations_cut : (late : List Row) (vlan : ℕ) → stations vlan plan base (late ++ first) ≡ stations vlan plan mid late
  stations_cut [] vlan = refl
  stations_cut (row ∷ late) vlan = ap (λ (known : List Station). after_entry vlan plan row row.entry.act (live_at row.entry.moment known)) (stations_cut late vlan)

  -- a frame is judged from the turn as it is behind it, at a port that is shut or not, in a VLAN or in none
  frame_cut : (shut : Bool) (late : List Mark) (port : Port) (t : ℕ) (vlan : Option ℕ) (class : Class) → InTurn t late
      → judged_after plan base shut (late ++ before) port t vlan class ≡ with_behind before (judged_after plan mid shut late port t vlan class)
  frame_cut true late port t vlan class so = refl
  frame_cut false late port t (Some vlan) class so = judged_cut r start tables times before turn vlan t port late so class
  frame_cut false late port t None class so = untold_cut (guard_of Trusted plan.drop_unknown class)
    where
      untold_cut : (rule : Option Rule) → untold (late ++ before) rule ≡ with_behind before (untold late rule)
      untold_cut (Some rule) = refl
      untold_cut None = refl

  mark_cut : (vlan : ℕ) (late : List Mark) (t : ℕ) → InTurn t late → (a : ℕ) (event : Ev)
      → Told (named_for r start vlan t (late ++ before) a event) ∷ (late ++ before) ≡ Told (named_for r (access_of mid) vlan t late a event) ∷ (late ++ before)
  mark_cut vlan late t so a event = ap (λ (named : Named). Told named ∷ (late ++ before)) (named_cut r start tables times before turn vlan t late so a event)

  fixed_cut : (own : Option ℕ) (late : List Mark) (t : ℕ) → InTurn t late → (a : ℕ) (port : Port) → fixed_in plan start t own a port (late ++ before) ≡ fixed_in plan (access_of mid) t own a port late ++ before
  fixed_cut (Some vlan) late t so a port = mark_cut vlan late t so a (Fix port)
  fixed_cut None late t so a port = refl

  ordered_cut : (late : List Mark) (t : ℕ) → InTurn t late → (order : Result Order CmdFault) → ordered plan start t order (late ++ before) ≡ ordered plan (access_of mid) t order late ++ before
  ordered_cut late t so (Err fault) = refl
  ordered_cut late t so (Ok (orders.Static address port)) = fixed_cut (access_vlan plan (number_of port)) late t so address.0 port
  ordered_cut late t so (Ok (orders.Clear vlan address)) = mark_cut vlan late t so address.0 Clear
  ordered_cut late t so (Ok (orders.Shut port)) = refl
  ordered_cut late t so (Ok (orders.Reopen port)) = refl
  ordered_cut late t so (Ok orders.ShowBindings) = refl
  ordered_cut late t so (Ok orders.ShowPorts) = refl
  ordered_cut late t so (Ok orders.ShowCounters) = refl
  ordered_cut late t so (Ok orders.ShowStations) = refl
  ordered_cut late t so (Ok orders.Quit) = refl

  unless_cut : (late : List Mark) (t : ℕ) → InTurn t late → (order : Result Order CmdFault) (refused : Option Refusal) → ordered_unless plan start t order refused (late ++ before) ≡ ordered_unless plan (access_of mid) t order refused late ++ before
  unless_cut late t so order (Some refusal) = refl
  unless_cut late t so order None = ordered_cut late t so order

  -- so is a line
  line_cut : (late : List Mark) (t : ℕ) → InTurn t late → (order : Result Order CmdFault) → commanded plan start t order (late ++ before) ≡ commanded plan (access_of mid) t order late ++ before
  line_cut late t so order =
      ap (λ (rows : ℕ → List AddressRow). ordered_unless plan start t order (refusal_of plan rows order) (late ++ before)) (fun_ext (λ vlan. rows_cut r start tables times before turn late t vlan so))
      ∙ unless_cut late t so order (refusal_of plan (rows_told plan (access_of mid) late t) order)

  -- what is told behind the turn is in turn
  pub late_turn : (late : List Row) (t : ℕ) → IsLegal plan mid late → AreOctets late → last_moment mid late ≤ t → InTurn t (marks plan mid late)
  late_turn late t legal bytes later =
      let is : IsTold plan mid late = told_rightly plan valid mid within_mid late legal bytes in
      turns r (access_of mid) (marks plan mid late) t is.right (omega (arith, is.last, later))

  abbrev Tells : List Row → Type 0
  Tells late = marks plan base (late ++ first) ≡ marks plan mid late ++ before

  event_tells : (late : List Row) (event : Event) → IsLegal plan mid late → AreOctets late → MayCome plan mid late event → Tells late → Tells (row_of plan mid late event ∷ late)
  event_tells late (Frame port stamp octets) legal bytes may same =
      let t : ℕ = moment_at mid late stamp in
      let vlan : Option ℕ = vlan_of_frame plan (number_of port) octets in
      let class : Class = class_of (inner octets) in
      ap (λ (b : Bool). (judged_after plan base b (marks plan base (late ++ first)) port t vlan class).marks) (shut_cut late (number_of port) may.0.open_pass.known)
      ∙ ap (λ (l : List Mark). (judged_after plan base (is_shut plan mid (number_of port) late) l port t vlan class).marks) same
      ∙ ap (λ (j : Judged). j.marks) (frame_cut (is_shut plan mid (number_of port) late) (marks plan mid late) port t vlan class (late_turn late t legal bytes (omega arith)))
  event_tells late (Command stamp line) legal bytes may same =
      let t : ℕ = moment_at mid late stamp in
      ap (λ (l : List Mark). commanded plan start t (command_of line) l) same
      ∙ line_cut (marks plan mid late) t (late_turn late t legal bytes (omega arith)) (command_of line)
  event_tells late (Long port stamp len) legal bytes may same = same
  event_tells late (Tick stamp) legal bytes may same = same
  event_tells late (Drain port count) legal bytes may same = same
  event_tells late (End who how) legal bytes may same = same

  pub tells_cut : (late : List Row) → IsLegal plan mid late → AreOctets late → Tells late
  tells_cut [] legal bytes = refl
  tells_cut (row ∷ late) legal bytes =
      let stands : Stands plan mid late row = legal.0 in
      let rest : AreOctets late = All-tail (λ (x : Row). IsBytes x.octets) row late bytes in
      subst (λ (x : Row). Tells (x ∷ late)) (sym stands.2) (event_tells late stands.0 legal.1 rest stands.1 (tells_cut late legal.1 rest))

  module _ (late : List Row) (legal : IsLegal plan mid late) (bytes : AreOctets late) where
    tells : Tells late
    tells = tells_cut late legal bytes

    -- no moment falls
    moment_later : (stamp : ℕ) → last_moment mid late ≤ moment_at mid late stamp
    moment_later stamp = omega arith

    low : turn ≤ last_moment mid late
    low = risen_all late legal
      where
        risen_all : (rows : List Row) → IsLegal plan mid rows → turn ≤ last_moment mid rows
        risen_all [] right = omega arith
        risen_all (row ∷ rows) right = omega (arith, risen_all rows right.1, risen plan valid mid within_mid row rows right)

    so : (t : ℕ) → last_moment mid late ≤ t → InTurn t (marks plan mid late)
    so t later = late_turn late t legal bytes later

    pub rows_alike : (t vlan : ℕ) → last_moment mid late ≤ t → rows_at r.addresses start.addresses (told (marks plan base (late ++ first))) t vlan ≡ rows_at r.addresses (access_of mid).addresses (told (marks plan mid late)) t vlan
    rows_alike t vlan later =
        ap (λ (l : List Mark). rows_at r.addresses start.addresses (told l) t vlan) tells
        ∙ rows_cut r start tables times before turn (marks plan mid late) t vlan (so t later)

    pub requests_alike : (t vlan : ℕ) → last_moment mid late ≤ t → open_requests start vlan (marks plan base (late ++ first)) t ≡ open_requests (access_of mid) vlan (marks plan mid late) t
    requests_alike t vlan later =
        ap (λ (l : List Mark). open_requests start vlan l t) tells
        ∙ requests_cut r start tables times before turn (marks plan mid late) t vlan (omega (arith, low, later))

    states_alike : (t vlan a : ℕ) → last_moment mid late ≤ t → state_at r.addresses start.addresses (told (marks plan base (late ++ first))) t vlan a ≡ state_at r.addresses (access_of mid).addresses (told (marks plan mid late)) t vlan a
    states_alike t vlan a later =
        ap (λ (l : List Mark). state_at r.addresses start.addresses (told l) t vlan a) tells
        ∙ states_cut r start tables times before turn (marks plan mid late) t vlan a (so t later)

    pub judged_alike : (port : Port) (stamp : ℕ) (octets : List ℕ) → has_port plan (number_of port) ≡ true → judged_of plan base (late ++ first) port stamp octets ≡ with_behind before (judged_of plan mid late port stamp octets)
    judged_alike port stamp octets known =
        let t : ℕ = moment_at mid late stamp in
        let shut : Bool = is_shut plan mid (number_of port) late in
        let vlan : Option ℕ = vlan_of_frame plan (number_of port) octets in
        let class : Class = class_of (inner octets) in
        ap (λ (m : ℕ). judged_after plan base (is_shut plan base (number_of port) (late ++ first)) (marks plan base (late ++ first)) port (max m (min stamp (2 ^ 62))) vlan class) (moment_cut late)
        ∙ ap (λ (b : Bool). judged_after plan base b (marks plan base (late ++ first)) port t vlan class) (shut_cut late (number_of port) known)
        ∙ ap (λ (l : List Mark). judged_after plan base shut l port t vlan class) tells
        ∙ frame_cut shut (marks plan mid late) port t vlan class (so t (moment_later stamp))

    without_alike : (set : PortSet) → without_shut plan base (late ++ first) set ≡ without_shut plan mid late set
    without_alike set =
        ap (λ (l : List ℕ). set_of l)
        (same_filtered (λ q. is_member set q && not (is_shut plan base q (late ++ first))) (λ q. is_member set q && not (is_shut plan mid q late)) (numbers_of plan.ports)
        (λ q known. ap (λ (b : Bool). is_member set q && not b) (shut_cut late q known)))

    -- the ports to which a frame goes by the stations of its VLAN
    directed_alike : (vlan : Option ℕ) (n t : ℕ) (octets : List ℕ) (verdict : Verdict) → outs vlan plan base (late ++ first) n t octets verdict ≡ outs vlan plan mid late n t octets verdict
    directed_alike (Some vlan) n t octets verdict =
        ap (λ (l : List Station). without_shut plan base (late ++ first) (outs_by vlan plan n (port_among (live_at t l) (ethernet_of (inner octets))) verdict)) (stations_cut late vlan)
        ∙ without_alike (outs_by vlan plan n (port_among (live_at t (stations vlan plan mid late)) (ethernet_of (inner octets))) verdict)
    directed_alike None n t octets verdict = refl

    outs_alike : (port : Port) (stamp : ℕ) (octets : List ℕ) → has_port plan (number_of port) ≡ true → outs_of plan base (late ++ first) port stamp octets ≡ outs_of plan mid late port stamp octets
    outs_alike port stamp octets known =
        let n : ℕ = number_of port in
        let vlan : Option ℕ = vlan_of_frame plan n octets in
        let verdict : Verdict = verdict_of plan mid late port stamp octets in
        ap (λ (j : Judged). outs vlan plan base (late ++ first) n (moment_at base (late ++ first) stamp) octets j.verdict) (judged_alike port stamp octets known)
        ∙ ap (λ (m : ℕ). outs vlan plan base (late ++ first) n (max m (min stamp (2 ^ 62))) octets verdict) (moment_cut late)
        ∙ directed_alike vlan n (moment_at mid late stamp) octets verdict

    due_in_alike : (t vlan : ℕ) → last_moment mid late ≤ t → due_in plan base (late ++ first) t vlan ≡ due_in plan mid late t vlan
    due_in_alike t vlan later =
        let from : ℕ = last_moment mid late in
        ap (λ (m : ℕ). probes_between r.addresses start.addresses (told (marks plan base (late ++ first))) m t vlan) (moment_cut late)
        ∙ sends-late r.addresses.times times from t (rows_after r.addresses start.addresses (told (marks plan base (late ++ first))) vlan) later
        ∙ ap (λ (rows : List AddressRow). sends r.addresses.times t rows) (rows_alike from vlan (omega arith))
        ∙ sym (sends-late r.addresses.times times from t (rows_after r.addresses (access_of mid).addresses (told (marks plan mid late)) vlan) later)

    due_alike : (t : ℕ) → last_moment mid late ≤ t → due_by plan base (late ++ first) t ≡ due_by plan mid late t
    due_alike t later =
        ap (λ (due : ℕ → List SentProbe). merged (λ (offer : Offer). offer.due) (map (λ vlan. map (offer_of vlan) (due vlan)) (vlans_of plan))) (fun_ext (λ vlan. due_in_alike t vlan later))

    pub reads_as : ReadsAs plan base first mid late
    reads_as = record {
      moment = moment_cut late;
      tells = tells;
      shut = λ q known. shut_cut late q known;
      ended = λ pass below. ended_cut late pass below;
      known = λ vlan. stations_cut late vlan;
      counts = counts_cut late;
      states = states_alike;
      requests = requests_alike;
      judged = judged_alike;
      outs = outs_alike;
      due = due_alike;
    }

    rows_left : (vlan : ℕ) → rows_at r.addresses start.addresses (told (marks plan base (late ++ first))) (last_moment base (late ++ first)) vlan ≡ rows_at r.addresses (access_of mid).addresses (told (marks plan mid late)) (last_moment mid late) vlan
    rows_left vlan =
        ap (λ (m : ℕ). rows_at r.addresses start.addresses (told (marks plan base (late ++ first))) m vlan) (moment_cut late)
        ∙ rows_alike (last_moment mid late) vlan (omega arith)

    requests_left : (vlan : ℕ) → open_requests start vlan (marks plan base (late ++ first)) (last_moment base (late ++ first)) ≡ open_requests (access_of mid) vlan (marks plan mid late) (last_moment mid late)
    requests_left vlan =
        ap (λ (m : ℕ). open_requests start vlan (marks plan base (late ++ first)) m) (moment_cut late)
        ∙ requests_alike (last_moment mid late) vlan (omega arith)

    ended_left : ends_of (λ pass. end_of base pass (late ++ first)) (up_to (pass_count plan)) ≡ ends_of (λ pass. end_of mid pass late) (up_to (pass_count plan))
    ended_left =
        same_ends (λ pass. end_of base pass (late ++ first)) (λ pass. end_of mid pass late) (up_to (pass_count plan))
        (λ pass there. ended_cut late pass (in_below (pass_count plan) pass there))

    shut_left : filter (λ number. is_shut plan base number (late ++ first)) (numbers_of plan.ports) ≡ filter (λ number. is_shut plan mid number late) (numbers_of plan.ports)
    shut_left =
        same_filtered (λ number. is_shut plan base number (late ++ first)) (λ number. is_shut plan mid number late) (numbers_of plan.ports)
        (λ number known. shut_cut late number known)

    -- both leave the same
    pub leaves_alike : after plan base (late ++ first) ≡ after plan mid late
    leaves_alike =
        let moment = moment_cut late in
        let ended = ended_left in
        let shut = shut_left in
        let counts = counts_cut late in
        λ i. record {
          is_start = false;
          moment = moment i;
          ended = ended i;
          shut = shut i;
          stations = λ vlan. stations_cut late vlan i;
          rows = λ vlan. rows_left vlan i;
          requests = λ vlan. requests_left vlan i;
          counts = counts i;
        }

-- the states and the requests that legal histories leave are within their limits
abbrev pub LeaveLimits : Type 0
LeaveLimits =
    (plan : Plan) (base : Base) (past : List Row) → IsValidPlan plan → IsWithinLimits plan base → IsLegal plan base past → AreOctets past
    → IsAccessBase (rules_of plan) (base_at (rules_of plan) (access_of base) (marks plan base past) (last_moment base past))

-- so is all that they leave
pub after_within : LeaveLimits → (plan : Plan) → IsValidPlan plan → (base : Base) → IsWithinLimits plan base → (past : List Row) → IsLegal plan base past → AreOctets past → IsWithinLimits plan (after plan base past)
after_within limits plan valid base within past legal bytes = record {
  ended = all_ends (λ pass. pass < pass_count plan) (λ pass. end_of base pass past) (up_to (pass_count plan)) (all_below (pass_count plan));
  shut = All-filter (λ number. is_shut plan base number past) (λ number. has_port plan number ≡ true) (numbers_of plan.ports) (all_in (numbers_of plan.ports));
  stations = λ vlan. stations_stay plan base past vlan within legal;
  access = limits plan base past valid within legal bytes;
  counts = counts_stay base past within.counts;
  elsewhere = after_elsewhere plan base within.elsewhere past;
}
