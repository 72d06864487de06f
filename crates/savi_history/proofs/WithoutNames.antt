-- The row of an event doesn't depend on the names of a plan.
use Rattle.std.proofs.Common.{◌≡◌, ℕ, ◌+◌, ◌-◌, ◌==◌, ◌&&◌, not, nat_le, if◌then◌else◌, Bool, true, false, Option, Some, None, Result, Ok, Err, List, [], ◌∷◌, ◌++◌, ◌||◌, length, map, refl, ap, sym, ◌∙◌}
use Rattle.std.specs.Prelude.{fold, flat_map}
use Rattle.std.specs.List.{filter, list_any}
use Rattle.std.specs.Ordering.{nat_cmp}
use Rattle.std.specs.BTreeSet.{insert_key}
use Rattle.std.proofs.Math.Path.{fun_ext}
use Rattle.std.proofs.lemmas.List.{length-map}
use Rattle.std.proofs.lemmas.List.Elements.{filter_agree}
use Rattle.savi_kinds.specs.declared.port.Port.{Port}
use Rattle.savi_kinds.specs.declared.port.PortSet.{PortSet}
use Rattle.savi_kinds.specs.declared.plan.Plan.{Plan}
use Rattle.savi_kinds.specs.declared.plan.PortPlan.{PortPlan}
use Rattle.savi_kinds.specs.declared.plan.Role.{Role}
use Rattle.savi_kinds.specs.declared.plan.Vlan.{Vlan}
use Rattle.savi_kinds.specs.declared.verdict.Verdict.{Verdict}
use Rattle.savi_kinds.specs.declared.verdict.Verdict.TheVariants.{Pass, Drop}
use Rattle.savi_kinds.specs.declared.verdict.Scope.{Scope}
use Rattle.savi_kinds.specs.declared.verdict.Scope.TheVariants.{All, TrustedOnly, TrustedAnd}
use Rattle.savi_kinds.specs.declared.entry.Act.{Act}
use Rattle.savi_kinds.specs.declared.entry.Act.TheVariants as acts
use Rattle.savi_kinds.specs.declared.entry.How.{How}
use Rattle.savi_kinds.specs.declared.entry.How.TheVariants as hows
use Rattle.fcfs_states.specs.declared.answer.Probe.{Probe}
use Rattle.fcfs_states.specs.declared.answer.Probe.TheVariants.{Trusted, To}
use Rattle.savi_kinds.specs.declared.entry.Who.{Who}
use Rattle.savi_kinds.specs.declared.entry.Who.TheVariants as passes
use Rattle.savi_kinds.specs.Ports.{number_of}
use Rattle.savi_kinds.specs.PortSets.{is_member, set_of}
use Rattle.savi_kinds.specs.ValidPlan.{numbers_of}
use Rattle.savi_kinds.specs.Vlans.{numbers_of_vlan, is_member_of, vlans_of, vlan_among, vlan_by, access_vlan_among, access_vlan}
use Rattle.eth_frame.specs.Tags.{tag_of, inner}
use Rattle.probe_write.specs.ProbeFrame.{probe_of}
use Rattle.mix_rules.specs.States.{has_state}
use Rattle.bridge_fdb.specs.declared.station.Station.{Station}
use Rattle.bridge_fdb.specs.Stations.{live_at}
use Rattle.hist_store.specs.Rows.{Row}
use Rattle.checkpoint.specs.Bases.{Base, access_of}
use Rattle.checkpoint.specs.BaseLines.{has_vlan}
use Rattle.savi_history.specs.Passes.{role_among, is_trusted, pass_of, egress_pass, place_among, has_ended}
use Rattle.savi_history.specs.Offers.{Offer, offer_of, due_in, due_by, in_answer, offers}
use Rattle.savi_history.specs.Merges.{merged}
use Rattle.savi_history.specs.Moments.{last_moment, moment_at}
use Rattle.frame_class.specs.declared.classes.Class.{Class}
use Rattle.frame_class.specs.ClassOf.{class_of}
use Rattle.savi_access.specs.declared.sent.SentProbe.{SentProbe}
use Rattle.savi_access.specs.Probes.{probes_between}
use Rattle.savi_access.specs.Rules.{AccessRules}
use Rattle.savi_access.specs.Marks.{Mark, Told, told, event_told}
use Rattle.savi_access.specs.Judged.{Judged, judged}
use Rattle.savi_access.specs.Rows.{state_in}
use Rattle.savi_access.specs.Plans.{has_port, role_of, rules_of}
use Rattle.savi_history.specs.Vlans.{vlan_at_port, vlan_of_frame, is_vlan, has_member, octets_out}
use Rattle.fcfs_states.specs.declared.event.Ev.{Ev}
use Rattle.fcfs_states.specs.declared.event.Ev.TheVariants.{Fix, Clear}
use Rattle.savi_access.specs.declared.row.Row.{Row as State}
use Rattle.savi_access.specs.Rooms.{room_for}
use Rattle.savi_access.specs.Tables.{rows_at}
use Rattle.cli_lang.specs.declared.kinds.Command.{Command as Order}
use Rattle.cli_lang.specs.declared.kinds.Command.TheVariants as orders
use Rattle.cli_lang.specs.declared.kinds.CmdFault.{CmdFault}
use Rattle.cli_lang.specs.CommandOf.{command_of}
use Rattle.control_replies.specs.declared.refusal.Refusal.{Refusal}
use Rattle.control_replies.specs.declared.refusal.Refusal.TheVariants as refusals
use Rattle.savi_history.specs.ShutPorts.{is_heard_at, shut_by, shut_after, is_shut}
use Rattle.savi_history.specs.Commands.{rows_told, static_refusal_in, refusal_of, fixed_in, ordered_unless, commanded}
use Rattle.savi_history.specs.Marks.{judged_after, marked, marks}
use Rattle.savi_history.specs.Judged.{judged_of, verdict_of, long_by, judged_long}
use Rattle.savi_history.specs.Summary.{is_pass}
use Rattle.savi_history.specs.Stations.{ethernet_of, taught, after_entry, stations, port_among, known_port}
use Rattle.savi_history.specs.Outs.{is_in_scope, directed, outs_by, without_shut, outs}
use Rattle.savi_history.specs.Queues.{Item, sent_octets, item_of, probe_item, is_for, is_probed, offered_at, room_at, joined_queue, all_joined, probed, framed, waiting_after, queue, queued_at, lost_at, over_ports, probes, lost, is_closed, cuts}
use Rattle.savi_history.specs.Events.{Event, Frame, Long, Command, Tick, Drain, End, frame_act, command_act, plain_row, outs_of, row_of}
use Rattle.savi_history.specs.Journals.{without_port_names, without_names}

pub numbers_kept : (ports : List PortPlan) → numbers_of (map without_port_names ports) ≡ numbers_of ports
numbers_kept [] = refl
numbers_kept (p ∷ ports) = ap (λ (ns : List ℕ). number_of p.number ∷ ns) (numbers_kept ports)

pub count_kept : (ports : List PortPlan) → length (map without_port_names ports) ≡ length ports
count_kept ports = length-map ports without_port_names

-- the pass of each who, by how many ports there are and their numbers
abbrev pass_by : ℕ → List ℕ → Who → ℕ
pass_by count numbers (passes.Ingress p) = place_among numbers (number_of p)
pass_by count numbers passes.Control = count
pass_by count numbers passes.Ticker = count + 1
pass_by count numbers (passes.Egress p) = count + 2 + place_among numbers (number_of p)

pass_is : (plan : Plan) (who : Who) → pass_of plan who ≡ pass_by (length plan.ports) (numbers_of plan.ports) who
pass_is plan (passes.Ingress p) = refl
pass_is plan passes.Control = refl
pass_is plan passes.Ticker = refl
pass_is plan (passes.Egress p) = refl

pass_kept : (plan : Plan) (who : Who) → pass_of (without_names plan) who ≡ pass_of plan who
pass_kept plan who =
    pass_is (without_names plan) who
    ∙ ap (λ (count : ℕ). pass_by count (numbers_of (map without_port_names plan.ports)) who) (count_kept plan.ports)
    ∙ ap (λ (numbers : List ℕ). pass_by (length plan.ports) numbers who) (numbers_kept plan.ports)
    ∙ sym (pass_is plan who)

role_at : (p : PortPlan) (ports ports' : List PortPlan) (number : ℕ) (b : Bool) → role_among ports number ≡ role_among ports' number → (if b then p.role else role_among ports number) ≡ (if b then p.role else role_among ports' number)
role_at p ports ports' number true same = refl
role_at p ports ports' number false same = same

role_among_kept : (ports : List PortPlan) (number : ℕ) → role_among (map without_port_names ports) number ≡ role_among ports number
role_among_kept [] number = refl
role_among_kept (p ∷ ports) number = role_at p (map without_port_names ports) ports number (number_of p.number == number) (role_among_kept ports number)

access_at : (p : PortPlan) (ports ports' : List PortPlan) (number : ℕ) (b : Bool) → access_vlan_among ports number ≡ access_vlan_among ports' number → (if b then vlan_by p.role p.vlan else access_vlan_among ports number) ≡ (if b then vlan_by p.role p.vlan else access_vlan_among ports' number)
access_at p ports ports' number true same = refl
access_at p ports ports' number false same = same

access_among_kept : (ports : List PortPlan) (number : ℕ) → access_vlan_among (map without_port_names ports) number ≡ access_vlan_among ports number
access_among_kept [] number = refl
access_among_kept (p ∷ ports) number = access_at p (map without_port_names ports) ports number (number_of p.number == number) (access_among_kept ports number)

vlan_of_port : (p : PortPlan) (ports ports' : List PortPlan) (number : ℕ) (b : Bool) → vlan_among ports number ≡ vlan_among ports' number → (if b then Some p.vlan else vlan_among ports number) ≡ (if b then Some p.vlan else vlan_among ports' number)
vlan_of_port p ports ports' number true same = refl
vlan_of_port p ports ports' number false same = same

vlan_among_kept : (ports : List PortPlan) (number : ℕ) → vlan_among (map without_port_names ports) number ≡ vlan_among ports number
vlan_among_kept [] number = refl
vlan_among_kept (p ∷ ports) number = vlan_of_port p (map without_port_names ports) ports number (number_of p.number == number) (vlan_among_kept ports number)

pub frame_vlan_kept : (plan : Plan) (number : ℕ) (octets : List ℕ) → vlan_of_frame (without_names plan) number octets ≡ vlan_of_frame plan number octets
frame_vlan_kept plan number octets = ap (λ (port : Option Vlan). vlan_at_port port (tag_of octets)) (vlan_among_kept plan.ports number)

listed_kept : (ports : List PortPlan) → flat_map (λ (port : PortPlan). numbers_of_vlan port.vlan) (map without_port_names ports) ≡ flat_map (λ (port : PortPlan). numbers_of_vlan port.vlan) ports
listed_kept [] = refl
listed_kept (p ∷ ports) = ap (λ (vlans : List ℕ). numbers_of_vlan p.vlan ++ vlans) (listed_kept ports)

pub vlans_kept : (plan : Plan) → vlans_of (without_names plan) ≡ vlans_of plan
vlans_kept plan = ap (λ (vlans : List ℕ). fold (insert_key nat_cmp) [] vlans) (listed_kept plan.ports)

member_kept : (vlan : ℕ) (ports : List PortPlan) (number : ℕ) → list_any (λ (p : PortPlan). (number_of p.number == number) && is_member_of vlan p) (map without_port_names ports) ≡ list_any (λ (p : PortPlan). (number_of p.number == number) && is_member_of vlan p) ports
member_kept vlan [] number = refl
member_kept vlan (p ∷ ports) number = ap (λ (b : Bool). ((number_of p.number == number) && is_member_of vlan p) || b) (member_kept vlan ports number)

-- the rules by these roles and VLANs of ports
abbrev pub rules_by : Plan → (ℕ → Role) → (ℕ → Option ℕ) → AccessRules
rules_by plan roles vlans = record (rules_of plan) { addresses = record ((rules_of plan).addresses) { vlan_of = vlans }; role_of = roles }

pub rules_kept : (plan : Plan) → rules_of (without_names plan) ≡ rules_of plan
rules_kept plan =
    ap (λ (roles : ℕ → Role). rules_by plan roles (access_vlan_among (map without_port_names plan.ports))) (fun_ext (role_among_kept plan.ports))
    ∙ ap (λ (vlans : ℕ → Option ℕ). rules_by plan (role_among plan.ports) vlans) (fun_ext (access_among_kept plan.ports))

module _ (plan : Plan) (base : Base) where
  after_is : (shut : Bool) (past : List Mark) (port : Port) (moment : ℕ) (vlan : Option ℕ) (class : Class) → judged_after (without_names plan) base shut past port moment vlan class ≡ judged_after plan base shut past port moment vlan class
  after_is true past port moment vlan class = refl
  after_is false past port moment (Some vlan) class = ap (λ (r : AccessRules). judged r (access_of base) vlan port moment past class) (rules_kept plan)
  after_is false past port moment None class = refl

  table_kept : (past : List Mark) (moment vlan : ℕ) → rows_told (without_names plan) (access_of base) past moment vlan ≡ rows_told plan (access_of base) past moment vlan
  table_kept past moment vlan = ap (λ (r : AccessRules). rows_at r.addresses (access_of base).addresses (told past) moment vlan) (rules_kept plan)

  tables_kept : (past : List Mark) (moment : ℕ) → rows_told (without_names plan) (access_of base) past moment ≡ rows_told plan (access_of base) past moment
  tables_kept past moment = fun_ext (table_kept past moment)

  -- why an address isn't fixed to a port, where one is known or not
  abbrev unless_known : Bool → Option Refusal → Option Refusal
  unless_known known rest = if not known then Some refusals.NoSuchPort else rest

  static_in_kept : (rows : ℕ → List State) (a : ℕ) (port : Port) (own : Option ℕ) → static_refusal_in (without_names plan) rows a port own ≡ static_refusal_in plan rows a port own
  static_in_kept rows a port None = refl
  static_in_kept rows a port (Some vlan) = refl

  known_vlan_kept : (vlan : ℕ) → has_vlan (without_names plan) vlan ≡ has_vlan plan vlan
  known_vlan_kept vlan = ap (λ (vlans : List ℕ). list_any (λ v. v == vlan) vlans) (vlans_kept plan)

  known_kept : (number : ℕ) → has_port (without_names plan) number ≡ has_port plan number
  known_kept number = ap (λ (numbers : List ℕ). list_any (λ n. n == number) numbers) (numbers_kept plan.ports)

  heard_kept : (port : Port) (number : ℕ) → is_heard_at (without_names plan) port number ≡ is_heard_at plan port number
  heard_kept port number = ap (λ (known : Bool). known && number_of port == number) (known_kept (number_of port))

  shut_by_kept : (number : ℕ) (order : Result Order CmdFault) (before : Bool) → shut_by (without_names plan) number order before ≡ shut_by plan number order before
  shut_by_kept number (Ok (orders.Shut port)) before = ap (λ (heard : Bool). if heard then true else before) (heard_kept port number)
  shut_by_kept number (Ok (orders.Reopen port)) before = ap (λ (heard : Bool). if heard then false else before) (heard_kept port number)
  shut_by_kept number (Ok (orders.Static address port)) before = refl
  shut_by_kept number (Ok (orders.Clear vlan address)) before = refl
  shut_by_kept number (Ok orders.ShowBindings) before = refl
  shut_by_kept number (Ok orders.ShowPorts) before = refl
  shut_by_kept number (Ok orders.ShowCounters) before = refl
  shut_by_kept number (Ok orders.ShowStations) before = refl
  shut_by_kept number (Ok orders.Quit) before = refl
  shut_by_kept number (Err fault) before = refl

  shut_after_kept : (number : ℕ) (octets : List ℕ) (act : Act) (before : Bool) → shut_after (without_names plan) number octets act before ≡ shut_after plan number octets act before
  shut_after_kept number octets (acts.Command stamp at len) before = shut_by_kept number (command_of octets) before
  shut_after_kept number octets (acts.Frame port stamp at len) before = refl
  shut_after_kept number octets (acts.Long port stamp len) before = refl
  shut_after_kept number octets (acts.Tick stamp) before = refl
  shut_after_kept number octets (acts.Drain port count) before = refl
  shut_after_kept number octets (acts.End who how) before = refl

  pub shut_kept : (number : ℕ) (past : List Row) → is_shut (without_names plan) base number past ≡ is_shut plan base number past
  shut_kept number [] = refl
  shut_kept number (r ∷ past) =
      shut_after_kept number r.octets r.entry.act (is_shut (without_names plan) base number past)
      ∙ ap (λ (before : Bool). shut_after plan number r.octets r.entry.act before) (shut_kept number past)

  refusal_kept : (rows : ℕ → List State) (order : Result Order CmdFault) → refusal_of (without_names plan) rows order ≡ refusal_of plan rows order
  refusal_kept rows (Err fault) = refl
  refusal_kept rows (Ok (orders.Static address port)) =
      ap (λ (known : Bool). unless_known known (static_refusal_in (without_names plan) rows address.0 port (access_vlan (without_names plan) (number_of port)))) (known_kept (number_of port))
      ∙ ap (λ (rest : Option Refusal). unless_known (has_port plan (number_of port)) rest) (static_in_kept rows address.0 port (access_vlan (without_names plan) (number_of port)))
      ∙ ap (λ (own : Option ℕ). unless_known (has_port plan (number_of port)) (static_refusal_in plan rows address.0 port own)) (access_among_kept plan.ports (number_of port))
  refusal_kept rows (Ok (orders.Clear vlan address)) =
      ap (λ (known : Bool). if not known then Some refusals.BadAddress else if has_state (state_in (rows vlan) address.0) then None else Some refusals.NoBinding) (known_vlan_kept vlan)
  refusal_kept rows (Ok (orders.Shut port)) = ap (λ (known : Bool). if known then None else Some refusals.NoSuchPort) (known_kept (number_of port))
  refusal_kept rows (Ok (orders.Reopen port)) = ap (λ (known : Bool). if known then None else Some refusals.NoSuchPort) (known_kept (number_of port))
  refusal_kept rows (Ok orders.ShowBindings) = refl
  refusal_kept rows (Ok orders.ShowPorts) = refl
  refusal_kept rows (Ok orders.ShowCounters) = refl
  refusal_kept rows (Ok orders.ShowStations) = refl
  refusal_kept rows (Ok orders.Quit) = refl

  mark_kept : (moment vlan a : ℕ) (event : Ev) (past : List Mark) → event_told (rules_of (without_names plan)) (access_of base) vlan moment past a event ≡ event_told (rules_of plan) (access_of base) vlan moment past a event
  mark_kept moment vlan a event past =
      ap (λ (rows : List State). Told (record { vlan = vlan; address = a; moment = moment; event = event; room = room_for plan.per_port rows event }) ∷ past) (table_kept past moment vlan)

  fixed_kept : (moment a : ℕ) (port : Port) (past : List Mark) (own : Option ℕ) → fixed_in (without_names plan) (access_of base) moment own a port past ≡ fixed_in plan (access_of base) moment own a port past
  fixed_kept moment a port past (Some vlan) = mark_kept moment vlan a (Fix port) past
  fixed_kept moment a port past None = refl

  unless_kept : (moment : ℕ) (order : Result Order CmdFault) (refusal : Option Refusal) (past : List Mark) → ordered_unless (without_names plan) (access_of base) moment order refusal past ≡ ordered_unless plan (access_of base) moment order refusal past
  unless_kept moment order (Some refusal) past = refl
  unless_kept moment (Err fault) None past = refl
  unless_kept moment (Ok (orders.Static address port)) None past =
      fixed_kept moment address.0 port past (access_vlan (without_names plan) (number_of port))
      ∙ ap (λ (own : Option ℕ). fixed_in plan (access_of base) moment own address.0 port past) (access_among_kept plan.ports (number_of port))
  unless_kept moment (Ok (orders.Clear vlan address)) None past = mark_kept moment vlan address.0 Clear past
  unless_kept moment (Ok (orders.Shut port)) None past = refl
  unless_kept moment (Ok (orders.Reopen port)) None past = refl
  unless_kept moment (Ok orders.ShowBindings) None past = refl
  unless_kept moment (Ok orders.ShowPorts) None past = refl
  unless_kept moment (Ok orders.ShowCounters) None past = refl
  unless_kept moment (Ok orders.ShowStations) None past = refl
  unless_kept moment (Ok orders.Quit) None past = refl

  commanded_kept : (moment : ℕ) (order : Result Order CmdFault) (past : List Mark) → commanded (without_names plan) (access_of base) moment order past ≡ commanded plan (access_of base) moment order past
  commanded_kept moment order past =
      unless_kept moment order (refusal_of (without_names plan) (rows_told (without_names plan) (access_of base) past moment) order) past
      ∙ ap (λ (refusal : Option Refusal). ordered_unless plan (access_of base) moment order refusal past)
      (refusal_kept (rows_told (without_names plan) (access_of base) past moment) order ∙ ap (λ (rows : ℕ → List State). refusal_of plan rows order) (tables_kept past moment))

  marked_kept : (rows : List Row) (r : Row) (act : Act) (past : List Mark) → marked (without_names plan) base rows r act past ≡ marked plan base rows r act past
  marked_kept rows r (acts.Frame port stamp at len) past =
      ap (λ (shut : Bool). (judged_after (without_names plan) base shut past port r.entry.moment (vlan_of_frame (without_names plan) (number_of port) r.octets) (class_of (inner r.octets))).marks) (shut_kept (number_of port) rows)
      ∙ ap (λ (vlan : Option ℕ). (judged_after (without_names plan) base (is_shut plan base (number_of port) rows) past port r.entry.moment vlan (class_of (inner r.octets))).marks) (frame_vlan_kept plan (number_of port) r.octets)
      ∙ ap (λ (j : Judged). j.marks) (after_is (is_shut plan base (number_of port) rows) past port r.entry.moment (vlan_of_frame plan (number_of port) r.octets) (class_of (inner r.octets)))
  marked_kept rows r (acts.Long port stamp len) past = refl
  marked_kept rows r (acts.Tick stamp) past = refl
  marked_kept rows r (acts.Command stamp at len) past = commanded_kept r.entry.moment (command_of r.octets) past
  marked_kept rows r (acts.Drain port count) past = refl
  marked_kept rows r (acts.End who how) past = refl

  pub marks_kept : (past : List Row) → marks (without_names plan) base past ≡ marks plan base past
  marks_kept [] = refl
  marks_kept (r ∷ past) = marked_kept past r r.entry.act (marks (without_names plan) base past) ∙ ap (λ (all : List Mark). marked plan base past r r.entry.act all) (marks_kept past)

  judged_kept : (past : List Row) (port : Port) (stamp : ℕ) (octets : List ℕ) → judged_of (without_names plan) base past port stamp octets ≡ judged_of plan base past port stamp octets
  judged_kept past port stamp octets =
      ap (λ (shut : Bool). judged_after (without_names plan) base shut (marks (without_names plan) base past) port (moment_at base past stamp) (vlan_of_frame (without_names plan) (number_of port) octets) (class_of (inner octets))) (shut_kept (number_of port) past)
      ∙ ap (λ (vlan : Option ℕ). judged_after (without_names plan) base (is_shut plan base (number_of port) past) (marks (without_names plan) base past) port (moment_at base past stamp) vlan (class_of (inner octets))) (frame_vlan_kept plan (number_of port) octets)
      ∙ after_is (is_shut plan base (number_of port) past) (marks (without_names plan) base past) port (moment_at base past stamp) (vlan_of_frame plan (number_of port) octets) (class_of (inner octets))
      ∙ ap (λ (all : List Mark). judged_after plan base (is_shut plan base (number_of port) past) all port (moment_at base past stamp) (vlan_of_frame plan (number_of port) octets) (class_of (inner octets))) (marks_kept past)

  due_in_kept : (past : List Row) (moment vlan : ℕ) → due_in (without_names plan) base past moment vlan ≡ due_in plan base past moment vlan
  due_in_kept past moment vlan =
      ap (λ (r : AccessRules). probes_between r.addresses (access_of base).addresses (told (marks (without_names plan) base past)) (last_moment base past) moment vlan) (rules_kept plan)
      ∙ ap (λ (all : List Mark). probes_between (rules_of plan).addresses (access_of base).addresses (told all) (last_moment base past) moment vlan) (marks_kept past)

  -- the probes of some VLANs that are due
  abbrev all_due : (ℕ → List SentProbe) → List ℕ → List Offer
  all_due due vlans = merged (λ (offer : Offer). offer.due) (map (λ vlan. map (offer_of vlan) (due vlan)) vlans)

  due_kept : (past : List Row) (moment : ℕ) → due_by (without_names plan) base past moment ≡ due_by plan base past moment
  due_kept past moment =
      ap (λ (due : ℕ → List SentProbe). all_due due (vlans_of (without_names plan))) (fun_ext (due_in_kept past moment))
      ∙ ap (λ (vlans : List ℕ). all_due (due_in plan base past moment) vlans) (vlans_kept plan)

  offers_kept : (past : List Row) (act : Act) (octets : List ℕ) → offers (without_names plan) base past act octets ≡ offers plan base past act octets
  unfolding offers
  offers_kept past (acts.Frame port stamp at len) octets =
      ap (λ (due : List Offer). due ++ in_answer (vlan_of_frame (without_names plan) (number_of port) octets) (judged_of (without_names plan) base past port stamp octets).probe) (due_kept past (moment_at base past stamp))
      ∙ ap (λ (vlan : Option ℕ). due_by plan base past (moment_at base past stamp) ++ in_answer vlan (judged_of (without_names plan) base past port stamp octets).probe) (frame_vlan_kept plan (number_of port) octets)
      ∙ ap (λ (j : Judged). due_by plan base past (moment_at base past stamp) ++ in_answer (vlan_of_frame plan (number_of port) octets) j.probe) (judged_kept past port stamp octets)
  offers_kept past (acts.Long port stamp len) octets = due_kept past (moment_at base past stamp)
  offers_kept past (acts.Tick stamp) octets = due_kept past (moment_at base past stamp)
  offers_kept past (acts.Command stamp at len) octets = due_kept past (moment_at base past stamp)
  offers_kept past (acts.Drain port count) octets = refl
  offers_kept past (acts.End who how) octets = refl

  -- stations

  entry_kept : (vlan : ℕ) (r : Row) (act : Act) (live : List Station) → after_entry vlan (without_names plan) r act live ≡ after_entry vlan plan r act live
  entry_kept vlan r (acts.Frame port stamp at len) live =
      ap (λ (own : Option ℕ). if is_pass r.entry.verdict && is_vlan vlan own then taught port r.entry.moment (ethernet_of (inner r.octets)) live else live) (frame_vlan_kept plan (number_of port) r.octets)
  entry_kept vlan r (acts.Long port stamp len) live = refl
  entry_kept vlan r (acts.Tick stamp) live = refl
  entry_kept vlan r (acts.Command stamp at len) live = refl
  entry_kept vlan r (acts.Drain port count) live = refl
  entry_kept vlan r (acts.End who how) live = refl

  pub stations_kept : (vlan : ℕ) (past : List Row) → stations vlan (without_names plan) base past ≡ stations vlan plan base past
  stations_kept vlan [] = refl
  stations_kept vlan (r ∷ past) =
      entry_kept vlan r r.entry.act (live_at r.entry.moment (stations vlan (without_names plan) base past))
      ∙ ap (λ (known : List Station). after_entry vlan plan r r.entry.act (live_at r.entry.moment known)) (stations_kept vlan past)

  known_port_kept : (vlan : ℕ) (past : List Row) (moment : ℕ) (octets : List ℕ) → known_port vlan (without_names plan) base past moment octets ≡ known_port vlan plan base past moment octets
  known_port_kept vlan past moment octets = ap (λ (known : List Station). port_among (live_at moment known) (ethernet_of (inner octets))) (stations_kept vlan past)

verdict_kept : (plan : Plan) (base : Base) (past : List Row) (port : Port) (stamp : ℕ) (octets : List ℕ) → verdict_of (without_names plan) base past port stamp octets ≡ verdict_of plan base past port stamp octets
verdict_kept plan base past port stamp octets = ap (λ (j : Judged). j.verdict) (judged_kept plan base past port stamp octets)

-- the members of a VLAN that are in a scope, as a test
abbrev is_other : ℕ → Scope → ℕ → PortPlan → Bool
is_other vlan scope port q = is_member_of vlan q && (is_in_scope scope q && not (number_of q.number == port))

others_at : (vlan : ℕ) (scope : Scope) (port : ℕ) (p : PortPlan) (ports : List PortPlan) (b : Bool) → numbers_of (filter (is_other vlan scope port) (map without_port_names ports)) ≡ numbers_of (filter (is_other vlan scope port) ports)
    → numbers_of (if b then without_port_names p ∷ filter (is_other vlan scope port) (map without_port_names ports) else filter (is_other vlan scope port) (map without_port_names ports))
    ≡ numbers_of (if b then p ∷ filter (is_other vlan scope port) ports else filter (is_other vlan scope port) ports)
others_at vlan scope port p ports true same = ap (λ (ns : List ℕ). number_of p.number ∷ ns) same
others_at vlan scope port p ports false same = same

test_kept : (vlan : ℕ) (scope : Scope) (port : ℕ) (p : PortPlan) → is_other vlan scope port (without_port_names p) ≡ is_other vlan scope port p
test_kept vlan All port p = refl
test_kept vlan TrustedOnly port p = refl
test_kept vlan (TrustedAnd q) port p = refl

others_kept : (vlan : ℕ) (scope : Scope) (port : ℕ) (ports : List PortPlan) → numbers_of (filter (is_other vlan scope port) (map without_port_names ports)) ≡ numbers_of (filter (is_other vlan scope port) ports)
others_kept vlan scope port [] = refl
others_kept vlan scope port (p ∷ ports) = rw (test_kept vlan scope port p) (others_at vlan scope port p ports (is_other vlan scope port p) (others_kept vlan scope port ports))

outs_by_kept : (vlan : ℕ) (plan : Plan) (port : ℕ) (known : Option Port) (verdict : Verdict) → outs_by vlan (without_names plan) port known verdict ≡ outs_by vlan plan port known verdict
outs_by_kept vlan plan port known (Pass scope) = ap (λ (ns : List ℕ). set_of (directed known ns)) (others_kept vlan scope port plan.ports)
outs_by_kept vlan plan port known (Drop rule) = refl

outs_kept : (plan : Plan) (base : Base) (past : List Row) (port moment : ℕ) (octets : List ℕ) (verdict : Verdict) (vlan : Option ℕ) → outs vlan (without_names plan) base past port moment octets verdict ≡ outs vlan plan base past port moment octets verdict
outs_kept plan base past port moment octets verdict (Some vlan) =
    let known : Option Port = known_port vlan plan base past moment octets in
    ap (λ (k : Option Port). without_shut (without_names plan) base past (outs_by vlan (without_names plan) port k verdict)) (known_port_kept plan base vlan past moment octets)
    ∙ ap (λ (shut : ℕ → Bool). set_of (filter (λ q. is_member (outs_by vlan (without_names plan) port known verdict) q && not (shut q)) (numbers_of (map without_port_names plan.ports))))
    (fun_ext (λ q. shut_kept plan base q past))
    ∙ ap (λ (numbers : List ℕ). set_of (filter (λ q. is_member (outs_by vlan (without_names plan) port known verdict) q && not (is_shut plan base q past)) numbers)) (numbers_kept plan.ports)
    ∙ ap (λ (set : PortSet). without_shut plan base past set) (outs_by_kept vlan plan port known verdict)
outs_kept plan base past port moment octets verdict None = refl

-- what waits

module _ (plan : Plan) (base : Base) where
  abbrev bare : Plan
  bare = without_names plan

  egress_kept : (q : ℕ) → egress_pass bare q ≡ egress_pass plan q
  egress_kept q =
      ap (λ (count : ℕ). count + 2 + place_among (numbers_of (map without_port_names plan.ports)) q) (count_kept plan.ports)
      ∙ ap (λ (numbers : List ℕ). length plan.ports + 2 + place_among numbers q) (numbers_kept plan.ports)

  room_kept : (past : List Row) (q : ℕ) → room_at bare base past q ≡ room_at plan base past q
  room_kept past q = ap (λ (pass : ℕ). if has_ended base pass past then 0 else plan.depth) (egress_kept q)

  probed_at : (past : List Row) (q vlan : ℕ) (probe : Probe) → (is_for bare q vlan probe && not (is_shut bare base q past)) ≡ (is_for plan q vlan probe && not (is_shut plan base q past))
  probed_at past q vlan Trusted =
      ap (λ (shut : Bool). (is_trusted (role_among (map without_port_names plan.ports) q) && has_member vlan bare q) && not shut) (shut_kept plan base q past)
      ∙ ap (λ (role : Role). (is_trusted role && has_member vlan bare q) && not (is_shut plan base q past)) (role_among_kept plan.ports q)
      ∙ ap (λ (member : Bool). (is_trusted (role_of plan q) && member) && not (is_shut plan base q past)) (member_kept vlan plan.ports q)
  probed_at past q vlan (To port) = ap (λ (shut : Bool). number_of port == q && not shut) (shut_kept plan base q past)

  probed_offer_kept : (past : List Row) (q : ℕ) (offer : Offer) → is_probed bare base past q offer ≡ is_probed plan base past q offer
  probed_offer_kept past q offer = probed_at past q offer.vlan offer.probe

  -- an item with this moment
  abbrev item_at : ℕ → List ℕ → Item
  item_at moment octets = record { moment = moment; octets = octets }

  sent_kept : (q : ℕ) (vlan : Option ℕ) (octets : List ℕ) → sent_octets bare q vlan octets ≡ sent_octets plan q vlan octets
  sent_kept q vlan octets = ap (λ (port : Option Vlan). octets_out port vlan octets) (vlan_among_kept plan.ports q)

  probe_item_kept : (q : ℕ) (offer : Offer) → probe_item bare q offer ≡ probe_item plan q offer
  probe_item_kept q offer = ap (λ (octets : List ℕ). item_at offer.due octets) (sent_kept q (Some offer.vlan) (probe_of plan.mac offer.address))

  frame_item_kept : (q : ℕ) (port : Port) (r : Row) → item_of bare q port r ≡ item_of plan q port r
  frame_item_kept q port r =
      ap (λ (octets : List ℕ). item_at r.entry.moment octets)
      (sent_kept q (vlan_of_frame bare (number_of port) r.octets) (inner r.octets) ∙ ap (λ (vlan : Option ℕ). sent_octets plan q vlan (inner r.octets)) (frame_vlan_kept plan (number_of port) r.octets))

  offered_kept : (past : List Row) (act : Act) (octets : List ℕ) (q : ℕ) → offered_at bare base past act octets q ≡ offered_at plan base past act octets q
  offered_kept past act octets q =
      ap (λ (all : List Offer). map (probe_item bare q) (filter (is_probed bare base past q) all)) (offers_kept plan base past act octets)
      ∙ ap (λ (some : List Offer). map (probe_item bare q) some)
      (filter_agree (is_probed bare base past q) (is_probed plan base past q) (probed_offer_kept past q) (offers plan base past act octets))
      ∙ ap (λ (item : Offer → Item). map item (filter (is_probed plan base past q) (offers plan base past act octets))) (fun_ext (probe_item_kept q))

  probed_kept : (past : List Row) (act : Act) (octets : List ℕ) (q : ℕ) (waiting : List Item) → probed bare base past act octets q waiting ≡ probed plan base past act octets q waiting
  probed_kept past act octets q waiting =
      ap (λ (room : ℕ). all_joined room waiting (offered_at bare base past act octets q)) (room_kept past q)
      ∙ ap (λ (items : List Item). all_joined (room_at plan base past q) waiting items) (offered_kept past act octets q)

  ended_kept : (past : List Row) (q : ℕ) (r : Row) (who : Who) (how : How) (waiting : List Item) → waiting_after bare base past q r (acts.End who how) waiting ≡ waiting_after plan base past q r (acts.End who how) waiting
  ended_kept past q r (passes.Egress port) hows.Failed waiting = refl
  ended_kept past q r (passes.Egress port) hows.End waiting = refl
  ended_kept past q r (passes.Egress port) hows.Quit waiting = refl
  ended_kept past q r (passes.Egress port) (hows.Malformed at) waiting = refl
  ended_kept past q r (passes.Egress port) (hows.Overlong at) waiting = refl
  ended_kept past q r (passes.Egress port) hows.Unwritten waiting = refl
  ended_kept past q r (passes.Egress port) hows.Paused waiting = refl
  ended_kept past q r (passes.Ingress port) how waiting = refl
  ended_kept past q r passes.Control how waiting = refl
  ended_kept past q r passes.Ticker how waiting = refl

  after_kept : (past : List Row) (q : ℕ) (r : Row) (act : Act) (waiting : List Item) → waiting_after bare base past q r act waiting ≡ waiting_after plan base past q r act waiting
  after_kept past q r (acts.Frame port stamp at len) waiting =
      let act = acts.Frame port stamp at len in
      let items : List Item = probed plan base past (acts.Frame port stamp at len) r.octets q waiting in
      ap (λ (room : ℕ). framed bare room q port r (probed bare base past (acts.Frame port stamp at len) r.octets q waiting)) (room_kept past q)
      ∙ ap (λ (joined : List Item). framed bare (room_at plan base past q) q port r joined) (probed_kept past act r.octets q waiting)
      ∙ ap (λ (item : Item). if is_member r.entry.outs q then joined_queue (room_at plan base past q) items item else items) (frame_item_kept q port r)
  after_kept past q r (acts.Long port stamp len) waiting = probed_kept past (acts.Long port stamp len) r.octets q waiting
  after_kept past q r (acts.Tick stamp) waiting = probed_kept past (acts.Tick stamp) r.octets q waiting
  after_kept past q r (acts.Command stamp at len) waiting = probed_kept past (acts.Command stamp at len) r.octets q waiting
  after_kept past q r (acts.Drain port count) waiting = refl
  after_kept past q r (acts.End who how) waiting = ended_kept past q r who how waiting

  pub queue_kept : (q : ℕ) (past : List Row) → queue bare base q past ≡ queue plan base q past
  queue_kept q [] = refl
  queue_kept q (r ∷ past) =
      after_kept past q r r.entry.act (queue bare base q past) ∙ ap (λ (items : List Item). waiting_after plan base past q r r.entry.act items) (queue_kept q past)

  module _ (past : List Row) (act : Act) (octets : List ℕ) where
    now_kept : (q : ℕ) → probed bare base past act octets q (queue bare base q past) ≡ probed plan base past act octets q (queue plan base q past)
    now_kept q = probed_kept past act octets q (queue bare base q past) ∙ ap (λ (items : List Item). probed plan base past act octets q items) (queue_kept q past)

    queued_kept : (q : ℕ) → queued_at bare base past act octets q ≡ queued_at plan base past act octets q
    queued_kept q =
        ap (λ (items : List Item). length items - length (queue bare base q past)) (now_kept q)
        ∙ ap (λ (items : List Item). length (probed plan base past act octets q (queue plan base q past)) - length items) (queue_kept q past)

    lost_kept_at : (q : ℕ) → lost_at bare base past act octets q ≡ lost_at plan base past act octets q
    lost_kept_at q =
        ap (λ (items : List Item). length items - queued_at bare base past act octets q) (offered_kept past act octets q)
        ∙ ap (λ (count : ℕ). length (offered_at plan base past act octets q) - count) (queued_kept q)

    sum_kept : (f g : ℕ → ℕ) → ((q : ℕ) → f q ≡ g q) → (qs : List ℕ) → over_ports qs f ≡ over_ports qs g
    sum_kept f g same [] = refl
    sum_kept f g same (q ∷ qs) = ap (λ (n : ℕ). n + over_ports qs f) (same q) ∙ ap (λ (n : ℕ). g q + n) (sum_kept f g same qs)

    probes_kept : probes bare base past act octets ≡ probes plan base past act octets
    unfolding probes
    probes_kept =
        ap (λ (numbers : List ℕ). over_ports numbers (queued_at bare base past act octets)) (numbers_kept plan.ports)
        ∙ sum_kept (queued_at bare base past act octets) (queued_at plan base past act octets) queued_kept (numbers_of plan.ports)

    lost_kept : lost bare base past act octets ≡ lost plan base past act octets
    unfolding lost
    lost_kept =
        ap (λ (numbers : List ℕ). over_ports numbers (lost_at bare base past act octets)) (numbers_kept plan.ports)
        ∙ sum_kept (lost_at bare base past act octets) (lost_at plan base past act octets) lost_kept_at (numbers_of plan.ports)

    closed_kept : (q : ℕ) → is_closed bare base past act octets q ≡ is_closed plan base past act octets q
    closed_kept q =
        ap (λ (room : ℕ). nat_le room (length (probed bare base past act octets q (queue bare base q past)))) (room_kept past q)
        ∙ ap (λ (items : List Item). nat_le (room_at plan base past q) (length items)) (now_kept q)

    cuts_kept : (out : PortSet) → cuts bare base past act octets out ≡ cuts plan base past act octets out
    cuts_kept out =
        ap (λ (numbers : List ℕ). set_of (filter (λ (q : ℕ). is_member out q && is_closed bare base past act octets q) numbers)) (numbers_kept plan.ports)
        ∙ ap set_of
        (filter_agree (λ (q : ℕ). is_member out q && is_closed bare base past act octets q) (λ (q : ℕ). is_member out q && is_closed plan base past act octets q)
        (λ q. ap (λ (b : Bool). is_member out q && b) (closed_kept q)) (numbers_of plan.ports))

pub row_kept : (plan : Plan) (base : Base) (past : List Row) (event : Event) → row_of (without_names plan) base past event ≡ row_of plan base past event
row_kept plan base past (Frame port stamp octets) =
    let bare_plan = without_names plan in
    let moment = moment_at base past stamp in
    let act = frame_act past port stamp octets in
    let verdict : verdict_of bare_plan base past port stamp octets ≡ verdict_of plan base past port stamp octets = verdict_kept plan base past port stamp octets in
    let out : outs_of bare_plan base past port stamp octets ≡ outs_of plan base past port stamp octets =
    ap (λ (v : Verdict). outs (vlan_of_frame bare_plan (number_of port) octets) bare_plan base past (number_of port) moment octets v) verdict
    ∙ ap (λ (vlan : Option ℕ). outs vlan bare_plan base past (number_of port) moment octets (verdict_of plan base past port stamp octets)) (frame_vlan_kept plan (number_of port) octets)
    ∙ outs_kept plan base past (number_of port) moment octets (verdict_of plan base past port stamp octets) (vlan_of_frame plan (number_of port) octets) in
    let cut : cuts bare_plan base past act octets (outs_of bare_plan base past port stamp octets) ≡ cuts plan base past act octets (outs_of plan base past port stamp octets) =
    ap (λ (o : PortSet). cuts bare_plan base past act octets o) out ∙ cuts_kept plan base past act octets (outs_of plan base past port stamp octets) in
    let by = pass_kept plan (passes.Ingress port) in
    let queued = probes_kept plan base past act octets in
    let missed = lost_kept plan base past act octets in
    cc (by, verdict, out, cut, queued, missed)
row_kept plan base past (Long port stamp len) =
    let by = pass_kept plan (passes.Ingress port) in
    let queued = probes_kept plan base past (acts.Long port stamp len) [] in
    let missed = lost_kept plan base past (acts.Long port stamp len) [] in
    let verdict : judged_long (without_names plan) base past port ≡ judged_long plan base past port = ap long_by (shut_kept plan base (number_of port) past) in
    cc (by, verdict, queued, missed)
row_kept plan base past (Command stamp line) =
    let by = pass_kept plan passes.Control in
    let queued = probes_kept plan base past (command_act past stamp line) line in
    let missed = lost_kept plan base past (command_act past stamp line) line in
    cc (by, queued, missed)
row_kept plan base past (Tick stamp) =
    let by = pass_kept plan passes.Ticker in
    let queued = probes_kept plan base past (acts.Tick stamp) [] in
    let missed = lost_kept plan base past (acts.Tick stamp) [] in
    cc (by, queued, missed)
row_kept plan base past (Drain port count) =
    ap (λ (by : ℕ). plain_row by (last_moment base past) (acts.Drain port count)) (pass_kept plan (passes.Egress port))
row_kept plan base past (End who how) =
    ap (λ (by : ℕ). plain_row by (last_moment base past) (acts.End who how)) (pass_kept plan who)
