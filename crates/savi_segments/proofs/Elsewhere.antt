-- What a history tells is told of the VLANs of its plan: nothing becomes known of another one.
use Rattle.std.proofs.Common.{◌≡◌, ℕ, ◌==◌, ◌&&◌, ◌||◌, Bool, true, false, if◌then◌else◌, Option, Some, None, is_some, Result, Ok, Err, List, [], ◌∷◌, refl, sym, ap, subst, inl, inr, ◌∙◌, not}
use Rattle.std.specs.List.{list_any}
use Rattle.std.proofs.lemmas.Bool.{cases_Bool, cond-true, cond-false, eq-eqb, ne_eqb, or_left, or_right, false≢true}
use Rattle.arrayvec.specs.ArrayVec.{ArrayVec}
use Rattle.savi_kinds.specs.declared.plan.Plan.{Plan}
use Rattle.savi_kinds.specs.declared.plan.Role.{Role}
use Rattle.savi_kinds.specs.declared.plan.Role.TheVariants as roles
use Rattle.savi_kinds.specs.declared.plan.PortPlan.{PortPlan}
use Rattle.savi_kinds.specs.declared.plan.Vlan.{Vlan}
use Rattle.savi_kinds.specs.declared.plan.Vlan.TheVariants.{Access, Trunk}
use Rattle.savi_kinds.specs.declared.port.Port.{Port}
use Rattle.savi_kinds.specs.declared.verdict.Rule.{Rule}
use Rattle.savi_kinds.specs.declared.verdict.Rule.TheVariants.{OffLink, NaTarget, UnspecifiedSource}
use Rattle.savi_kinds.specs.declared.verdict.Scope.TheVariants.{TrustedOnly}
use Rattle.savi_kinds.specs.declared.verdict.Verdict.TheVariants.{Pass}
use Rattle.savi_kinds.specs.declared.entry.Act.{Act}
use Rattle.savi_kinds.specs.declared.entry.Act.TheVariants as acts
use Rattle.savi_kinds.specs.Ports.{number_of}
use Rattle.savi_kinds.specs.Vlans.{access_vlan, access_vlan_among, is_member_of, numbers_of_vlan, vlan_among, vlan_by}
use Rattle.savi_kinds.proofs.VlanSets.{vlans_have}
use Rattle.eth_frame.specs.declared.vlan_tag.Tag.{Tag}
use Rattle.eth_frame.specs.declared.vlan_tag.Tag.TheVariants as tags
use Rattle.eth_frame.specs.Tags.{inner, tag_of}
use Rattle.cli_lang.specs.declared.kinds.Command.{Command}
use Rattle.cli_lang.specs.declared.kinds.Command.TheVariants as orders
use Rattle.cli_lang.specs.declared.kinds.CmdFault.{CmdFault}
use Rattle.cli_lang.specs.CommandOf.{command_of}
use Rattle.v6_chain.specs.declared.packet.Ip.{Ip}
use Rattle.dhcp6_read.specs.declared.message.Dhcp.{Dhcp}
use Rattle.dhcp6_read.specs.declared.message.Lease.{Lease as Offered}
use Rattle.frame_class.specs.declared.classes.Class.{Class}
use Rattle.frame_class.specs.declared.classes.Class.TheVariants.{Runt, Tagged, Other, BadIp, Ip6}
use Rattle.frame_class.specs.declared.classes.Read.{Read}
use Rattle.frame_class.specs.ClassOf.{class_of}
use Rattle.ra_guard.specs.GuardOf.{guard_of}
use Rattle.fcfs_states.specs.declared.event.Ev.{Ev}
use Rattle.fcfs_states.specs.declared.event.Ev.TheVariants.{Sent, Dad, Na, TpDad, TpNa, Lease, Release, Fix, Clear}
use Rattle.dhcp_states.specs.declared.request.Request.{Request}
use Rattle.dhcp_states.specs.Requests.{request_of, refusal, asker, open_at, with_request, without_pair}
use Rattle.bridge_fdb.specs.declared.station.Station.{Station}
use Rattle.bridge_fdb.specs.Stations.{live_at}
use Rattle.hist_store.specs.Rows.{Row}
use Rattle.control_replies.specs.declared.refusal.Refusal.{Refusal}
use Rattle.savi_access.specs.declared.row.Row.{Row as AddressRow}
use Rattle.savi_access.specs.Ages.{aged_rows}
use Rattle.savi_access.specs.Tables.{rows_with, rows_after}
use Rattle.savi_access.specs.Rules.{AccessRules, AccessBase}
use Rattle.savi_access.specs.Marks.{Mark, Told, Asked, Met, told, named_for, requests_after, open_requests}
use Rattle.savi_access.specs.Frames.{dad_target, advertised, dhcp_to, is_router_solicitation, is_listener_message, asking_duid, answered_duid, gives_up}
use Rattle.savi_access.specs.Judged.{Judged, judged, judged_by, judged_for, validated, trusted, heard_or, from_unspecified, unspecified_by, sourced, message, message_by, dhcp_or_other, to_server_by, to_client_or_other, replied, replied_by, asked_by, answered, answered_or, with_event, with_events, is_on_link, is_passed, comes_to, passes, drops}
use Rattle.savi_access.specs.Plans.{rules_of}
use Rattle.checkpoint.specs.Bases.{Base, access_of}
use Rattle.checkpoint.specs.BaseLines.{HasNothingElsewhere, has_vlan}
use Rattle.savi_history.specs.Vlans.{is_vlan, vlan_at, vlan_at_port, vlan_of_frame}
use Rattle.savi_history.specs.Moments.{last_moment}
use Rattle.savi_history.specs.ShutPorts.{is_shut}
use Rattle.savi_history.specs.Commands.{clear_refusal, fixed_in, ordered_unless, refusal_of, rows_told}
use Rattle.savi_history.specs.Marks.{judged_after, marked, marks}
use Rattle.savi_history.specs.Stations.{ethernet_of, taught, teaches, after_entry, stations}
use Rattle.savi_history.specs.Summary.{is_pass}
use Rattle.savi_history.proofs.FrameVlans.{untold_marks}
use Rattle.savi_segments.specs.Checkpoints.{after}

and_none : (x b : Bool) → b ≡ false → (x && b) ≡ false
and_none true b none = none
and_none false b none = refl

-- the VLAN of a frame is one of the plan's

same_any : (own v : ℕ) → own ≡ v → list_any (λ n. n == v) (own ∷ []) ≡ true
same_any own v same = or_left (own == v) false (eq-eqb own v same)

listed_vlan : (listed : Bool) (vlans : List ℕ) (w v : ℕ) → list_any (λ n. n == w) vlans ≡ listed → (if listed then Some w else None) ≡ Some v → list_any (λ n. n == v) vlans ≡ true
listed_vlan true vlans w v there is = let same : w ≡ v = cc in ap (λ (m : ℕ). list_any (λ n. n == m) vlans) (sym same) ∙ there
listed_vlan false vlans w v there is = absurd (false≢true (ap is_some is))

vlan_there : (port : Vlan) (tag : Tag) (v : ℕ) → vlan_at port tag ≡ Some v → list_any (λ n. n == v) (numbers_of_vlan port) ≡ true
vlan_there (Access own) tags.None v is = same_any own v cc
vlan_there (Access own) (tags.Vid w) v is = absurd (false≢true (ap is_some is))
vlan_there (Access own) tags.Bad v is = absurd (false≢true (ap is_some is))
vlan_there (Trunk vlans) tags.None v is = absurd (false≢true (ap is_some is))
vlan_there (Trunk vlans) (tags.Vid w) v is = listed_vlan (list_any (λ n. n == w) vlans.items) vlans.items w v refl is
vlan_there (Trunk vlans) tags.Bad v is = absurd (false≢true (ap is_some is))

frame_there : (ports : List PortPlan) (number : ℕ) (tag : Tag) (v : ℕ) → vlan_at_port (vlan_among ports number) tag ≡ Some v → list_any (is_member_of v) ports ≡ true
frame_there [] number tag v is = absurd (false≢true (ap is_some is))
frame_there (p ∷ ports) number tag v is =
    elim (cases_Bool (number_of p.number == number)) [
      | inl here ↦
          or_left (is_member_of v p) (list_any (is_member_of v) ports)
          (vlan_there p.vlan tag v (ap (λ (o : Option Vlan). vlan_at_port o tag) (sym (cond-true (number_of p.number == number) (Some p.vlan) (vlan_among ports number) here)) ∙ is))
      | inr other ↦
          or_right (is_member_of v p) (list_any (is_member_of v) ports)
          (frame_there ports number tag v (ap (λ (o : Option Vlan). vlan_at_port o tag) (sym (cond-false (number_of p.number == number) (Some p.vlan) (vlan_among ports number) other)) ∙ is))
    ]

pub vlan_of_plan : (plan : Plan) (number v : ℕ) (octets : List ℕ) → vlan_of_frame plan number octets ≡ Some v → has_vlan plan v ≡ true
vlan_of_plan plan number v octets is = vlans_have v plan.ports ∙ frame_there plan.ports number (tag_of octets) v is

-- so is that of a port whose sources are validated

own_there : (role : Role) (vlan : Vlan) (v : ℕ) → vlan_by role vlan ≡ Some v → list_any (λ n. n == v) (numbers_of_vlan vlan) ≡ true
own_there roles.Host (Access own) v is = same_any own v cc
own_there roles.Host (Trunk vlans) v is = absurd (false≢true (ap is_some is))
own_there roles.Server (Access own) v is = same_any own v cc
own_there roles.Server (Trunk vlans) v is = absurd (false≢true (ap is_some is))
own_there roles.Trusted vlan v is = absurd (false≢true (ap is_some is))

access_there : (ports : List PortPlan) (number v : ℕ) → access_vlan_among ports number ≡ Some v → list_any (is_member_of v) ports ≡ true
access_there [] number v is = absurd (false≢true (ap is_some is))
access_there (p ∷ ports) number v is =
    elim (cases_Bool (number_of p.number == number)) [
      | inl here ↦
          or_left (is_member_of v p) (list_any (is_member_of v) ports)
          (own_there p.role p.vlan v (sym (cond-true (number_of p.number == number) (vlan_by p.role p.vlan) (access_vlan_among ports number) here) ∙ is))
      | inr other ↦
          or_right (is_member_of v p) (list_any (is_member_of v) ports)
          (access_there ports number v (sym (cond-false (number_of p.number == number) (vlan_by p.role p.vlan) (access_vlan_among ports number) other) ∙ is))
    ]

pub access_of_plan : (plan : Plan) (number v : ℕ) → access_vlan plan number ≡ Some v → has_vlan plan v ≡ true
access_of_plan plan number v is = vlans_have v plan.ports ∙ access_there plan.ports number v is

-- a VLAN where an address is cleared is one of the plan's
known_clear : (plan : Plan) (rows : ℕ → List AddressRow) (vlan a : ℕ) → clear_refusal plan rows vlan a ≡ None → has_vlan plan vlan ≡ true
known_clear plan rows vlan a none = by (has_vlan plan vlan) _ _ none
  where
    by : (known : Bool) (x : Refusal) (rest : Option Refusal) → (if not known then Some x else rest) ≡ None → known ≡ true
    by true x rest none = refl
    by false x rest none = absurd (false≢true (sym (ap is_some none)))

-- nothing is known of a VLAN behind these marks
record IsBareIn (r : AccessRules) (base : AccessBase) (other : ℕ) (marks : List Mark) : Type 0 where
  pub rows : rows_after r.addresses base.addresses (told marks) other ≡ []
  pub requests : requests_after base other marks ≡ []

-- what is told of a VLAN, and another one of which nothing is known
module _ (r : AccessRules) (base : AccessBase) (vlan other : ℕ) (away : (vlan == other) ≡ false) where
  abbrev Bare : List Mark → Type 0
  Bare marks = IsBareIn r base other marks

  -- what is of this VLAN changes nothing there
  unless_there : {A : Type 0} (new old : List A) → old ≡ [] → (if vlan == other then new else old) ≡ []
  unless_there new old none = ap (λ (b : Bool). if b then new else old) away ∙ none

  told_bare : (past : List Mark) → Bare past → (t a : ℕ) (event : Ev) → Bare (Told (named_for r base vlan t past a event) ∷ past)
  told_bare past bare t a event = record {
    rows =
        let rows : List AddressRow = rows_after r.addresses base.addresses (told past) other in
        unless_there (rows_with r.addresses (named_for r base vlan t past a event) rows) rows bare.rows;
    requests = bare.requests;
  }

  asked_more : (past : List Mark) → Bare past → (request : Request) → Bare (Asked vlan request ∷ past)
  asked_more past bare request = record {
    rows = bare.rows;
    requests = unless_there (with_request request (requests_after base other past)) (requests_after base other past) bare.requests;
  }

  met_bare : (past : List Mark) → Bare past → (t tid : ℕ) (duid : List ℕ) → Bare (Met vlan t tid duid ∷ past)
  met_bare past bare t tid duid = record {
    rows = bare.rows;
    requests = unless_there (without_pair tid duid (requests_after base other past)) (requests_after base other past) bare.requests;
  }

  module _ (port : Port) (t : ℕ) where
    event_bare : (past : List Mark) → Bare past → (a : ℕ) (event : Ev) → Bare (with_event r base vlan port t a event past)
    event_bare past bare a event = told_bare past bare t a event

    answered_bare : (past : List Mark) → Bare past → (b : Bool) (rule : Rule) (a : ℕ) (event : Ev) → Bare (if b then answered r base vlan port t past a event else drops rule past).marks
    answered_bare past bare true rule a event = event_bare past bare a event
    answered_bare past bare false rule a event = bare

    or_bare : (past : List Mark) → Bare past → (rule : Rule) (a : ℕ) (event : Ev) → Bare (answered_or r base vlan port t rule past a event).marks
    or_bare past bare rule a event = answered_bare past bare (is_on_link r base vlan port t a) rule a event

    if_bare : (b : Bool) (one two : List Mark) → Bare one → Bare two → Bare (if b then one else two)
    if_bare true one two first second = first
    if_bare false one two first second = second

    judged_if : (b : Bool) (one two : Judged) → Bare one.marks → Bare two.marks → Bare (if b then one else two).marks
    judged_if true one two first second = first
    judged_if false one two first second = second

    events_bare : (event : Offered → Ev) (leases : List Offered) (past : List Mark) → Bare past → Bare (with_events r base vlan port t event leases past)
    events_bare event [] past bare = bare
    events_bare event (lease ∷ leases) past bare =
        events_bare event leases (if is_on_link r base vlan port t lease.address.0 then with_event r base vlan port t lease.address.0 (event lease) past else past)
        (if_bare (is_on_link r base vlan port t lease.address.0) (with_event r base vlan port t lease.address.0 (event lease) past) past (event_bare past bare lease.address.0 (event lease)) bare)

    reply_bare : (past : List Mark) → Bare past → (dhcp : Dhcp) (duid : List ℕ) (o : Option Port) → Bare (replied_by r base vlan port t past dhcp duid o)
    reply_bare past bare dhcp duid None = bare
    reply_bare past bare dhcp duid (Some q) =
        events_bare (λ lease. Lease q lease.valid) dhcp.leases.items (Met vlan t dhcp.tid duid ∷ past) (met_bare past bare t dhcp.tid duid)

    replied_bare : (past : List Mark) → Bare past → (dhcp : Dhcp) (s : Option (ArrayVec ℕ)) → Bare (replied r base vlan port t past dhcp s)
    replied_bare past bare dhcp None = bare
    replied_bare past bare dhcp (Some duid) = reply_bare past bare dhcp duid.items (asker dhcp.tid duid.items (open_requests base vlan past t))

    client_bare : (past : List Mark) → Bare past → (s : Option Dhcp) → Bare (to_client_or_other r base vlan port t past s).marks
    client_bare past bare None = bare
    client_bare past bare (Some dhcp) = replied_bare past bare dhcp (answered_duid dhcp)

    asked_bare : (past : List Mark) → Bare past → (tid : ℕ) (duid : List ℕ) (o : Option Rule) → Bare (asked_by r base vlan port t past tid duid o).marks
    asked_bare past bare tid duid (Some rule) = bare
    asked_bare past bare tid duid None = asked_more past bare (request_of port tid duid t)

    server_bare : (past : List Mark) → Bare past → (dhcp : Dhcp) (s : Option (ArrayVec ℕ)) → Bare (to_server_by r base vlan port t past dhcp s).marks
    server_bare past bare dhcp (Some duid) = asked_bare past bare dhcp.tid duid.items (refusal (number_of port) dhcp.tid duid.items (open_requests base vlan past t))
    server_bare past bare dhcp None =
        if_bare (gives_up dhcp) (with_events r base vlan port t (λ lease. Release port) dhcp.leases.items past) past (events_bare (λ lease. Release port) dhcp.leases.items past bare) bare

    dhcp_bare : (past : List Mark) → Bare past → (read : Read) (s : Option Dhcp) → Bare (dhcp_or_other r base vlan port t past read s).marks
    dhcp_bare past bare read (Some dhcp) = server_bare past bare dhcp (asking_duid dhcp)
    dhcp_bare past bare read None = client_bare past bare (dhcp_to 546 read)

    message_bare : (past : List Mark) → Bare past → (read : Read) (s : Option ℕ) → Bare (message_by r base vlan port t past read s).marks
    message_bare past bare read (Some target) = or_bare past bare NaTarget target (Na port)
    message_bare past bare read None = dhcp_bare past bare read (dhcp_to 547 read)

    unspecified_bare : (past : List Mark) → Bare past → (ip : Ip) (read : Read) (s : Option ℕ) → Bare (unspecified_by r base vlan port t past ip read s).marks
    unspecified_bare past bare ip read (Some target) = or_bare past bare OffLink target (Dad port)
    unspecified_bare past bare ip read None = judged_if (is_router_solicitation read || is_listener_message ip read) (comes_to (Pass TrustedOnly) past) (drops UnspecifiedSource past) bare bare

    packet_bare : (past : List Mark) → Bare past → (ip : Ip) (read : Read) (b : Bool) → Bare (if b then from_unspecified r base vlan port t past ip read else sourced r base vlan port t past ip read).marks
    packet_bare past bare ip read true = unspecified_bare past bare ip read (dad_target read)
    packet_bare past bare ip read false =
        let sent : Judged = answered_or r base vlan port t OffLink past ip.src.0 (Sent port) in
        let behind : Bare sent.marks = or_bare past bare OffLink ip.src.0 (Sent port) in
        judged_if (is_passed sent.verdict) (message r base vlan port t sent.marks read) sent (message_bare sent.marks behind read (advertised read)) behind

    validated_bare : (past : List Mark) → Bare past → (class : Class) → Bare (validated r base vlan port t past class).marks
    validated_bare past bare Runt = bare
    validated_bare past bare (Tagged eth) = bare
    validated_bare past bare (Other eth) = bare
    validated_bare past bare (BadIp eth) = bare
    validated_bare past bare (Ip6 eth ip read) = packet_bare past bare ip read (ip.src.0 == 0)

    heard_bare : (past : List Mark) → Bare past → (s : Option ℕ) (event : Ev) (rest : Judged) → Bare rest.marks → Bare (heard_or r base vlan port t past s event rest).marks
    heard_bare past bare (Some target) event rest behind = judged_if (is_on_link r base vlan port t target) (answered r base vlan port t past target event) (passes past) (event_bare past bare target event) bare
    heard_bare past bare None event rest behind = behind

    trusted_bare : (past : List Mark) → Bare past → (class : Class) → Bare (trusted r base vlan port t past class).marks
    trusted_bare past bare Runt = bare
    trusted_bare past bare (Tagged eth) = bare
    trusted_bare past bare (Other eth) = bare
    trusted_bare past bare (BadIp eth) = bare
    trusted_bare past bare (Ip6 eth ip read) =
        let client : Judged = to_client_or_other r base vlan port t past (dhcp_to 546 read) in
        heard_bare past bare (dad_target read) TpDad (heard_or r base vlan port t past (advertised read) TpNa client)
        (heard_bare past bare (advertised read) TpNa client (client_bare past bare (dhcp_to 546 read)))

    role_bare : (past : List Mark) → Bare past → (class : Class) (role : Role) → Bare (judged_for r base vlan port t past class role).marks
    role_bare past bare class roles.Host = validated_bare past bare class
    role_bare past bare class roles.Server = validated_bare past bare class
    role_bare past bare class roles.Trusted = trusted_bare past bare class

    guard_bare : (past : List Mark) → Bare past → (class : Class) (g : Option Rule) → Bare (judged_by r base vlan port t past class g).marks
    guard_bare past bare class (Some rule) = bare
    guard_bare past bare class None = judged_if r.validates (judged_for r base vlan port t past class (r.role_of (number_of port))) (passes past) (role_bare past bare class (r.role_of (number_of port))) bare

    judged_bare : (past : List Mark) → Bare past → (class : Class) → Bare (judged r base vlan port t past class).marks
    unfolding judged
    judged_bare past bare class = guard_bare past bare class (guard_of (r.role_of (number_of port)) r.drop_unknown class)

module _ (plan : Plan) (base : Base) (other : ℕ) (elsewhere : has_vlan plan other ≡ false) (nothing : HasNothingElsewhere plan base) where
  away : (vlan : ℕ) → has_vlan plan vlan ≡ true → (vlan == other) ≡ false
  away vlan known = ne_eqb vlan other (λ same. absurd (false≢true (sym elsewhere ∙ ap (has_vlan plan) (sym same) ∙ known)))

  -- the VLAN, where there is one, is the plan's
  abbrev IsKnown : Option ℕ → Type 0
  IsKnown vlan = (v : ℕ) → vlan ≡ Some v → has_vlan plan v ≡ true

  abbrev AreBare : List Mark → Type 0
  AreBare told = IsBareIn (rules_of plan) (access_of base) other told

  frame_bare : (shut : Bool) (told : List Mark) → AreBare told → (port : Port) (t : ℕ) (vlan : Option ℕ) (class : Class) → IsKnown vlan → AreBare (judged_after plan base shut told port t vlan class).marks
  frame_bare true told bare port t vlan class known = bare
  frame_bare false told bare port t (Some vlan) class known = judged_bare (rules_of plan) (access_of base) vlan other (away vlan (known vlan refl)) port t told bare class
  frame_bare false told bare port t None class known = subst (λ (l : List Mark). AreBare l) (sym (untold_marks told (guard_of roles.Trusted plan.drop_unknown class))) bare

  mark_bare : (vlan : ℕ) → has_vlan plan vlan ≡ true → (told : List Mark) → AreBare told → (t a : ℕ) (event : Ev) → AreBare (Told (named_for (rules_of plan) (access_of base) vlan t told a event) ∷ told)
  mark_bare vlan known told bare t a event = told_bare (rules_of plan) (access_of base) vlan other (away vlan known) told bare t a event

  fixed_bare : (told : List Mark) → AreBare told → (t a : ℕ) (port : Port) (own : Option ℕ) → IsKnown own → AreBare (fixed_in plan (access_of base) t own a port told)
  fixed_bare told bare t a port (Some vlan) known = mark_bare vlan (known vlan refl) told bare t a (Fix port)
  fixed_bare told bare t a port None known = bare

  line_bare : (told : List Mark) → AreBare told → (t : ℕ) (rows : ℕ → List AddressRow) (order : Result Command CmdFault) (refused : Option Refusal) → refusal_of plan rows order ≡ refused → AreBare (ordered_unless plan (access_of base) t order refused told)
  line_bare told bare t rows order (Some refusal) is = bare
  line_bare told bare t rows (Err fault) None is = bare
  line_bare told bare t rows (Ok (orders.Static address port)) None is = fixed_bare told bare t address.0 port (access_vlan plan (number_of port)) (access_of_plan plan (number_of port))
  line_bare told bare t rows (Ok (orders.Clear vlan address)) None is = mark_bare vlan (known_clear plan rows vlan address.0 is) told bare t address.0 Clear
  line_bare told bare t rows (Ok (orders.Shut port)) None is = bare
  line_bare told bare t rows (Ok (orders.Reopen port)) None is = bare
  line_bare told bare t rows (Ok orders.ShowBindings) None is = bare
  line_bare told bare t rows (Ok orders.ShowPorts) None is = bare
  line_bare told bare t rows (Ok orders.ShowCounters) None is = bare
  line_bare told bare t rows (Ok orders.ShowStations) None is = bare
  line_bare told bare t rows (Ok orders.Quit) None is = bare

  vlan_known : (port : Port) (row : Row) → IsKnown (vlan_of_frame plan (number_of port) row.octets)
  vlan_known port row v is = vlan_of_plan plan (number_of port) v row.octets is

  act_bare : (past : List Row) (row : Row) (act : Act) (told : List Mark) → AreBare told → AreBare (marked plan base past row act told)
  act_bare past row (acts.Frame port stamp at len) told bare =
      frame_bare (is_shut plan base (number_of port) past) told bare port row.entry.moment (vlan_of_frame plan (number_of port) row.octets) (class_of (inner row.octets)) (vlan_known port row)
  act_bare past row (acts.Long port stamp len) told bare = bare
  act_bare past row (acts.Tick stamp) told bare = bare
  act_bare past row (acts.Command stamp at len) told bare =
      let rows : ℕ → List AddressRow = rows_told plan (access_of base) told row.entry.moment in
      line_bare told bare row.entry.moment rows (command_of row.octets) (refusal_of plan rows (command_of row.octets)) refl
  act_bare past row (acts.Drain port count) told bare = bare
  act_bare past row (acts.End who how) told bare = bare

  marks_bare : (past : List Row) → AreBare (marks plan base past)
  marks_bare [] = record { rows = nothing.rows other elsewhere; requests = nothing.requests other elsewhere }
  marks_bare (row ∷ past) = act_bare past row row.entry.act (marks plan base past) (marks_bare past)

  no_vlan : (vlan : Option ℕ) → IsKnown vlan → is_vlan other vlan ≡ false
  no_vlan (Some vlan) known = away vlan (known vlan refl)
  no_vlan None known = refl

  untaught : (port : Port) (row : Row) (learned live : List Station) → live ≡ [] → (if teaches other plan port row then learned else live) ≡ []
  untaught port row learned live none =
      let vlan : Option ℕ = vlan_of_frame plan (number_of port) row.octets in
      ap (λ (b : Bool). if b then learned else live) (and_none (is_pass row.entry.verdict) (is_vlan other vlan) (no_vlan vlan (vlan_known port row))) ∙ none

  entry_bare : (row : Row) (act : Act) (live : List Station) → live ≡ [] → after_entry other plan row act live ≡ []
  entry_bare row (acts.Frame port stamp at len) live none = untaught port row (taught port row.entry.moment (ethernet_of (inner row.octets)) live) live none
  entry_bare row (acts.Long port stamp len) live none = none
  entry_bare row (acts.Tick stamp) live none = none
  entry_bare row (acts.Command stamp at len) live none = none
  entry_bare row (acts.Drain port count) live none = none
  entry_bare row (acts.End who how) live none = none

  stations_bare : (past : List Row) → stations other plan base past ≡ []
  stations_bare [] = nothing.stations other elsewhere
  stations_bare (row ∷ past) =
      entry_bare row row.entry.act (live_at row.entry.moment (stations other plan base past)) (ap (λ (known : List Station). live_at row.entry.moment known) (stations_bare past))

-- nothing becomes known there
pub after_elsewhere : (plan : Plan) (base : Base) → HasNothingElsewhere plan base → (past : List Row) → HasNothingElsewhere plan (after plan base past)
after_elsewhere plan base nothing past = record {
  rows = λ vlan none. ap (λ (rows : List AddressRow). aged_rows (rules_of plan).addresses.times (last_moment base past) rows) (marks_bare plan base vlan none nothing past).rows;
  requests = λ vlan none. ap (λ (requests : List Request). open_at (last_moment base past) requests) (marks_bare plan base vlan none nothing past).requests;
  stations = λ vlan none. stations_bare plan base vlan none nothing past;
}
