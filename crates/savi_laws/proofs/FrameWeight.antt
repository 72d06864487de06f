-- What a frame or a command may add to the weight of the states.
use Rattle.std.proofs.Common.{◌≡◌, ℕ, ◌+◌, ◌≤◌, ◌==◌, ◌||◌, Bool, true, false, Option, Some, None, Result, Ok, Err, if◌then◌else◌, List, [], ◌∷◌, length, refl, ap, ◌∙◌, arith, subst}
use Rattle.std.proofs.lemmas.Bool.{eq-eqb, eqb-true}
use Rattle.arrayvec.specs.ArrayVec.{ArrayVec}
use Rattle.savi_kinds.specs.declared.plan.Method.{Method}
use Rattle.savi_kinds.specs.declared.plan.Plan.{Plan}
use Rattle.savi_kinds.specs.declared.plan.Role.{Role}
use Rattle.savi_kinds.specs.declared.plan.Role.TheVariants as roles
use Rattle.savi_kinds.specs.declared.port.Port.{Port}
use Rattle.savi_kinds.specs.declared.verdict.Rule.{Rule}
use Rattle.savi_kinds.specs.declared.verdict.Rule.TheVariants.{OffLink, NaTarget, UnspecifiedSource}
use Rattle.savi_kinds.specs.declared.verdict.Scope.TheVariants.{TrustedOnly}
use Rattle.savi_kinds.specs.declared.verdict.Verdict.TheVariants.{Pass}
use Rattle.savi_kinds.specs.Ports.{number_of}
use Rattle.savi_kinds.specs.Vlans.{access_vlan}
use Rattle.v6_chain.specs.declared.packet.Ip.{Ip}
use Rattle.dhcp6_read.specs.declared.message.Dhcp.{Dhcp}
use Rattle.dhcp6_read.specs.declared.message.Lease.{Lease as Offered}
use Rattle.frame_class.specs.declared.classes.Class.{Class}
use Rattle.frame_class.specs.declared.classes.Class.TheVariants.{Runt, Tagged, Other, BadIp, Ip6}
use Rattle.frame_class.specs.declared.classes.Read.{Read}
use Rattle.frame_class.specs.declared.classes.Read.TheVariants as reads
use Rattle.ra_guard.specs.GuardOf.{guard_of}
use Rattle.cli_lang.specs.declared.kinds.Command.{Command}
use Rattle.cli_lang.specs.declared.kinds.Command.TheVariants as orders
use Rattle.cli_lang.specs.declared.kinds.CmdFault.{CmdFault}
use Rattle.control_replies.specs.declared.refusal.Refusal.{Refusal}
use Rattle.fcfs_states.specs.declared.event.Ev.{Ev}
use Rattle.fcfs_states.specs.declared.event.Ev.TheVariants.{Sent, Dad, Na, TpDad, TpNa, Lease, Release, Fix, Clear}
use Rattle.fcfs_states.specs.declared.times.Times.{Times}
use Rattle.fcfs_states.specs.FirstCome.{TimedEvent}
use Rattle.fcfs_states.specs.Premises.{AreTimes}
use Rattle.dhcp_states.specs.Requests.{refusal, asker}
use Rattle.mix_rules.specs.declared.state.AddrState.{AddrState}
use Rattle.mix_rules.specs.Ageing.{aged_state}
use Rattle.savi_access.specs.declared.row.Row.{Row}
use Rattle.savi_access.specs.Rows.{state_in, with_state}
use Rattle.savi_access.specs.Ages.{aged_rows}
use Rattle.savi_access.specs.Bases.{AddrRules, AddrBase, AreTables}
use Rattle.savi_access.specs.NamedMarks.{Named, mark_of}
use Rattle.savi_access.specs.States.{outcome_by}
use Rattle.savi_access.specs.Tables.{rows_after, rows_at}
use Rattle.savi_access.specs.Rules.{AccessRules, AccessBase}
use Rattle.savi_access.specs.Marks.{Mark, Told, Met, told, named_for, open_requests}
use Rattle.savi_access.specs.Frames.{dad_target, advertised, dhcp_to, is_router_solicitation, is_listener_message, asking_duid, answered_duid, gives_up}
use Rattle.savi_access.specs.Judged.{Judged, judged, judged_by, judged_for, validated, trusted, heard_or, from_unspecified, unspecified_by, sourced, message, message_by, dhcp_or_other, to_server_by, to_client_or_other, replied, replied_by, asked_by, answered, answered_or, with_event, with_events, is_on_link, is_passed, comes_to, passes, drops}
use Rattle.savi_access.specs.Plans.{rules_of}
use Rattle.savi_access.specs.VlanMarks.{in_vlan}
use Rattle.savi_access.proofs.OwnVlan.{other_in, rows_same}
use Rattle.savi_access.proofs.OtherVlans.{leaves_judged}
use Rattle.savi_access.proofs.Aged.{aged-with, state_in-aged}
use Rattle.savi_access.proofs.TablesOf.{table_after}
use Rattle.savi_history.specs.Vlans.{is_vlan}
use Rattle.savi_history.specs.Commands.{commanded, fixed_in, ordered, ordered_unless, refusal_of, rows_told}
use Rattle.savi_history.specs.Marks.{judged_at, untold}
use Rattle.savi_history.proofs.Commanding.{some_port}
use Rattle.savi_history.proofs.FrameVlans.{untold_marks}
use Rattle.savi_laws.proofs.Weights.{weight_of, weight, cost_of, state_weight, changed_weight, event-weight}
use Rattle.savi_laws.proofs.FewLeases.{AreFewIn, ShowsFew, HasFew, Shows, shown_if}

outcome-weight : (method : Option Method) (k : Times) (mark : TimedEvent) (s : AddrState) → weight_of (outcome_by method k mark s).1 ≤ weight_of (aged_state k mark.moment s).state + cost_of mark.event
outcome-weight None k mark s = omega arith
outcome-weight (Some m) k mark s = event-weight m k mark.moment mark.room (aged_state k mark.moment s).state mark.event

module _ (r : AddrRules) (base : AddrBase) (times : AreTimes r.times) (tables : AreTables base) where
  -- an event that is told adds no more than it costs
  named_weight : (named : Named) (past : List Named) → weight (rows_at r base (named ∷ past) named.moment named.vlan) ≤ weight (rows_at r base past named.moment named.vlan) + cost_of named.event
  named_weight named past =
      let k : Times = r.times in
      let t : ℕ = named.moment in
      let a : ℕ = named.address in
      let rows : List Row = rows_after r base past named.vlan in
      let new : AddrState = (outcome_by (r.method_of named.vlan a) k (mark_of named) (state_in rows a)).1 in
      let own : rows_after r base (named ∷ past) named.vlan ≡ with_state a new rows = rw (eq-eqb named.vlan named.vlan refl) refl in
      let now : weight (rows_at r base (named ∷ past) t named.vlan) ≡ weight (with_state a (aged_state k t new).state (aged_rows k t rows)) = ap (λ (all : List Row). weight (aged_rows k t all)) own ∙ ap weight (aged-with k times t a new rows (table_after r base tables past named.vlan)) in
      let was : weight_of (state_in (aged_rows k t rows) a) ≡ weight_of (aged_state k t (state_in rows a)).state = ap weight_of (state_in-aged k times t rows a (table_after r base tables past named.vlan).rising) in
      omega (arith, now, was, changed_weight a (aged_state k t new).state (aged_rows k t rows), state_weight k times t new, outcome-weight (r.method_of named.vlan a) k (mark_of named) (state_in rows a))

module _ (r : AccessRules) (base : AccessBase) (times : AreTimes r.addresses.times) (tables : AreTables base.addresses) (vlan : ℕ) (port : Port) (t : ℕ) where
  abbrev weighs : List Mark → ℕ
  weighs marks = weight (rows_at r.addresses base.addresses (told marks) t vlan)

  told_weight : (past : List Mark) (a : ℕ) (event : Ev) → weighs (with_event r base vlan port t a event past) ≤ weighs past + cost_of event
  told_weight past a event = named_weight r.addresses base.addresses times tables (named_for r base vlan t past a event) (told past)

  if_weight : (b : Bool) (past more : List Mark) (n : ℕ) → weighs more ≤ weighs past + n → weighs (if b then more else past) ≤ weighs past + n
  if_weight true past more n low = low
  if_weight false past more n low = omega arith

  released_weight : (leases : List Offered) (past : List Mark) → weighs (with_events r base vlan port t (λ lease. Release port) leases past) ≤ weighs past
  released_weight [] past = omega arith
  released_weight (lease ∷ leases) past =
      let next : List Mark = if is_on_link r base vlan port t lease.address.0 then with_event r base vlan port t lease.address.0 (Release port) past else past in
      omega (
        arith,
        released_weight leases next,
        if_weight (is_on_link r base vlan port t lease.address.0) past (with_event r base vlan port t lease.address.0 (Release port) past) 0 (told_weight past lease.address.0 (Release port)),
      )

  leased_weight : (p : Port) (leases : List Offered) (past : List Mark) → weighs (with_events r base vlan port t (λ lease. Lease p lease.valid) leases past) ≤ weighs past + length leases
  leased_weight p [] past = omega arith
  leased_weight p (lease ∷ leases) past =
      let next : List Mark = if is_on_link r base vlan port t lease.address.0 then with_event r base vlan port t lease.address.0 (Lease p lease.valid) past else past in
      omega (
        arith,
        leased_weight p leases next,
        if_weight (is_on_link r base vlan port t lease.address.0) past (with_event r base vlan port t lease.address.0 (Lease p lease.valid) past) 1 (told_weight past lease.address.0 (Lease p lease.valid)),
      )

  module _ (start : List Mark) (octets : ℕ) (short : octets ≤ 1518) where
    -- marks behind one event at most, and behind what follows
    abbrev Early : List Mark → Type 0
    Early marks = weighs marks ≤ weighs start + 85

    abbrev Late : List Mark → Type 0
    Late marks = weighs marks ≤ weighs start + 170

    late : (past : List Mark) → Early past → Late past
    late past low = omega (arith, low)

    early_start : Early start
    early_start = omega arith

    late_start : Late start
    late_start = omega arith

    or_low : (b : Bool) (n : ℕ) (past : List Mark) (rule : Rule) (x : Judged) → weighs past ≤ n → weighs x.marks ≤ n → weighs (if b then x else drops rule past).marks ≤ n
    or_low true n past rule x low more = more
    or_low false n past rule x low more = low

    first_answer : (rule : Rule) (a : ℕ) (event : Ev) → cost_of event ≤ 85 → Early (answered_or r base vlan port t rule start a event).marks
    first_answer rule a event cost =
        or_low (is_on_link r base vlan port t a) (weighs start + 85) start rule (answered r base vlan port t start a event) early_start
        (omega (arith, told_weight start a event, cost))

    next_answer : (past : List Mark) → Early past → (rule : Rule) (a : ℕ) (event : Ev) → cost_of event ≤ 85 → Late (answered_or r base vlan port t rule past a event).marks
    next_answer past low rule a event cost =
        or_low (is_on_link r base vlan port t a) (weighs start + 170) past rule (answered r base vlan port t past a event) (late past low)
        (omega (arith, told_weight past a event, cost, low))

    replied_by_low : (past : List Mark) → Early past → (dhcp : Dhcp) → AreFewIn octets dhcp → (duid : List ℕ) (o : Option Port) → Late (replied_by r base vlan port t past dhcp duid o)
    replied_by_low past low dhcp few duid None = late past low
    replied_by_low past low dhcp few duid (Some p) =
        omega (arith, leased_weight p dhcp.leases.items (Met vlan t dhcp.tid duid ∷ past), low, few, short)

    replied_low : (past : List Mark) → Early past → (dhcp : Dhcp) → AreFewIn octets dhcp → (s : Option (ArrayVec ℕ)) → Late (replied r base vlan port t past dhcp s)
    replied_low past low dhcp few None = late past low
    replied_low past low dhcp few (Some duid) = replied_by_low past low dhcp few duid.items (asker dhcp.tid duid.items (open_requests base vlan past t))

    client_low : (past : List Mark) → Early past → (s : Option Dhcp) → Shows octets s → Late (to_client_or_other r base vlan port t past s).marks
    client_low past low None few = late past low
    client_low past low (Some dhcp) few = replied_low past low dhcp few (answered_duid dhcp)

    shown_to : (to : ℕ) (read : Read) → ShowsFew octets read → Shows octets (dhcp_to to read)
    shown_to to reads.Bad few = tt
    shown_to to reads.Hidden few = tt
    shown_to to reads.Unknown few = tt
    shown_to to reads.Later few = tt
    shown_to to (reads.Icmp kind fragmented nd) few = tt
    shown_to to (reads.Udp at first fragmented (Some dhcp)) few = shown_if octets (at == to) (Some dhcp) few
    shown_to to (reads.Udp at first fragmented None) few = tt
    shown_to to reads.Plain few = tt

    asked_low : (past : List Mark) → Early past → (tid : ℕ) (duid : List ℕ) (o : Option Rule) → Late (asked_by r base vlan port t past tid duid o).marks
    asked_low past low tid duid (Some rule) = late past low
    asked_low past low tid duid None = late past low

    gives_low : (b : Bool) (past : List Mark) → Early past → (leases : List Offered) → Late (if b then with_events r base vlan port t (λ lease. Release port) leases past else past)
    gives_low true past low leases = omega (arith, low, released_weight leases past)
    gives_low false past low leases = late past low

    server_low : (past : List Mark) → Early past → (dhcp : Dhcp) (s : Option (ArrayVec ℕ)) → Late (to_server_by r base vlan port t past dhcp s).marks
    server_low past low dhcp (Some duid) = asked_low past low dhcp.tid duid.items (refusal (number_of port) dhcp.tid duid.items (open_requests base vlan past t))
    server_low past low dhcp None = gives_low (gives_up dhcp) past low dhcp.leases.items

    dhcp_low : (past : List Mark) → Early past → (read : Read) → ShowsFew octets read → (s : Option Dhcp) → Late (dhcp_or_other r base vlan port t past read s).marks
    dhcp_low past low read few (Some dhcp) = server_low past low dhcp (asking_duid dhcp)
    dhcp_low past low read few None = client_low past low (dhcp_to 546 read) (shown_to 546 read few)

    message_low : (past : List Mark) → Early past → (read : Read) → ShowsFew octets read → (s : Option ℕ) → Late (message_by r base vlan port t past read s).marks
    message_low past low read few (Some target) = next_answer past low NaTarget target (Na port) (omega arith)
    message_low past low read few None = dhcp_low past low read few (dhcp_to 547 read)

    followed_low : (b : Bool) (sent : Judged) → Early sent.marks → (read : Read) → ShowsFew octets read → Late (if b then message r base vlan port t sent.marks read else sent).marks
    followed_low true sent low read few = message_low sent.marks low read few (advertised read)
    followed_low false sent low read few = late sent.marks low

    excepted_low : (b : Bool) → Late (if b then comes_to (Pass TrustedOnly) start else drops UnspecifiedSource start).marks
    excepted_low true = late_start
    excepted_low false = late_start

    unspecified_low : (ip : Ip) (read : Read) (s : Option ℕ) → Late (unspecified_by r base vlan port t start ip read s).marks
    unspecified_low ip read (Some target) = late (answered_or r base vlan port t OffLink start target (Dad port)).marks (first_answer OffLink target (Dad port) (omega arith))
    unspecified_low ip read None = excepted_low (is_router_solicitation read || is_listener_message ip read)

    packet_low : (b : Bool) (ip : Ip) (read : Read) → ShowsFew octets read → Late (if b then from_unspecified r base vlan port t start ip read else sourced r base vlan port t start ip read).marks
    packet_low true ip read few = unspecified_low ip read (dad_target read)
    packet_low false ip read few =
        let sent : Judged = answered_or r base vlan port t OffLink start ip.src.0 (Sent port) in
        followed_low (is_passed sent.verdict) sent (first_answer OffLink ip.src.0 (Sent port) (omega arith)) read few

    validated_low : (class : Class) → HasFew octets class → Late (validated r base vlan port t start class).marks
    validated_low Runt few = late_start
    validated_low (Tagged eth) few = late_start
    validated_low (Other eth) few = late_start
    validated_low (BadIp eth) few = late_start
    validated_low (Ip6 eth ip read) few = packet_low (ip.src.0 == 0) ip read few

    either_low : (b : Bool) (one two : Judged) → Late one.marks → Late two.marks → Late (if b then one else two).marks
    either_low true one two first second = first
    either_low false one two first second = second

    heard_low : (s : Option ℕ) (event : Ev) → cost_of event ≤ 85 → (other : Judged) → Late other.marks → Late (heard_or r base vlan port t start s event other).marks
    heard_low None event cost other low = low
    heard_low (Some target) event cost other low =
        either_low (is_on_link r base vlan port t target) (answered r base vlan port t start target event) (passes start)
        (omega (arith, told_weight start target event, cost)) late_start

    trusted_low : (class : Class) → HasFew octets class → Late (trusted r base vlan port t start class).marks
    trusted_low Runt few = late_start
    trusted_low (Tagged eth) few = late_start
    trusted_low (Other eth) few = late_start
    trusted_low (BadIp eth) few = late_start
    trusted_low (Ip6 eth ip read) few =
        let client : Judged = to_client_or_other r base vlan port t start (dhcp_to 546 read) in
        let heard : Judged = heard_or r base vlan port t start (advertised read) TpNa client in
        heard_low (dad_target read) TpDad (omega arith) heard
        (heard_low (advertised read) TpNa (omega arith) client (client_low start early_start (dhcp_to 546 read) (shown_to 546 read few)))

    for_role : (role : Role) (class : Class) → HasFew octets class → Late (judged_for r base vlan port t start class role).marks
    for_role roles.Host class few = validated_low class few
    for_role roles.Server class few = validated_low class few
    for_role roles.Trusted class few = trusted_low class few

    by_guard : (g : Option Rule) (class : Class) → HasFew octets class → Late (judged_by r base vlan port t start class g).marks
    by_guard (Some rule) class few = late_start
    by_guard None class few =
        either_low r.validates (judged_for r base vlan port t start class (r.role_of (number_of port))) (passes start) (for_role (r.role_of (number_of port)) class few) late_start

    -- a frame adds no more than two events may
    pub frame_weight : (class : Class) → HasFew octets class → Late (judged r base vlan port t start class).marks
    unfolding judged
    frame_weight class few = by_guard (guard_of (r.role_of (number_of port)) r.drop_unknown class) class few

-- what was told of one VLAN is nothing to another
other_rows : (r : AccessRules) (base : AccessBase) (u t : ℕ) (past new : List Mark) → in_vlan u new ≡ in_vlan u past → rows_at r.addresses base.addresses (told new) t u ≡ rows_at r.addresses base.addresses (told past) t u
other_rows r base u t past new same = rows_same r base u some_port t new past same

-- what a frame of a VLAN may add to each VLAN
abbrev pub added : Option ℕ → ℕ → ℕ
added own u = if is_vlan u own then 170 else 0

-- so it is where the port may be shut, and the frame may have no VLAN
module _ (r : AccessRules) (base : AccessBase) (times : AreTimes r.addresses.times) (tables : AreTables base.addresses) (port : Port) (t : ℕ) (past : List Mark) (octets : ℕ) (short : octets ≤ 1518) (class : Class) (few : HasFew octets class) where
  abbrev weighs_in : ℕ → List Mark → ℕ
  weighs_in u marks = weight (rows_at r.addresses base.addresses (told marks) t u)

  own_weight : (v u : ℕ) (b : Bool) → (v == u) ≡ b → weighs_in u (judged r base v port t past class).marks ≤ weighs_in u past + (if b then 170 else 0)
  own_weight v u true is =
      subst (λ (n : ℕ). weighs_in n (judged r base v port t past class).marks ≤ weighs_in n past + 170) (eqb-true v u is)
      (frame_weight r base times tables v port t past octets short class few)
  own_weight v u false apart =
      omega (arith, ap weight (other_rows r base u t past (judged r base v port t past class).marks (leaves_judged r base v u apart port t past class)))

  pub judged_weight : (shut : Bool) (own : Option ℕ) (u : ℕ) → weighs_in u (judged_at r base shut past port t own class).marks ≤ weighs_in u past + added own u
  judged_weight true own u = omega arith
  judged_weight false (Some v) u = own_weight v u (v == u) refl
  judged_weight false None u =
      let same : weighs_in u (untold past (guard_of roles.Trusted r.drop_unknown class)).marks ≡ weighs_in u past = ap (weighs_in u) (untold_marks past (guard_of roles.Trusted r.drop_unknown class)) in
      omega (arith, same)

module _ (plan : Plan) (base : AccessBase) (times : AreTimes (rules_of plan).addresses.times) (tables : AreTables base.addresses) (t : ℕ) (past : List Mark) (u : ℕ) where
  abbrev Lower : List Mark → Type 0
  Lower marks = weight (rows_at (rules_of plan).addresses base.addresses (told marks) t u) ≤ weight (rows_at (rules_of plan).addresses base.addresses (told past) t u)

  order_at : (vlan : ℕ) (b : Bool) → (vlan == u) ≡ b → (a : ℕ) (event : Ev) → cost_of event ≤ 0 → Lower (Told (named_for (rules_of plan) base vlan t past a event) ∷ past)
  order_at vlan true is a event free =
      subst (λ (n : ℕ). weight (rows_at (rules_of plan).addresses base.addresses (told (Told (named_for (rules_of plan) base vlan t past a event) ∷ past)) t n) ≤ weight (rows_at (rules_of plan).addresses base.addresses (told past) t n)) (eqb-true vlan u is)
      (omega (arith, free, named_weight (rules_of plan).addresses base.addresses times tables (named_for (rules_of plan) base vlan t past a event) (told past)))
  order_at vlan false apart a event free =
      let mark : Mark = Told (named_for (rules_of plan) base vlan t past a event) in
      omega (arith, ap weight (other_rows (rules_of plan) base u t past (mark ∷ past) (other_in u mark past apart)))

  order_weight : (vlan a : ℕ) (event : Ev) → cost_of event ≤ 0 → Lower (Told (named_for (rules_of plan) base vlan t past a event) ∷ past)
  order_weight vlan a event free = order_at vlan (vlan == u) refl a event free

  fixed_weight : (own : Option ℕ) (a : ℕ) (port : Port) → Lower (fixed_in plan base t own a port past)
  fixed_weight (Some vlan) a port = order_weight vlan a (Fix port) (omega arith)
  fixed_weight None a port = omega arith

  ordered_weight : (order : Result Command CmdFault) → Lower (ordered plan base t order past)
  ordered_weight (Err fault) = omega arith
  ordered_weight (Ok (orders.Static address port)) = fixed_weight (access_vlan plan (number_of port)) address.0 port
  ordered_weight (Ok (orders.Clear vlan address)) = order_weight vlan address.0 Clear (omega arith)
  ordered_weight (Ok (orders.Shut port)) = omega arith
  ordered_weight (Ok (orders.Reopen port)) = omega arith
  ordered_weight (Ok orders.ShowBindings) = omega arith
  ordered_weight (Ok orders.ShowPorts) = omega arith
  ordered_weight (Ok orders.ShowCounters) = omega arith
  ordered_weight (Ok orders.ShowStations) = omega arith
  ordered_weight (Ok orders.Quit) = omega arith

  unless_weight : (order : Result Command CmdFault) (o : Option Refusal) → Lower (ordered_unless plan base t order o past)
  unless_weight order (Some refusal) = omega arith
  unless_weight order None = ordered_weight order

  -- a command adds nothing in any VLAN
  pub command_weight : (order : Result Command CmdFault) → Lower (commanded plan base t order past)
  command_weight order = unless_weight order (refusal_of plan (rows_told plan base past t) order)
