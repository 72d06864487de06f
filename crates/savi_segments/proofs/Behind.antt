-- What a frame comes to by marks that go on from a base at a moment: the same as behind the marks that led there.
use Rattle.std.proofs.Common.{◌≡◌, ℕ, ◌≤◌, ◌==◌, ◌||◌, Bool, true, false, Option, Some, None, option_map, unwrap_or, if◌then◌else◌, List, [], ◌∷◌, ◌++◌, refl, sym, ap, ◌∙◌, arith}
use Rattle.std.proofs.lemmas.List.Elements.{filter-append}
use Rattle.arrayvec.specs.ArrayVec.{ArrayVec}
use Rattle.savi_kinds.specs.declared.port.Port.{Port}
use Rattle.savi_kinds.specs.declared.plan.Method.{Method}
use Rattle.savi_kinds.specs.declared.plan.Role.{Role}
use Rattle.savi_kinds.specs.declared.plan.Role.TheVariants as roles
use Rattle.savi_kinds.specs.declared.verdict.Rule.{Rule}
use Rattle.savi_kinds.specs.declared.verdict.Rule.TheVariants.{OffLink, NaTarget, UnspecifiedSource, Unverified}
use Rattle.savi_kinds.specs.declared.verdict.Scope.TheVariants.{TrustedOnly}
use Rattle.savi_kinds.specs.declared.verdict.Verdict.TheVariants.{Pass, Drop}
use Rattle.savi_kinds.specs.Ports.{number_of}
use Rattle.savi_kinds.specs.Orders.{AreInTurn}
use Rattle.v6_chain.specs.declared.packet.Ip.{Ip}
use Rattle.dhcp6_read.specs.declared.message.Dhcp.{Dhcp}
use Rattle.dhcp6_read.specs.declared.message.Lease.{Lease as Offered}
use Rattle.frame_class.specs.declared.classes.Class.{Class}
use Rattle.frame_class.specs.declared.classes.Class.TheVariants.{Runt, Tagged, Other, BadIp, Ip6}
use Rattle.frame_class.specs.declared.classes.Read.{Read}
use Rattle.ra_guard.specs.GuardOf.{guard_of}
use Rattle.fcfs_states.specs.declared.times.Times.{Times}
use Rattle.fcfs_states.specs.declared.event.Ev.{Ev}
use Rattle.fcfs_states.specs.declared.event.Ev.TheVariants.{Sent, Dad, Na, TpDad, TpNa, Lease, Release}
use Rattle.fcfs_states.specs.FirstCome.{TimedEvent}
use Rattle.fcfs_states.specs.Premises.{AreTimes}
use Rattle.dhcp_states.specs.declared.request.Request.{Request}
use Rattle.dhcp_states.specs.Requests.{is_open, open_at, refusal, asker, with_request, without_pair}
use Rattle.dhcp_states.proofs.Counts.{open_at-later}
use Rattle.mix_rules.specs.declared.state.AddrState.{AddrState}
use Rattle.mix_rules.specs.Next.{Outcome, next_state}
use Rattle.mix_rules.specs.Ageing.{aged_state}
use Rattle.savi_access.specs.declared.row.Row.{Row}
use Rattle.savi_access.specs.Rooms.{room_for}
use Rattle.savi_access.specs.Bases.{AreTables}
use Rattle.savi_access.specs.NamedMarks.{Named, named_moment, mark_of}
use Rattle.savi_access.specs.States.{outcome_by, outcome_of, state_of, state_at}
use Rattle.savi_access.specs.Tables.{rows_at}
use Rattle.savi_access.specs.Rules.{AccessRules, AccessBase}
use Rattle.savi_access.specs.Marks.{Mark, Told, Asked, Met, told, named_for, requests_after, open_requests, base_at}
use Rattle.savi_access.specs.Frames.{dad_target, advertised, dhcp_to, is_router_solicitation, is_listener_message, asking_duid, answered_duid, gives_up}
use Rattle.savi_access.specs.Judged.{Judged, judged, judged_by, judged_for, validated, trusted, heard_or, from_unspecified, unspecified_by, sourced, message, message_by, dhcp_or_other, to_server_by, to_client_or_other, replied, replied_by, asked_by, answer_to, answered, answered_or, with_event, with_events, is_on_link, is_passed, comes_to, passes, drops}
use Rattle.savi_access.proofs.Requests.{open_without}
use Rattle.savi_access.proofs.Cuts.{cut_rows}
use Rattle.savi_access.proofs.TablesOf.{cut_at}
use Rattle.savi_segments.specs.Readings.{with_behind}

pub told_joined : (late early : List Mark) → told (late ++ early) ≡ told late ++ told early
told_joined [] early = refl
told_joined (Told named ∷ late) early = ap (λ l. named ∷ l) (told_joined late early)
told_joined (Asked vlan request ∷ late) early = told_joined late early
told_joined (Met vlan moment tid duid ∷ late) early = told_joined late early

-- what is in turn begins no later than it ends
pub turn_rises : (from t : ℕ) (past : List Named) → AreInTurn named_moment from t past → from ≤ t
turn_rises from t [] turn = turn
turn_rises from t (named ∷ past) turn = omega (arith, turn.0, turn_rises from named.moment past turn.1)

-- which requests are open once one was asked, whenever that is
open_asked : (t : ℕ) (request : Request) (requests : List Request) → open_at t (with_request request requests) ≡ without_pair request.tid request.duid.items (open_at t requests) ++ open_at t (request ∷ [])
open_asked t request requests =
    filter-append (is_open t) (without_pair request.tid request.duid.items requests) (request ∷ [])
    ∙ ap (λ (l : List Request). l ++ open_at t (request ∷ [])) (open_without t request.tid request.duid.items requests)

asked_alike : (b : Bool) (t : ℕ) (request : Request) (one other : List Request) → open_at t one ≡ open_at t other
    → open_at t (if b then with_request request one else one) ≡ open_at t (if b then with_request request other else other)
asked_alike true t request one other same =
    open_asked t request one
    ∙ ap (λ (l : List Request). without_pair request.tid request.duid.items l ++ open_at t (request ∷ [])) same
    ∙ sym (open_asked t request other)
asked_alike false t request one other same = same

met_alike : (b : Bool) (t tid : ℕ) (duid : List ℕ) (one other : List Request) → open_at t one ≡ open_at t other
    → open_at t (if b then without_pair tid duid one else one) ≡ open_at t (if b then without_pair tid duid other else other)
met_alike true t tid duid one other same =
    open_without t tid duid one ∙ ap (λ (l : List Request). without_pair tid duid l) same ∙ sym (open_without t tid duid other)
met_alike false t tid duid one other same = same

-- what a mark comes to is by the state at its moment
outcome_aged : (method : Option Method) (k : Times) (mark : TimedEvent) (s other : AddrState) → (aged_state k mark.moment s).state ≡ (aged_state k mark.moment other).state → outcome_by method k mark s ≡ outcome_by method k mark other
outcome_aged None k mark s other same = refl
outcome_aged (Some m) k mark s other same = ap (λ (state : AddrState). next_state m k mark.moment mark.room state mark.event) same

module _ (r : AccessRules) (base : AccessBase) (tables : AreTables base.addresses) (times : AreTimes r.addresses.times) (early : List Mark) (t0 : ℕ) where
  abbrev pub mid : AccessBase
  mid = base_at r base early t0

  -- late marks come in turn, from t0 to t
  abbrev pub InTurn : ℕ → List Mark → Type 0
  InTurn t late = AreInTurn named_moment t0 t (told late)

  pub rows_cut : (late : List Mark) (t vlan : ℕ) → InTurn t late → rows_at r.addresses base.addresses (told (late ++ early)) t vlan ≡ rows_at r.addresses mid.addresses (told late) t vlan
  rows_cut late t vlan turn =
      ap (λ (l : List Named). rows_at r.addresses base.addresses l t vlan) (told_joined late early)
      ∙ cut_rows r.addresses base.addresses tables times (told early) t0 (told late) t vlan turn

  pub states_cut : (late : List Mark) (t vlan a : ℕ) → InTurn t late → state_at r.addresses base.addresses (told (late ++ early)) t vlan a ≡ state_at r.addresses mid.addresses (told late) t vlan a
  states_cut late t vlan a turn =
      ap (λ (l : List Named). state_at r.addresses base.addresses l t vlan a) (told_joined late early)
      ∙ cut_at r.addresses base.addresses tables times (told early) (told late) t0 t vlan a turn

  pub requests_cut : (late : List Mark) (t vlan : ℕ) → t0 ≤ t → open_requests base vlan (late ++ early) t ≡ open_requests mid vlan late t
  requests_cut [] t vlan after = sym (open_at-later t0 t (requests_after base vlan early) after)
  requests_cut (Told named ∷ late) t vlan after = requests_cut late t vlan after
  requests_cut (Asked of request ∷ late) t vlan after =
      asked_alike (of == vlan) t request (requests_after base vlan (late ++ early)) (requests_after mid vlan late) (requests_cut late t vlan after)
  requests_cut (Met of moment tid duid ∷ late) t vlan after =
      met_alike (of == vlan) t tid duid (requests_after base vlan (late ++ early)) (requests_after mid vlan late) (requests_cut late t vlan after)

  module _ (vlan t : ℕ) where
    abbrev named_by : ℕ → Ev → List Row → Named
    named_by a event rows = record { vlan = vlan; address = a; moment = t; event = event; room = room_for r.addresses.per_port rows event }

    pub named_cut : (late : List Mark) → InTurn t late → (a : ℕ) (event : Ev) → named_for r base vlan t (late ++ early) a event ≡ named_for r mid vlan t late a event
    named_cut late turn a event = ap (λ (rows : List Row). named_by a event rows) (rows_cut late t vlan turn)

    module _ (port : Port) where
      abbrev Behind : Judged → Judged → Type 0
      Behind one other = one ≡ with_behind early other

      event_cut : (late : List Mark) → InTurn t late → (a : ℕ) (event : Ev) → with_event r base vlan port t a event (late ++ early) ≡ with_event r mid vlan port t a event late ++ early
      event_cut late turn a event = ap (λ (named : Named). Told named ∷ (late ++ early)) (named_cut late turn a event)

      answer_cut : (late : List Mark) → InTurn t late → (a : ℕ) (event : Ev) → answer_to r base vlan port t (late ++ early) a event ≡ answer_to r mid vlan port t late a event
      answer_cut late turn a event =
          ap (λ (named : Named). (outcome_of r.addresses named (state_of r.addresses base.addresses (told (late ++ early)) vlan a)).0) (named_cut late turn a event)
          ∙ ap (λ (o : Outcome). o.0)
          (outcome_aged (r.addresses.method_of vlan a) r.addresses.times (mark_of (named_for r mid vlan t late a event))
          (state_of r.addresses base.addresses (told (late ++ early)) vlan a) (state_of r.addresses mid.addresses (told late) vlan a) (states_cut late t vlan a turn))

      answered_cut : (late : List Mark) → InTurn t late → (a : ℕ) (event : Ev) → Behind (answered r base vlan port t (late ++ early) a event) (answered r mid vlan port t late a event)
      answered_cut late turn a event =
          let answer = answer_cut late turn a event in
          let front = event_cut late turn a event in
          λ i. record {
            verdict = unwrap_or (answer i).verdict (Drop Unverified);
            marks = front i;
            probe = option_map (λ probe. record { due = t; address = record { 0 = a }; probe = probe }) (answer i).probe;
          }

      either_cut : (b : Bool) (one two one_other two_other : Judged) → Behind one one_other → Behind two two_other → Behind (if b then one else two) (if b then one_other else two_other)
      either_cut true one two one_other two_other first second = first
      either_cut false one two one_other two_other first second = second

      or_cut : (late : List Mark) → InTurn t late → (rule : Rule) (a : ℕ) (event : Ev) → Behind (answered_or r base vlan port t rule (late ++ early) a event) (answered_or r mid vlan port t rule late a event)
      or_cut late turn rule a event =
          either_cut (is_on_link r base vlan port t a) (answered r base vlan port t (late ++ early) a event) (drops rule (late ++ early)) (answered r mid vlan port t late a event) (drops rule late)
          (answered_cut late turn a event) refl

      -- the marks of this step are in turn too
      turn_or : (b : Bool) (late : List Mark) → InTurn t late → (rule : Rule) (a : ℕ) (event : Ev) → InTurn t (if b then answered r mid vlan port t late a event else drops rule late).marks
      turn_or true late turn rule a event = (omega arith, turn)
      turn_or false late turn rule a event = turn

      event_if : (b : Bool) (late : List Mark) → InTurn t late → (a : ℕ) (event : Ev)
          → (if b then with_event r base vlan port t a event (late ++ early) else (late ++ early)) ≡ (if b then with_event r mid vlan port t a event late else late) ++ early
      event_if true late turn a event = event_cut late turn a event
      event_if false late turn a event = refl

      turn_if : (b : Bool) (late : List Mark) → InTurn t late → (a : ℕ) (event : Ev) → InTurn t (if b then with_event r mid vlan port t a event late else late)
      turn_if true late turn a event = (omega arith, turn)
      turn_if false late turn a event = turn

      events_cut : (event : Offered → Ev) (leases : List Offered) (late : List Mark) → InTurn t late → with_events r base vlan port t event leases (late ++ early) ≡ with_events r mid vlan port t event leases late ++ early
      events_cut event [] late turn = refl
      events_cut event (lease ∷ leases) late turn =
          let a : ℕ = lease.address.0 in
          let here : Bool = is_on_link r base vlan port t a in
          ap (λ (l : List Mark). with_events r base vlan port t event leases l) (event_if here late turn a (event lease))
          ∙ events_cut event leases (if here then with_event r mid vlan port t a (event lease) late else late) (turn_if here late turn a (event lease))

      events_if : (b : Bool) (event : Offered → Ev) (leases : List Offered) (late : List Mark) → InTurn t late
          → (if b then with_events r base vlan port t event leases (late ++ early) else (late ++ early)) ≡ (if b then with_events r mid vlan port t event leases late else late) ++ early
      events_if true event leases late turn = events_cut event leases late turn
      events_if false event leases late turn = refl

      open_cut : (late : List Mark) → InTurn t late → open_requests base vlan (late ++ early) t ≡ open_requests mid vlan late t
      open_cut late turn = requests_cut late t vlan (turn_rises t0 t (told late) turn)

      replied_by_cut : (late : List Mark) → InTurn t late → (dhcp : Dhcp) (duid : List ℕ) (o : Option Port) → replied_by r base vlan port t (late ++ early) dhcp duid o ≡ replied_by r mid vlan port t late dhcp duid o ++ early
      replied_by_cut late turn dhcp duid (Some q) = events_cut (λ lease. Lease q lease.valid) dhcp.leases.items (Met vlan t dhcp.tid duid ∷ late) turn
      replied_by_cut late turn dhcp duid None = refl

      replied_cut : (late : List Mark) → InTurn t late → (dhcp : Dhcp) (o : Option (ArrayVec ℕ)) → replied r base vlan port t (late ++ early) dhcp o ≡ replied r mid vlan port t late dhcp o ++ early
      replied_cut late turn dhcp None = refl
      replied_cut late turn dhcp (Some duid) =
          ap (λ (now : List Request). replied_by r base vlan port t (late ++ early) dhcp duid.items (asker dhcp.tid duid.items now)) (open_cut late turn)
          ∙ replied_by_cut late turn dhcp duid.items (asker dhcp.tid duid.items (open_requests mid vlan late t))

      client_cut : (late : List Mark) → InTurn t late → (o : Option Dhcp) → Behind (to_client_or_other r base vlan port t (late ++ early) o) (to_client_or_other r mid vlan port t late o)
      client_cut late turn None = refl
      client_cut late turn (Some dhcp) = ap (λ (l : List Mark). passes l) (replied_cut late turn dhcp (answered_duid dhcp))

      asked_cut : (late : List Mark) (tid : ℕ) (duid : List ℕ) (o : Option Rule) → Behind (asked_by r base vlan port t (late ++ early) tid duid o) (asked_by r mid vlan port t late tid duid o)
      asked_cut late tid duid (Some rule) = refl
      asked_cut late tid duid None = refl

      server_cut : (late : List Mark) → InTurn t late → (dhcp : Dhcp) (o : Option (ArrayVec ℕ)) → Behind (to_server_by r base vlan port t (late ++ early) dhcp o) (to_server_by r mid vlan port t late dhcp o)
      server_cut late turn dhcp (Some duid) =
          ap (λ (now : List Request). asked_by r base vlan port t (late ++ early) dhcp.tid duid.items (refusal (number_of port) dhcp.tid duid.items now)) (open_cut late turn)
          ∙ asked_cut late dhcp.tid duid.items (refusal (number_of port) dhcp.tid duid.items (open_requests mid vlan late t))
      server_cut late turn dhcp None = ap (λ (l : List Mark). passes l) (events_if (gives_up dhcp) (λ lease. Release port) dhcp.leases.items late turn)

      dhcp_cut : (late : List Mark) → InTurn t late → (read : Read) (o : Option Dhcp) → Behind (dhcp_or_other r base vlan port t (late ++ early) read o) (dhcp_or_other r mid vlan port t late read o)
      dhcp_cut late turn read (Some dhcp) = server_cut late turn dhcp (asking_duid dhcp)
      dhcp_cut late turn read None = client_cut late turn (dhcp_to 546 read)

      message_cut : (late : List Mark) → InTurn t late → (read : Read) (o : Option ℕ) → Behind (message_by r base vlan port t (late ++ early) read o) (message_by r mid vlan port t late read o)
      message_cut late turn read (Some target) = or_cut late turn NaTarget target (Na port)
      message_cut late turn read None = dhcp_cut late turn read (dhcp_to 547 read)

      followed_cut : (b : Bool) (sent : Judged) → InTurn t sent.marks → (read : Read)
          → Behind (if b then message r base vlan port t (sent.marks ++ early) read else with_behind early sent) (if b then message r mid vlan port t sent.marks read else sent)
      followed_cut true sent turn read = message_cut sent.marks turn read (advertised read)
      followed_cut false sent turn read = refl

      excepted_cut : (b : Bool) (late : List Mark) → Behind (if b then comes_to (Pass TrustedOnly) (late ++ early) else drops UnspecifiedSource (late ++ early)) (if b then comes_to (Pass TrustedOnly) late else drops UnspecifiedSource late)
      excepted_cut true late = refl
      excepted_cut false late = refl

      unspecified_cut : (late : List Mark) → InTurn t late → (ip : Ip) (read : Read) (o : Option ℕ) → Behind (unspecified_by r base vlan port t (late ++ early) ip read o) (unspecified_by r mid vlan port t late ip read o)
      unspecified_cut late turn ip read (Some target) = or_cut late turn OffLink target (Dad port)
      unspecified_cut late turn ip read None = excepted_cut (is_router_solicitation read || is_listener_message ip read) late

      packet_cut : (b : Bool) (late : List Mark) → InTurn t late → (ip : Ip) (read : Read)
          → Behind (if b then from_unspecified r base vlan port t (late ++ early) ip read else sourced r base vlan port t (late ++ early) ip read) (if b then from_unspecified r mid vlan port t late ip read else sourced r mid vlan port t late ip read)
      packet_cut true late turn ip read = unspecified_cut late turn ip read (dad_target read)
      packet_cut false late turn ip read =
          let sent : Judged = answered_or r mid vlan port t OffLink late ip.src.0 (Sent port) in
          ap (λ (j : Judged). if is_passed j.verdict then message r base vlan port t j.marks read else j) (or_cut late turn OffLink ip.src.0 (Sent port))
          ∙ followed_cut (is_passed sent.verdict) sent (turn_or (is_on_link r mid vlan port t ip.src.0) late turn OffLink ip.src.0 (Sent port)) read

      validated_cut : (late : List Mark) → InTurn t late → (class : Class) → Behind (validated r base vlan port t (late ++ early) class) (validated r mid vlan port t late class)
      validated_cut late turn Runt = refl
      validated_cut late turn (Tagged eth) = refl
      validated_cut late turn (Other eth) = refl
      validated_cut late turn (BadIp eth) = refl
      validated_cut late turn (Ip6 eth ip read) = packet_cut (ip.src.0 == 0) late turn ip read

      heard_cut : (late : List Mark) → InTurn t late → (o : Option ℕ) (event : Ev) (one two : Judged) → Behind one two → Behind (heard_or r base vlan port t (late ++ early) o event one) (heard_or r mid vlan port t late o event two)
      heard_cut late turn None event one two rest = rest
      heard_cut late turn (Some target) event one two rest =
          either_cut (is_on_link r base vlan port t target) (answered r base vlan port t (late ++ early) target event) (passes (late ++ early)) (answered r mid vlan port t late target event) (passes late)
          (answered_cut late turn target event) refl

      trusted_cut : (late : List Mark) → InTurn t late → (class : Class) → Behind (trusted r base vlan port t (late ++ early) class) (trusted r mid vlan port t late class)
      trusted_cut late turn Runt = refl
      trusted_cut late turn (Tagged eth) = refl
      trusted_cut late turn (Other eth) = refl
      trusted_cut late turn (BadIp eth) = refl
      trusted_cut late turn (Ip6 eth ip read) =
          let client : Judged = to_client_or_other r base vlan port t (late ++ early) (dhcp_to 546 read) in
          let client_mid : Judged = to_client_or_other r mid vlan port t late (dhcp_to 546 read) in
          heard_cut late turn (dad_target read) TpDad (heard_or r base vlan port t (late ++ early) (advertised read) TpNa client) (heard_or r mid vlan port t late (advertised read) TpNa client_mid)
          (heard_cut late turn (advertised read) TpNa client client_mid (client_cut late turn (dhcp_to 546 read)))

      role_cut : (role : Role) (late : List Mark) → InTurn t late → (class : Class) → Behind (judged_for r base vlan port t (late ++ early) class role) (judged_for r mid vlan port t late class role)
      role_cut roles.Host late turn class = validated_cut late turn class
      role_cut roles.Server late turn class = validated_cut late turn class
      role_cut roles.Trusted late turn class = trusted_cut late turn class

      guard_cut : (guard : Option Rule) (late : List Mark) → InTurn t late → (class : Class) → Behind (judged_by r base vlan port t (late ++ early) class guard) (judged_by r mid vlan port t late class guard)
      guard_cut (Some rule) late turn class = refl
      guard_cut None late turn class =
          either_cut r.validates (judged_for r base vlan port t (late ++ early) class (r.role_of (number_of port))) (passes (late ++ early)) (judged_for r mid vlan port t late class (r.role_of (number_of port))) (passes late)
          (role_cut (r.role_of (number_of port)) late turn class) refl

      -- a frame is judged from the base as it is behind the marks that led there
      pub judged_cut : (late : List Mark) → InTurn t late → (class : Class) → judged r base vlan port t (late ++ early) class ≡ with_behind early (judged r mid vlan port t late class)
      unfolding judged
      judged_cut late turn class = guard_cut (guard_of (r.role_of (number_of port)) r.drop_unknown class) late turn class
