-- A frame leaves the marks of every other VLAN as they are.
use Rattle.std.proofs.Common.{◌≡◌, ℕ, ◌==◌, ◌||◌, Bool, true, false, Option, Some, None, if◌then◌else◌, List, [], ◌∷◌, refl, ◌∙◌}
use Rattle.arrayvec.specs.ArrayVec.{ArrayVec}
use Rattle.savi_kinds.specs.declared.port.Port.{Port}
use Rattle.savi_kinds.specs.declared.plan.Role.{Role}
use Rattle.savi_kinds.specs.declared.plan.Role.TheVariants as roles
use Rattle.savi_kinds.specs.declared.verdict.Rule.{Rule}
use Rattle.savi_kinds.specs.declared.verdict.Rule.TheVariants.{OffLink, NaTarget, UnspecifiedSource}
use Rattle.savi_kinds.specs.declared.verdict.Scope.TheVariants.{TrustedOnly}
use Rattle.savi_kinds.specs.declared.verdict.Verdict.TheVariants.{Pass}
use Rattle.savi_kinds.specs.Ports.{number_of}
use Rattle.v6_chain.specs.declared.packet.Ip.{Ip}
use Rattle.dhcp6_read.specs.declared.message.Dhcp.{Dhcp}
use Rattle.dhcp6_read.specs.declared.message.Lease.{Lease as Offered}
use Rattle.frame_class.specs.declared.classes.Class.{Class}
use Rattle.frame_class.specs.declared.classes.Class.TheVariants.{Runt, Tagged, Other, BadIp, Ip6}
use Rattle.frame_class.specs.declared.classes.Read.{Read}
use Rattle.ra_guard.specs.GuardOf.{guard_of}
use Rattle.fcfs_states.specs.declared.event.Ev.{Ev}
use Rattle.fcfs_states.specs.declared.event.Ev.TheVariants.{Sent, Dad, Na, TpDad, TpNa, Lease, Release}
use Rattle.dhcp_states.specs.Requests.{request_of, refusal, asker}
use Rattle.savi_access.specs.Rules.{AccessRules, AccessBase}
use Rattle.savi_access.specs.Marks.{Mark, Told, Asked, Met, named_for, open_requests}
use Rattle.savi_access.specs.VlanMarks.{in_vlan}
use Rattle.savi_access.specs.Frames.{dad_target, advertised, dhcp_to, is_router_solicitation, is_listener_message, asking_duid, answered_duid, gives_up}
use Rattle.savi_access.specs.Judged.{Judged, judged, judged_by, judged_for, validated, trusted, heard_or, from_unspecified, unspecified_by, sourced, message, message_by, dhcp_or_other, to_server_by, to_client_or_other, replied, replied_by, asked_by, answered, answered_or, with_event, with_events, is_on_link, is_passed, comes_to, passes, drops}
use Rattle.savi_access.proofs.OwnVlan.{other_in}

module _ (r : AccessRules) (base : AccessBase) (vlan other : ℕ) (apart : (vlan == other) ≡ false) (port : Port) (t : ℕ) where
  -- the marks of the other VLAN are as they were
  abbrev Leaves : List Mark → List Mark → Type 0
  Leaves past after = in_vlan other after ≡ in_vlan other past

  event_leaves : (past : List Mark) (a : ℕ) (event : Ev) → Leaves past (with_event r base vlan port t a event past)
  event_leaves past a event = other_in other (Told (named_for r base vlan t past a event)) past apart

  either_leaves : (b : Bool) (past : List Mark) (one two : Judged) → Leaves past one.marks → Leaves past two.marks → Leaves past (if b then one else two).marks
  either_leaves true past one two first second = first
  either_leaves false past one two first second = second

  if_leaves : (b : Bool) (past more : List Mark) → Leaves past more → Leaves past (if b then more else past)
  if_leaves true past more rest = rest
  if_leaves false past more rest = refl

  or_leaves : (past : List Mark) (rule : Rule) (a : ℕ) (event : Ev) → Leaves past (answered_or r base vlan port t rule past a event).marks
  or_leaves past rule a event =
      either_leaves (is_on_link r base vlan port t a) past (answered r base vlan port t past a event) (drops rule past) (event_leaves past a event) refl

  events_leave : (event : Offered → Ev) (leases : List Offered) (past : List Mark) → Leaves past (with_events r base vlan port t event leases past)
  events_leave event [] past = refl
  events_leave event (lease ∷ leases) past =
      let more : List Mark = with_event r base vlan port t lease.address.0 (event lease) past in
      events_leave event leases (if is_on_link r base vlan port t lease.address.0 then more else past)
      ∙ if_leaves (is_on_link r base vlan port t lease.address.0) past more (event_leaves past lease.address.0 (event lease))

  replied_by_leaves : (past : List Mark) (dhcp : Dhcp) (duid : List ℕ) (o : Option Port) → Leaves past (replied_by r base vlan port t past dhcp duid o)
  replied_by_leaves past dhcp duid None = refl
  replied_by_leaves past dhcp duid (Some p) =
      events_leave (λ lease. Lease p lease.valid) dhcp.leases.items (Met vlan t dhcp.tid duid ∷ past)
      ∙ other_in other (Met vlan t dhcp.tid duid) past apart

  replied_leaves : (past : List Mark) (dhcp : Dhcp) (s : Option (ArrayVec ℕ)) → Leaves past (replied r base vlan port t past dhcp s)
  replied_leaves past dhcp None = refl
  replied_leaves past dhcp (Some duid) = replied_by_leaves past dhcp duid.items (asker dhcp.tid duid.items (open_requests base vlan past t))

  client_leaves : (past : List Mark) (s : Option Dhcp) → Leaves past (to_client_or_other r base vlan port t past s).marks
  client_leaves past None = refl
  client_leaves past (Some dhcp) = replied_leaves past dhcp (answered_duid dhcp)

  asked_leaves : (past : List Mark) (tid : ℕ) (duid : List ℕ) (o : Option Rule) → Leaves past (asked_by r base vlan port t past tid duid o).marks
  asked_leaves past tid duid (Some rule) = refl
  asked_leaves past tid duid None = other_in other (Asked vlan (request_of port tid duid t)) past apart

  server_leaves : (past : List Mark) (dhcp : Dhcp) (s : Option (ArrayVec ℕ)) → Leaves past (to_server_by r base vlan port t past dhcp s).marks
  server_leaves past dhcp (Some duid) = asked_leaves past dhcp.tid duid.items (refusal (number_of port) dhcp.tid duid.items (open_requests base vlan past t))
  server_leaves past dhcp None =
      if_leaves (gives_up dhcp) past (with_events r base vlan port t (λ lease. Release port) dhcp.leases.items past)
      (events_leave (λ lease. Release port) dhcp.leases.items past)

  dhcp_leaves : (past : List Mark) (read : Read) (s : Option Dhcp) → Leaves past (dhcp_or_other r base vlan port t past read s).marks
  dhcp_leaves past read (Some dhcp) = server_leaves past dhcp (asking_duid dhcp)
  dhcp_leaves past read None = client_leaves past (dhcp_to 546 read)

  message_leaves : (past : List Mark) (read : Read) (s : Option ℕ) → Leaves past (message_by r base vlan port t past read s).marks
  message_leaves past read (Some target) = or_leaves past NaTarget target (Na port)
  message_leaves past read None = dhcp_leaves past read (dhcp_to 547 read)

  followed_leaves : (b : Bool) (past : List Mark) (sent : Judged) (read : Read) → Leaves past sent.marks → Leaves past (if b then message r base vlan port t sent.marks read else sent).marks
  followed_leaves true past sent read first = message_leaves sent.marks read (advertised read) ∙ first
  followed_leaves false past sent read first = first

  unspecified_leaves : (past : List Mark) (ip : Ip) (read : Read) (s : Option ℕ) → Leaves past (unspecified_by r base vlan port t past ip read s).marks
  unspecified_leaves past ip read (Some target) = or_leaves past OffLink target (Dad port)
  unspecified_leaves past ip read None =
      either_leaves (is_router_solicitation read || is_listener_message ip read) past (comes_to (Pass TrustedOnly) past) (drops UnspecifiedSource past) refl refl

  packet_leaves : (b : Bool) (past : List Mark) (ip : Ip) (read : Read) → Leaves past (if b then from_unspecified r base vlan port t past ip read else sourced r base vlan port t past ip read).marks
  packet_leaves true past ip read = unspecified_leaves past ip read (dad_target read)
  packet_leaves false past ip read =
      let sent : Judged = answered_or r base vlan port t OffLink past ip.src.0 (Sent port) in
      followed_leaves (is_passed sent.verdict) past sent read (or_leaves past OffLink ip.src.0 (Sent port))

  validated_leaves : (past : List Mark) (class : Class) → Leaves past (validated r base vlan port t past class).marks
  validated_leaves past Runt = refl
  validated_leaves past (Tagged eth) = refl
  validated_leaves past (Other eth) = refl
  validated_leaves past (BadIp eth) = refl
  validated_leaves past (Ip6 eth ip read) = packet_leaves (ip.src.0 == 0) past ip read

  heard_leaves : (past : List Mark) (s : Option ℕ) (event : Ev) (rest : Judged) → Leaves past rest.marks → Leaves past (heard_or r base vlan port t past s event rest).marks
  heard_leaves past None event rest leaves = leaves
  heard_leaves past (Some target) event rest leaves =
      either_leaves (is_on_link r base vlan port t target) past (answered r base vlan port t past target event) (passes past) (event_leaves past target event) refl

  trusted_leaves : (past : List Mark) (class : Class) → Leaves past (trusted r base vlan port t past class).marks
  trusted_leaves past Runt = refl
  trusted_leaves past (Tagged eth) = refl
  trusted_leaves past (Other eth) = refl
  trusted_leaves past (BadIp eth) = refl
  trusted_leaves past (Ip6 eth ip read) =
      let client : Judged = to_client_or_other r base vlan port t past (dhcp_to 546 read) in
      heard_leaves past (dad_target read) TpDad (heard_or r base vlan port t past (advertised read) TpNa client)
      (heard_leaves past (advertised read) TpNa client (client_leaves past (dhcp_to 546 read)))

  role_leaves : (role : Role) (past : List Mark) (class : Class) → Leaves past (judged_for r base vlan port t past class role).marks
  role_leaves roles.Host past class = validated_leaves past class
  role_leaves roles.Server past class = validated_leaves past class
  role_leaves roles.Trusted past class = trusted_leaves past class

  guard_leaves : (g : Option Rule) (past : List Mark) (class : Class) → Leaves past (judged_by r base vlan port t past class g).marks
  guard_leaves (Some rule) past class = refl
  guard_leaves None past class =
      either_leaves r.validates past (judged_for r base vlan port t past class (r.role_of (number_of port))) (passes past)
      (role_leaves (r.role_of (number_of port)) past class) refl

  pub leaves_judged : (past : List Mark) (class : Class) → in_vlan other (judged r base vlan port t past class).marks ≡ in_vlan other past
  unfolding judged
  leaves_judged past class = guard_leaves (guard_of (r.role_of (number_of port)) r.drop_unknown class) past class
