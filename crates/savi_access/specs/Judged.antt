-- What a frame at a port comes to: the verdict, what it tells, and the probe that it causes (RFC 6620 section
-- 3.2, RFC 7513 section 6, RFC 8074).
use Rattle.std.specs.Prelude.{ℕ, ◌==◌, ◌||◌, Bool, true, false, if◌then◌else◌, Option, Some, None, is_some, option_map, unwrap_or, List, [], ◌∷◌}
use Rattle.arrayvec.specs.ArrayVec.{ArrayVec}
use Rattle.savi_kinds.specs.declared.port.Port.{Port}
use Rattle.savi_kinds.specs.declared.plan.Role.TheVariants as roles
use Rattle.savi_kinds.specs.declared.plan.Role.{Role}
use Rattle.savi_kinds.specs.declared.verdict.Rule.{Rule}
use Rattle.savi_kinds.specs.declared.verdict.Rule.TheVariants.{UnspecifiedSource, OffLink, Unverified, NaTarget}
use Rattle.savi_kinds.specs.declared.verdict.Scope.TheVariants.{All, TrustedOnly}
use Rattle.savi_kinds.specs.declared.verdict.Verdict.{Verdict}
use Rattle.savi_kinds.specs.declared.verdict.Verdict.TheVariants.{Pass, Drop}
use Rattle.savi_kinds.specs.Ports.{number_of}
use Rattle.v6_chain.specs.declared.packet.Ip.{Ip}
use Rattle.dhcp6_read.specs.declared.message.Dhcp.{Dhcp}
use Rattle.dhcp6_read.specs.declared.message.Lease.{Lease as Offered}
use Rattle.frame_class.specs.declared.classes.Class.{Class}
use Rattle.frame_class.specs.declared.classes.Class.TheVariants.{Ip6}
use Rattle.frame_class.specs.declared.classes.Read.{Read}
use Rattle.ra_guard.specs.GuardOf.{guard_of}
use Rattle.fcfs_states.specs.declared.answer.Answer.{Answer}
use Rattle.fcfs_states.specs.declared.event.Ev.{Ev}
use Rattle.fcfs_states.specs.declared.event.Ev.TheVariants.{Sent, Dad, Na, TpDad, TpNa, Lease, Release}
use Rattle.dhcp_states.specs.Requests.{request_of, refusal, asker}
use Rattle.savi_access.specs.declared.sent.SentProbe.{SentProbe}
use Rattle.savi_access.specs.States.{answer_at}
use Rattle.savi_access.specs.Rules.{AccessRules, AccessBase}
use Rattle.savi_access.specs.Marks.{Mark, Told, Asked, Met, told, named_for, event_told, open_requests}
use Rattle.savi_access.specs.Frames.{dad_target, advertised, is_router_solicitation, is_listener_message, dhcp_to, asking_duid, answered_duid, gives_up}

pub record Judged : Type 0 where
  pub verdict : Verdict
  -- all marks, those of the frame in front
  pub marks : List Mark
  pub probe : Option SentProbe

-- these marks and this verdict, and no probe
abbrev pub comes_to : Verdict → List Mark → Judged
comes_to verdict marks = record { verdict = verdict; marks = marks; probe = None }

abbrev pub passes : List Mark → Judged
passes marks = comes_to (Pass All) marks

abbrev pub drops : Rule → List Mark → Judged
drops rule marks = comes_to (Drop rule) marks

-- where a rule on messages alone decides
abbrev pub judged_without : List Mark → Option Rule → Judged
judged_without past (Some rule) = drops rule past
judged_without past None = passes past

abbrev pub is_passed : Verdict → Bool
is_passed (Pass scope) = true
is_passed (Drop rule) = false

-- a frame at this port in this VLAN, at moment t
module _ (r : AccessRules) (base : AccessBase) (vlan : ℕ) (port : Port) (t : ℕ) where
  abbrev pub is_on_link : ℕ → Bool
  is_on_link a = is_some (r.addresses.method_of vlan a)

  abbrev pub answer_to : List Mark → ℕ → Ev → Answer
  answer_to past a event = answer_at r.addresses base.addresses (told past) (named_for r base vlan t past a event)

  abbrev pub with_event : ℕ → Ev → List Mark → List Mark
  with_event a event past = event_told r base vlan t past a event

  -- the event is answered by its row of the state tables: each event of a frame has one with a verdict, and nothing would pass
  -- without
  abbrev pub answered : List Mark → ℕ → Ev → Judged
  answered past a event = record {
    verdict = unwrap_or (answer_to past a event).verdict (Drop Unverified);
    marks = with_event a event past;
    probe = option_map (λ probe. record { due = t; address = record { 0 = a }; probe = probe }) (answer_to past a event).probe;
  }

  -- so where the address is on-link; else this rule stops the frame
  abbrev pub answered_or : Rule → List Mark → ℕ → Ev → Judged
  answered_or rule past a event = if is_on_link a then answered past a event else drops rule past

  -- the event on each of these addresses that is on-link, in order
  abbrev pub with_events : (Offered → Ev) → List Offered → List Mark → List Mark
  with_events event [] past = past
  with_events event (lease ∷ leases) past =
      with_events event leases (if is_on_link lease.address.0 then with_event lease.address.0 (event lease) past else past)

  -- a packet without a source address: a solicitation for duplicate address detection has its row, a router solicitation and
  -- what multicast listeners say go to the trusted ports
  abbrev pub unspecified_by : List Mark → Ip → Read → Option ℕ → Judged
  unspecified_by past ip read (Some target) = answered_or OffLink past target (Dad port)
  unspecified_by past ip read None =
      if is_router_solicitation read || is_listener_message ip read then comes_to (Pass TrustedOnly) past else drops UnspecifiedSource past

  abbrev pub from_unspecified : List Mark → Ip → Read → Judged
  from_unspecified past ip read = unspecified_by past ip read (dad_target read)

  -- a client asks for addresses: refused, or a request is opened or renewed
  abbrev pub asked_by : List Mark → ℕ → List ℕ → Option Rule → Judged
  asked_by past tid duid (Some rule) = drops rule past
  asked_by past tid duid None = passes (Asked vlan (request_of port tid duid t) ∷ past)

  abbrev pub asked : List Mark → ℕ → List ℕ → Judged
  asked past tid duid = asked_by past tid duid (refusal (number_of port) tid duid (open_requests base vlan past t))

  -- a message to servers
  abbrev pub to_server_by : List Mark → Dhcp → Option (ArrayVec ℕ) → Judged
  to_server_by past dhcp (Some duid) = asked past dhcp.tid duid.items
  to_server_by past dhcp None = passes (if gives_up dhcp then with_events (λ lease. Release port) dhcp.leases.items past else past)

  abbrev pub to_server : List Mark → Dhcp → Judged
  to_server past dhcp = to_server_by past dhcp (asking_duid dhcp)

  -- a Reply is for the port that asked: its request is met, and it is given the leases
  abbrev pub replied_by : List Mark → Dhcp → List ℕ → Option Port → List Mark
  replied_by past dhcp duid (Some q) = with_events (λ lease. Lease q lease.valid) dhcp.leases.items (Met vlan t dhcp.tid duid ∷ past)
  replied_by past dhcp duid None = past

  abbrev pub replied : List Mark → Dhcp → Option (ArrayVec ℕ) → List Mark
  replied past dhcp (Some duid) = replied_by past dhcp duid.items (asker dhcp.tid duid.items (open_requests base vlan past t))
  replied past dhcp None = past

  abbrev pub to_client : List Mark → Dhcp → Judged
  to_client past dhcp = passes (replied past dhcp (answered_duid dhcp))

  -- a message to clients, if it is one
  abbrev pub to_client_or_other : List Mark → Option Dhcp → Judged
  to_client_or_other past (Some dhcp) = to_client past dhcp
  to_client_or_other past None = passes past

  abbrev pub dhcp_or_other : List Mark → Read → Option Dhcp → Judged
  dhcp_or_other past read (Some dhcp) = to_server past dhcp
  dhcp_or_other past read None = to_client_or_other past (dhcp_to 546 read)

  -- what a packet says behind its source, where the port's sources are validated
  abbrev pub message_by : List Mark → Read → Option ℕ → Judged
  message_by past read (Some target) = answered_or NaTarget past target (Na port)
  message_by past read None = dhcp_or_other past read (dhcp_to 547 read)

  abbrev pub message : List Mark → Read → Judged
  message past read = message_by past read (advertised read)

  -- a packet from an address: the address decides first, and a drop ends here
  abbrev pub followed : Judged → Read → Judged
  followed sent read = if is_passed sent.verdict then message sent.marks read else sent

  abbrev pub sourced : List Mark → Ip → Read → Judged
  sourced past ip read = followed (answered_or OffLink past ip.src.0 (Sent port)) read

  -- a frame at a port whose sources are validated
  abbrev pub validated : List Mark → Class → Judged
  validated past (Ip6 eth ip read) = if ip.src.0 == 0 then from_unspecified past ip read else sourced past ip read
  validated past _ = passes past

  -- what a packet at a trusted port tells of an on-link address
  abbrev pub heard_or : List Mark → Option ℕ → Ev → Judged → Judged
  heard_or past (Some target) event other = if is_on_link target then answered past target event else passes past
  heard_or past None event other = other

  -- a frame at a trusted port: it passes, and solicitations, advertisements and Replies are heard
  abbrev pub trusted : List Mark → Class → Judged
  trusted past (Ip6 eth ip read) =
      heard_or past (dad_target read) TpDad (heard_or past (advertised read) TpNa (to_client_or_other past (dhcp_to 546 read)))
  trusted past _ = passes past

  abbrev pub judged_for : List Mark → Class → Role → Judged
  judged_for past class roles.Host = validated past class
  judged_for past class roles.Server = validated past class
  judged_for past class roles.Trusted = trusted past class

  -- a rule on messages stops the frame first; without validation all others pass
  abbrev pub judged_by : List Mark → Class → Option Rule → Judged
  judged_by past class (Some rule) = drops rule past
  judged_by past class None = if r.validates then judged_for past class (r.role_of (number_of port)) else passes past

  -- a frame of this class after these marks
  unfoldable pub judged : List Mark → Class → Judged
  judged past class = judged_by past class (guard_of (r.role_of (number_of port)) r.drop_unknown class)
