-- What a frame comes to, case by case, each by what stands in its packet and by the state of each address that it names: a
-- second reading of the rules beside `Judged`. Laws say that `judged` gives the case that a frame meets, and that two cases
-- of one frame are the same.
use Rattle.std.specs.Prelude.{ℕ, ◌≡◌, ◌≢◌, ◌⊎◌, ◌<◌, ◌==◌, ◌↔◌, Bool, true, false, if◌then◌else◌, Option, Some, None, IsSome, IsSomeAnd, List, [], ◌∷◌, length, count_by}
use Rattle.arrayvec.specs.ArrayVec.{ArrayVec}
use Rattle.savi_kinds.specs.declared.port.Port.{Port}
use Rattle.savi_kinds.specs.declared.plan.Method.{Method}
use Rattle.savi_kinds.specs.declared.plan.Role.TheVariants.{Trusted}
use Rattle.savi_kinds.specs.declared.verdict.Rule.{Rule}
use Rattle.savi_kinds.specs.declared.verdict.Rule.TheVariants.{UnspecifiedSource, OffLink, NaTarget}
use Rattle.savi_kinds.specs.declared.verdict.Scope.TheVariants.{All, TrustedOnly}
use Rattle.savi_kinds.specs.declared.verdict.Verdict.{Verdict}
use Rattle.savi_kinds.specs.declared.verdict.Verdict.TheVariants.{Pass, Drop}
use Rattle.savi_kinds.specs.Ports.{number_of}
use Rattle.eth_frame.specs.declared.header.Eth.{Eth}
use Rattle.v6_chain.specs.declared.packet.Ip.{Ip}
use Rattle.nd_read.specs.declared.message.Nd.{Nd}
use Rattle.nd_read.specs.declared.message.Nd.TheVariants as messages
use Rattle.dhcp6_read.specs.declared.message.Dhcp.{Dhcp}
use Rattle.dhcp6_read.specs.declared.message.Lease.{Lease as Offered}
use Rattle.frame_class.specs.declared.classes.Class.{Class}
use Rattle.frame_class.specs.declared.classes.Class.TheVariants.{Ip6}
use Rattle.frame_class.specs.declared.classes.Read.{Read}
use Rattle.frame_class.specs.declared.classes.Read.TheVariants.{Icmp, Udp}
use Rattle.ra_guard.specs.GuardOf.{guard_of}
use Rattle.fcfs_states.specs.declared.answer.Answer.{Answer}
use Rattle.fcfs_states.specs.declared.answer.Probe.{Probe}
use Rattle.fcfs_states.specs.declared.event.Ev.{Ev}
use Rattle.fcfs_states.specs.declared.event.Ev.TheVariants.{Sent, Dad, Na, TpDad, TpNa, Lease, Release}
use Rattle.dhcp_states.specs.Requests.{request_of, refusal, asker}
use Rattle.mix_rules.specs.declared.state.AddrState.{AddrState}
use Rattle.mix_rules.specs.States.{is_held_at}
use Rattle.mix_rules.specs.Next.{next_state, IsPass}
use Rattle.savi_access.specs.declared.sent.SentProbe.{SentProbe}
use Rattle.savi_access.specs.Rooms.{port_of}
use Rattle.savi_access.specs.States.{state_at}
use Rattle.savi_access.specs.Rules.{AccessRules, AccessBase}
use Rattle.savi_access.specs.Marks.{Mark, Told, Asked, Met, told, open_requests}
use Rattle.savi_access.specs.Judged.{Judged}

-- the types of DHCPv6 messages (RFC 8415 section 7.3) by which a client asks for addresses that a Reply may give: Request,
-- Renew, Rebind, and a Solicit with rapid commit
abbrev pub AsksForAddresses : Dhcp → Type 0
AsksForAddresses dhcp = (dhcp.kind ≡ 3) ⊎ ((dhcp.kind ≡ 5) ⊎ ((dhcp.kind ≡ 6) ⊎ ((dhcp.kind ≡ 1) × (dhcp.rapid ≡ true))))

-- by which it doesn't keep them: Release and Decline
abbrev pub LetsGo : Dhcp → Type 0
LetsGo dhcp = (dhcp.kind ≡ 8) ⊎ (dhcp.kind ≡ 9)

-- a packet shows this message of neighbor discovery
abbrev pub ShowsNd : Nd → Read → Type 0
ShowsNd nd (Icmp kind fragmented (Some shown)) = shown ≡ nd
ShowsNd nd _ = ⊥

-- a solicitation for duplicate address detection of this address (RFC 4862 section 5.4.2)
abbrev pub Detects : ℕ → Read → Type 0
Detects target read = ShowsNd (messages.Ns (record { 0 = target }) true) read

-- an advertisement of this address (RFC 4861 section 4.4)
abbrev pub Advertises : ℕ → Read → Type 0
Advertises target read = (flags : ℕ) × ShowsNd (messages.Na (record { 0 = target }) flags) read

-- a message of DHCPv6, sent to this port
abbrev pub ShowsDhcp : ℕ → Dhcp → Read → Type 0
ShowsDhcp port dhcp (Udp to first fragmented (Some shown)) = (to ≡ port) × (shown ≡ dhcp)
ShowsDhcp port dhcp _ = ⊥

-- a message of a multicast listener (RFC 2710, RFC 3810)
abbrev pub ShowsListener : Ip → Read → Type 0
ShowsListener ip (Icmp kind fragmented (Some messages.Other)) =
    ((kind ≡ 131) ⊎ ((kind ≡ 132) ⊎ (kind ≡ 143))) × (ip.hop ≡ 1)
ShowsListener ip _ = ⊥

-- the frame carries no packet of IPv6 that is read
abbrev pub IsOtherFrame : Class → Type 0
IsOtherFrame (Ip6 eth ip read) = ⊥
IsOtherFrame _ = Unit {0}

-- at this port in this VLAN, at moment t
module _ (r : AccessRules) (base : AccessBase) (vlan : ℕ) (port : Port) (t : ℕ) where
  -- the state of an address at t
  abbrev pub state_now : List Mark → ℕ → AddrState
  state_now past a = state_at r.addresses base.addresses (told past) t vlan a

  -- these are the addresses that a port holds at t: each of them stands here once, and no other address does
  abbrev pub AreHeld : List Mark → Port → List ℕ → Type 0
  AreHeld past p addresses =
      (a : ℕ) → count_by (λ b. b == a) addresses ≡ (if is_held_at (number_of p) (state_now past a) then 1 else 0)

  -- a port may hold one more: it holds fewer addresses than the plan lets a port hold
  abbrev pub HasRoom : List Mark → Port → Type 0
  HasRoom past p = (addresses : List ℕ) × AreHeld past p addresses × (length addresses < r.addresses.per_port)

  -- the room of an event is that of its port, and there is none where it has no port
  abbrev pub IsRoom : List Mark → Ev → Bool → Type 0
  IsRoom past event room = (room ≡ true) ↔ IsSomeAnd (port_of event) (HasRoom past)

  -- an event on an address, with its room
  abbrev pub event_mark : ℕ → Ev → Bool → Mark
  event_mark a event room = Told (record { vlan = vlan; address = a; moment = t; event = event; room = room })

  -- the answer in the row of the state tables for an event on an address, where this is the method of its prefix
  abbrev pub answer_of : Method → Bool → AddrState → Ev → Answer
  answer_of method room state event = (next_state method r.addresses.times t room state event).0

  -- a probe after the address goes out at once, due at t, where the answer has one
  abbrev pub IsSent : ℕ → Option Probe → Option SentProbe → Type 0
  IsSent a None sent = sent ≡ None
  IsSent a (Some probe) sent = sent ≡ Some (record { due = t; address = record { 0 = a }; probe = probe })

  -- The event on an on-link address: verdict and probe are those of the row of the state tables for the state that the
  -- address has at t, and the event is told.
  pub record HasRow (past : List Mark) (a : ℕ) (event : Ev) (judged : Judged) : Type 0 where
    pub method : Method
    pub room : Bool
    pub on_link : r.addresses.method_of vlan a ≡ Some method
    pub is_room : IsRoom past event room
    pub verdict : (answer_of method room (state_now past a) event).verdict ≡ Some judged.verdict
    pub probe : IsSent a (answer_of method room (state_now past a) event).probe judged.probe
    pub marks : judged.marks ≡ event_mark a event room ∷ past

  -- the address isn't on-link
  abbrev pub IsOffLink : ℕ → Type 0
  IsOffLink a = r.addresses.method_of vlan a ≡ None

  -- this verdict, these marks and no probe
  abbrev pub Is : Judged → Verdict → List Mark → Type 0
  Is judged verdict marks = (judged.verdict ≡ verdict) × (judged.marks ≡ marks) × (judged.probe ≡ None)

  -- each of these addresses that is on-link is told the event, one after the other, and no other is
  pub data AreTold (event : Offered → Ev) : List Offered → List Mark → List Mark → Type 0 where
    none : {past : List Mark} → AreTold event [] past past
    on_link : {lease : Offered} {leases : List Offered} {past marks : List Mark} (room : Bool)
        → IsSome (r.addresses.method_of vlan lease.address.0) → IsRoom past (event lease) room
        → AreTold event leases (event_mark lease.address.0 (event lease) room ∷ past) marks
        → AreTold event (lease ∷ leases) past marks
    off_link : {lease : Offered} {leases : List Offered} {past marks : List Mark}
        → IsOffLink lease.address.0 → AreTold event leases past marks → AreTold event (lease ∷ leases) past marks

  -- the port that asked with this transaction id and this DUID, where its request is open
  abbrev pub asker_of : List Mark → Dhcp → ArrayVec ℕ → Option Port
  asker_of past dhcp duid = asker dhcp.tid duid.items (open_requests base vlan past t)

  -- the rule that refuses a request with this transaction id and this DUID, where one does
  abbrev pub refusal_of : List Mark → Dhcp → ArrayVec ℕ → Option Rule
  refusal_of past dhcp duid = refusal (number_of port) dhcp.tid duid.items (open_requests base vlan past t)

  -- a Reply to a client: it meets the request that is open with its transaction id and DUID, and its leases are told of the
  -- port that asked
  pub data IsReply (past : List Mark) (dhcp : Dhcp) (judged : Judged) : Type 0 where
    met : (duid : ArrayVec ℕ) (q : Port) (marks : List Mark)
        → dhcp.kind ≡ 7 → dhcp.duid ≡ Some duid → asker_of past dhcp duid ≡ Some q
        → AreTold (λ lease. Lease q lease.valid) dhcp.leases.items (Met vlan t dhcp.tid duid.items ∷ past) marks
        → Is judged (Pass All) marks → IsReply past dhcp judged
    unasked : (duid : ArrayVec ℕ) → dhcp.kind ≡ 7 → dhcp.duid ≡ Some duid → asker_of past dhcp duid ≡ None
        → Is judged (Pass All) past → IsReply past dhcp judged
    nameless : dhcp.duid ≡ None → Is judged (Pass All) past → IsReply past dhcp judged
    no_reply : dhcp.kind ≢ 7 → Is judged (Pass All) past → IsReply past dhcp judged

  -- what a packet says behind its source, which was let through
  pub data SaysMore (past : List Mark) (read : Read) (judged : Judged) : Type 0 where
    -- RFC 4861 section 7.2.5
    advertises : (target : ℕ) → Advertises target read → HasRow past target (Na port) judged → SaysMore past read judged
    advertises_off_link : (target : ℕ) → Advertises target read → IsOffLink target → Is judged (Drop NaTarget) past
        → SaysMore past read judged
    -- RFC 7513 section 6
    asks_in_vain : (dhcp : Dhcp) (duid : ArrayVec ℕ) (rule : Rule)
        → ShowsDhcp 547 dhcp read → AsksForAddresses dhcp → dhcp.duid ≡ Some duid → refusal_of past dhcp duid ≡ Some rule
        → Is judged (Drop rule) past → SaysMore past read judged
    asks : (dhcp : Dhcp) (duid : ArrayVec ℕ)
        → ShowsDhcp 547 dhcp read → AsksForAddresses dhcp → dhcp.duid ≡ Some duid → refusal_of past dhcp duid ≡ None
        → Is judged (Pass All) (Asked vlan (request_of port dhcp.tid duid.items t) ∷ past) → SaysMore past read judged
    asks_nameless : (dhcp : Dhcp) → ShowsDhcp 547 dhcp read → AsksForAddresses dhcp → dhcp.duid ≡ None
        → Is judged (Pass All) past → SaysMore past read judged
    lets_go : (dhcp : Dhcp) (marks : List Mark) → ShowsDhcp 547 dhcp read → LetsGo dhcp
        → AreTold (λ lease. Release port) dhcp.leases.items past marks
        → Is judged (Pass All) marks → SaysMore past read judged
    to_server : (dhcp : Dhcp) → ShowsDhcp 547 dhcp read → ¬ AsksForAddresses dhcp → ¬ LetsGo dhcp
        → Is judged (Pass All) past → SaysMore past read judged
    to_client : (dhcp : Dhcp) → ShowsDhcp 546 dhcp read → IsReply past dhcp judged → SaysMore past read judged
    nothing : ((target : ℕ) → ¬ Advertises target read) → ((dhcp : Dhcp) → ¬ ShowsDhcp 547 dhcp read)
        → ((dhcp : Dhcp) → ¬ ShowsDhcp 546 dhcp read) → Is judged (Pass All) past → SaysMore past read judged

  -- a packet at a port whose sources are validated, that no rule of the guard stops
  pub data IsValidated (past : List Mark) (ip : Ip) (read : Read) (judged : Judged) : Type 0 where
    -- without a source address: RFC 4862 section 5.4.2, RFC 4861 section 4.1, RFC 3590
    detects : (target : ℕ) → ip.src.0 ≡ 0 → Detects target read → HasRow past target (Dad port) judged
        → IsValidated past ip read judged
    detects_off_link : (target : ℕ) → ip.src.0 ≡ 0 → Detects target read → IsOffLink target → Is judged (Drop OffLink) past
        → IsValidated past ip read judged
    solicits_routers : ip.src.0 ≡ 0 → ShowsNd messages.Rs read → Is judged (Pass TrustedOnly) past
        → IsValidated past ip read judged
    listens : ip.src.0 ≡ 0 → ShowsListener ip read → Is judged (Pass TrustedOnly) past → IsValidated past ip read judged
    unspecified : ip.src.0 ≡ 0
        → ((target : ℕ) → ¬ Detects target read) → ¬ ShowsNd messages.Rs read → ¬ ShowsListener ip read
        → Is judged (Drop UnspecifiedSource) past → IsValidated past ip read judged
    -- from an address: RFC 6620 section 3.2, RFC 7513 section 5
    off_link : ip.src.0 ≢ 0 → IsOffLink ip.src.0 → Is judged (Drop OffLink) past → IsValidated past ip read judged
    stopped : ip.src.0 ≢ 0 → HasRow past ip.src.0 (Sent port) judged → ¬ IsPass (Some judged.verdict)
        → IsValidated past ip read judged
    let_through : (sent : Judged) → ip.src.0 ≢ 0 → HasRow past ip.src.0 (Sent port) sent → IsPass (Some sent.verdict)
        → SaysMore sent.marks read judged → IsValidated past ip read judged

  -- a packet at a trusted port
  pub data IsHeard (past : List Mark) (read : Read) (judged : Judged) : Type 0 where
    detects : (target : ℕ) → Detects target read → HasRow past target TpDad judged → IsHeard past read judged
    advertises : (target : ℕ) → Advertises target read → HasRow past target TpNa judged → IsHeard past read judged
    off_link : (target : ℕ) → Detects target read ⊎ Advertises target read → IsOffLink target → Is judged (Pass All) past
        → IsHeard past read judged
    to_client : (dhcp : Dhcp) → ShowsDhcp 546 dhcp read → IsReply past dhcp judged → IsHeard past read judged
    nothing : ((target : ℕ) → ¬ Detects target read) → ((target : ℕ) → ¬ Advertises target read)
        → ((dhcp : Dhcp) → ¬ ShowsDhcp 546 dhcp read) → Is judged (Pass All) past → IsHeard past read judged

  -- the first rule of the guard that stops the frame, where one does
  abbrev pub guard_rule : Class → Option Rule
  guard_rule class = guard_of (r.role_of (number_of port)) r.drop_unknown class

  -- a case of the frame: what it comes to by one of the lines above, or by a rule of the guard
  pub data IsCase (past : List Mark) (class : Class) (judged : Judged) : Type 0 where
    guarded : (rule : Rule) → guard_rule class ≡ Some rule → Is judged (Drop rule) past → IsCase past class judged
    off : guard_rule class ≡ None → r.validates ≡ false → Is judged (Pass All) past → IsCase past class judged
    other : guard_rule class ≡ None → r.validates ≡ true → IsOtherFrame class → Is judged (Pass All) past
        → IsCase past class judged
    heard : (eth : Eth) (ip : Ip) (read : Read) → guard_rule class ≡ None → r.validates ≡ true
        → r.role_of (number_of port) ≡ Trusted → class ≡ Ip6 eth ip read → IsHeard past read judged
        → IsCase past class judged
    validated : (eth : Eth) (ip : Ip) (read : Read) → guard_rule class ≡ None → r.validates ≡ true
        → r.role_of (number_of port) ≢ Trusted → class ≡ Ip6 eth ip read → IsValidated past ip read judged
        → IsCase past class judged

  -- two cases of one frame are the same: one verdict, the same marks, and one probe or none
  abbrev pub MeetsOneCase : List Mark → Class → Type 0
  MeetsOneCase past class = (one other : Judged) → IsCase past class one → IsCase past class other → one ≡ other
