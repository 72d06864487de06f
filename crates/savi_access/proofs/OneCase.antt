-- Two cases of one frame are the same: each is what `judged` says.
use Rattle.std.proofs.Common.{◌≡◌, ◌≢◌, ℕ, ◌==◌, ◌||◌, Bool, true, false, Option, Some, None, is_some, option_map, unwrap_or, if◌then◌else◌, List, ◌∷◌, refl, sym, ap, ◌∙◌, inl, inr, ◌⊎◌, rules}
use Rattle.std.proofs.lemmas.Bool.{eq-eqb, eqb-true, true_from_ne_false, false_from_ne_true}
use Rattle.arrayvec.specs.ArrayVec.{ArrayVec}
use Rattle.savi_kinds.specs.declared.port.Port.{Port}
use Rattle.savi_kinds.specs.declared.plan.Role.{Role}
use Rattle.savi_kinds.specs.declared.plan.Role.TheVariants as roles
use Rattle.savi_kinds.specs.declared.verdict.Rule.{Rule}
use Rattle.savi_kinds.specs.declared.verdict.Rule.TheVariants.{OffLink, NaTarget, UnspecifiedSource, Unverified}
use Rattle.savi_kinds.specs.declared.verdict.Scope.TheVariants.{All, TrustedOnly}
use Rattle.savi_kinds.specs.declared.verdict.Verdict.{Verdict}
use Rattle.savi_kinds.specs.declared.verdict.Verdict.TheVariants.{Pass, Drop}
use Rattle.savi_kinds.specs.Ports.{number_of}
use Rattle.v6_chain.specs.declared.packet.Ip.{Ip}
use Rattle.nd_read.specs.declared.message.Nd.TheVariants as messages
use Rattle.dhcp6_read.specs.declared.message.Dhcp.{Dhcp}
use Rattle.dhcp6_read.specs.declared.message.Lease.{Lease as Offered}
use Rattle.frame_class.specs.declared.classes.Class.{Class}
use Rattle.frame_class.specs.declared.classes.Class.TheVariants.{Runt, Tagged, Other, BadIp, Ip6}
use Rattle.frame_class.specs.declared.classes.Read.{Read}
use Rattle.ra_guard.specs.GuardOf.{guard_of}
use Rattle.fcfs_states.specs.declared.answer.Answer.{Answer}
use Rattle.fcfs_states.specs.declared.answer.Probe.{Probe}
use Rattle.fcfs_states.specs.declared.event.Ev.{Ev}
use Rattle.fcfs_states.specs.declared.event.Ev.TheVariants.{Sent, Dad, Na, TpDad, TpNa, Lease, Release}
use Rattle.fcfs_states.specs.Premises.{AreTimes}
use Rattle.mix_rules.specs.Next.{IsPass}
use Rattle.savi_access.specs.declared.sent.SentProbe.{SentProbe}
use Rattle.savi_access.specs.Bases.{AreTables}
use Rattle.savi_access.specs.Rules.{AccessRules, AccessBase}
use Rattle.savi_access.specs.Marks.{Mark, named_for}
use Rattle.savi_access.specs.Frames.{dad_target, advertised, is_router_solicitation, is_listener_message, dhcp_to, is_asking, gives_up}
use Rattle.savi_access.specs.Judged.{Judged, judged, judged_by, judged_for, validated, trusted, heard_or, from_unspecified, unspecified_by, sourced, followed, message, message_by, dhcp_or_other, to_server, to_server_by, to_client_or_other, to_client, replied, asked_by, answered, answered_or, answer_to, with_event, with_events, is_on_link, is_passed, comes_to, passes, drops}
use Rattle.savi_access.specs.Cases.{state_now, answer_of, IsRoom, event_mark, IsSent, HasRow, Is, AreTold, none, on_link, off_link, IsReply, met, unasked, nameless, no_reply, SaysMore, IsValidated, IsHeard, IsCase, AsksForAddresses, LetsGo, ShowsNd, ShowsDhcp, ShowsListener, Detects, Advertises, IsOtherFrame, MeetsOneCase}
use Rattle.savi_access.specs.Cases as cases
use Rattle.savi_access.proofs.States.{none_some}
use Rattle.savi_access.proofs.HeldAddresses.{room_is, one_room}
use Rattle.savi_access.proofs.CaseOf.{answer_is, na-shown, dad-shown, rs-shown, rs-unshown, listener-shown, listener-unshown, dhcp-shown, asking, not_asking, giving, not_giving}

-- what is read of a packet that shows a message
na-read : (read : Read) (target flags : ℕ) → ShowsNd (messages.Na (record { 0 = target }) flags) read → advertised read ≡ Some target
na-read read target flags shows = search rules

dad-read : (read : Read) (target : ℕ) → Detects target read → dad_target read ≡ Some target
dad-read read target shows = search rules

dhcp-read : (port : ℕ) (read : Read) (dhcp : Dhcp) → ShowsDhcp port dhcp read → dhcp_to port read ≡ Some dhcp
dhcp-read port read dhcp shows = search rules

rs-no_dad : (read : Read) → ShowsNd messages.Rs read → dad_target read ≡ None
rs-no_dad read shows = search rules

listener-no_dad : (ip : Ip) (read : Read) → ShowsListener ip read → dad_target read ≡ None
listener-no_dad ip read shows = search rules

na-no_dad : (read : Read) (target flags : ℕ) → ShowsNd (messages.Na (record { 0 = target }) flags) read → dad_target read ≡ None
na-no_dad read target flags shows = search rules

dhcp-no_na : (port : ℕ) (read : Read) (dhcp : Dhcp) → ShowsDhcp port dhcp read → advertised read ≡ None
dhcp-no_na port read dhcp shows = search rules

dhcp-no_dad : (port : ℕ) (read : Read) (dhcp : Dhcp) → ShowsDhcp port dhcp read → dad_target read ≡ None
dhcp-no_dad port read dhcp shows = search rules

to_client-not_server : (read : Read) (dhcp : Dhcp) → ShowsDhcp 546 dhcp read → dhcp_to 547 read ≡ None
to_client-not_server read dhcp shows = search rules

-- none, where it is nothing
nothing_else : {A : Type 0} (o : Option A) → ((a : A) → o ≡ Some a → ⊥) → o ≡ None
nothing_else None not = refl
nothing_else (Some a) not = absurd (not a refl)

lets_go-not_asking : (dhcp : Dhcp) → LetsGo dhcp → is_asking dhcp ≡ false
lets_go-not_asking dhcp lets = search rules

passing_is : (v : Verdict) → IsPass (Some v) → is_passed v ≡ true
passing_is (Pass scope) passed = refl
passing_is (Drop rule) passed = absurd passed

stopped_is : (v : Verdict) → ¬ IsPass (Some v) → is_passed v ≡ false
stopped_is (Pass scope) not = absurd (not tt)
stopped_is (Drop rule) not = refl

abbrev of_parts : Verdict → List Mark → Option SentProbe → Judged
of_parts verdict marks probe = record { verdict = verdict; marks = marks; probe = probe }

same_parts : (one other : Judged) → one.verdict ≡ other.verdict → one.marks ≡ other.marks → one.probe ≡ other.probe → one ≡ other
same_parts one other verdict marks probe =
    ap (λ v. of_parts v one.marks one.probe) verdict
    ∙ ap (λ m. of_parts other.verdict m one.probe) marks
    ∙ ap (λ p. of_parts other.verdict other.marks p) probe

if_yes : {A : Type 0} (b : Bool) (x y : A) → b ≡ true → (if b then x else y) ≡ x
if_yes b x y is = rw is

if_no : {A : Type 0} (b : Bool) (x y : A) → b ≡ false → (if b then x else y) ≡ y
if_no b x y not = rw not

module _ (r : AccessRules) (base : AccessBase) (vlan : ℕ) (port : Port) (t : ℕ) (times : AreTimes r.addresses.times) (tables : AreTables base.addresses) where
  is_so : (one : Judged) (verdict : Verdict) (marks : List Mark) → Is r base vlan port t one verdict marks → one ≡ comes_to verdict marks
  is_so one verdict marks is = same_parts one (comes_to verdict marks) is.0 is.1 is.2

  sent_one : (a : ℕ) (o : Option Probe) (sent : Option SentProbe) → IsSent r base vlan port t a o sent → sent ≡ option_map (λ probe. record { due = t; address = record { 0 = a }; probe = probe }) o
  sent_one a None sent is = is
  sent_one a (Some probe) sent is = is

  room_one : (past : List Mark) (a : ℕ) (event : Ev) (room : Bool) → IsRoom r base vlan port t past event room → room ≡ (named_for r base vlan t past a event).room
  room_one past a event room is = one_room r base vlan port t times tables past event room (named_for r base vlan t past a event).room is (room_is r base vlan port t times tables past event)

  row_one : (past : List Mark) (a : ℕ) (event : Ev) (one : Judged) → HasRow r base vlan port t past a event one → one ≡ answered r base vlan port t past a event
  row_one past a event one row =
      let room : row.room ≡ (named_for r base vlan t past a event).room = room_one past a event row.room row.is_room in
      let answer : answer_of r base vlan port t row.method row.room (state_now r base vlan port t past a) event ≡ answer_to r base vlan port t past a event =
      ap (λ b. answer_of r base vlan port t row.method b (state_now r base vlan port t past a) event) room ∙ sym (answer_is r base vlan port t times tables past a event row.method row.on_link) in
      same_parts one (answered r base vlan port t past a event)
      (ap (λ v. unwrap_or v (Drop Unverified)) (sym row.verdict) ∙ ap (λ (x : Answer). unwrap_or x.verdict (Drop Unverified)) answer)
      (row.marks ∙ ap (λ b. event_mark r base vlan port t a event b ∷ past) room)
      (sent_one a (answer_of r base vlan port t row.method row.room (state_now r base vlan port t past a) event).probe one.probe row.probe
      ∙ ap (λ (x : Answer). option_map (λ probe. record { due = t; address = record { 0 = a }; probe = probe }) x.probe) answer)

  -- a step that an on-link address decides, and the rule for another one
  row_or : (past : List Mark) (other : Judged) (a : ℕ) (event : Ev) (one : Judged) → HasRow r base vlan port t past a event one → one ≡ (if is_on_link r base vlan port t a then answered r base vlan port t past a event else other)
  row_or past other a event one row =
      row_one past a event one row ∙ sym (if_yes (is_on_link r base vlan port t a) (answered r base vlan port t past a event) other (ap is_some row.on_link))

  off_or : (past : List Mark) (other : Judged) (a : ℕ) (event : Ev) (one : Judged) → r.addresses.method_of vlan a ≡ None → one ≡ other → one ≡ (if is_on_link r base vlan port t a then answered r base vlan port t past a event else other)
  off_or past other a event one off is = is ∙ sym (if_no (is_on_link r base vlan port t a) (answered r base vlan port t past a event) other (ap is_some off))

  told_one : (event : Offered → Ev) {leases : List Offered} {past marks : List Mark} → AreTold r base vlan port t event leases past marks → marks ≡ with_events r base vlan port t event leases past
  told_one event none = refl
  told_one event (on_link {lease = lease} {leases = leases} {past = past} room on is_room told) =
      told_one event told
      ∙ ap (with_events r base vlan port t event leases)
      (ap (λ b. event_mark r base vlan port t lease.address.0 (event lease) b ∷ past) (room_one past lease.address.0 (event lease) room is_room)
      ∙ sym (if_yes (is_on_link r base vlan port t lease.address.0) (with_event r base vlan port t lease.address.0 (event lease) past) past on))
  told_one event (off_link {lease = lease} {leases = leases} {past = past} off told) =
      told_one event told
      ∙ ap (with_events r base vlan port t event leases)
      (sym (if_no (is_on_link r base vlan port t lease.address.0) (with_event r base vlan port t lease.address.0 (event lease) past) past (ap is_some off)))

  reply_one : (past : List Mark) (dhcp : Dhcp) (one : Judged) → IsReply r base vlan port t past dhcp one → one ≡ to_client r base vlan port t past dhcp
  reply_one past dhcp one (met duid q marks seven named asked told is) =
      is_so one (Pass All) marks is ∙ ap passes (told_one (λ lease. Lease q lease.valid) told ∙ sym (rw (eq-eqb dhcp.kind 7 seven, named, asked) refl))
  reply_one past dhcp one (unasked duid seven named asked is) =
      is_so one (Pass All) past is ∙ ap passes (sym (rw (eq-eqb dhcp.kind 7 seven, named, asked) refl))
  reply_one past dhcp one (nameless named is) = is_so one (Pass All) past is ∙ ap passes (sym (without (dhcp.kind == 7)))
    where
      without : (b : Bool) → replied r base vlan port t past dhcp (if b then dhcp.duid else None) ≡ past
      without true = rw named refl
      without false = refl
  reply_one past dhcp one (no_reply other is) =
      is_so one (Pass All) past is ∙ ap passes (sym (rw (false_from_ne_true (dhcp.kind == 7) (λ is. other (eqb-true dhcp.kind 7 is))) refl))

  module _ (past : List Mark) (read : Read) (one : Judged) where
    -- by what is read of the packet
    na_one : (target : ℕ) → advertised read ≡ Some target → one ≡ answered_or r base vlan port t NaTarget past target (Na port) → one ≡ message r base vlan port t past read
    na_one target is same = same ∙ sym (ap (message_by r base vlan port t past read) is)

    server_one : (dhcp : Dhcp) → ShowsDhcp 547 dhcp read → one ≡ to_server r base vlan port t past dhcp → one ≡ message r base vlan port t past read
    server_one dhcp shows same =
        same
        ∙ sym (ap (message_by r base vlan port t past read) (dhcp-no_na 547 read dhcp shows)
        ∙ ap (dhcp_or_other r base vlan port t past read) (dhcp-read 547 read dhcp shows))

    asking_one : (dhcp : Dhcp) (o : Option (ArrayVec ℕ)) → AsksForAddresses dhcp → dhcp.duid ≡ o → to_server r base vlan port t past dhcp ≡ to_server_by r base vlan port t past dhcp o
    asking_one dhcp o asks_so named =
        ap (to_server_by r base vlan port t past dhcp)
        (if_yes (is_asking dhcp) dhcp.duid None (true_from_ne_false (is_asking dhcp) (λ not. not_asking dhcp not asks_so)) ∙ named)

    quiet_one : (dhcp : Dhcp) → is_asking dhcp ≡ false → to_server r base vlan port t past dhcp ≡ to_server_by r base vlan port t past dhcp None
    quiet_one dhcp not = ap (to_server_by r base vlan port t past dhcp) (if_no (is_asking dhcp) dhcp.duid None not)

    asks-keeps : (dhcp : Dhcp) → AsksForAddresses dhcp → gives_up dhcp ≡ false
    asks-keeps dhcp asks_so = search rules

    pub more_one : SaysMore r base vlan port t past read one → one ≡ message r base vlan port t past read
    more_one (cases.advertises target shows row) =
        na_one target (na-read read target shows.0 shows.1) (row_or past (drops NaTarget past) target (Na port) one row)
    more_one (cases.advertises_off_link target shows off is) =
        na_one target (na-read read target shows.0 shows.1) (off_or past (drops NaTarget past) target (Na port) one off (is_so one (Drop NaTarget) past is))
    more_one (cases.asks_in_vain dhcp duid rule shows asks_so named refused is) =
        server_one dhcp shows (is_so one (Drop rule) past is ∙ sym (asking_one dhcp (Some duid) asks_so named ∙ ap (asked_by r base vlan port t past dhcp.tid duid.items) refused))
    more_one (cases.asks dhcp duid shows asks_so named free is) =
        server_one dhcp shows (same_parts one (asked_by r base vlan port t past dhcp.tid duid.items None) is.0 is.1 is.2 ∙ sym (asking_one dhcp (Some duid) asks_so named ∙ ap (asked_by r base vlan port t past dhcp.tid duid.items) free))
    more_one (cases.asks_nameless dhcp shows asks_so named is) =
        server_one dhcp shows
        (is_so one (Pass All) past is
        ∙ sym (asking_one dhcp None asks_so named ∙ ap passes (if_no (gives_up dhcp) (with_events r base vlan port t (λ lease. Release port) dhcp.leases.items past) past (asks-keeps dhcp asks_so))))
    more_one (cases.lets_go dhcp marks shows lets told is) =
        server_one dhcp shows
        (is_so one (Pass All) marks is
        ∙ ap passes (told_one (λ lease. Release port) told)
        ∙ sym (quiet_one dhcp (lets_go-not_asking dhcp lets)
        ∙ ap passes (if_yes (gives_up dhcp) (with_events r base vlan port t (λ lease. Release port) dhcp.leases.items past) past (true_from_ne_false (gives_up dhcp) (λ not. not_giving dhcp not lets)))))
    more_one (cases.to_server dhcp shows not_asks not_lets is) =
        server_one dhcp shows
        (is_so one (Pass All) past is
        ∙ sym (quiet_one dhcp (false_from_ne_true (is_asking dhcp) (λ is. not_asks (asking dhcp is)))
        ∙ ap passes (if_no (gives_up dhcp) (with_events r base vlan port t (λ lease. Release port) dhcp.leases.items past) past (false_from_ne_true (gives_up dhcp) (λ is. not_lets (giving dhcp is))))))
    more_one (cases.to_client dhcp shows reply) =
        reply_one past dhcp one reply
        ∙ sym (ap (message_by r base vlan port t past read) (dhcp-no_na 546 read dhcp shows)
        ∙ ap (dhcp_or_other r base vlan port t past read) (to_client-not_server read dhcp shows)
        ∙ ap (to_client_or_other r base vlan port t past) (dhcp-read 546 read dhcp shows))
    more_one (cases.nothing no_na no_server no_client is) =
        is_so one (Pass All) past is
        ∙ sym (ap (message_by r base vlan port t past read) (nothing_else (advertised read) (λ target is. no_na target (na-shown read target is)))
        ∙ ap (dhcp_or_other r base vlan port t past read) (nothing_else (dhcp_to 547 read) (λ dhcp is. no_server dhcp (dhcp-shown 547 read dhcp is)))
        ∙ ap (to_client_or_other r base vlan port t past) (nothing_else (dhcp_to 546 read) (λ dhcp is. no_client dhcp (dhcp-shown 546 read dhcp is))))

  module _ (past : List Mark) (ip : Ip) (read : Read) (one : Judged) where
    abbrev of_packet : Judged
    of_packet = if ip.src.0 == 0 then from_unspecified r base vlan port t past ip read else sourced r base vlan port t past ip read

    zero_one : ip.src.0 ≡ 0 → one ≡ from_unspecified r base vlan port t past ip read → one ≡ of_packet
    zero_one zero same = same ∙ sym (if_yes (ip.src.0 == 0) (from_unspecified r base vlan port t past ip read) (sourced r base vlan port t past ip read) (eq-eqb ip.src.0 0 zero))

    source_one : ip.src.0 ≢ 0 → one ≡ sourced r base vlan port t past ip read → one ≡ of_packet
    source_one source same =
        same
        ∙ sym (if_no (ip.src.0 == 0) (from_unspecified r base vlan port t past ip read) (sourced r base vlan port t past ip read) (false_from_ne_true (ip.src.0 == 0) (λ is. source (eqb-true ip.src.0 0 is))))

    detects_one : (target : ℕ) → ip.src.0 ≡ 0 → Detects target read → one ≡ answered_or r base vlan port t OffLink past target (Dad port) → one ≡ of_packet
    detects_one target zero shows same = zero_one zero (same ∙ sym (ap (unspecified_by r base vlan port t past ip read) (dad-read read target shows)))

    excepted_one : (b c : Bool) → ip.src.0 ≡ 0 → dad_target read ≡ None → is_router_solicitation read ≡ b → is_listener_message ip read ≡ c → one ≡ (if b || c then comes_to (Pass TrustedOnly) past else drops UnspecifiedSource past) → one ≡ of_packet
    excepted_one b c zero no_dad router listener same =
        zero_one zero (same ∙ sym (ap (unspecified_by r base vlan port t past ip read) no_dad ∙ rw (router, listener) refl))

    either_one : (b c : Bool) → (b ≡ true) ⊎ (c ≡ true) → comes_to (Pass TrustedOnly) past ≡ (if b || c then comes_to (Pass TrustedOnly) past else drops UnspecifiedSource past)
    either_one true c either = refl
    either_one false true either = refl
    either_one false false (inl never) = absurd (none_some never)
    either_one false false (inr never) = absurd (none_some never)

    sent_one_by : (sent : Judged) → HasRow r base vlan port t past ip.src.0 (Sent port) sent → followed r base vlan port t sent read ≡ sourced r base vlan port t past ip read
    sent_one_by sent row = ap (λ j. followed r base vlan port t j read) (row_or past (drops OffLink past) ip.src.0 (Sent port) sent row)

    pub packet_one : IsValidated r base vlan port t past ip read one → one ≡ of_packet
    packet_one (cases.detects target zero shows row) = detects_one target zero shows (row_or past (drops OffLink past) target (Dad port) one row)
    packet_one (cases.detects_off_link target zero shows off is) =
        detects_one target zero shows (off_or past (drops OffLink past) target (Dad port) one off (is_so one (Drop OffLink) past is))
    packet_one (cases.solicits_routers zero shows is) =
        let router : is_router_solicitation read ≡ true = true_from_ne_false (is_router_solicitation read) (λ not. rs-unshown read not shows) in
        excepted_one (is_router_solicitation read) (is_listener_message ip read) zero (rs-no_dad read shows) refl refl
        (is_so one (Pass TrustedOnly) past is ∙ either_one (is_router_solicitation read) (is_listener_message ip read) (inl router))
    packet_one (cases.listens zero shows is) =
        let listener : is_listener_message ip read ≡ true = true_from_ne_false (is_listener_message ip read) (λ not. listener-unshown ip read not shows) in
        excepted_one (is_router_solicitation read) (is_listener_message ip read) zero (listener-no_dad ip read shows) refl refl
        (is_so one (Pass TrustedOnly) past is ∙ either_one (is_router_solicitation read) (is_listener_message ip read) (inr listener))
    packet_one (cases.unspecified zero no_dad no_router no_listener is) =
        excepted_one false false zero (nothing_else (dad_target read) (λ target is. no_dad target (dad-shown read target is)))
        (false_from_ne_true (is_router_solicitation read) (λ is. no_router (rs-shown read is)))
        (false_from_ne_true (is_listener_message ip read) (λ is. no_listener (listener-shown ip read is)))
        (is_so one (Drop UnspecifiedSource) past is)
    packet_one (cases.off_link source off is) =
        source_one source
        (is_so one (Drop OffLink) past is
        ∙ ap (λ j. followed r base vlan port t j read) (off_or past (drops OffLink past) ip.src.0 (Sent port) (drops OffLink past) off refl))
    packet_one (cases.stopped source row not) =
        source_one source (sym (if_no (is_passed one.verdict) (message r base vlan port t one.marks read) one (stopped_is one.verdict not)) ∙ sent_one_by one row)
    packet_one (cases.let_through sent source row passed more) =
        source_one source
        (more_one sent.marks read one more
        ∙ sym (if_yes (is_passed sent.verdict) (message r base vlan port t sent.marks read) sent (passing_is sent.verdict passed))
        ∙ sent_one_by sent row)

  module _ (past : List Mark) (read : Read) (one : Judged) where
    abbrev of_heard : Judged
    of_heard = heard_or r base vlan port t past (dad_target read) TpDad (heard_or r base vlan port t past (advertised read) TpNa (to_client_or_other r base vlan port t past (dhcp_to 546 read)))

    dad_heard : (target : ℕ) → Detects target read → one ≡ (if is_on_link r base vlan port t target then answered r base vlan port t past target TpDad else passes past) → one ≡ of_heard
    dad_heard target shows same =
        same
        ∙ sym (ap (λ s. heard_or r base vlan port t past s TpDad (heard_or r base vlan port t past (advertised read) TpNa (to_client_or_other r base vlan port t past (dhcp_to 546 read)))) (dad-read read target shows))

    rest_heard : dad_target read ≡ None → one ≡ heard_or r base vlan port t past (advertised read) TpNa (to_client_or_other r base vlan port t past (dhcp_to 546 read)) → one ≡ of_heard
    rest_heard no_dad same =
        same
        ∙ sym (ap (λ s. heard_or r base vlan port t past s TpDad (heard_or r base vlan port t past (advertised read) TpNa (to_client_or_other r base vlan port t past (dhcp_to 546 read)))) no_dad)

    na_heard : (target : ℕ) → Advertises target read → one ≡ (if is_on_link r base vlan port t target then answered r base vlan port t past target TpNa else passes past) → one ≡ of_heard
    na_heard target shows same =
        rest_heard (na-no_dad read target shows.0 shows.1)
        (same ∙ sym (ap (λ s. heard_or r base vlan port t past s TpNa (to_client_or_other r base vlan port t past (dhcp_to 546 read))) (na-read read target shows.0 shows.1)))

    client_heard : dad_target read ≡ None → advertised read ≡ None → one ≡ to_client_or_other r base vlan port t past (dhcp_to 546 read) → one ≡ of_heard
    client_heard no_dad no_na same =
        rest_heard no_dad (same ∙ sym (ap (λ s. heard_or r base vlan port t past s TpNa (to_client_or_other r base vlan port t past (dhcp_to 546 read))) no_na))

    pub heard_one : IsHeard r base vlan port t past read one → one ≡ of_heard
    heard_one (cases.detects target shows row) = dad_heard target shows (row_or past (passes past) target TpDad one row)
    heard_one (cases.advertises target shows row) = na_heard target shows (row_or past (passes past) target TpNa one row)
    heard_one (cases.off_link target (inl shows) off is) = dad_heard target shows (off_or past (passes past) target TpDad one off (is_so one (Pass All) past is))
    heard_one (cases.off_link target (inr shows) off is) = na_heard target shows (off_or past (passes past) target TpNa one off (is_so one (Pass All) past is))
    heard_one (cases.to_client dhcp shows reply) =
        client_heard (dhcp-no_dad 546 read dhcp shows) (dhcp-no_na 546 read dhcp shows)
        (reply_one past dhcp one reply ∙ sym (ap (to_client_or_other r base vlan port t past) (dhcp-read 546 read dhcp shows)))
    heard_one (cases.nothing no_dad no_na no_client is) =
        client_heard (nothing_else (dad_target read) (λ target is. no_dad target (dad-shown read target is))) (nothing_else (advertised read) (λ target is. no_na target (na-shown read target is)))
        (is_so one (Pass All) past is ∙ sym (ap (to_client_or_other r base vlan port t past) (nothing_else (dhcp_to 546 read) (λ dhcp is. no_client dhcp (dhcp-shown 546 read dhcp is)))))

  module _ (past : List Mark) (class : Class) (one : Judged) where
    guard_one : (o : Option Rule) → guard_of (r.role_of (number_of port)) r.drop_unknown class ≡ o → one ≡ judged_by r base vlan port t past class o → one ≡ judged r base vlan port t past class
    unfolding judged
    guard_one o is same = same ∙ sym (ap (judged_by r base vlan port t past class) is)

    on_one : guard_of (r.role_of (number_of port)) r.drop_unknown class ≡ None → r.validates ≡ true → one ≡ judged_for r base vlan port t past class (r.role_of (number_of port)) → one ≡ judged r base vlan port t past class
    on_one free on same =
        guard_one None free (same ∙ sym (if_yes r.validates (judged_for r base vlan port t past class (r.role_of (number_of port))) (passes past) on))

    other_for : (role : Role) (c : Class) → IsOtherFrame c → judged_for r base vlan port t past c role ≡ passes past
    other_for roles.Host Runt is = refl
    other_for roles.Host (Tagged eth) is = refl
    other_for roles.Host (Other eth) is = refl
    other_for roles.Host (BadIp eth) is = refl
    other_for roles.Host (Ip6 eth ip read) is = absurd is
    other_for roles.Server Runt is = refl
    other_for roles.Server (Tagged eth) is = refl
    other_for roles.Server (Other eth) is = refl
    other_for roles.Server (BadIp eth) is = refl
    other_for roles.Server (Ip6 eth ip read) is = absurd is
    other_for roles.Trusted Runt is = refl
    other_for roles.Trusted (Tagged eth) is = refl
    other_for roles.Trusted (Other eth) is = refl
    other_for roles.Trusted (BadIp eth) is = refl
    other_for roles.Trusted (Ip6 eth ip read) is = absurd is

    validated_for : (role : Role) (c : Class) → role ≢ roles.Trusted → judged_for r base vlan port t past c role ≡ validated r base vlan port t past c
    validated_for roles.Host c host = refl
    validated_for roles.Server c host = refl
    validated_for roles.Trusted c host = absurd (host refl)

    trusted_for : (role : Role) (c : Class) → role ≡ roles.Trusted → judged_for r base vlan port t past c role ≡ trusted r base vlan port t past c
    trusted_for role c is = rw is refl

    pub case_one : IsCase r base vlan port t past class one → one ≡ judged r base vlan port t past class
    case_one (cases.guarded rule stops is) = guard_one (Some rule) stops (is_so one (Drop rule) past is)
    case_one (cases.off free off is) =
        guard_one None free (is_so one (Pass All) past is ∙ sym (if_no r.validates (judged_for r base vlan port t past class (r.role_of (number_of port))) (passes past) off))
    case_one (cases.other free on other is) = on_one free on (is_so one (Pass All) past is ∙ sym (other_for (r.role_of (number_of port)) class other))
    case_one (cases.heard eth ip read free on role is heard) =
        on_one free on
        (heard_one past read one heard
        ∙ sym (trusted_for (r.role_of (number_of port)) class role ∙ ap (trusted r base vlan port t past) is))
    case_one (cases.validated eth ip read free on role is packet) =
        on_one free on
        (packet_one past ip read one packet
        ∙ sym (validated_for (r.role_of (number_of port)) class role ∙ ap (validated r base vlan port t past) is))

  pub one_case : (past : List Mark) (class : Class) → MeetsOneCase r base vlan port t past class
  one_case past class one other is also = case_one past class one is ∙ sym (case_one past class other also)
