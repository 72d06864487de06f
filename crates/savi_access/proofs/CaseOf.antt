-- Each frame comes to its case.
use Rattle.std.proofs.Common.{◌≡◌, ◌≢◌, ℕ, ◌==◌, ◌||◌, Bool, true, false, Option, Some, None, IsSome, is_some, option_map, unwrap_or, if◌then◌else◌, List, [], ◌∷◌, refl, sym, ap, ◌∙◌, subst, inl, inr, ◌⊎◌, rules}
use Rattle.std.proofs.lemmas.Bool.{cases_Bool, eq-eqb, eqb-true}
use Rattle.arrayvec.specs.ArrayVec.{ArrayVec}
use Rattle.savi_kinds.specs.declared.port.Port.{Port}
use Rattle.savi_kinds.specs.declared.plan.Method.{Method}
use Rattle.savi_kinds.specs.declared.plan.Role.{Role}
use Rattle.savi_kinds.specs.declared.plan.Role.TheVariants as roles
use Rattle.savi_kinds.specs.declared.verdict.Rule.{Rule}
use Rattle.savi_kinds.specs.declared.verdict.Rule.TheVariants.{OffLink, NaTarget, UnspecifiedSource, Unverified}
use Rattle.savi_kinds.specs.declared.verdict.Scope.TheVariants.{TrustedOnly}
use Rattle.savi_kinds.specs.declared.verdict.Verdict.{Verdict}
use Rattle.savi_kinds.specs.declared.verdict.Verdict.TheVariants.{Pass, Drop}
use Rattle.savi_kinds.specs.Ports.{number_of}
use Rattle.v6_chain.specs.declared.packet.Ip.{Ip}
use Rattle.nd_read.specs.declared.message.Nd.TheVariants as messages
use Rattle.dhcp6_read.specs.declared.message.Dhcp.{Dhcp}
use Rattle.dhcp6_read.specs.declared.message.Lease.{Lease as Offered}
use Rattle.frame_class.specs.declared.classes.Class.{Class}
use Rattle.frame_class.specs.declared.classes.Class.TheVariants.{Runt, Tagged, Other, BadIp, Ip6}
use Rattle.frame_class.specs.declared.classes.Read.{Read}
use Rattle.frame_class.specs.declared.classes.Read.TheVariants.{Icmp}
use Rattle.ra_guard.specs.GuardOf.{guard_of, is_validating}
use Rattle.fcfs_states.specs.declared.event.Ev.{Ev}
use Rattle.fcfs_states.specs.declared.event.Ev.TheVariants.{Sent, Dad, Na, TpDad, TpNa, Lease, Release}
use Rattle.fcfs_states.specs.declared.answer.Answer.{Answer}
use Rattle.fcfs_states.specs.declared.answer.Probe.{Probe}
use Rattle.fcfs_states.specs.declared.times.Times.{Times}
use Rattle.fcfs_states.specs.Premises.{AreTimes}
use Rattle.dhcp_states.specs.Requests.{refusal, asker}
use Rattle.mix_rules.specs.declared.state.AddrState.{AddrState}
use Rattle.mix_rules.specs.Next.{next_state, IsPass}
use Rattle.savi_access.specs.Bases.{AreTables}
use Rattle.savi_access.specs.NamedMarks.{mark_of}
use Rattle.savi_access.specs.States.{outcome_by, state_of}
use Rattle.savi_access.specs.Rules.{AccessRules, AccessBase}
use Rattle.savi_access.specs.Marks.{Mark, Met, told, open_requests, named_for}
use Rattle.savi_access.specs.Frames.{dad_target, advertised, is_router_solicitation, is_listener_message, dhcp_to, is_asking, gives_up}
use Rattle.savi_access.specs.Judged.{Judged, judged, judged_by, judged_for, validated, trusted, heard_or, from_unspecified, unspecified_by, sourced, followed, message, message_by, dhcp_or_other, to_server, to_server_by, to_client_or_other, to_client, replied, replied_by, asked_by, answered, answered_or, answer_to, with_event, with_events, is_on_link, is_passed, comes_to, passes, drops}
use Rattle.savi_access.specs.Cases.{state_now, answer_of, IsSent, Detects, Advertises, HasRow, AreTold, none, on_link, off_link, IsReply, met, unasked, nameless, no_reply, SaysMore, advertises, advertises_off_link, asks_in_vain, asks, asks_nameless, lets_go, to_client as to_clients, nothing, IsValidated, IsHeard, IsCase, guarded, off, other, heard, validated as by_source, AsksForAddresses, LetsGo, ShowsNd, ShowsDhcp, ShowsListener, IsOtherFrame}
use Rattle.savi_access.specs.Cases as cases
use Rattle.savi_access.proofs.HeldAddresses.{room_is}
use Rattle.savi_access.proofs.States.{true_not_false, none_some}

-- each event of a frame has a verdict
sent-given : (m : Method) (k : Times) (t : ℕ) (room : Bool) (s : AddrState) (p : Port) → (next_state m k t room s (Sent p)).0.verdict ≡ Some (unwrap_or (next_state m k t room s (Sent p)).0.verdict (Drop Unverified))
sent-given m k t room s p = search rules

dad-given : (m : Method) (k : Times) (t : ℕ) (room : Bool) (s : AddrState) (p : Port) → (next_state m k t room s (Dad p)).0.verdict ≡ Some (unwrap_or (next_state m k t room s (Dad p)).0.verdict (Drop Unverified))
dad-given m k t room s p = search rules

na-given : (m : Method) (k : Times) (t : ℕ) (room : Bool) (s : AddrState) (p : Port) → (next_state m k t room s (Na p)).0.verdict ≡ Some (unwrap_or (next_state m k t room s (Na p)).0.verdict (Drop Unverified))
na-given m k t room s p = search rules

trusted_dad-given : (m : Method) (k : Times) (t : ℕ) (room : Bool) (s : AddrState) → (next_state m k t room s TpDad).0.verdict ≡ Some (unwrap_or (next_state m k t room s TpDad).0.verdict (Drop Unverified))
trusted_dad-given m k t room s = search rules

trusted_na-given : (m : Method) (k : Times) (t : ℕ) (room : Bool) (s : AddrState) → (next_state m k t room s TpNa).0.verdict ≡ Some (unwrap_or (next_state m k t room s TpNa).0.verdict (Drop Unverified))
trusted_na-given m k t room s = search rules

-- what a packet shows, by what is read of it
-- the flags of an advertisement
abbrev flags_in : Read → ℕ
flags_in (Icmp kind fragmented (Some (messages.Na target flags))) = flags
flags_in _ = 0

na-told : (read : Read) (target : ℕ) → advertised read ≡ Some target → ShowsNd (messages.Na (record { 0 = target }) (flags_in read)) read
na-told read target is = search rules

pub na-shown : (read : Read) (target : ℕ) → advertised read ≡ Some target → Advertises target read
na-shown read target is = (flags_in read, na-told read target is)

pub dad-shown : (read : Read) (target : ℕ) → dad_target read ≡ Some target → Detects target read
dad-shown read target is = search rules

na-untold : (read : Read) → advertised read ≡ None → (target flags : ℕ) → ¬ ShowsNd (messages.Na (record { 0 = target }) flags) read
na-untold read is target flags shows = search rules

na-unshown : (read : Read) → advertised read ≡ None → (target : ℕ) → ¬ Advertises target read
na-unshown read is target shows = na-untold read is target shows.0 shows.1

dad-unshown : (read : Read) → dad_target read ≡ None → (target : ℕ) → ¬ Detects target read
dad-unshown read is target shows = search rules

pub rs-shown : (read : Read) → is_router_solicitation read ≡ true → ShowsNd messages.Rs read
rs-shown read is = search rules

pub rs-unshown : (read : Read) → is_router_solicitation read ≡ false → ¬ ShowsNd messages.Rs read
rs-unshown read is shows = search rules

pub listener-shown : (ip : Ip) (read : Read) → is_listener_message ip read ≡ true → ShowsListener ip read
listener-shown ip read is = search rules

pub listener-unshown : (ip : Ip) (read : Read) → is_listener_message ip read ≡ false → ¬ ShowsListener ip read
listener-unshown ip read is shows = search rules

pub dhcp-shown : (port : ℕ) (read : Read) (dhcp : Dhcp) → dhcp_to port read ≡ Some dhcp → ShowsDhcp port dhcp read
dhcp-shown port read dhcp is = search rules

dhcp-unshown : (port : ℕ) (read : Read) → dhcp_to port read ≡ None → (dhcp : Dhcp) → ¬ ShowsDhcp port dhcp read
dhcp-unshown port read is dhcp shows = search rules

pub asking : (dhcp : Dhcp) → is_asking dhcp ≡ true → AsksForAddresses dhcp
asking dhcp is = search rules

pub not_asking : (dhcp : Dhcp) → is_asking dhcp ≡ false → ¬ AsksForAddresses dhcp
not_asking dhcp is asks_so = search rules

pub giving : (dhcp : Dhcp) → gives_up dhcp ≡ true → LetsGo dhcp
giving dhcp is = search rules

pub not_giving : (dhcp : Dhcp) → gives_up dhcp ≡ false → ¬ LetsGo dhcp
not_giving dhcp is lets = search rules

some_or_none : {A : Type 0} (o : Option A) → IsSome o ⊎ (o ≡ None)
some_or_none None = inr refl
some_or_none (Some a) = inl refl

module _ (r : AccessRules) (base : AccessBase) (vlan : ℕ) (port : Port) (t : ℕ) (times : AreTimes r.addresses.times) (tables : AreTables base.addresses) where
  -- the answer that the marks lead to is that of the row
  pub answer_is : (past : List Mark) (a : ℕ) (event : Ev) (m : Method) → r.addresses.method_of vlan a ≡ Some m → answer_to r base vlan port t past a event ≡ answer_of r base vlan port t m (named_for r base vlan t past a event).room (state_now r base vlan port t past a) event
  answer_is past a event m found =
      ap (λ (o : Option Method). (outcome_by o r.addresses.times (mark_of (named_for r base vlan t past a event)) (state_of r.addresses base.addresses (told past) vlan a)).0) found

  -- an event with a verdict, in every state
  abbrev pub Given : Ev → Type 0
  Given event = (m : Method) (k : Times) (t : ℕ) (room : Bool) (s : AddrState) → (next_state m k t room s event).0.verdict ≡ Some (unwrap_or (next_state m k t room s event).0.verdict (Drop Unverified))

  sent_at : (a : ℕ) (o : Option Probe) → IsSent r base vlan port t a o (option_map (λ probe. record { due = t; address = record { 0 = a }; probe = probe }) o)
  sent_at a None = refl
  sent_at a (Some probe) = refl

  row_of : (past : List Mark) (a : ℕ) (event : Ev) → Given event → (m : Method) → r.addresses.method_of vlan a ≡ Some m → HasRow r base vlan port t past a event (answered r base vlan port t past a event)
  row_of past a event given m found =
      subst (λ (answer : Answer). HasRow r base vlan port t past a event (record { verdict = unwrap_or answer.verdict (Drop Unverified); marks = with_event r base vlan port t a event past; probe = option_map (λ probe. record { due = t; address = record { 0 = a }; probe = probe }) answer.probe }))
      (sym (answer_is past a event m found))
      (record {
        method = m;
        room = (named_for r base vlan t past a event).room;
        on_link = found;
        is_room = room_is r base vlan port t times tables past event;
        verdict = given m r.addresses.times t (named_for r base vlan t past a event).room (state_now r base vlan port t past a);
        probe = sent_at a (answer_of r base vlan port t m (named_for r base vlan t past a event).room (state_now r base vlan port t past a) event).probe;
        marks = refl;
      })

  -- a step that an on-link address decides, and the rule for another one
  on_or : (P : Judged → Type 0) (past : List Mark) (rule : Rule) (a : ℕ) (event : Ev) → Given event
      → (HasRow r base vlan port t past a event (answered r base vlan port t past a event) → P (answered r base vlan port t past a event))
      → (r.addresses.method_of vlan a ≡ None → P (drops rule past))
      → P (answered_or r base vlan port t rule past a event)
  on_or P past rule a event given row gone = by_method (r.addresses.method_of vlan a) refl
    where
      by_method : (o : Option Method) → r.addresses.method_of vlan a ≡ o → P (if is_some o then answered r base vlan port t past a event else drops rule past)
      by_method None found = gone found
      by_method (Some m) found = row (row_of past a event given m found)

  told_each : (event : Offered → Ev) (leases : List Offered) (past : List Mark) → AreTold r base vlan port t event leases past (with_events r base vlan port t event leases past)
  told_each event [] past = none
  told_each event (lease ∷ leases) past =
      by_method (r.addresses.method_of vlan lease.address.0) refl (told_each event leases past) (told_each event leases (with_event r base vlan port t lease.address.0 (event lease) past))
    where
      by_method : (o : Option Method) → r.addresses.method_of vlan lease.address.0 ≡ o
          → AreTold r base vlan port t event leases past (with_events r base vlan port t event leases past)
          → AreTold r base vlan port t event leases (with_event r base vlan port t lease.address.0 (event lease) past) (with_events r base vlan port t event leases (with_event r base vlan port t lease.address.0 (event lease) past))
          → AreTold r base vlan port t event (lease ∷ leases) past (with_events r base vlan port t event leases (if is_some o then with_event r base vlan port t lease.address.0 (event lease) past else past))
      by_method None found without with_it = off_link found without
      by_method (Some m) found without with_it = on_link (named_for r base vlan t past lease.address.0 (event lease)).room (ap is_some found) (room_is r base vlan port t times tables past (event lease)) with_it

  reply_by : (past : List Mark) (dhcp : Dhcp) (duid : ArrayVec ℕ) (o : Option Port) → dhcp.kind ≡ 7 → dhcp.duid ≡ Some duid → asker dhcp.tid duid.items (open_requests base vlan past t) ≡ o → IsReply r base vlan port t past dhcp (passes (replied_by r base vlan port t past dhcp duid.items o))
  reply_by past dhcp duid None kind named asked_by = unasked duid kind named asked_by (refl, refl, refl)
  reply_by past dhcp duid (Some q) kind named asked_by =
      met duid q (replied_by r base vlan port t past dhcp duid.items (Some q)) kind named asked_by
      (told_each (λ lease. Lease q lease.valid) dhcp.leases.items (Met vlan t dhcp.tid duid.items ∷ past)) (refl, refl, refl)

  reply_named : (past : List Mark) (dhcp : Dhcp) (d : Option (ArrayVec ℕ)) → dhcp.kind ≡ 7 → dhcp.duid ≡ d → IsReply r base vlan port t past dhcp (passes (replied r base vlan port t past dhcp d))
  reply_named past dhcp None kind named = nameless named (refl, refl, refl)
  reply_named past dhcp (Some duid) kind named = reply_by past dhcp duid (asker dhcp.tid duid.items (open_requests base vlan past t)) kind named refl

  reply_is : (past : List Mark) (dhcp : Dhcp) → IsReply r base vlan port t past dhcp (to_client r base vlan port t past dhcp)
  reply_is past dhcp =
      elim (cases_Bool (dhcp.kind == 7)) [
        | inl seven ↦ subst (λ b. IsReply r base vlan port t past dhcp (passes (replied r base vlan port t past dhcp (if b then dhcp.duid else None)))) (sym seven) (reply_named past dhcp dhcp.duid (eqb-true dhcp.kind 7 seven) refl)
        | inr not ↦ subst (λ b. IsReply r base vlan port t past dhcp (passes (replied r base vlan port t past dhcp (if b then dhcp.duid else None)))) (sym not) (no_reply (λ seven. true_not_false (dhcp.kind == 7) (eq-eqb dhcp.kind 7 seven) not) (refl, refl, refl))
      ]

  module _ (past : List Mark) (read : Read) where
    client_is : (s : Option Dhcp) → dhcp_to 546 read ≡ s → advertised read ≡ None → dhcp_to 547 read ≡ None → SaysMore r base vlan port t past read (to_client_or_other r base vlan port t past s)
    client_is (Some dhcp) is na server = to_clients dhcp (dhcp-shown 546 read dhcp is) (reply_is past dhcp)
    client_is None is na server = nothing (na-unshown read na) (dhcp-unshown 547 read server) (dhcp-unshown 546 read is) (refl, refl, refl)

    asked_is : (dhcp : Dhcp) (duid : ArrayVec ℕ) (o : Option Rule) → ShowsDhcp 547 dhcp read → AsksForAddresses dhcp → dhcp.duid ≡ Some duid → refusal (number_of port) dhcp.tid duid.items (open_requests base vlan past t) ≡ o
        → SaysMore r base vlan port t past read (asked_by r base vlan port t past dhcp.tid duid.items o)
    asked_is dhcp duid (Some rule) shows asks_so named refused = asks_in_vain dhcp duid rule shows asks_so named refused (refl, refl, refl)
    asked_is dhcp duid None shows asks_so named free = asks dhcp duid shows asks_so named free (refl, refl, refl)

    asking_is : (dhcp : Dhcp) (d : Option (ArrayVec ℕ)) → ShowsDhcp 547 dhcp read → AsksForAddresses dhcp → ¬ LetsGo dhcp → gives_up dhcp ≡ false → dhcp.duid ≡ d → SaysMore r base vlan port t past read (to_server_by r base vlan port t past dhcp d)
    asking_is dhcp (Some duid) shows asks_so not_go not named = asked_is dhcp duid (refusal (number_of port) dhcp.tid duid.items (open_requests base vlan past t)) shows asks_so named refl
    asking_is dhcp None shows asks_so not_go not named =
        subst (λ b. SaysMore r base vlan port t past read (passes (if b then with_events r base vlan port t (λ lease. Release port) dhcp.leases.items past else past))) (sym not)
        (asks_nameless dhcp shows asks_so named (refl, refl, refl))

    quiet_is : (dhcp : Dhcp) → ShowsDhcp 547 dhcp read → ¬ AsksForAddresses dhcp → SaysMore r base vlan port t past read (to_server_by r base vlan port t past dhcp None)
    quiet_is dhcp shows not_asks =
        elim (cases_Bool (gives_up dhcp)) [
          | inl gives ↦ subst (λ b. SaysMore r base vlan port t past read (passes (if b then with_events r base vlan port t (λ lease. Release port) dhcp.leases.items past else past))) (sym gives)
              (lets_go dhcp (with_events r base vlan port t (λ lease. Release port) dhcp.leases.items past) shows (giving dhcp gives) (told_each (λ lease. Release port) dhcp.leases.items past) (refl, refl, refl))
          | inr not ↦ subst (λ b. SaysMore r base vlan port t past read (passes (if b then with_events r base vlan port t (λ lease. Release port) dhcp.leases.items past else past))) (sym not)
              (cases.to_server dhcp shows not_asks (not_giving dhcp not) (refl, refl, refl))
        ]

    asks-keeps : (dhcp : Dhcp) → is_asking dhcp ≡ true → gives_up dhcp ≡ false
    asks-keeps dhcp is = search rules

    server_is : (dhcp : Dhcp) → ShowsDhcp 547 dhcp read → SaysMore r base vlan port t past read (to_server r base vlan port t past dhcp)
    server_is dhcp shows =
        elim (cases_Bool (is_asking dhcp)) [
          | inl is ↦ subst (λ b. SaysMore r base vlan port t past read (to_server_by r base vlan port t past dhcp (if b then dhcp.duid else None))) (sym is)
              (asking_is dhcp dhcp.duid shows (asking dhcp is) (not_giving dhcp (asks-keeps dhcp is)) (asks-keeps dhcp is) refl)
          | inr not ↦ subst (λ b. SaysMore r base vlan port t past read (to_server_by r base vlan port t past dhcp (if b then dhcp.duid else None))) (sym not)
              (quiet_is dhcp shows (not_asking dhcp not))
        ]

    dhcp_is : (s : Option Dhcp) → dhcp_to 547 read ≡ s → advertised read ≡ None → SaysMore r base vlan port t past read (dhcp_or_other r base vlan port t past read s)
    dhcp_is (Some dhcp) is na = server_is dhcp (dhcp-shown 547 read dhcp is)
    dhcp_is None is na = client_is (dhcp_to 546 read) refl na is

    message_is : (s : Option ℕ) → advertised read ≡ s → SaysMore r base vlan port t past read (message_by r base vlan port t past read s)
    message_is (Some target) is =
        on_or (SaysMore r base vlan port t past read) past NaTarget target (Na port) (λ m k t room s. na-given m k t room s port)
        (λ row. advertises target (na-shown read target is) row)
        (λ off_so. advertises_off_link target (na-shown read target is) off_so (refl, refl, refl))
    message_is None is = dhcp_is (dhcp_to 547 read) refl is

  not_passing : (v : Verdict) → is_passed v ≡ false → ¬ IsPass (Some v)
  not_passing (Pass scope) is passed = true_not_false true refl is
  not_passing (Drop rule) is passed = passed

  now_passing : (v : Verdict) → is_passed v ≡ true → IsPass (Some v)
  now_passing (Pass scope) is = tt
  now_passing (Drop rule) is = none_some is

  module _ (past : List Mark) (ip : Ip) (read : Read) where
    excepted_is : (zero : ip.src.0 ≡ 0) → dad_target read ≡ None → IsValidated r base vlan port t past ip read (if is_router_solicitation read || is_listener_message ip read then comes_to (Pass TrustedOnly) past else drops UnspecifiedSource past)
    excepted_is zero none_asked = by_router (is_router_solicitation read) refl (is_listener_message ip read) refl
      where
        by_router : (b : Bool) → is_router_solicitation read ≡ b → (l : Bool) → is_listener_message ip read ≡ l → IsValidated r base vlan port t past ip read (if b || l then comes_to (Pass TrustedOnly) past else drops UnspecifiedSource past)
        by_router true is l is_l = cases.solicits_routers zero (rs-shown read is) (refl, refl, refl)
        by_router false is true is_l = cases.listens zero (listener-shown ip read is_l) (refl, refl, refl)
        by_router false is false is_l = cases.unspecified zero (dad-unshown read none_asked) (rs-unshown read is) (listener-unshown ip read is_l) (refl, refl, refl)

    unspecified_is : ip.src.0 ≡ 0 → (s : Option ℕ) → dad_target read ≡ s → IsValidated r base vlan port t past ip read (unspecified_by r base vlan port t past ip read s)
    unspecified_is zero (Some target) is =
        on_or (IsValidated r base vlan port t past ip read) past OffLink target (Dad port) (λ m k t room s. dad-given m k t room s port)
        (λ row. cases.detects target zero (dad-shown read target is) row)
        (λ gone. cases.detects_off_link target zero (dad-shown read target is) gone (refl, refl, refl))
    unspecified_is zero None is = excepted_is zero is

    followed_is : ¬ (ip.src.0 ≡ 0) → (sent : Judged) → HasRow r base vlan port t past ip.src.0 (Sent port) sent → IsValidated r base vlan port t past ip read (followed r base vlan port t sent read)
    followed_is source sent row =
        elim (cases_Bool (is_passed sent.verdict)) [
          | inl is ↦ subst (λ b. IsValidated r base vlan port t past ip read (if b then message r base vlan port t sent.marks read else sent)) (sym is)
              (cases.let_through sent source row (now_passing sent.verdict is) (message_is sent.marks read (advertised read) refl))
          | inr not ↦ subst (λ b. IsValidated r base vlan port t past ip read (if b then message r base vlan port t sent.marks read else sent)) (sym not)
              (cases.stopped source row (not_passing sent.verdict not))
        ]

    sourced_is : ¬ (ip.src.0 ≡ 0) → IsValidated r base vlan port t past ip read (sourced r base vlan port t past ip read)
    sourced_is source =
        on_or (λ sent. IsValidated r base vlan port t past ip read (followed r base vlan port t sent read)) past OffLink ip.src.0 (Sent port) (λ m k t room s. sent-given m k t room s port)
        (λ row. followed_is source (answered r base vlan port t past ip.src.0 (Sent port)) row)
        (λ gone. cases.off_link source gone (refl, refl, refl))

    packet_is : IsValidated r base vlan port t past ip read (if ip.src.0 == 0 then from_unspecified r base vlan port t past ip read else sourced r base vlan port t past ip read)
    packet_is =
        elim (cases_Bool (ip.src.0 == 0)) [
          | inl zero ↦ subst (λ b. IsValidated r base vlan port t past ip read (if b then from_unspecified r base vlan port t past ip read else sourced r base vlan port t past ip read)) (sym zero)
              (unspecified_is (eqb-true ip.src.0 0 zero) (dad_target read) refl)
          | inr not ↦ subst (λ b. IsValidated r base vlan port t past ip read (if b then from_unspecified r base vlan port t past ip read else sourced r base vlan port t past ip read)) (sym not)
              (sourced_is (λ zero. true_not_false (ip.src.0 == 0) (eq-eqb ip.src.0 0 zero) not))
        ]

  module _ (past : List Mark) (read : Read) where
    heard_client : (s : Option Dhcp) → dhcp_to 546 read ≡ s → dad_target read ≡ None → advertised read ≡ None → IsHeard r base vlan port t past read (to_client_or_other r base vlan port t past s)
    heard_client (Some dhcp) is dad na = cases.to_client dhcp (dhcp-shown 546 read dhcp is) (reply_is past dhcp)
    heard_client None is dad na = cases.nothing (dad-unshown read dad) (na-unshown read na) (dhcp-unshown 546 read is) (refl, refl, refl)

    heard_if : (P : Judged → Type 0) (a : ℕ) (event : Ev) → Given event
        → (HasRow r base vlan port t past a event (answered r base vlan port t past a event) → P (answered r base vlan port t past a event))
        → (r.addresses.method_of vlan a ≡ None → P (passes past))
        → P (if is_on_link r base vlan port t a then answered r base vlan port t past a event else passes past)
    heard_if P a event given row gone = by_method (r.addresses.method_of vlan a) refl
      where
        by_method : (o : Option Method) → r.addresses.method_of vlan a ≡ o → P (if is_some o then answered r base vlan port t past a event else passes past)
        by_method None found = gone found
        by_method (Some m) found = row (row_of past a event given m found)

    heard_na : (s : Option ℕ) → advertised read ≡ s → dad_target read ≡ None → IsHeard r base vlan port t past read (heard_or r base vlan port t past s TpNa (to_client_or_other r base vlan port t past (dhcp_to 546 read)))
    heard_na (Some target) is dad =
        heard_if (IsHeard r base vlan port t past read) target TpNa (λ m k t room s. trusted_na-given m k t room s)
        (λ row. cases.advertises target (na-shown read target is) row)
        (λ gone. cases.off_link target (inr (na-shown read target is)) gone (refl, refl, refl))
    heard_na None is dad = heard_client (dhcp_to 546 read) refl dad is

    heard_dad : (s : Option ℕ) → dad_target read ≡ s → IsHeard r base vlan port t past read (heard_or r base vlan port t past s TpDad (heard_or r base vlan port t past (advertised read) TpNa (to_client_or_other r base vlan port t past (dhcp_to 546 read))))
    heard_dad (Some target) is =
        heard_if (IsHeard r base vlan port t past read) target TpDad (λ m k t room s. trusted_dad-given m k t room s)
        (λ row. cases.detects target (dad-shown read target is) row)
        (λ gone. cases.off_link target (inl (dad-shown read target is)) gone (refl, refl, refl))
    heard_dad None is = heard_na (advertised read) refl is

  module _ (past : List Mark) (class : Class) (free : guard_of (r.role_of (number_of port)) r.drop_unknown class ≡ None) (on : r.validates ≡ true) where
    validated_is : (c : Class) → class ≡ c → (r.role_of (number_of port) ≢ roles.Trusted) → IsCase r base vlan port t past class (validated r base vlan port t past c)
    validated_is Runt is host = other free on (subst IsOtherFrame (sym is) tt) (refl, refl, refl)
    validated_is (Tagged eth) is host = other free on (subst IsOtherFrame (sym is) tt) (refl, refl, refl)
    validated_is (Other eth) is host = other free on (subst IsOtherFrame (sym is) tt) (refl, refl, refl)
    validated_is (BadIp eth) is host = other free on (subst IsOtherFrame (sym is) tt) (refl, refl, refl)
    validated_is (Ip6 eth ip read) is host = by_source eth ip read free on host is (packet_is past ip read)

    trusted_is : (c : Class) → class ≡ c → r.role_of (number_of port) ≡ roles.Trusted → IsCase r base vlan port t past class (trusted r base vlan port t past c)
    trusted_is Runt is host = other free on (subst IsOtherFrame (sym is) tt) (refl, refl, refl)
    trusted_is (Tagged eth) is host = other free on (subst IsOtherFrame (sym is) tt) (refl, refl, refl)
    trusted_is (Other eth) is host = other free on (subst IsOtherFrame (sym is) tt) (refl, refl, refl)
    trusted_is (BadIp eth) is host = other free on (subst IsOtherFrame (sym is) tt) (refl, refl, refl)
    trusted_is (Ip6 eth ip read) is host = heard eth ip read free on host is (heard_dad past read (dad_target read) refl)

    for_role : (role : Role) → r.role_of (number_of port) ≡ role → IsCase r base vlan port t past class (judged_for r base vlan port t past class role)
    for_role roles.Host is = validated_is class refl (λ trusts. true_not_false true refl (ap is_validating (sym is ∙ trusts)))
    for_role roles.Server is = validated_is class refl (λ trusts. true_not_false true refl (ap is_validating (sym is ∙ trusts)))
    for_role roles.Trusted is = trusted_is class refl is

  if_on : (past : List Mark) (class : Class) → guard_of (r.role_of (number_of port)) r.drop_unknown class ≡ None → (b : Bool) → r.validates ≡ b → IsCase r base vlan port t past class (if b then judged_for r base vlan port t past class (r.role_of (number_of port)) else passes past)
  if_on past class free true on = for_role past class free on (r.role_of (number_of port)) refl
  if_on past class free false is_off = off free is_off (refl, refl, refl)

  by_guard : (past : List Mark) (class : Class) (g : Option Rule) → guard_of (r.role_of (number_of port)) r.drop_unknown class ≡ g → IsCase r base vlan port t past class (judged_by r base vlan port t past class g)
  by_guard past class (Some rule) is = guarded rule is (refl, refl, refl)
  by_guard past class None is = if_on past class is r.validates refl

  pub case_of : (past : List Mark) (class : Class) → IsCase r base vlan port t past class (judged r base vlan port t past class)
  unfolding judged
  case_of past class = by_guard past class (guard_of (r.role_of (number_of port)) r.drop_unknown class) refl
