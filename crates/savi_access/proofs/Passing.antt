-- A packet passes exactly where it has access.
use Rattle.std.proofs.Common.{◌≡◌, ◌≢◌, ℕ, ◌≤◌, ◌^◌, ◌==◌, ◌||◌, true, false, Option, Some, None, IsSome, IsSomeAnd, is_some, IsTrue, if◌then◌else◌, List, refl, sym, ap, ◌∙◌, subst, inl, inr, ◌⊎◌, ◌↔◌, arith, rules}
use Rattle.std.proofs.lemmas.Bool.{cases_Bool, eq-eqb, eqb-true}
use Rattle.arrayvec.specs.ArrayVec.{ArrayVec}
use Rattle.savi_kinds.specs.declared.port.Port.{Port}
use Rattle.savi_kinds.specs.declared.plan.Method.{Method}
use Rattle.savi_kinds.specs.declared.plan.Role.{Role}
use Rattle.savi_kinds.specs.declared.plan.Role.TheVariants as roles
use Rattle.savi_kinds.specs.declared.verdict.Rule.{Rule}
use Rattle.savi_kinds.specs.declared.verdict.Rule.TheVariants.{NaTarget, OffLink, BadIpv6, UnspecifiedSource}
use Rattle.savi_kinds.specs.declared.verdict.Scope.TheVariants.{TrustedOnly}
use Rattle.savi_kinds.specs.declared.verdict.Verdict.{Verdict}
use Rattle.savi_kinds.specs.declared.verdict.Verdict.TheVariants.{Pass, Drop}
use Rattle.savi_kinds.specs.Ports.{number_of}
use Rattle.v6_chain.specs.declared.packet.Ip.{Ip}
use Rattle.eth_frame.specs.declared.header.Eth.{Eth}
use Rattle.dhcp6_read.specs.declared.message.Dhcp.{Dhcp}
use Rattle.frame_class.specs.declared.classes.Class.{Class}
use Rattle.frame_class.specs.declared.classes.Class.TheVariants.{Runt, Tagged, Other, BadIp, Ip6}
use Rattle.frame_class.specs.declared.classes.Read.{Read}
use Rattle.ra_guard.specs.Guard.{Applies, IsFirst}
use Rattle.ra_guard.specs.GuardOf.{guard_of}
use Rattle.ra_guard.proofs.RuleOf.{guard_is}
use Rattle.fcfs_states.specs.declared.event.Ev.{Ev}
use Rattle.fcfs_states.specs.declared.event.Ev.TheVariants.{Sent, Dad, Na}
use Rattle.dhcp_states.specs.Requests.{refusal}
use Rattle.mix_rules.specs.Next.{IsPass, IsPassing}
use Rattle.savi_access.specs.Rules.{AccessRules, AccessBase, IsAccessBase}
use Rattle.savi_access.specs.Marks.{Mark, newest_moment, open_requests}
use Rattle.savi_access.specs.Legal.{AreMarks}
use Rattle.savi_access.specs.Frames.{dad_target, advertised, is_router_solicitation, is_listener_message, dhcp_to, asking_duid}
use Rattle.savi_access.specs.Judged.{Judged, judged, judged_by, judged_for, validated, from_unspecified, unspecified_by, sourced, followed, message, message_by, dhcp_or_other, to_server_by, to_client_or_other, passes, asked_by, answered, answered_or, with_event, answer_to, is_passed, comes_to, drops}
use Rattle.savi_access.specs.Access.{IsIpv6, IsLiveHere, AdvertisesOther, IsRefusedRequest, IsPermitted, HasAccess}
use Rattle.savi_access.proofs.Keeping.{told_follows}
use Rattle.savi_access.proofs.States.{true_not_false, none_some, state_now, alive_or_not, off_link, sent_passes, na_passes, dad_passes, same_target}

-- a frame passes
abbrev pub Passes : Judged → Type 0
Passes judged = IsPass (Some judged.verdict)

-- what a neighbor solicitation, an exception or an advertisement is, it is nothing else
solicits_alone : (read : Read) (target : ℕ) → dad_target read ≡ Some target → (advertised read ≡ None) × (dhcp_to 547 read ≡ None)
solicits_alone read target is = search rules

excepted_alone : (ip : Ip) (read : Read) → (is_router_solicitation read || is_listener_message ip read) ≡ true → (advertised read ≡ None) × (dhcp_to 547 read ≡ None)
excepted_alone ip read is = search rules

not_excepted : (ip : Ip) (read : Read) (target : ℕ) → dad_target read ≡ Some target → ¬ (IsTrue (is_router_solicitation read) ⊎ IsTrue (is_listener_message ip read))
not_excepted ip read target is = search rules

excepted_either : (ip : Ip) (read : Read) → (is_router_solicitation read || is_listener_message ip read) ≡ true → IsTrue (is_router_solicitation read) ⊎ IsTrue (is_listener_message ip read)
excepted_either ip read is = search rules

either_excepted : (ip : Ip) (read : Read) → IsTrue (is_router_solicitation read) ⊎ IsTrue (is_listener_message ip read) → (is_router_solicitation read || is_listener_message ip read) ≡ true
either_excepted ip read is = search rules

advertises_alone : (read : Read) (target : ℕ) → advertised read ≡ Some target → dhcp_to 547 read ≡ None
advertises_alone read target is = search rules

passed_is : (v : Verdict) → IsPass (Some v) → is_passed v ≡ true
passed_is (Pass scope) passed = refl
passed_is (Drop rule) passed = absurd passed

is_passing : (v : Verdict) → is_passed v ≡ true → IsPass (Some v)
is_passing (Pass scope) is = tt
is_passing (Drop rule) is = none_some is

module _ (r : AccessRules) (base : AccessBase) (is : IsAccessBase r base) (vlan : ℕ) (port : Port) (t : ℕ) (early : t ≤ 2 ^ 62) (past : List Mark) (right : AreMarks r base past) (after : newest_moment base past ≤ t) (of_vlan : r.addresses.vlan_of (number_of port) ≡ Some vlan) where
  -- the message rules on a packet that no guard's rule stops, by what it shows
  abbrev pub Wrong : Read → Type 0
  Wrong read = AdvertisesOther r base vlan port t past read ⊎ IsRefusedRequest r base vlan port t past read

  none_wrong : (read : Read) → (advertised read ≡ None) × (dhcp_to 547 read ≡ None) → ¬ Wrong read
  none_wrong read none (inl other) = subst (λ o. IsSomeAnd o (λ target. ¬ IsLiveHere r base vlan port t past target)) none.0 other
  none_wrong read none (inr refused) = subst (λ o. IsSomeAnd o (λ dhcp. IsSomeAnd (asking_duid dhcp) (λ duid. IsSome (refusal (number_of port) dhcp.tid duid.items (open_requests base vlan past t))))) none.1 refused

  or_cases_at : (marks : List Mark) (o : Option Method) (rule : Rule) (x : Judged) → (Passes (if is_some o then x else drops rule marks) ↔ (IsSome o × Passes x))
  or_cases_at marks None rule x = (λ passed. absurd passed, λ both. absurd (none_some both.0))
  or_cases_at marks (Some m) rule x = (λ passed. (refl, passed), λ both. both.1)

  -- an event that only an on-link address has
  or_passes : (rule : Rule) (a : ℕ) (event : Ev) → (Passes (answered_or r base vlan port t rule past a event) ↔ (IsSome (r.addresses.method_of vlan a) × Passes (answered r base vlan port t past a event)))
  or_passes rule a event = or_cases_at past (r.addresses.method_of vlan a) rule (answered r base vlan port t past a event)

  dad_on_link : (o : Option Method) (a : ℕ) → r.addresses.method_of vlan a ≡ o → IsSome o → (Passes (answered r base vlan port t past a (Dad port)) ↔ IsPassing (answer_to r base vlan port t past a (Dad port)))
  dad_on_link None a found on = absurd (none_some on)
  dad_on_link (Some m) a found on = dad_passes r base is vlan port t early past a m found

  sent_on_link : (o : Option Method) (a : ℕ) → r.addresses.method_of vlan a ≡ o → IsSome o → (Passes (answered r base vlan port t past a (Sent port)) ↔ IsLiveHere r base vlan port t past a)
  sent_on_link None a found on = absurd (none_some on)
  sent_on_link (Some m) a found on = sent_passes r base is vlan port t early past right after a m found

  live_on_link : (o : Option Method) (a : ℕ) → r.addresses.method_of vlan a ≡ o → IsLiveHere r base vlan port t past a → IsSome o
  live_on_link None a off live = absurd (off_link r base is vlan port t early past right after a off live)
  live_on_link (Some m) a found live = refl

  -- a packet from an on-link address passes this step exactly where the address is live
  sent_is : (a : ℕ) → (Passes (answered_or r base vlan port t OffLink past a (Sent port)) ↔ IsLiveHere r base vlan port t past a)
  sent_is a = (
    λ passed. let both = (or_passes OffLink a (Sent port)).0 passed in (sent_on_link (r.addresses.method_of vlan a) a refl both.0).0 both.1,
    λ live. let on = live_on_link (r.addresses.method_of vlan a) a refl live in (or_passes OffLink a (Sent port)).1 (on, (sent_on_link (r.addresses.method_of vlan a) a refl on).1 live),
  )

  -- a packet without a source address
  module _ (ip : Ip) (read : Read) (zero_source : ip.src.0 ≡ 0) (off : r.addresses.method_of vlan 0 ≡ None) where
    abbrev pub Allowed : Option ℕ → Type 0
    Allowed s =
        (¬ (IsSome {T = Rule} None ⊎ Wrong read))
        × (IsLiveHere r base vlan port t past ip.src.0
        ⊎ ((ip.src.0 ≡ 0)
        × (IsSomeAnd s (λ target. IsSome (r.addresses.method_of vlan target) × IsPassing (answer_to r base vlan port t past target (Dad port)))
        ⊎ (IsTrue (is_router_solicitation read) ⊎ IsTrue (is_listener_message ip read)))))

    no_life : ¬ IsLiveHere r base vlan port t past ip.src.0
    no_life live = off_link r base is vlan port t early past right after 0 off (subst (λ a. IsLiveHere r base vlan port t past a) zero_source live)

    right_kind : ¬ Wrong read → ¬ (IsSome {T = Rule} None ⊎ Wrong read)
    right_kind not (inl never) = none_some never
    right_kind not (inr wrong) = not wrong

    unspecified_is : (s : Option ℕ) → dad_target read ≡ s → (Passes (unspecified_by r base vlan port t past ip read s) ↔ Allowed s)
    unspecified_is (Some target) asks = (
      λ passed.
          let both = (or_passes OffLink target (Dad port)).0 passed in
          (right_kind (none_wrong read (solicits_alone read target asks)), inr (zero_source, inl (both.0, (dad_on_link (r.addresses.method_of vlan target) target refl both.0).0 both.1))),
      λ allowed. permitted allowed.1,
    )
      where
        permitted : (IsLiveHere r base vlan port t past ip.src.0 ⊎ ((ip.src.0 ≡ 0) × ((IsSome (r.addresses.method_of vlan target) × IsPassing (answer_to r base vlan port t past target (Dad port))) ⊎ (IsTrue (is_router_solicitation read) ⊎ IsTrue (is_listener_message ip read))))) → Passes (answered_or r base vlan port t OffLink past target (Dad port))
        permitted (inl live) = absurd (no_life live)
        permitted (inr (_, inl both)) = (or_passes OffLink target (Dad port)).1 (both.0, (dad_on_link (r.addresses.method_of vlan target) target refl both.0).1 both.1)
        permitted (inr (_, inr other)) = absurd (not_excepted ip read target asks other)
    unspecified_is None asks =
        elim (cases_Bool (is_router_solicitation read || is_listener_message ip read)) [
          | inl excepted ↦ (
            λ passed. (right_kind (none_wrong read (excepted_alone ip read excepted)), inr (zero_source, inr (excepted_either ip read excepted))),
            λ allowed. subst (λ b. Passes (if b then comes_to (Pass TrustedOnly) past else drops UnspecifiedSource past)) (sym excepted) tt,
          )
          | inr not ↦ (
            λ passed. absurd (subst (λ b. Passes (if b then comes_to (Pass TrustedOnly) past else drops UnspecifiedSource past)) not passed),
            λ allowed. absurd (refused not allowed.1),
          )
        ]
      where
        refused : (is_router_solicitation read || is_listener_message ip read) ≡ false → ¬ (IsLiveHere r base vlan port t past ip.src.0 ⊎ ((ip.src.0 ≡ 0) × (⊥ ⊎ (IsTrue (is_router_solicitation read) ⊎ IsTrue (is_listener_message ip read)))))
        refused not (inl live) = no_life live
        refused not (inr (_, inl never)) = never
        refused not (inr (_, inr other)) = true_not_false (is_router_solicitation read || is_listener_message ip read) (either_excepted ip read other) not

  -- a packet from an address that is live: what it says decides
  module _ (ip : Ip) (read : Read) (live : IsLiveHere r base vlan port t past ip.src.0) where
    abbrev later : List Mark
    later = with_event r base vlan port t ip.src.0 (Sent port) past

    on : IsSome (r.addresses.method_of vlan ip.src.0)
    on = live_on_link (r.addresses.method_of vlan ip.src.0) ip.src.0 refl live

    source_same : (b : ℕ) → (IsLiveHere r base vlan port t later b ↔ IsLiveHere r base vlan port t past b)
    source_same b = same_by (r.addresses.method_of vlan ip.src.0) refl on
      where
        same_by : (o : Option Method) → r.addresses.method_of vlan ip.src.0 ≡ o → IsSome o → (IsLiveHere r base vlan port t later b ↔ IsLiveHere r base vlan port t past b)
        same_by None found on_so = absurd (none_some on_so)
        same_by (Some m) found on_so = same_target r base is vlan port t early past right after ip.src.0 m found live b

    later_right : AreMarks r base later
    later_right = (told_follows r base is vlan port t early past right after ip.src.0 (Sent port) on tt of_vlan tt, right)

    later_after : newest_moment base later ≤ t
    later_after = omega arith

    na_on_link : (o : Option Method) (a : ℕ) → r.addresses.method_of vlan a ≡ o → IsSome o → (Passes (answered r base vlan port t later a (Na port)) ↔ IsLiveHere r base vlan port t past a)
    na_on_link None a found on_so = absurd (none_some on_so)
    na_on_link (Some m) a found on_so = (
      λ passed. (source_same a).0 ((na_passes r base is vlan port t early later later_right later_after a m found).0 passed),
      λ lives. (na_passes r base is vlan port t early later later_right later_after a m found).1 ((source_same a).1 lives),
    )

    -- an advertisement passes exactly where its target is live at the port
    na_is : (target : ℕ) → (Passes (answered_or r base vlan port t NaTarget later target (Na port)) ↔ IsLiveHere r base vlan port t past target)
    na_is target = (
      λ passed. let both = (or_cases_at later (r.addresses.method_of vlan target) NaTarget (answered r base vlan port t later target (Na port))).0 passed in (na_on_link (r.addresses.method_of vlan target) target refl both.0).0 both.1,
      λ lives. let on_so = live_on_link (r.addresses.method_of vlan target) target refl lives in (or_cases_at later (r.addresses.method_of vlan target) NaTarget (answered r base vlan port t later target (Na port))).1 (on_so, (na_on_link (r.addresses.method_of vlan target) target refl on_so).1 lives),
    )

    -- a request passes exactly where it isn't refused
    asked_is : (tid : ℕ) (duid : List ℕ) (o : Option Rule) → (Passes (asked_by r base vlan port t later tid duid o) ↔ ¬ IsSome o)
    asked_is tid duid (Some rule) = (λ passed. absurd passed, λ none. absurd (none refl))
    asked_is tid duid None = (λ passed. λ some. none_some some, λ none. tt)

    to_server_is : (dhcp : Dhcp) (s : Option (ArrayVec ℕ)) → (Passes (to_server_by r base vlan port t later dhcp s) ↔ ¬ IsSomeAnd s (λ duid. IsSome (refusal (number_of port) dhcp.tid duid.items (open_requests base vlan past t))))
    to_server_is dhcp (Some duid) = asked_is dhcp.tid duid.items (refusal (number_of port) dhcp.tid duid.items (open_requests base vlan later t))
    to_server_is dhcp None = (λ passed. λ none. none, λ none. tt)

    client_passes : (s : Option Dhcp) → Passes (to_client_or_other r base vlan port t later s)
    client_passes (Some dhcp) = tt
    client_passes None = tt

    abbrev pub Refused : Option Dhcp → Type 0
    Refused s = IsSomeAnd s (λ dhcp. IsSomeAnd (asking_duid dhcp) (λ duid. IsSome (refusal (number_of port) dhcp.tid duid.items (open_requests base vlan past t))))

    dhcp_is : (s : Option Dhcp) → (Passes (dhcp_or_other r base vlan port t later read s) ↔ ¬ Refused s)
    dhcp_is (Some dhcp) = to_server_is dhcp (asking_duid dhcp)
    dhcp_is None = (λ passed. λ none. none, λ none. client_passes (dhcp_to 546 read))

    abbrev pub Other_target : Option ℕ → Type 0
    Other_target s = IsSomeAnd s (λ target. ¬ IsLiveHere r base vlan port t past target)

    still_live : (target : ℕ) → ¬ ¬ IsLiveHere r base vlan port t past target → IsLiveHere r base vlan port t past target
    still_live target never =
        elim (alive_or_not (state_now r base is vlan port t early past target) port) [
          | inl lives ↦ lives
          | inr dead ↦ absurd (never dead)
        ]

    message_is : (s : Option ℕ) → advertised read ≡ s → (Passes (message_by r base vlan port t later read s) ↔ ¬ (Other_target s ⊎ Refused (dhcp_to 547 read)))
    message_is (Some target) says = (
      λ passed. λ wrong. not_both passed wrong,
      λ none. (na_is target).1 (still_live target (λ dead. none (inl dead))),
    )
      where
        not_both : Passes (answered_or r base vlan port t NaTarget later target (Na port)) → (¬ IsLiveHere r base vlan port t past target) ⊎ Refused (dhcp_to 547 read) → ⊥
        not_both passed (inl dead) = dead ((na_is target).0 passed)
        not_both passed (inr refused) = subst Refused (advertises_alone read target says) refused
    message_is None says = (
      λ passed. λ wrong. not_both passed wrong,
      λ none. (dhcp_is (dhcp_to 547 read)).1 (λ refused. none (inr refused)),
    )
      where
        not_both : Passes (dhcp_or_other r base vlan port t later read (dhcp_to 547 read)) → ⊥ ⊎ Refused (dhcp_to 547 read) → ⊥
        not_both passed (inl never) = never
        not_both passed (inr refused) = (dhcp_is (dhcp_to 547 read)).0 passed refused

  -- a packet from an address
  module _ (ip : Ip) (read : Read) (source : (ip.src.0 ≡ 0) → ⊥) where
    abbrev pub Decided : Type 0
    Decided = (¬ (IsSome {T = Rule} None ⊎ Wrong read)) × (IsLiveHere r base vlan port t past ip.src.0 ⊎ IsPermitted r base vlan port t past ip read)

    abbrev pub first : Judged
    first = answered r base vlan port t past ip.src.0 (Sent port)

    live_follows : (live : IsLiveHere r base vlan port t past ip.src.0) → followed r base vlan port t (answered_or r base vlan port t OffLink past ip.src.0 (Sent port)) read ≡ message r base vlan port t (later ip read live) read
    live_follows live =
        let on = live_on_link (r.addresses.method_of vlan ip.src.0) ip.src.0 refl live in
        let passed : Passes first = (sent_on_link (r.addresses.method_of vlan ip.src.0) ip.src.0 refl on).1 live in
        ap (λ b. followed r base vlan port t (if b then first else drops OffLink past) read) on
        ∙ ap (λ b. if b then message r base vlan port t (later ip read live) read else first) (passed_is first.verdict passed)

    dead_stops : (j : Judged) → ¬ Passes j → ¬ Passes (followed r base vlan port t j read)
    dead_stops j stopped passed =
        elim (cases_Bool (is_passed j.verdict)) [
          | inl is_so ↦ stopped (is_passing j.verdict is_so)
          | inr not ↦ stopped (subst (λ b. Passes (if b then message r base vlan port t j.marks read else j)) not passed)
        ]

    followed_is : Passes (followed r base vlan port t (answered_or r base vlan port t OffLink past ip.src.0 (Sent port)) read) ↔ Decided
    followed_is =
        elim (alive_or_not (state_now r base is vlan port t early past ip.src.0) port) [
          | inl live ↦ (
            λ passed. (either_wrong ((message_is ip read live (advertised read) refl).0 (subst Passes (live_follows live) passed)), inl live),
            λ allowed. subst Passes (sym (live_follows live)) ((message_is ip read live (advertised read) refl).1 (λ wrong. allowed.0 (inr wrong))),
          )
          | inr dead ↦ (
            λ passed. absurd (dead_stops (answered_or r base vlan port t OffLink past ip.src.0 (Sent port)) (λ passes_so. dead ((sent_is ip.src.0).0 passes_so)) passed),
            λ allowed. absurd (not_dead dead allowed.1),
          )
        ]
      where
        either_wrong : ¬ Wrong read → ¬ (IsSome {T = Rule} None ⊎ Wrong read)
        either_wrong not (inl never) = none_some never
        either_wrong not (inr wrong) = not wrong

        not_dead : ¬ IsLiveHere r base vlan port t past ip.src.0 → ¬ (IsLiveHere r base vlan port t past ip.src.0 ⊎ IsPermitted r base vlan port t past ip read)
        not_dead dead (inl live) = dead live
        not_dead dead (inr permitted) = source permitted.0

  validated_is : (eth : Eth) (ip : Ip) (read : Read) → r.addresses.method_of vlan 0 ≡ None → (Passes (validated r base vlan port t past (Ip6 eth ip read)) ↔ ((¬ (IsSome {T = Rule} None ⊎ Wrong read)) × (IsLiveHere r base vlan port t past ip.src.0 ⊎ IsPermitted r base vlan port t past ip read)))
  validated_is eth ip read off =
      elim (cases_Bool (ip.src.0 == 0)) [
        | inl zero ↦ subst (λ b. Passes (if b then from_unspecified r base vlan port t past ip read else sourced r base vlan port t past ip read) ↔ ((¬ (IsSome {T = Rule} None ⊎ Wrong read)) × (IsLiveHere r base vlan port t past ip.src.0 ⊎ IsPermitted r base vlan port t past ip read))) (sym zero)
            (unspecified_is ip read (eqb-true ip.src.0 0 zero) off (dad_target read) refl)
        | inr other ↦ subst (λ b. Passes (if b then from_unspecified r base vlan port t past ip read else sourced r base vlan port t past ip read) ↔ ((¬ (IsSome {T = Rule} None ⊎ Wrong read)) × (IsLiveHere r base vlan port t past ip.src.0 ⊎ IsPermitted r base vlan port t past ip read))) (sym other)
            (followed_is ip read (λ zero. true_not_false (ip.src.0 == 0) (eq-eqb ip.src.0 0 zero) other))
      ]

  module _ (on : r.validates ≡ true) (off : r.addresses.method_of vlan 0 ≡ None) where
    by_role : (role : Role) (class : Class) → (role ≢ roles.Trusted) → judged_for r base vlan port t past class role ≡ validated r base vlan port t past class
    by_role roles.Host class host = refl
    by_role roles.Server class host = refl
    by_role roles.Trusted class host = absurd (host refl)

    by_guard : (g : Option Rule) (eth : Eth) (ip : Ip) (read : Read) → r.role_of (number_of port) ≢ roles.Trusted
        → (Passes (judged_by r base vlan port t past (Ip6 eth ip read) g) ↔ ((¬ (IsSome g ⊎ Wrong read)) × (IsLiveHere r base vlan port t past ip.src.0 ⊎ IsPermitted r base vlan port t past ip read)))
    by_guard (Some rule) eth ip read host = (λ passed. absurd passed, λ allowed. absurd (allowed.0 (inl refl)))
    by_guard None eth ip read host =
        subst (λ (j : Judged). Passes j ↔ ((¬ (IsSome {T = Rule} None ⊎ Wrong read)) × (IsLiveHere r base vlan port t past ip.src.0 ⊎ IsPermitted r base vlan port t past ip read)))
        (sym (ap (λ b. if b then judged_for r base vlan port t past (Ip6 eth ip read) (r.role_of (number_of port)) else passes past) on ∙ by_role (r.role_of (number_of port)) (Ip6 eth ip read) host))
        (validated_is eth ip read off)

    bad_stops : (g : Option Rule) (eth : Eth) → IsFirst (Applies (r.role_of (number_of port)) r.drop_unknown (BadIp eth)) g → r.role_of (number_of port) ≢ roles.Trusted → ¬ Passes (judged_by r base vlan port t past (BadIp eth) g)
    bad_stops (Some rule) eth first host passed = passed
    bad_stops None eth first host passed = first BadIpv6 (host, tt)

    pub accessed : (class : Class) → r.role_of (number_of port) ≢ roles.Trusted → IsIpv6 class → (Passes (judged r base vlan port t past class) ↔ HasAccess r base vlan port t past false class)
    unfolding judged
    accessed Runt host ipv6 = absurd ipv6
    accessed (Tagged eth) host ipv6 = absurd ipv6
    accessed (Other eth) host ipv6 = absurd ipv6
    accessed (BadIp eth) host ipv6 = (λ passed. bad_stops (guard_of (r.role_of (number_of port)) r.drop_unknown (BadIp eth)) eth (guard_is (r.role_of (number_of port)) r.drop_unknown (BadIp eth)) host passed, λ never. absurd never)
    accessed (Ip6 eth ip read) host ipv6 =
        let is_so = by_guard (guard_of (r.role_of (number_of port)) r.drop_unknown (Ip6 eth ip read)) eth ip read host in
        (λ passed. (refl, is_so.0 passed), λ has. is_so.1 has.1)
