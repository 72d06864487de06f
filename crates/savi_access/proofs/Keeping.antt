-- What a frame tells may come after what was told before.
use Rattle.std.proofs.Common.{◌≡◌, ◌≢◌, ℕ, ◌≤◌, ◌<◌, ◌^◌, ◌==◌, ◌||◌, Bool, true, false, not, Option, Some, None, IsSome, is_some, if◌then◌else◌, List, [], ◌∷◌, find, All, refl, sym, ap, subst, inl, inr, arith}
use Rattle.std.specs.Option.{option_map}
use Rattle.std.proofs.lemmas.Bool.{cases_Bool, eqb-true}
use Rattle.std.proofs.lemmas.List.Elements.{All-filter, All-push, All-cons, All-nil, All-weaker, All-head, All-tail}
use Rattle.arrayvec.specs.ArrayVec.{ArrayVec}
use Rattle.savi_kinds.specs.declared.port.Port.{Port}
use Rattle.savi_kinds.specs.declared.plan.Method.{Method}
use Rattle.savi_kinds.specs.declared.plan.Role.{Role}
use Rattle.savi_kinds.specs.declared.plan.Role.TheVariants as roles
use Rattle.savi_kinds.specs.declared.verdict.Rule.{Rule}
use Rattle.savi_kinds.specs.declared.verdict.Rule.TheVariants.{OffLink, NaTarget, UnspecifiedSource}
use Rattle.savi_kinds.specs.declared.verdict.Scope.TheVariants.{TrustedOnly}
use Rattle.savi_kinds.specs.declared.verdict.Verdict.TheVariants.{Pass}
use Rattle.v6_chain.specs.declared.packet.Ip.{Ip}
use Rattle.dhcp6_read.specs.declared.message.Dhcp.{Dhcp}
use Rattle.dhcp6_read.specs.declared.message.Lease.{Lease as Offered}
use Rattle.frame_class.specs.declared.classes.Class.{Class}
use Rattle.frame_class.specs.declared.classes.Class.TheVariants.{Runt, Tagged, Other, BadIp, Ip6}
use Rattle.frame_class.specs.declared.classes.Read.{Read}
use Rattle.frame_class.specs.declared.classes.Read.TheVariants.{Bad, Hidden, Unknown, Later, Icmp, Udp, Plain}
use Rattle.ra_guard.specs.GuardOf.{guard_of, is_validating}
use Rattle.savi_access.specs.declared.row.Row.{Row}
use Rattle.savi_kinds.specs.Ports.{number_of}
use Rattle.fcfs_states.specs.declared.event.Ev.{Ev}
use Rattle.fcfs_states.specs.declared.event.Ev.TheVariants.{Sent, Dad, Na, TpDad, TpNa, Lease, Release}
use Rattle.dhcp_states.specs.declared.request.Request.{Request}
use Rattle.dhcp_states.specs.Requests.{request_of, is_open, has_pair, without_pair, with_request, refusal, asker}
use Rattle.mix_rules.specs.Premises.{IsLeaseInRange}
use Rattle.savi_access.specs.Rooms.{port_of, IsFixable}
use Rattle.savi_access.specs.Limits.{IsOfVlan}
use Rattle.savi_access.specs.Tables.{rows_at}
use Rattle.savi_access.specs.Rules.{AccessRules, AccessBase, IsRequestOf, IsAccessBase}
use Rattle.savi_access.specs.Marks.{Mark, Told, Asked, Met, told, moment_of, newest_moment, requests_after, open_requests, named_for}
use Rattle.savi_access.specs.Legal.{Follows, AreMarks, HasFront}
use Rattle.savi_access.specs.Frames.{HasLifetimes, ShowsLifetimes, AreLifetimes, dad_target, advertised, dhcp_to, is_router_solicitation, is_listener_message, asking_duid, answered_duid, gives_up}
use Rattle.savi_access.specs.Judged.{Judged, judged, judged_by, judged_for, validated, trusted, heard_or, from_unspecified, unspecified_by, sourced, message, message_by, dhcp_or_other, to_server_by, to_client_or_other, replied, replied_by, asked, asked_by, answered, answered_or, with_event, with_events, is_on_link, is_passed, comes_to, passes, drops}
use Rattle.savi_access.proofs.States.{none_some, true_not_false, told_before}

module _ (r : AccessRules) (base : AccessBase) (is : IsAccessBase r base) (vlan : ℕ) (port : Port) (t : ℕ) (early : t ≤ 2 ^ 62) where
  pub told_follows : (past : List Mark) → AreMarks r base past → newest_moment base past ≤ t → (a : ℕ) (event : Ev) → IsSome (r.addresses.method_of vlan a) → IsLeaseInRange event → IsOfVlan r.addresses vlan (port_of event)
      → IsFixable r.addresses.per_port (rows_at r.addresses base.addresses (told past) t vlan) a event
      → Follows r base past (Told (named_for r base vlan t past a event))
  told_follows past right after a event on lease of_vlan fix =
      record {
        order = after;
        early = early;
        kind = record {
          order = told_before r base past t right after;
          early = early;
          on_link = on;
          port = of_vlan;
          lease = lease;
          room = refl;
          fix = fix;
        };
      }

-- what holds of each holds of the one that is found
found_all : {X : Type 0} (P : X → Type 0) (p : X → Bool) (xs : List X) (x : X) → All P xs → find p xs ≡ Some x → P x
found_all P p [] x all found = absurd (no_item x found)
  where
    no_item : {X : Type 0} (x : X) → None ≡ Some x → ⊥
    no_item x same = none_some (ap is_some same)
found_all P p (y ∷ ys) x all found =
    elim (cases_Bool (p y)) [
      | inl here ↦ same_item (subst (λ b. (if b then Some y else find p ys) ≡ Some x) here found)
      | inr behind ↦ found_all P p ys x (All-tail P y ys all) (subst (λ b. (if b then Some y else find p ys) ≡ Some x) behind found)
    ]
  where
    same_item : Some y ≡ Some x → P x
    same_item same = subst P (one_item same) (All-head P y ys all)
      where
        one_item : Some y ≡ Some x → y ≡ x
        one_item same = search

module _ (r : AccessRules) (base : AccessBase) (is : IsAccessBase r base) (vlan : ℕ) where
  -- the request was asked at a port of the VLAN
  abbrev pub IsAtPortOf : Request → Type 0
  IsAtPortOf request = r.addresses.vlan_of (number_of request.port) ≡ Some vlan

  without_same : (tid : ℕ) (duid : List ℕ) (requests : List Request) → All IsAtPortOf requests → All IsAtPortOf (without_pair tid duid requests)
  without_same tid duid requests all = All-filter (λ request. not (has_pair tid duid request)) IsAtPortOf requests all

  pub requests_at : (past : List Mark) → AreMarks r base past → All IsAtPortOf (requests_after base vlan past)
  requests_at [] right = All-weaker (IsRequestOf r vlan base.addresses.moment) IsAtPortOf (λ request of. of.port) (base.requests vlan) (is.requests vlan)
  requests_at (Told named ∷ past) right = requests_at past right.1
  requests_at (Asked of request ∷ past) right =
      let before : All IsAtPortOf (requests_after base vlan past) = requests_at past right.1 in
      elim (cases_Bool (of == vlan)) [
        | inl same ↦
            subst (λ b. All IsAtPortOf (if b then with_request request (requests_after base vlan past) else requests_after base vlan past)) (sym same)
            (All-push IsAtPortOf (without_pair request.tid request.duid.items (requests_after base vlan past)) request
            (without_same request.tid request.duid.items (requests_after base vlan past) before)
            (subst (λ v. r.addresses.vlan_of (number_of request.port) ≡ Some v) (eqb-true of vlan same) right.0.kind.0))
        | inr other ↦ subst (λ b. All IsAtPortOf (if b then with_request request (requests_after base vlan past) else requests_after base vlan past)) (sym other) before
      ]
  requests_at (Met of moment tid duid ∷ past) right =
      let before : All IsAtPortOf (requests_after base vlan past) = requests_at past right.1 in
      elim (cases_Bool (of == vlan)) [
        | inl same ↦ subst (λ b. All IsAtPortOf (if b then without_pair tid duid (requests_after base vlan past) else requests_after base vlan past)) (sym same) (without_same tid duid (requests_after base vlan past) before)
        | inr other ↦ subst (λ b. All IsAtPortOf (if b then without_pair tid duid (requests_after base vlan past) else requests_after base vlan past)) (sym other) before
      ]

  pub open_at_port : (past : List Mark) (t : ℕ) → AreMarks r base past → All IsAtPortOf (open_requests base vlan past t)
  open_at_port past t right = All-filter (is_open t) IsAtPortOf (requests_after base vlan past) (requests_at past right)

  -- who asked is at a port of the VLAN
  pub asker_of : (past : List Mark) (t tid : ℕ) (duid : List ℕ) (q : Port) → AreMarks r base past → asker tid duid (open_requests base vlan past t) ≡ Some q → r.addresses.vlan_of (number_of q) ≡ Some vlan
  asker_of past t tid duid q right asked = from_found (find (has_pair tid duid) (open_requests base vlan past t)) refl asked
    where
      from_found : (o : Option Request) → find (has_pair tid duid) (open_requests base vlan past t) ≡ o → option_map (λ request. request.port) o ≡ Some q → r.addresses.vlan_of (number_of q) ≡ Some vlan
      from_found None found same = absurd (no_port q same)
        where
          no_port : (q : Port) → None ≡ Some q → ⊥
          no_port q same = none_some (ap is_some same)
      from_found (Some request) found same =
          subst (λ p. r.addresses.vlan_of (number_of p) ≡ Some vlan) (one_port same)
          (found_all IsAtPortOf (has_pair tid duid) (open_requests base vlan past t) request (open_at_port past t right) found)
        where
          one_port : Some request.port ≡ Some q → request.port ≡ q
          one_port same = search

module _ (r : AccessRules) (base : AccessBase) (is : IsAccessBase r base) (vlan : ℕ) (port : Port) (t : ℕ) (early : t ≤ 2 ^ 62) (start : List Mark) where
  -- marks that may come, none of them behind t; those in front of the first ones are of the moment t
  pub record Right (marks : List Mark) : Type 0 where
    pub legal : AreMarks r base marks
    pub last : newest_moment base marks ≤ t
    pub front : HasFront t start marks

  longer : (mark : Mark) (past : List Mark) → moment_of mark ≡ t → Right past → Follows r base past mark → Right (mark ∷ past)
  longer mark past now right follows =
      record {
        legal = (follows, right.legal);
        last = omega (arith, now);
        front = record {
          new = mark ∷ right.front.new;
          is = ap (λ l. mark ∷ l) right.front.is;
          moments = All-cons (λ m. moment_of m ≡ t) mark right.front.new now right.front.moments;
        };
      }

  -- an event that may come on each address, whatever the others are
  pub record IsFree (event : Ev) : Type 0 where
    pub lease : IsLeaseInRange event
    pub of_vlan : IsOfVlan r.addresses vlan (port_of event)
    pub fix : (rows : List Row) (a : ℕ) → IsFixable r.addresses.per_port rows a event

  event_right : (past : List Mark) → Right past → (a : ℕ) (event : Ev) → IsSome (r.addresses.method_of vlan a) → IsFree event → Right (with_event r base vlan port t a event past)
  event_right past right a event on free =
      longer (Told (named_for r base vlan t past a event)) past refl right
      (told_follows r base is vlan port t early past right.legal right.last a event on free.lease free.of_vlan (free.fix (rows_at r.addresses base.addresses (told past) t vlan) a))

  or_right : (past : List Mark) (o : Option Method) (rule : Rule) (x : Judged) → (IsSome o → Right x.marks) → Right past → Right (if is_some o then x else drops rule past).marks
  or_right past None rule x on right = right
  or_right past (Some m) rule x on right = on refl

  pub answered_right : (past : List Mark) → Right past → (rule : Rule) (a : ℕ) (event : Ev) → IsFree event → Right (answered_or r base vlan port t rule past a event).marks
  answered_right past right rule a event free =
      or_right past (r.addresses.method_of vlan a) rule (answered r base vlan port t past a event) (λ on. event_right past right a event on free) right

  if_right : (past : List Mark) (o : Option Method) (x : List Mark) → (IsSome o → Right x) → Right past → Right (if is_some o then x else past)
  if_right past None x on right = right
  if_right past (Some m) x on right = on refl

  events_right : (event : Offered → Ev) → ((lease : Offered) → lease.valid < 2 ^ 32 → IsFree (event lease)) → (leases : List Offered) → All (λ lease. lease.valid < 2 ^ 32) leases → (past : List Mark) → Right past → Right (with_events r base vlan port t event leases past)
  events_right event free [] short past right = right
  events_right event free (lease ∷ leases) short past right =
      let first : lease.valid < 2 ^ 32 = All-head (λ l. l.valid < 2 ^ 32) lease leases short in
      events_right event free leases (All-tail (λ l. l.valid < 2 ^ 32) lease leases short)
      (if is_on_link r base vlan port t lease.address.0 then with_event r base vlan port t lease.address.0 (event lease) past else past)
      (if_right past (r.addresses.method_of vlan lease.address.0) (with_event r base vlan port t lease.address.0 (event lease) past) (λ on. event_right past right lease.address.0 (event lease) on (free lease first)) right)

  -- what a Reply tells
  replied_right_by : (past : List Mark) → Right past → (dhcp : Dhcp) → HasLifetimes dhcp → (duid : List ℕ) (o : Option Port) → asker dhcp.tid duid (open_requests base vlan past t) ≡ o → Right (replied_by r base vlan port t past dhcp duid o)
  replied_right_by past right dhcp short duid None asks = right
  replied_right_by past right dhcp short duid (Some q) asks =
      events_right (λ lease. Lease q lease.valid)
      (λ lease first. record { lease = first; of_vlan = asker_of r base is vlan past t dhcp.tid duid q right.legal asks; fix = λ rows a. tt })
      dhcp.leases.items short (Met vlan t dhcp.tid duid ∷ past)
      (longer (Met vlan t dhcp.tid duid) past refl right (record { order = right.last; early = early; kind = ap is_some asks }))

  replied_right : (past : List Mark) → Right past → (dhcp : Dhcp) → HasLifetimes dhcp → (s : Option (ArrayVec ℕ)) → Right (replied r base vlan port t past dhcp s)
  replied_right past right dhcp short None = right
  replied_right past right dhcp short (Some duid) = replied_right_by past right dhcp short duid.items (asker dhcp.tid duid.items (open_requests base vlan past t)) refl

  -- the lifetimes of a message, where there is one
  abbrev Short : Option Dhcp → Type 0
  Short None = Unit {0}
  Short (Some dhcp) = HasLifetimes dhcp

  short_if : (b : Bool) (dhcp : Dhcp) → HasLifetimes dhcp → Short (if b then Some dhcp else None)
  short_if true dhcp short = short
  short_if false dhcp short = tt

  short_to : (to : ℕ) (read : Read) → ShowsLifetimes read → Short (dhcp_to to read)
  short_to to Bad short = tt
  short_to to Hidden short = tt
  short_to to Unknown short = tt
  short_to to Later short = tt
  short_to to (Icmp kind fragmented nd) short = tt
  short_to to (Udp of first fragmented None) short = tt
  short_to to (Udp of first fragmented (Some dhcp)) short = short_if (of == to) dhcp short
  short_to to Plain short = tt

  client_right : (past : List Mark) → Right past → (s : Option Dhcp) → Short s → Right (to_client_or_other r base vlan port t past s).marks
  client_right past right None short = right
  client_right past right (Some dhcp) short = replied_right past right dhcp short (answered_duid dhcp)

  -- a frame at a port of the VLAN
  module _ (own : r.addresses.vlan_of (number_of port) ≡ Some vlan) where
    asked_right : (past : List Mark) → Right past → (tid : ℕ) (duid : List ℕ) (o : Option Rule) → refusal (number_of port) tid duid (open_requests base vlan past t) ≡ o → Right (asked_by r base vlan port t past tid duid o).marks
    asked_right past right tid duid (Some rule) refused = right
    asked_right past right tid duid None free = longer (Asked vlan (request_of port tid duid t)) past refl right (record { order = right.last; early = early; kind = (own, free) })

    gives_right : (past : List Mark) → Right past → (dhcp : Dhcp) → HasLifetimes dhcp → (b : Bool) → Right (if b then with_events r base vlan port t (λ lease. Release port) dhcp.leases.items past else past)
    gives_right past right dhcp short true = events_right (λ lease. Release port) (λ lease first. record { lease = tt; of_vlan = own; fix = λ rows a. tt }) dhcp.leases.items short past right
    gives_right past right dhcp short false = right

    server_right_by : (past : List Mark) → Right past → (dhcp : Dhcp) → HasLifetimes dhcp → (s : Option (ArrayVec ℕ)) → Right (to_server_by r base vlan port t past dhcp s).marks
    server_right_by past right dhcp short (Some duid) = asked_right past right dhcp.tid duid.items (refusal (number_of port) dhcp.tid duid.items (open_requests base vlan past t)) refl
    server_right_by past right dhcp short None = gives_right past right dhcp short (gives_up dhcp)

    dhcp_right : (past : List Mark) → Right past → (read : Read) → ShowsLifetimes read → (s : Option Dhcp) → Short s → Right (dhcp_or_other r base vlan port t past read s).marks
    dhcp_right past right read short (Some dhcp) own_short = server_right_by past right dhcp own_short (asking_duid dhcp)
    dhcp_right past right read short None own_short = client_right past right (dhcp_to 546 read) (short_to 546 read short)

    message_right_by : (past : List Mark) → Right past → (read : Read) → ShowsLifetimes read → (s : Option ℕ) → Right (message_by r base vlan port t past read s).marks
    message_right_by past right read short (Some target) = answered_right past right NaTarget target (Na port) (record { lease = tt; of_vlan = own; fix = λ rows a. tt })
    message_right_by past right read short None = dhcp_right past right read short (dhcp_to 547 read) (short_to 547 read short)

    followed_right_by : (b : Bool) (sent : Judged) → Right sent.marks → (read : Read) → ShowsLifetimes read → Right (if b then message r base vlan port t sent.marks read else sent).marks
    followed_right_by true sent right read short = message_right_by sent.marks right read short (advertised read)
    followed_right_by false sent right read short = right

    excepted_right : (b : Bool) (past : List Mark) → Right past → Right (if b then comes_to (Pass TrustedOnly) past else drops UnspecifiedSource past).marks
    excepted_right true past right = right
    excepted_right false past right = right

    unspecified_right : (past : List Mark) → Right past → (ip : Ip) (read : Read) (s : Option ℕ) → Right (unspecified_by r base vlan port t past ip read s).marks
    unspecified_right past right ip read (Some target) = answered_right past right OffLink target (Dad port) (record { lease = tt; of_vlan = own; fix = λ rows a. tt })
    unspecified_right past right ip read None = excepted_right (is_router_solicitation read || is_listener_message ip read) past right

    packet_right : (b : Bool) (past : List Mark) → Right past → (ip : Ip) (read : Read) → ShowsLifetimes read → Right (if b then from_unspecified r base vlan port t past ip read else sourced r base vlan port t past ip read).marks
    packet_right true past right ip read short = unspecified_right past right ip read (dad_target read)
    packet_right false past right ip read short =
        let sent : Judged = answered_or r base vlan port t OffLink past ip.src.0 (Sent port) in
        followed_right_by (is_passed sent.verdict) sent (answered_right past right OffLink ip.src.0 (Sent port) (record { lease = tt; of_vlan = own; fix = λ rows a. tt })) read short

    validated_right : (past : List Mark) → Right past → (class : Class) → AreLifetimes class → Right (validated r base vlan port t past class).marks
    validated_right past right Runt short = right
    validated_right past right (Tagged eth) short = right
    validated_right past right (Other eth) short = right
    validated_right past right (BadIp eth) short = right
    validated_right past right (Ip6 eth ip read) short = packet_right (ip.src.0 == 0) past right ip read short

  heard_right : (past : List Mark) → Right past → (s : Option ℕ) (event : Ev) → IsFree event → (other : Judged) → Right other.marks → Right (heard_or r base vlan port t past s event other).marks
  heard_right past right None event free other right_so = right_so
  heard_right past right (Some target) event free other right_so = heard_by (r.addresses.method_of vlan target) (λ on. event_right past right target event on free)
    where
      heard_by : (o : Option Method) → (IsSome o → Right (answered r base vlan port t past target event).marks) → Right (if is_some o then answered r base vlan port t past target event else passes past).marks
      heard_by None on = right
      heard_by (Some m) on = on refl

  trusted_right : (past : List Mark) → Right past → (class : Class) → AreLifetimes class → Right (trusted r base vlan port t past class).marks
  trusted_right past right Runt short = right
  trusted_right past right (Tagged eth) short = right
  trusted_right past right (Other eth) short = right
  trusted_right past right (BadIp eth) short = right
  trusted_right past right (Ip6 eth ip read) short =
      let free_dad : IsFree TpDad = record { lease = tt; of_vlan = tt; fix = λ rows a. tt } in
      let free_na : IsFree TpNa = record { lease = tt; of_vlan = tt; fix = λ rows a. tt } in
      let client : Judged = to_client_or_other r base vlan port t past (dhcp_to 546 read) in
      let right_client : Right client.marks = client_right past right (dhcp_to 546 read) (short_to 546 read short) in
      let heard : Judged = heard_or r base vlan port t past (advertised read) TpNa client in
      heard_right past right (dad_target read) TpDad free_dad heard (heard_right past right (advertised read) TpNa free_na client right_client)

  for_role : (role : Role) → (role ≢ roles.Trusted → r.addresses.vlan_of (number_of port) ≡ Some vlan) → (past : List Mark) → Right past → (class : Class) → AreLifetimes class → Right (judged_for r base vlan port t past class role).marks
  for_role roles.Host own past right class short = validated_right (own (λ same. true_not_false (is_validating roles.Host) refl (ap is_validating same))) past right class short
  for_role roles.Server own past right class short = validated_right (own (λ same. true_not_false (is_validating roles.Server) refl (ap is_validating same))) past right class short
  for_role roles.Trusted own past right class short = trusted_right past right class short

  if_validates : (b : Bool) (past : List Mark) → Right past → (x : Judged) → Right x.marks → Right (if b then x else passes past).marks
  if_validates true past right x right_so = right_so
  if_validates false past right x right_so = right

  by_guard : (g : Option Rule) → (r.role_of (number_of port) ≢ roles.Trusted → r.addresses.vlan_of (number_of port) ≡ Some vlan) → (past : List Mark) → Right past → (class : Class) → AreLifetimes class → Right (judged_by r base vlan port t past class g).marks
  by_guard (Some rule) own past right class short = right
  by_guard None own past right class short =
      if_validates r.validates past right (judged_for r base vlan port t past class (r.role_of (number_of port))) (for_role (r.role_of (number_of port)) own past right class short)

  pub judged_right : (r.role_of (number_of port) ≢ roles.Trusted → r.addresses.vlan_of (number_of port) ≡ Some vlan) → (past : List Mark) → Right past → (class : Class) → AreLifetimes class → Right (judged r base vlan port t past class).marks
  unfolding judged
  judged_right own past right class short = by_guard (guard_of (r.role_of (number_of port)) r.drop_unknown class) own past right class short

pub judged_marks : (r : AccessRules) (base : AccessBase) → IsAccessBase r base → (vlan : ℕ) (port : Port) (t : ℕ) → t ≤ 2 ^ 62 → (past : List Mark) → AreMarks r base past → newest_moment base past ≤ t → (class : Class) → AreLifetimes class
    → (r.role_of (number_of port) ≢ roles.Trusted → r.addresses.vlan_of (number_of port) ≡ Some vlan)
    → AreMarks r base (judged r base vlan port t past class).marks × (newest_moment base (judged r base vlan port t past class).marks ≤ t) × HasFront t past (judged r base vlan port t past class).marks
judged_marks r base is vlan port t early past right after class short own =
    let start : Right r base is vlan port t early past past = record { legal = right; last = after; front = record { new = []; is = refl; moments = All-nil (λ m. moment_of m ≡ t) } } in
    let all : Right r base is vlan port t early past (judged r base vlan port t past class).marks = judged_right r base is vlan port t early past own past start class short in
    (all.legal, all.last, all.front)
