-- A frame of one port makes another port hold an address only by a lease of it.
use Rattle.std.proofs.Common.{◌≡◌, ℕ, ◌<◌, ◌≤◌, ◌==◌, ◌||◌, Bool, true, false, Option, Some, None, if◌then◌else◌, List, [], ◌∷◌, ◌++◌, refl, sym, ap, subst, ◌∙◌, inl, inr, ◌⊎◌, arith}
use Rattle.std.proofs.lemmas.Bool.{cases_Bool, cases_lt, false≢true, and_parts, eqb-true}
use Rattle.arrayvec.specs.ArrayVec.{ArrayVec}
use Rattle.savi_kinds.specs.declared.plan.Plan.{Plan}
use Rattle.savi_kinds.specs.declared.port.Port.{Port}
use Rattle.savi_kinds.specs.declared.plan.Method.{Method}
use Rattle.savi_kinds.specs.declared.plan.Role.{Role}
use Rattle.savi_kinds.specs.declared.plan.Role.TheVariants as roles
use Rattle.savi_kinds.specs.declared.verdict.Rule.{Rule}
use Rattle.savi_kinds.specs.declared.verdict.Rule.TheVariants.{OffLink, NaTarget, UnspecifiedSource}
use Rattle.savi_kinds.specs.declared.verdict.Scope.TheVariants.{TrustedOnly}
use Rattle.savi_kinds.specs.declared.verdict.Verdict.TheVariants.{Pass}
use Rattle.savi_kinds.specs.Ports.{number_of}
use Rattle.v6_chain.specs.declared.packet.Ip.{Ip}
use Rattle.dhcp6_read.specs.declared.message.Dhcp.{Dhcp}
use Rattle.dhcp6_read.specs.declared.message.Lease.{Lease as Offered}
use Rattle.eth_frame.specs.Tags.{inner}
use Rattle.frame_class.specs.declared.classes.Class.{Class}
use Rattle.frame_class.specs.declared.classes.Class.TheVariants.{Runt, Tagged, Other, BadIp, Ip6}
use Rattle.frame_class.specs.declared.classes.Read.{Read}
use Rattle.frame_class.specs.ClassOf.{class_of}
use Rattle.ra_guard.specs.GuardOf.{guard_of}
use Rattle.fcfs_states.specs.States.{Same}
use Rattle.fcfs_states.specs.Premises.{AreTimes}
use Rattle.fcfs_states.specs.declared.event.Ev.{Ev}
use Rattle.fcfs_states.specs.declared.event.Ev.TheVariants.{Sent, Dad, Na, TpDad, TpNa, Lease, Release}
use Rattle.dhcp_states.specs.declared.request.Request.{Request}
use Rattle.dhcp_states.specs.Requests.{request_of, refusal, asker}
use Rattle.mix_rules.specs.declared.state.AddrState.{AddrState}
use Rattle.mix_rules.specs.States.{nobody, IsHeldAt, is_held_at}
use Rattle.mix_rules.specs.Ageing.{aged_state}
use Rattle.mix_rules.specs.Holders.{MakesHolder}
use Rattle.mix_rules.proofs.HolderLemmas.{next-held, aged-held}
use Rattle.hist_store.specs.Rows.{Row}
use Rattle.savi_access.specs.Bases.{AddrRules, AddrBase, AreTables}
use Rattle.savi_access.specs.Keeps.{IsWithinRules}
use Rattle.savi_access.specs.Limits.{IsAddrBase}
use Rattle.savi_access.specs.NamedMarks.{Named, mark_of, names}
use Rattle.savi_access.specs.States.{outcome_by, state_of, state_at}
use Rattle.savi_access.specs.Tables.{held_at}
use Rattle.savi_access.specs.Probes.{IsAmong}
use Rattle.savi_access.specs.Rules.{AccessRules, AccessBase}
use Rattle.savi_access.specs.Marks.{Mark, Told, Asked, Met, told, named_for, open_requests}
use Rattle.savi_access.specs.Frames.{dad_target, advertised, dhcp_to, is_router_solicitation, is_listener_message, asking_duid, answered_duid, gives_up}
use Rattle.savi_access.specs.Judged.{Judged, judged, judged_by, judged_for, validated, trusted, heard_or, from_unspecified, unspecified_by, sourced, message, message_by, dhcp_or_other, to_server_by, to_client_or_other, replied, replied_by, asked, asked_by, answered, answered_or, with_event, with_events, is_on_link, is_passed, comes_to, passes, drops}
use Rattle.savi_access.specs.Plans.{rules_of}
use Rattle.savi_access.proofs.Held.{held_once}
use Rattle.savi_access.proofs.Holding.{held-told, told-held, more-held}
use Rattle.savi_access.proofs.MarksOn.{state_of-own, state_of-other}
use Rattle.checkpoint.specs.Bases.{Base, access_of}
use Rattle.savi_history.specs.Vlans.{vlan_of_frame}
use Rattle.savi_history.specs.ShutPorts.{is_shut}
use Rattle.savi_history.specs.Moments.{moment_at}
use Rattle.savi_history.specs.Limits.{IsWithinLimits}
use Rattle.savi_history.specs.Marks.{marks, judged_at, untold}
use Rattle.savi_history.proofs.FrameVlans.{untold_marks}
use Rattle.savi_history.specs.Judged.{judged_of}
use Rattle.savi_laws.specs.Raised.{held_after, HoldsAfter, GivesLease}

-- a mark makes a port hold an address no more, or it is of this address and makes the port its holder
module _ (r : AddrRules) (b : AddrBase) (times : AreTimes r.times) (vlan a : ℕ) (port : Port) where
  abbrev state_then : List Named → ℕ → AddrState
  state_then past t = state_at r b past t vlan a

  own_holder : (named : Named) (past : List Named) → names vlan a named ≡ true → is_held_at (number_of port) (state_then past named.moment) ≡ false
      → is_held_at (number_of port) (state_then (named ∷ past) named.moment) ≡ true → MakesHolder port named.room named.event
  own_holder named past is free held =
      let now : IsHeldAt (state_of r b (named ∷ past) vlan a) port =
      aged-held r.times named.moment (state_of r b (named ∷ past) vlan a) port times (held-told (state_then (named ∷ past) named.moment) port held) in
      by_method (r.method_of vlan a) (subst (λ (s : AddrState). IsHeldAt s port) (state_of-own r b vlan a named past is) now)
    where
      by_method : (method : Option Method) → IsHeldAt (outcome_by method r.times (mark_of named) (state_of r b past vlan a)).1 port → MakesHolder port named.room named.event
      by_method None holds = absurd (false≢true (told-held nobody port holds))
      by_method (Some m) holds =
          next-held m r.times named.moment named.room (state_then past named.moment) named.event port
          (λ was. false≢true (sym free ∙ told-held (state_then past named.moment) port was)) holds

  -- a port that holds an address holds it once
  once_most : (before after : AddrState) → is_held_at (number_of port) before ≡ true → held_once (number_of port) after ≤ held_once (number_of port) before
  once_most before after is = rw is (most (is_held_at (number_of port) after))
    where
      most : (b : Bool) → (if b then 1 else 0) ≤ 1
      most true = omega arith
      most false = omega arith

  none_least : (before after : AddrState) → is_held_at (number_of port) after ≡ false → held_once (number_of port) after ≤ held_once (number_of port) before
  none_least before after not = rw not (omega arith)

  abbrev once_at : List Named → ℕ → ℕ
  once_at past t = held_once (number_of port) (state_then past t)

  mark_once : (named : Named) (past : List Named) → (once_at (named ∷ past) named.moment ≤ once_at past named.moment)
      ⊎ (MakesHolder port named.room named.event × (named.vlan ≡ vlan) × (named.address ≡ a))
  mark_once named past =
      elim (cases_Bool (names vlan a named)) [
        | inr other ↦
            let same : once_at (named ∷ past) named.moment ≡ once_at past named.moment =
            ap (λ (s : AddrState). held_once (number_of port) (aged_state r.times named.moment s).state) (state_of-other r b vlan a named past other) in
            inl (omega (arith, same))
        | inl is ↦
            let both : ((named.vlan == vlan) ≡ true) × ((named.address == a) ≡ true) = and_parts (named.vlan == vlan) (named.address == a) is in
            elim (cases_Bool (is_held_at (number_of port) (state_then past named.moment))) [
              | inl was ↦ inl (once_most (state_then past named.moment) (state_then (named ∷ past) named.moment) was)
              | inr free ↦
                  elim (cases_Bool (is_held_at (number_of port) (state_then (named ∷ past) named.moment))) [
                    | inr not ↦ inl (none_least (state_then past named.moment) (state_then (named ∷ past) named.moment) not)
                    | inl held ↦ inr (own_holder named past is free held, eqb-true named.vlan vlan both.0, eqb-true named.address a both.1)
                  ]
            ]
      ]

-- `held` counts what q holds of what was told. A mark at t raises it only where it makes q a holder, of such an address.
abbrev Raises : Port → ℕ → ℕ → (List Named → ℕ) → (ℕ → Type 0) → Type 0
Raises q vlan t held Of = (named : Named) (past : List Named) → named.vlan ≡ vlan → named.moment ≡ t
    → (held (named ∷ past) ≤ held past) ⊎ (MakesHolder q named.room named.event × Of named.address)

module _ (r : AccessRules) (base : AccessBase) (vlan : ℕ) (port : Port) (t : ℕ) (q : Port) (apart : ¬ Same port q) (start : List Mark) (held_by : List Named → ℕ) (Of : ℕ → Type 0) (raises : Raises q vlan t held_by Of) where
  abbrev held : List Mark → ℕ
  held marks = held_by (told marks)

  -- new marks in front of the first ones, by which q holds no more and no request was asked or met
  record Low (marks : List Mark) : Type 0 where
    new : List Mark
    is : marks ≡ new ++ start
    low : held_by (told marks) ≤ held_by (told start)
    requests : open_requests base vlan marks t ≡ open_requests base vlan start t

  abbrev Good : List Mark → Type 0
  Good marks = held start < held marks → (a : ℕ) × Of a × GivesLease base vlan t q a start marks

  none_good : (marks : List Mark) → held marks ≤ held start → Good marks
  none_good marks low = λ more. absurd (omega (arith, low, more))

  low_good : (marks : List Mark) → Low marks → Good marks
  low_good marks low = none_good marks low.low

  low_start : Low start
  low_start = record { new = []; is = refl; low = omega arith; requests = refl }

  -- an event makes q hold no more, or it makes q a holder
  more_or_not : (past : List Mark) (a : ℕ) (event : Ev) → (held (with_event r base vlan port t a event past) ≤ held past)
      ⊎ (MakesHolder q (named_for r base vlan t past a event).room event × Of a)
  more_or_not past a event = raises (named_for r base vlan t past a event) (told past) refl refl

  told_low : (past : List Mark) → Low past → (a : ℕ) (event : Ev) → ((room : Bool) → ¬ MakesHolder q room event) → Low (with_event r base vlan port t a event past)
  told_low past low a event never =
      let named : Named = named_for r base vlan t past a event in
      record {
        new = Told named ∷ low.new;
        is = ap (λ (l : List Mark). Told named ∷ l) low.is;
        low = no_more (more_or_not past a event);
        requests = low.requests;
      }
    where
      no_more : (held (with_event r base vlan port t a event past) ≤ held past) ⊎ (MakesHolder q (named_for r base vlan t past a event).room event × Of a) → held (with_event r base vlan port t a event past) ≤ held start
      no_more (inl fewer) = omega (arith, fewer, low.low)
      no_more (inr makes) = absurd (never (named_for r base vlan t past a event).room makes.0)

  or_low : (b : Bool) (past : List Mark) (rule : Rule) (x : Judged) → Low past → Low x.marks → Low (if b then x else drops rule past).marks
  or_low true past rule x low more = more
  or_low false past rule x low more = low

  answered_low : (past : List Mark) → Low past → (rule : Rule) (a : ℕ) (event : Ev) → ((room : Bool) → ¬ MakesHolder q room event) → Low (answered_or r base vlan port t rule past a event).marks
  answered_low past low rule a event never =
      or_low (is_on_link r base vlan port t a) past rule (answered r base vlan port t past a event) low (told_low past low a event never)

  if_low : (b : Bool) (past more : List Mark) → Low past → Low more → Low (if b then more else past)
  if_low true past more low rest = rest
  if_low false past more low rest = low

  released_low : (leases : List Offered) (past : List Mark) → Low past → Low (with_events r base vlan port t (λ lease. Release port) leases past)
  released_low [] past low = low
  released_low (lease ∷ leases) past low =
      released_low leases (if is_on_link r base vlan port t lease.address.0 then with_event r base vlan port t lease.address.0 (Release port) past else past)
      (if_low (is_on_link r base vlan port t lease.address.0) past (with_event r base vlan port t lease.address.0 (Release port) past) low
      (told_low past low lease.address.0 (Release port) (λ room makes. makes)))

  -- a lease of p that was told among these marks, where p is q
  record Leased (p : Port) (new : List Mark) : Type 0 where
    same : Same p q
    address : ℕ
    of : Of address
    valid : ℕ
    among : IsAmong (Told (record { vlan = vlan; address = address; moment = t; event = Lease p valid; room = true })) new

  -- behind a request of p that was met: q holds no more, or a lease was told
  record Given (tid : ℕ) (duid : List ℕ) (p : Port) (marks : List Mark) : Type 0 where
    new : List Mark
    is : marks ≡ new ++ start
    met : IsAmong (Met vlan t tid duid) new
    leased : (held_by (told marks) ≤ held_by (told start)) ⊎ Leased p new

  leased_one : (tid : ℕ) (duid : List ℕ) (p : Port) (past : List Mark) → Given tid duid p past → (a valid : ℕ) → Given tid duid p (with_event r base vlan port t a (Lease p valid) past)
  leased_one tid duid p past given a valid =
      let named : Named = named_for r base vlan t past a (Lease p valid) in
      record {
        new = Told named ∷ given.new;
        is = ap (λ (l : List Mark). Told named ∷ l) given.is;
        met = inr given.met;
        leased = leased_by given.leased (more_or_not past a (Lease p valid));
      }
    where
      leased_by : (held past ≤ held start) ⊎ Leased p given.new
          → (held (with_event r base vlan port t a (Lease p valid) past) ≤ held past) ⊎ (MakesHolder q (named_for r base vlan t past a (Lease p valid)).room (Lease p valid) × Of a)
          → (held (with_event r base vlan port t a (Lease p valid) past) ≤ held start) ⊎ Leased p (Told (named_for r base vlan t past a (Lease p valid)) ∷ given.new)
      leased_by (inr before) any = inr (record { same = before.same; address = before.address; of = before.of; valid = before.valid; among = inr before.among })
      leased_by (inl low) (inl fewer) = inl (omega (arith, low, fewer))
      leased_by (inl low) (inr makes) =
          let both : Same p q × ((named_for r base vlan t past a (Lease p valid)).room ≡ true) = makes.0 in
          inr (record {
            same = both.0;
            address = a;
            of = makes.1;
            valid = valid;
            among = inl (ap (λ (room : Bool). Told (record { vlan = vlan; address = a; moment = t; event = Lease p valid; room = room })) (sym both.1));
          })

  if_given : (tid : ℕ) (duid : List ℕ) (p : Port) (b : Bool) (past more : List Mark) → Given tid duid p past → Given tid duid p more → Given tid duid p (if b then more else past)
  if_given tid duid p true past more given rest = rest
  if_given tid duid p false past more given rest = given

  leased_all : (tid : ℕ) (duid : List ℕ) (p : Port) (leases : List Offered) (past : List Mark) → Given tid duid p past → Given tid duid p (with_events r base vlan port t (λ lease. Lease p lease.valid) leases past)
  leased_all tid duid p [] past given = given
  leased_all tid duid p (lease ∷ leases) past given =
      leased_all tid duid p leases (if is_on_link r base vlan port t lease.address.0 then with_event r base vlan port t lease.address.0 (Lease p lease.valid) past else past)
      (if_given tid duid p (is_on_link r base vlan port t lease.address.0) past (with_event r base vlan port t lease.address.0 (Lease p lease.valid) past) given
      (leased_one tid duid p past given lease.address.0 lease.valid))

  given_good : (tid : ℕ) (duid : List ℕ) (p : Port) (marks : List Mark) → asker tid duid (open_requests base vlan start t) ≡ Some p → Given tid duid p marks → Good marks
  given_good tid duid p marks asked given = by_lease given.leased
    where
      by_lease : (held marks ≤ held start) ⊎ Leased p given.new → Good marks
      by_lease (inl low) = none_good marks low
      by_lease (inr leased) = λ more. (
        leased.address,
        leased.of,
        record {
          new = given.new;
          is = given.is;
          port = p;
          same = leased.same;
          tid = tid;
          duid = duid;
          asked = asked;
          met = given.met;
          valid = leased.valid;
          told = leased.among;
        },
      )

  replied_good_by : (past : List Mark) → Low past → (dhcp : Dhcp) (duid : List ℕ) (o : Option Port) → asker dhcp.tid duid (open_requests base vlan past t) ≡ o → Good (replied_by r base vlan port t past dhcp duid o)
  replied_good_by past low dhcp duid None asks = low_good past low
  replied_good_by past low dhcp duid (Some p) asks =
      given_good dhcp.tid duid p (with_events r base vlan port t (λ lease. Lease p lease.valid) dhcp.leases.items (Met vlan t dhcp.tid duid ∷ past))
      (ap (λ (now : List Request). asker dhcp.tid duid now) (sym low.requests) ∙ asks)
      (leased_all dhcp.tid duid p dhcp.leases.items (Met vlan t dhcp.tid duid ∷ past)
      (record { new = Met vlan t dhcp.tid duid ∷ low.new; is = ap (λ (l : List Mark). Met vlan t dhcp.tid duid ∷ l) low.is; met = inl refl; leased = inl low.low }))

  replied_good : (past : List Mark) → Low past → (dhcp : Dhcp) (s : Option (ArrayVec ℕ)) → Good (replied r base vlan port t past dhcp s)
  replied_good past low dhcp None = low_good past low
  replied_good past low dhcp (Some duid) = replied_good_by past low dhcp duid.items (asker dhcp.tid duid.items (open_requests base vlan past t)) refl

  client_good : (past : List Mark) → Low past → (s : Option Dhcp) → Good (to_client_or_other r base vlan port t past s).marks
  client_good past low None = low_good past low
  client_good past low (Some dhcp) = replied_good past low dhcp (answered_duid dhcp)

  -- a request that is asked isn't told of an address
  asked_good : (past : List Mark) → Low past → (tid : ℕ) (duid : List ℕ) (o : Option Rule) → Good (asked_by r base vlan port t past tid duid o).marks
  asked_good past low tid duid (Some rule) = low_good past low
  asked_good past low tid duid None = none_good (Asked vlan (request_of port tid duid t) ∷ past) low.low

  gives_low : (b : Bool) (past : List Mark) → Low past → (dhcp : Dhcp) → Low (if b then with_events r base vlan port t (λ lease. Release port) dhcp.leases.items past else past)
  gives_low true past low dhcp = released_low dhcp.leases.items past low
  gives_low false past low dhcp = low

  server_good : (past : List Mark) → Low past → (dhcp : Dhcp) (s : Option (ArrayVec ℕ)) → Good (to_server_by r base vlan port t past dhcp s).marks
  server_good past low dhcp (Some duid) = asked_good past low dhcp.tid duid.items (refusal (number_of port) dhcp.tid duid.items (open_requests base vlan past t))
  server_good past low dhcp None = low_good (if gives_up dhcp then with_events r base vlan port t (λ lease. Release port) dhcp.leases.items past else past) (gives_low (gives_up dhcp) past low dhcp)

  dhcp_good : (past : List Mark) → Low past → (read : Read) (s : Option Dhcp) → Good (dhcp_or_other r base vlan port t past read s).marks
  dhcp_good past low read (Some dhcp) = server_good past low dhcp (asking_duid dhcp)
  dhcp_good past low read None = client_good past low (dhcp_to 546 read)

  message_good : (past : List Mark) → Low past → (read : Read) (s : Option ℕ) → Good (message_by r base vlan port t past read s).marks
  message_good past low read (Some target) = low_good (answered_or r base vlan port t NaTarget past target (Na port)).marks (answered_low past low NaTarget target (Na port) (λ room makes. makes))
  message_good past low read None = dhcp_good past low read (dhcp_to 547 read)

  followed_good : (b : Bool) (sent : Judged) → Low sent.marks → (read : Read) → Good (if b then message r base vlan port t sent.marks read else sent).marks
  followed_good true sent low read = message_good sent.marks low read (advertised read)
  followed_good false sent low read = low_good sent.marks low

  excepted_good : (b : Bool) (past : List Mark) → Low past → Good (if b then comes_to (Pass TrustedOnly) past else drops UnspecifiedSource past).marks
  excepted_good true past low = low_good past low
  excepted_good false past low = low_good past low

  unspecified_good : (past : List Mark) → Low past → (ip : Ip) (read : Read) (s : Option ℕ) → Good (unspecified_by r base vlan port t past ip read s).marks
  unspecified_good past low ip read (Some target) = low_good (answered_or r base vlan port t OffLink past target (Dad port)).marks (answered_low past low OffLink target (Dad port) (λ room makes. apart makes.0))
  unspecified_good past low ip read None = excepted_good (is_router_solicitation read || is_listener_message ip read) past low

  packet_good : (b : Bool) (past : List Mark) → Low past → (ip : Ip) (read : Read) → Good (if b then from_unspecified r base vlan port t past ip read else sourced r base vlan port t past ip read).marks
  packet_good true past low ip read = unspecified_good past low ip read (dad_target read)
  packet_good false past low ip read =
      let sent : Judged = answered_or r base vlan port t OffLink past ip.src.0 (Sent port) in
      followed_good (is_passed sent.verdict) sent (answered_low past low OffLink ip.src.0 (Sent port) (λ room makes. apart makes.0)) read

  validated_good : (past : List Mark) → Low past → (class : Class) → Good (validated r base vlan port t past class).marks
  validated_good past low Runt = low_good past low
  validated_good past low (Tagged eth) = low_good past low
  validated_good past low (Other eth) = low_good past low
  validated_good past low (BadIp eth) = low_good past low
  validated_good past low (Ip6 eth ip read) = packet_good (ip.src.0 == 0) past low ip read

  either_good : (b : Bool) (one two : Judged) → Good one.marks → Good two.marks → Good (if b then one else two).marks
  either_good true one two first second = first
  either_good false one two first second = second

  heard_good : (past : List Mark) → Low past → (s : Option ℕ) (event : Ev) → ((room : Bool) → ¬ MakesHolder q room event) → (other : Judged) → Good other.marks → Good (heard_or r base vlan port t past s event other).marks
  heard_good past low None event never other good = good
  heard_good past low (Some target) event never other good =
      either_good (is_on_link r base vlan port t target) (answered r base vlan port t past target event) (passes past)
      (low_good (with_event r base vlan port t target event past) (told_low past low target event never)) (low_good past low)

  trusted_good : (past : List Mark) → Low past → (class : Class) → Good (trusted r base vlan port t past class).marks
  trusted_good past low Runt = low_good past low
  trusted_good past low (Tagged eth) = low_good past low
  trusted_good past low (Other eth) = low_good past low
  trusted_good past low (BadIp eth) = low_good past low
  trusted_good past low (Ip6 eth ip read) =
      let client : Judged = to_client_or_other r base vlan port t past (dhcp_to 546 read) in
      let heard : Judged = heard_or r base vlan port t past (advertised read) TpNa client in
      heard_good past low (dad_target read) TpDad (λ room makes. makes) heard
      (heard_good past low (advertised read) TpNa (λ room makes. makes) client (client_good past low (dhcp_to 546 read)))

  for_role : (role : Role) (past : List Mark) → Low past → (class : Class) → Good (judged_for r base vlan port t past class role).marks
  for_role roles.Host past low class = validated_good past low class
  for_role roles.Server past low class = validated_good past low class
  for_role roles.Trusted past low class = trusted_good past low class

  by_guard : (g : Option Rule) (past : List Mark) → Low past → (class : Class) → Good (judged_by r base vlan port t past class g).marks
  by_guard (Some rule) past low class = low_good past low
  by_guard None past low class =
      either_good r.validates (judged_for r base vlan port t past class (r.role_of (number_of port))) (passes past) (for_role (r.role_of (number_of port)) past low class) (low_good past low)

  judged_good : (class : Class) → Good (judged r base vlan port t start class).marks
  unfolding judged
  judged_good class = by_guard (guard_of (r.role_of (number_of port)) r.drop_unknown class) start low_start class

tables_in : (r : AddrRules) (b : AddrBase) → IsAddrBase r b → AreTables b
tables_in r b is vlan = let kept : IsWithinRules r.times r.per_port (b.rows vlan) = is.kept vlan in kept.table

module _ (plan : Plan) (base : Base) (past : List Row) (port q : Port) (stamp : ℕ) (octets : List ℕ) (within : IsWithinLimits plan base) (apart : ¬ Same port q) where
  abbrev now : ℕ
  now = moment_at base past stamp

  abbrev before : List Mark
  before = marks plan base past

  abbrev behind : List Mark
  behind = (judged_of plan base past port stamp octets).marks

  addresses : IsAddrBase (rules_of plan).addresses (access_of base).addresses
  addresses = within.access.addresses

  times : AreTimes (rules_of plan).addresses.times
  times = let kept : IsWithinRules (rules_of plan).addresses.times (rules_of plan).addresses.per_port (base.rows 1) = addresses.kept 1 in kept.times

  -- the VLAN of the frame, in which it gives a lease of such an address
  abbrev Gives : (ℕ → ℕ → Type 0) → Option ℕ → List Mark → Type 0
  Gives Of own marks = (v : ℕ) × (a : ℕ) × (own ≡ Some v) × Of v a × GivesLease (access_of base) v now q a before marks

  -- at a port that is shut, and of a frame without a VLAN, nothing is told
  frame_good : (held_by : List Named → ℕ) (Of : ℕ → ℕ → Type 0) → ((v : ℕ) → Raises q v now held_by (Of v)) → held_by (told before) < held_by (told behind)
      → Gives Of (vlan_of_frame plan (number_of port) octets) behind
  frame_good held_by Of raises = by_shut (is_shut plan base (number_of port) past) (vlan_of_frame plan (number_of port) octets)
    where
      by_shut : (b : Bool) (own : Option ℕ) → held_by (told before) < held_by (told (judged_at (rules_of plan) (access_of base) b before port now own (class_of (inner octets))).marks)
          → Gives Of own (judged_at (rules_of plan) (access_of base) b before port now own (class_of (inner octets))).marks
      by_shut true own more =
          let same : held_by (told before) < held_by (told before) = more in
          absurd (omega (arith, same))
      by_shut false (Some v) more =
          let found = judged_good (rules_of plan) (access_of base) v port now q apart before held_by (Of v) (raises v) (class_of (inner octets)) more in
          (v, found.0, refl, found.1, found.2)
      by_shut false None more =
          let rule : Option Rule = guard_of roles.Trusted plan.drop_unknown (class_of (inner octets)) in
          let same : held_by (told (untold before rule).marks) ≡ held_by (told before) = ap (λ (l : List Mark). held_by (told l)) (untold_marks before rule) in
          let none : held_by (told before) < held_by (told (untold before rule).marks) = more in
          absurd (omega (arith, none, same))

  pub frame_raises : held_after plan base before now (number_of q) < held_after plan base behind now (number_of q)
      → (v : ℕ) × (a : ℕ) × (vlan_of_frame plan (number_of port) octets ≡ Some v) × GivesLease (access_of base) v now q a before behind
  frame_raises more =
      let found : Gives (λ v a. Unit {0}) (vlan_of_frame plan (number_of port) octets) behind =
      frame_good (λ told. held_at (rules_of plan).addresses (access_of base).addresses told now (number_of q)) (λ v a. Unit {0}) one_more more in
      (found.0, found.1, found.2, found.4)
    where
      tables : AreTables (access_of base).addresses
      tables = tables_in (rules_of plan).addresses (access_of base).addresses addresses

      at_moment : (named : Named) (past : List Named) (t : ℕ) → named.moment ≡ t
          → held_at (rules_of plan).addresses (access_of base).addresses past t (number_of q) < held_at (rules_of plan).addresses (access_of base).addresses (named ∷ past) t (number_of q)
          → MakesHolder q named.room named.event
      at_moment named past t at more =
          more-held (rules_of plan).addresses (access_of base).addresses times tables named past q
          (subst (λ (u : ℕ). held_at (rules_of plan).addresses (access_of base).addresses past u (number_of q) < held_at (rules_of plan).addresses (access_of base).addresses (named ∷ past) u (number_of q)) (sym at) more)

      one_more : (v : ℕ) → Raises q v now (λ told. held_at (rules_of plan).addresses (access_of base).addresses told now (number_of q)) (λ a. Unit {0})
      one_more v named past own at =
          elim (cases_lt (held_at (rules_of plan).addresses (access_of base).addresses past now (number_of q)) (held_at (rules_of plan).addresses (access_of base).addresses (named ∷ past) now (number_of q))) [
            | inl more ↦ inr (at_moment named past now at more, tt)
            | inr not ↦ inl (omega (arith, not))
          ]

  module _ (vlan a : ℕ) where
    abbrev once : List Named → ℕ
    once told = held_once (number_of q) (state_at (rules_of plan).addresses (access_of base).addresses told now vlan a)

    abbrev IsIt : ℕ → ℕ → Type 0
    IsIt v b = (v ≡ vlan) × (b ≡ a)

    its_mark : (v : ℕ) → Raises q v now once (IsIt v)
    its_mark v named past own at =
        subst (λ (t : ℕ). (held_once (number_of q) (state_at (rules_of plan).addresses (access_of base).addresses (named ∷ past) t vlan a)
        ≤ held_once (number_of q) (state_at (rules_of plan).addresses (access_of base).addresses past t vlan a)) ⊎ (MakesHolder q named.room named.event × IsIt v named.address)) at
        (elim (mark_once (rules_of plan).addresses (access_of base).addresses times vlan a q named past) [
          | inl low ↦ inl low
          | inr makes ↦ inr (known makes)
        ])
      where
        known : MakesHolder q named.room named.event × (named.vlan ≡ vlan) × (named.address ≡ a) → MakesHolder q named.room named.event × IsIt v named.address
        known (makes, there, it) = (makes, (sym own ∙ there, it))

    abbrev state_before : AddrState
    state_before = state_at (rules_of plan).addresses (access_of base).addresses (told before) now vlan a

    abbrev state_behind : AddrState
    state_behind = state_at (rules_of plan).addresses (access_of base).addresses (told behind) now vlan a

    pub frame_gives : ¬ HoldsAfter plan base before now vlan a q → HoldsAfter plan base behind now vlan a q → GivesLease (access_of base) vlan now q a before behind
    frame_gives free holds =
        let found : Gives IsIt (vlan_of_frame plan (number_of port) octets) behind = frame_good once IsIt its_mark one_more in
        subst (λ (v : ℕ). GivesLease (access_of base) v now q a before behind) found.3.0
        (subst (λ (b : ℕ). GivesLease (access_of base) found.0 now q b before behind) found.3.1 found.4)
      where
        none_before : (b : Bool) → is_held_at (number_of q) state_before ≡ b → held_once (number_of q) state_before ≡ 0
        none_before true is = absurd (free (held-told state_before q is))
        none_before false not = rw not refl

        one_behind : held_once (number_of q) state_behind ≡ 1
        one_behind = rw (told-held state_behind q holds) refl

        one_more : once (told before) < once (told behind)
        one_more = let none : held_once (number_of q) state_before ≡ 0 = none_before (is_held_at (number_of q) state_before) refl in omega (arith, none, one_behind)
