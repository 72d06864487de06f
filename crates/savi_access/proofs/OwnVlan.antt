-- What a frame comes to follows from the marks of its own VLAN.
use Rattle.std.proofs.Common.{◌≡◌, ℕ, ◌==◌, ◌||◌, Bool, true, false, Option, Some, None, option_map, unwrap_or, if◌then◌else◌, List, [], ◌∷◌, refl, sym, ap, ◌∙◌, subst, inl, inr}
use Rattle.std.proofs.lemmas.Bool.{cases_Bool, eq-eqb}
use Rattle.arrayvec.specs.ArrayVec.{ArrayVec}
use Rattle.savi_kinds.specs.declared.port.Port.{Port}
use Rattle.savi_kinds.specs.declared.plan.Role.{Role}
use Rattle.savi_kinds.specs.declared.plan.Role.TheVariants as roles
use Rattle.savi_kinds.specs.declared.verdict.Verdict.{Verdict}
use Rattle.savi_kinds.specs.declared.verdict.Rule.{Rule}
use Rattle.savi_kinds.specs.declared.verdict.Rule.TheVariants.{OffLink, NaTarget, UnspecifiedSource, Unverified}
use Rattle.savi_kinds.specs.declared.verdict.Scope.TheVariants.{TrustedOnly}
use Rattle.savi_kinds.specs.declared.verdict.Verdict.TheVariants.{Pass, Drop}
use Rattle.savi_kinds.specs.Ports.{number_of}
use Rattle.v6_chain.specs.declared.packet.Ip.{Ip}
use Rattle.dhcp6_read.specs.declared.message.Dhcp.{Dhcp}
use Rattle.dhcp6_read.specs.declared.message.Lease.{Lease as Offered}
use Rattle.frame_class.specs.declared.classes.Class.{Class}
use Rattle.frame_class.specs.declared.classes.Class.TheVariants.{Runt, Tagged, Other, BadIp, Ip6}
use Rattle.frame_class.specs.declared.classes.Read.{Read}
use Rattle.ra_guard.specs.GuardOf.{guard_of}
use Rattle.fcfs_states.specs.declared.answer.Answer.{Answer}
use Rattle.fcfs_states.specs.declared.event.Ev.{Ev}
use Rattle.fcfs_states.specs.declared.event.Ev.TheVariants.{Sent, Dad, Na, TpDad, TpNa, Lease, Release}
use Rattle.dhcp_states.specs.declared.request.Request.{Request}
use Rattle.dhcp_states.specs.Requests.{request_of, open_at, refusal, asker, with_request, without_pair}
use Rattle.mix_rules.specs.declared.state.AddrState.{AddrState}
use Rattle.savi_access.specs.declared.row.Row.{Row}
use Rattle.savi_access.specs.declared.sent.SentProbe.{SentProbe}
use Rattle.savi_access.specs.Rooms.{room_for}
use Rattle.savi_access.specs.Ages.{aged_rows}
use Rattle.savi_access.specs.NamedMarks.{Named, names}
use Rattle.savi_access.specs.States.{outcome_of, state_of}
use Rattle.savi_access.specs.Tables.{rows_with, rows_after, rows_at}
use Rattle.savi_access.specs.Rules.{AccessRules, AccessBase}
use Rattle.savi_access.specs.Marks.{Mark, Told, Asked, Met, told, named_for, requests_after, open_requests}
use Rattle.savi_access.specs.Frames.{dad_target, advertised, dhcp_to, is_router_solicitation, is_listener_message, asking_duid, answered_duid, gives_up}
use Rattle.savi_access.specs.Judged.{Judged, judged, judged_by, judged_for, validated, trusted, heard_or, from_unspecified, unspecified_by, sourced, message, message_by, dhcp_or_other, to_server_by, to_client_or_other, replied, replied_by, asked_by, answer_to, answered, answered_or, with_event, with_events, is_on_link, is_passed, comes_to, passes, drops}
use Rattle.savi_access.specs.VlanMarks.{is_of, in_vlan, IsSameIn}

module _ (vlan : ℕ) where
  pub own_in : (mark : Mark) (past : List Mark) → is_of vlan mark ≡ true → in_vlan vlan (mark ∷ past) ≡ mark ∷ in_vlan vlan past
  own_in mark past is = rw is refl

  pub other_in : (mark : Mark) (past : List Mark) → is_of vlan mark ≡ false → in_vlan vlan (mark ∷ past) ≡ in_vlan vlan past
  other_in mark past not = rw not refl

module _ (r : AccessRules) (base : AccessBase) (vlan : ℕ) where
  abbrev rows_for : List Mark → List Row
  rows_for marks = rows_after r.addresses base.addresses (told marks) vlan

  rows_told : (named : Named) (past : List Mark) (b : Bool) → (named.vlan == vlan) ≡ b → rows_for (Told named ∷ past) ≡ (if b then rows_with r.addresses named (rows_for past) else rows_for past)
  rows_told named past b is = rw is refl

  -- the rows of a VLAN are those of its own marks
  rows_own : (past : List Mark) → rows_for past ≡ rows_for (in_vlan vlan past)
  rows_own [] = refl
  rows_own (Told named ∷ past) =
      elim (cases_Bool (named.vlan == vlan)) [
        | inl is ↦
            rows_told named past true is
            ∙ ap (λ (rows : List Row). rows_with r.addresses named rows) (rows_own past)
            ∙ sym (ap (λ (l : List Mark). rows_for l) (own_in vlan (Told named) past is) ∙ rows_told named (in_vlan vlan past) true is)
        | inr not ↦
            rows_told named past false not
            ∙ rows_own past
            ∙ sym (ap (λ (l : List Mark). rows_for l) (other_in vlan (Told named) past not))
      ]
  rows_own (Asked of request ∷ past) =
      elim (cases_Bool (of == vlan)) [
        | inl is ↦ rows_own past ∙ sym (ap (λ (l : List Mark). rows_for l) (own_in vlan (Asked of request) past is))
        | inr not ↦ rows_own past ∙ sym (ap (λ (l : List Mark). rows_for l) (other_in vlan (Asked of request) past not))
      ]
  rows_own (Met of moment tid duid ∷ past) =
      elim (cases_Bool (of == vlan)) [
        | inl is ↦ rows_own past ∙ sym (ap (λ (l : List Mark). rows_for l) (own_in vlan (Met of moment tid duid) past is))
        | inr not ↦ rows_own past ∙ sym (ap (λ (l : List Mark). rows_for l) (other_in vlan (Met of moment tid duid) past not))
      ]

  abbrev asks_for : List Mark → List Request
  asks_for marks = requests_after base vlan marks

  asked_told : (of : ℕ) (request : Request) (past : List Mark) (b : Bool) → (of == vlan) ≡ b → asks_for (Asked of request ∷ past) ≡ (if b then with_request request (asks_for past) else asks_for past)
  asked_told of request past b is = rw is refl

  met_told : (of moment tid : ℕ) (duid : List ℕ) (past : List Mark) (b : Bool) → (of == vlan) ≡ b → asks_for (Met of moment tid duid ∷ past) ≡ (if b then without_pair tid duid (asks_for past) else asks_for past)
  met_told of moment tid duid past b is = rw is refl

  requests_own : (past : List Mark) → asks_for past ≡ asks_for (in_vlan vlan past)
  requests_own [] = refl
  requests_own (Told named ∷ past) =
      elim (cases_Bool (named.vlan == vlan)) [
        | inl is ↦ requests_own past ∙ sym (ap (λ (l : List Mark). asks_for l) (own_in vlan (Told named) past is))
        | inr not ↦ requests_own past ∙ sym (ap (λ (l : List Mark). asks_for l) (other_in vlan (Told named) past not))
      ]
  requests_own (Asked of request ∷ past) =
      elim (cases_Bool (of == vlan)) [
        | inl is ↦
            asked_told of request past true is
            ∙ ap (λ (all : List Request). with_request request all) (requests_own past)
            ∙ sym (ap (λ (l : List Mark). asks_for l) (own_in vlan (Asked of request) past is) ∙ asked_told of request (in_vlan vlan past) true is)
        | inr not ↦
            asked_told of request past false not ∙ requests_own past ∙ sym (ap (λ (l : List Mark). asks_for l) (other_in vlan (Asked of request) past not))
      ]
  requests_own (Met of moment tid duid ∷ past) =
      elim (cases_Bool (of == vlan)) [
        | inl is ↦
            met_told of moment tid duid past true is
            ∙ ap (λ (all : List Request). without_pair tid duid all) (requests_own past)
            ∙ sym (ap (λ (l : List Mark). asks_for l) (own_in vlan (Met of moment tid duid) past is) ∙ met_told of moment tid duid (in_vlan vlan past) true is)
        | inr not ↦
            met_told of moment tid duid past false not ∙ requests_own past ∙ sym (ap (λ (l : List Mark). asks_for l) (other_in vlan (Met of moment tid duid) past not))
      ]

  module _ (a : ℕ) where
    abbrev state_for : List Mark → AddrState
    state_for marks = state_of r.addresses base.addresses (told marks) vlan a

    state_told : (named : Named) (past : List Mark) (b : Bool) → names vlan a named ≡ b → state_for (Told named ∷ past) ≡ (if b then (outcome_of r.addresses named (state_for past)).1 else state_for past)
    state_told named past b is = rw is refl

    elsewhere : (named : Named) → (named.vlan == vlan) ≡ false → names vlan a named ≡ false
    elsewhere named not = rw not refl

    state_own : (past : List Mark) → state_for past ≡ state_for (in_vlan vlan past)
    state_own [] = refl
    state_own (Told named ∷ past) =
        elim (cases_Bool (named.vlan == vlan)) [
          | inl is ↦
              state_told named past (names vlan a named) refl
              ∙ ap (λ (s : AddrState). if names vlan a named then (outcome_of r.addresses named s).1 else s) (state_own past)
              ∙ sym (ap (λ (l : List Mark). state_for l) (own_in vlan (Told named) past is) ∙ state_told named (in_vlan vlan past) (names vlan a named) refl)
          | inr not ↦
              state_told named past false (elsewhere named not)
              ∙ state_own past
              ∙ sym (ap (λ (l : List Mark). state_for l) (other_in vlan (Told named) past not))
        ]
    state_own (Asked of request ∷ past) =
        elim (cases_Bool (of == vlan)) [
          | inl is ↦ state_own past ∙ sym (ap (λ (l : List Mark). state_for l) (own_in vlan (Asked of request) past is))
          | inr not ↦ state_own past ∙ sym (ap (λ (l : List Mark). state_for l) (other_in vlan (Asked of request) past not))
        ]
    state_own (Met of moment tid duid ∷ past) =
        elim (cases_Bool (of == vlan)) [
          | inl is ↦ state_own past ∙ sym (ap (λ (l : List Mark). state_for l) (own_in vlan (Met of moment tid duid) past is))
          | inr not ↦ state_own past ∙ sym (ap (λ (l : List Mark). state_for l) (other_in vlan (Met of moment tid duid) past not))
        ]

module _ (r : AccessRules) (base : AccessBase) (vlan : ℕ) (port : Port) (t : ℕ) where
  abbrev SameMarks : List Mark → List Mark → Type 0
  SameMarks past other = in_vlan vlan past ≡ in_vlan vlan other

  pub rows_same : (past other : List Mark) → SameMarks past other → rows_at r.addresses base.addresses (told past) t vlan ≡ rows_at r.addresses base.addresses (told other) t vlan
  rows_same past other same =
      ap (λ (rows : List Row). aged_rows r.addresses.times t rows)
      (rows_own r base vlan past ∙ ap (λ (l : List Mark). rows_after r.addresses base.addresses (told l) vlan) same ∙ sym (rows_own r base vlan other))

  pub open_same : (past other : List Mark) → SameMarks past other → open_requests base vlan past t ≡ open_requests base vlan other t
  open_same past other same =
      ap (λ (all : List Request). open_at t all) (requests_own r base vlan past ∙ ap (λ (l : List Mark). requests_after base vlan l) same ∙ sym (requests_own r base vlan other))

  pub state_same : (past other : List Mark) (a : ℕ) → SameMarks past other → state_of r.addresses base.addresses (told past) vlan a ≡ state_of r.addresses base.addresses (told other) vlan a
  state_same past other a same =
      state_own r base vlan a past ∙ ap (λ (l : List Mark). state_of r.addresses base.addresses (told l) vlan a) same ∙ sym (state_own r base vlan a other)

  abbrev named_by : ℕ → Ev → List Row → Named
  named_by a event rows = record { vlan = vlan; address = a; moment = t; event = event; room = room_for r.addresses.per_port rows event }

  named_same : (past other : List Mark) (a : ℕ) (event : Ev) → SameMarks past other → named_for r base vlan t past a event ≡ named_for r base vlan t other a event
  named_same past other a event same = ap (λ (rows : List Row). named_by a event rows) (rows_same past other same)

  -- a mark of the VLAN in front of both
  front_same : (one two : Mark) (past other : List Mark) → is_of vlan one ≡ true → is_of vlan two ≡ true → one ≡ two → SameMarks past other → SameMarks (one ∷ past) (two ∷ other)
  front_same one two past other own own_two mark same =
      own_in vlan one past own ∙ ap (λ (m : Mark). m ∷ in_vlan vlan past) mark ∙ ap (λ (l : List Mark). two ∷ l) same ∙ sym (own_in vlan two other own_two)

  pub event_same : (past other : List Mark) (a : ℕ) (event : Ev) → SameMarks past other → SameMarks (with_event r base vlan port t a event past) (with_event r base vlan port t a event other)
  event_same past other a event same =
      front_same (Told (named_for r base vlan t past a event)) (Told (named_for r base vlan t other a event)) past other (eq-eqb vlan vlan refl) (eq-eqb vlan vlan refl)
      (ap (λ (n : Named). Told n) (named_same past other a event same)) same

  answer_same : (past other : List Mark) (a : ℕ) (event : Ev) → SameMarks past other → answer_to r base vlan port t past a event ≡ answer_to r base vlan port t other a event
  answer_same past other a event same =
      ap (λ (n : Named). (outcome_of r.addresses n (state_of r.addresses base.addresses (told past) vlan a)).0) (named_same past other a event same)
      ∙ ap (λ (s : AddrState). (outcome_of r.addresses (named_for r base vlan t other a event) s).0) (state_same past other a same)

  abbrev sent_by : ℕ → Answer → Option SentProbe
  sent_by a answer = option_map (λ probe. record { due = t; address = record { 0 = a }; probe = probe }) answer.probe

  answered_same : (past other : List Mark) (a : ℕ) (event : Ev) → SameMarks past other → IsSameIn vlan (answered r base vlan port t past a event) (answered r base vlan port t other a event)
  answered_same past other a event same = record {
    verdict = ap (λ (x : Answer). unwrap_or x.verdict (Drop Unverified)) (answer_same past other a event same);
    probe = ap (λ (x : Answer). sent_by a x) (answer_same past other a event same);
    marks = event_same past other a event same;
  }

  comes_same : (verdict : Verdict) (past other : List Mark) → SameMarks past other → IsSameIn vlan (comes_to verdict past) (comes_to verdict other)
  comes_same verdict past other same = record { verdict = refl; probe = refl; marks = same }

  either_same : (b : Bool) (one two one_other two_other : Judged) → IsSameIn vlan one one_other → IsSameIn vlan two two_other → IsSameIn vlan (if b then one else two) (if b then one_other else two_other)
  either_same true one two one_other two_other first second = first
  either_same false one two one_other two_other first second = second

  or_same : (past other : List Mark) (rule : Rule) (a : ℕ) (event : Ev) → SameMarks past other → IsSameIn vlan (answered_or r base vlan port t rule past a event) (answered_or r base vlan port t rule other a event)
  or_same past other rule a event same =
      either_same (is_on_link r base vlan port t a) (answered r base vlan port t past a event) (drops rule past) (answered r base vlan port t other a event) (drops rule other)
      (answered_same past other a event same) (comes_same (Drop rule) past other same)

  if_same : (b : Bool) (past other more more_other : List Mark) → SameMarks past other → SameMarks more more_other → SameMarks (if b then more else past) (if b then more_other else other)
  if_same true past other more more_other same rest = rest
  if_same false past other more more_other same rest = same

  events_same : (event : Offered → Ev) (leases : List Offered) (past other : List Mark) → SameMarks past other → SameMarks (with_events r base vlan port t event leases past) (with_events r base vlan port t event leases other)
  events_same event [] past other same = same
  events_same event (lease ∷ leases) past other same =
      events_same event leases
      (if is_on_link r base vlan port t lease.address.0 then with_event r base vlan port t lease.address.0 (event lease) past else past)
      (if is_on_link r base vlan port t lease.address.0 then with_event r base vlan port t lease.address.0 (event lease) other else other)
      (if_same (is_on_link r base vlan port t lease.address.0) past other
      (with_event r base vlan port t lease.address.0 (event lease) past) (with_event r base vlan port t lease.address.0 (event lease) other) same
      (event_same past other lease.address.0 (event lease) same))

  replied_same_by : (past other : List Mark) → SameMarks past other → (dhcp : Dhcp) (duid : List ℕ) (o : Option Port) → SameMarks (replied_by r base vlan port t past dhcp duid o) (replied_by r base vlan port t other dhcp duid o)
  replied_same_by past other same dhcp duid None = same
  replied_same_by past other same dhcp duid (Some p) =
      events_same (λ lease. Lease p lease.valid) dhcp.leases.items (Met vlan t dhcp.tid duid ∷ past) (Met vlan t dhcp.tid duid ∷ other)
      (front_same (Met vlan t dhcp.tid duid) (Met vlan t dhcp.tid duid) past other (eq-eqb vlan vlan refl) (eq-eqb vlan vlan refl) refl same)

  replied_same : (past other : List Mark) → SameMarks past other → (dhcp : Dhcp) (s : Option (ArrayVec ℕ)) → SameMarks (replied r base vlan port t past dhcp s) (replied r base vlan port t other dhcp s)
  replied_same past other same dhcp None = same
  replied_same past other same dhcp (Some duid) =
      ap (λ (now : List Request). in_vlan vlan (replied_by r base vlan port t past dhcp duid.items (asker dhcp.tid duid.items now))) (open_same past other same)
      ∙ replied_same_by past other same dhcp duid.items (asker dhcp.tid duid.items (open_requests base vlan other t))

  client_same : (past other : List Mark) → SameMarks past other → (s : Option Dhcp) → IsSameIn vlan (to_client_or_other r base vlan port t past s) (to_client_or_other r base vlan port t other s)
  client_same past other same None = record { verdict = refl; probe = refl; marks = same }
  client_same past other same (Some dhcp) = record { verdict = refl; probe = refl; marks = replied_same past other same dhcp (answered_duid dhcp) }

  asked_same : (past other : List Mark) → SameMarks past other → (tid : ℕ) (duid : List ℕ) (o : Option Rule) → IsSameIn vlan (asked_by r base vlan port t past tid duid o) (asked_by r base vlan port t other tid duid o)
  asked_same past other same tid duid (Some rule) = record { verdict = refl; probe = refl; marks = same }
  asked_same past other same tid duid None = record {
    verdict = refl;
    probe = refl;
    marks = front_same (Asked vlan (request_of port tid duid t)) (Asked vlan (request_of port tid duid t)) past other (eq-eqb vlan vlan refl) (eq-eqb vlan vlan refl) refl same;
  }

  gives_same : (b : Bool) (past other : List Mark) → SameMarks past other → (dhcp : Dhcp)
      → SameMarks (if b then with_events r base vlan port t (λ lease. Release port) dhcp.leases.items past else past) (if b then with_events r base vlan port t (λ lease. Release port) dhcp.leases.items other else other)
  gives_same true past other same dhcp = events_same (λ lease. Release port) dhcp.leases.items past other same
  gives_same false past other same dhcp = same

  server_same : (past other : List Mark) → SameMarks past other → (dhcp : Dhcp) (s : Option (ArrayVec ℕ)) → IsSameIn vlan (to_server_by r base vlan port t past dhcp s) (to_server_by r base vlan port t other dhcp s)
  server_same past other same dhcp (Some duid) =
      subst (λ (now : List Request). IsSameIn vlan (asked_by r base vlan port t past dhcp.tid duid.items (refusal (number_of port) dhcp.tid duid.items (open_requests base vlan past t))) (asked_by r base vlan port t other dhcp.tid duid.items (refusal (number_of port) dhcp.tid duid.items now)))
      (open_same past other same)
      (asked_same past other same dhcp.tid duid.items (refusal (number_of port) dhcp.tid duid.items (open_requests base vlan past t)))
  server_same past other same dhcp None = record { verdict = refl; probe = refl; marks = gives_same (gives_up dhcp) past other same dhcp }

  dhcp_same : (past other : List Mark) → SameMarks past other → (read : Read) (s : Option Dhcp) → IsSameIn vlan (dhcp_or_other r base vlan port t past read s) (dhcp_or_other r base vlan port t other read s)
  dhcp_same past other same read (Some dhcp) = server_same past other same dhcp (asking_duid dhcp)
  dhcp_same past other same read None = client_same past other same (dhcp_to 546 read)

  message_same : (past other : List Mark) → SameMarks past other → (read : Read) (s : Option ℕ) → IsSameIn vlan (message_by r base vlan port t past read s) (message_by r base vlan port t other read s)
  message_same past other same read (Some target) = or_same past other NaTarget target (Na port) same
  message_same past other same read None = dhcp_same past other same read (dhcp_to 547 read)

  followed_same : (b : Bool) (one other : Judged) → IsSameIn vlan one other → (read : Read)
      → IsSameIn vlan (if b then message r base vlan port t one.marks read else one) (if b then message r base vlan port t other.marks read else other)
  followed_same true one other same read = message_same one.marks other.marks same.marks read (advertised read)
  followed_same false one other same read = same

  excepted_same : (b : Bool) (past other : List Mark) → SameMarks past other → IsSameIn vlan (if b then comes_to (Pass TrustedOnly) past else drops UnspecifiedSource past) (if b then comes_to (Pass TrustedOnly) other else drops UnspecifiedSource other)
  excepted_same true past other same = record { verdict = refl; probe = refl; marks = same }
  excepted_same false past other same = record { verdict = refl; probe = refl; marks = same }

  unspecified_same : (past other : List Mark) → SameMarks past other → (ip : Ip) (read : Read) (s : Option ℕ) → IsSameIn vlan (unspecified_by r base vlan port t past ip read s) (unspecified_by r base vlan port t other ip read s)
  unspecified_same past other same ip read (Some target) = or_same past other OffLink target (Dad port) same
  unspecified_same past other same ip read None = excepted_same (is_router_solicitation read || is_listener_message ip read) past other same

  packet_same : (b : Bool) (past other : List Mark) → SameMarks past other → (ip : Ip) (read : Read)
      → IsSameIn vlan (if b then from_unspecified r base vlan port t past ip read else sourced r base vlan port t past ip read) (if b then from_unspecified r base vlan port t other ip read else sourced r base vlan port t other ip read)
  packet_same true past other same ip read = unspecified_same past other same ip read (dad_target read)
  packet_same false past other same ip read =
      let one : Judged = answered_or r base vlan port t OffLink past ip.src.0 (Sent port) in
      let two : Judged = answered_or r base vlan port t OffLink other ip.src.0 (Sent port) in
      let sent : IsSameIn vlan one two = or_same past other OffLink ip.src.0 (Sent port) same in
      subst (λ (v : Verdict). IsSameIn vlan (if is_passed one.verdict then message r base vlan port t one.marks read else one) (if is_passed v then message r base vlan port t two.marks read else two)) sent.verdict
      (followed_same (is_passed one.verdict) one two sent read)

  validated_same : (past other : List Mark) → SameMarks past other → (class : Class) → IsSameIn vlan (validated r base vlan port t past class) (validated r base vlan port t other class)
  validated_same past other same Runt = record { verdict = refl; probe = refl; marks = same }
  validated_same past other same (Tagged eth) = record { verdict = refl; probe = refl; marks = same }
  validated_same past other same (Other eth) = record { verdict = refl; probe = refl; marks = same }
  validated_same past other same (BadIp eth) = record { verdict = refl; probe = refl; marks = same }
  validated_same past other same (Ip6 eth ip read) = packet_same (ip.src.0 == 0) past other same ip read

  heard_same : (past other : List Mark) → SameMarks past other → (s : Option ℕ) (event : Ev) (one two : Judged) → IsSameIn vlan one two → IsSameIn vlan (heard_or r base vlan port t past s event one) (heard_or r base vlan port t other s event two)
  heard_same past other same None event one two rest = rest
  heard_same past other same (Some target) event one two rest =
      either_same (is_on_link r base vlan port t target) (answered r base vlan port t past target event) (passes past) (answered r base vlan port t other target event) (passes other)
      (answered_same past other target event same) (record { verdict = refl; probe = refl; marks = same })

  trusted_same : (past other : List Mark) → SameMarks past other → (class : Class) → IsSameIn vlan (trusted r base vlan port t past class) (trusted r base vlan port t other class)
  trusted_same past other same Runt = record { verdict = refl; probe = refl; marks = same }
  trusted_same past other same (Tagged eth) = record { verdict = refl; probe = refl; marks = same }
  trusted_same past other same (Other eth) = record { verdict = refl; probe = refl; marks = same }
  trusted_same past other same (BadIp eth) = record { verdict = refl; probe = refl; marks = same }
  trusted_same past other same (Ip6 eth ip read) =
      let client : Judged = to_client_or_other r base vlan port t past (dhcp_to 546 read) in
      let client_two : Judged = to_client_or_other r base vlan port t other (dhcp_to 546 read) in
      heard_same past other same (dad_target read) TpDad (heard_or r base vlan port t past (advertised read) TpNa client) (heard_or r base vlan port t other (advertised read) TpNa client_two)
      (heard_same past other same (advertised read) TpNa client client_two (client_same past other same (dhcp_to 546 read)))

  role_same : (role : Role) (past other : List Mark) → SameMarks past other → (class : Class) → IsSameIn vlan (judged_for r base vlan port t past class role) (judged_for r base vlan port t other class role)
  role_same roles.Host past other same class = validated_same past other same class
  role_same roles.Server past other same class = validated_same past other same class
  role_same roles.Trusted past other same class = trusted_same past other same class

  guard_same : (g : Option Rule) (past other : List Mark) → SameMarks past other → (class : Class) → IsSameIn vlan (judged_by r base vlan port t past class g) (judged_by r base vlan port t other class g)
  guard_same (Some rule) past other same class = record { verdict = refl; probe = refl; marks = same }
  guard_same None past other same class =
      either_same r.validates (judged_for r base vlan port t past class (r.role_of (number_of port))) (passes past) (judged_for r base vlan port t other class (r.role_of (number_of port))) (passes other)
      (role_same (r.role_of (number_of port)) past other same class) (record { verdict = refl; probe = refl; marks = same })

  pub same_judged : (past other : List Mark) (class : Class) → in_vlan vlan past ≡ in_vlan vlan other → IsSameIn vlan (judged r base vlan port t past class) (judged r base vlan port t other class)
  unfolding judged
  same_judged past other class same = guard_same (guard_of (r.role_of (number_of port)) r.drop_unknown class) past other same class
