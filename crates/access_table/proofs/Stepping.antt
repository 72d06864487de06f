-- What the steps of a judgement come to.
use Rattle.std.proofs.Common.{◌≡◌, ℕ, ◌≤◌, Option, Some, None, IsSome, is_some, unwrap_or, if◌then◌else◌, List, [], ◌∷◌, ◌++◌, length, take, zero, suc, refl, sym, ap, ◌∙◌, subst, arith}
use Rattle.std.specs.Option.{option_map}
use Rattle.arrayvec.specs.ArrayVec.{ArrayVec}
use Rattle.savi_kinds.specs.declared.port.Port.{Port}
use Rattle.savi_kinds.specs.declared.verdict.Rule.{Rule}
use Rattle.savi_kinds.specs.declared.verdict.Rule.TheVariants.{Unverified}
use Rattle.savi_kinds.specs.declared.verdict.Scope.TheVariants.{All}
use Rattle.savi_kinds.specs.declared.verdict.Verdict.{Verdict}
use Rattle.savi_kinds.specs.declared.verdict.Verdict.TheVariants.{Pass, Drop}
use Rattle.savi_kinds.specs.Ports.{number_of}
use Rattle.dhcp6_read.specs.declared.message.Dhcp.{Dhcp}
use Rattle.dhcp6_read.specs.declared.message.Lease.{Lease as Offered}
use Rattle.fcfs_states.specs.declared.answer.Answer.{Answer}
use Rattle.fcfs_states.specs.declared.event.Ev.{Ev}
use Rattle.fcfs_states.specs.declared.event.Ev.TheVariants.{Release}
use Rattle.savi_access.specs.Frames.{gives_up}
use Rattle.dhcp_states.specs.Requests.{open_at, refusal, asker}
use Rattle.savi_access.specs.Rooms.{port_of as event_port}
use Rattle.savi_access.specs.Limits.{IsOfVlan}
use Rattle.savi_access.specs.Rules.{AccessRules, AccessBase}
use Rattle.savi_access.specs.Marks.{Mark, Met, open_requests}
use Rattle.savi_access.specs.Judged.{Judged, with_event, with_events, is_on_link, answered, comes_to, asked_by, replied, replied_by, to_server_by}
use Rattle.savi_access.proofs.Keeping.{asker_of}
use Rattle.access_table.specs.declared.change.Change.{Change}
use Rattle.access_table.specs.declared.change.Change.TheVariants.{Released, Leased}
use Rattle.access_table.specs.declared.judgement.Judgement.{Judgement}
use Rattle.access_table.specs.Kept.{Kept, Represents}
use Rattle.access_table.specs.Events.{change_port, change_event}
use Rattle.access_table.specs.Steps.{AnswersEvent, Hears, Moves, ComesTo, FollowsStep}
use Rattle.access_table.proofs.Standing.{events_more}

module _ (r : AccessRules) (vlan t : ℕ) where
  pub answers_follow : (base : AccessBase) (past : List Mark) (port : Port) (old new : Kept) (a : ℕ) (event : Ev) (off_link : Verdict) (answer : Answer) (result : Judgement)
      → IsSome (r.addresses.method_of old.vlan a) → AnswersEvent r t old new a event base past port answer
      → result.verdict ≡ unwrap_or answer.verdict (Drop Unverified)
      → result.probe ≡ option_map (λ probe. record { due = t; address = record { 0 = a }; probe = probe }) answer.probe
      → ComesTo r base t new result (if is_on_link r base old.vlan port t a then answered r base old.vlan port t past a event else comes_to off_link past)
  answers_follow base past port old new a event off_link answer result on is verdict probe =
      subst (λ b. ComesTo r base t new result (if b then answered r base old.vlan port t past a event else comes_to off_link past)) (sym on)
      (record {
        verdict = verdict ∙ ap (λ (x : Answer). unwrap_or x.verdict (Drop Unverified)) is.answer;
        probe = probe ∙ ap (λ (x : Answer). option_map (λ probe. record { due = t; address = record { 0 = a }; probe = probe }) x.probe) is.answer;
        kept = is.kept;
      })

  own_event : (change : Change) (lease : Offered) → r.addresses.vlan_of (number_of (change_port change)) ≡ Some vlan → IsOfVlan r.addresses vlan (event_port (change_event change lease))
  own_event (Released p) lease own = own
  own_event (Leased p) lease own = own

  told_here : (port : Port) (base : AccessBase) (old new : Kept) (a : ℕ) (event : Ev) (marks : List Mark) (o : Option Answer)
      → IsOfVlan r.addresses old.vlan (event_port event) → Hears r t old new a event o → Represents r base marks t old
      → Represents r base (if is_on_link r base old.vlan port t a then with_event r base old.vlan port t a event marks else marks) t new
  told_here port base old new a event marks None own heard is =
      subst (λ m. Represents r base (if is_some m then with_event r base old.vlan port t a event marks else marks) t new) (sym heard.0) (subst (λ (k : Kept). Represents r base marks t k) (sym heard.1) is)
  told_here port base old new a event marks (Some answer) own heard is =
      subst (λ b. Represents r base (if b then with_event r base old.vlan port t a event marks else marks) t new) (sym heard.0) (heard.1 base marks port is own).kept

  -- one address more of a message
  pub one_more : (port : Port) (change : Change) (start old new : Kept) (leases : List Offered) (lease : Offered) (event : Ev) (o : Option Answer)
      → old.vlan ≡ vlan → event ≡ change_event change lease → r.addresses.vlan_of (number_of (change_port change)) ≡ Some vlan
      → Moves r t start old (λ base past. with_events r base vlan port t (change_event change) leases past)
      → Hears r t old new lease.address.0 event o
      → Moves r t start new (λ base past. with_events r base vlan port t (change_event change) (leases ++ lease ∷ []) past)
  one_more port change start old new leases lease event o of same own told heard = λ base past is.
      let marks : List Mark = with_events r base vlan port t (change_event change) leases past in
      let here : IsOfVlan r.addresses old.vlan (event_port (change_event change lease)) = subst (λ (v : ℕ). IsOfVlan r.addresses v (event_port (change_event change lease))) (sym of) (own_event change lease own) in
      subst (λ (ms : List Mark). Represents r base ms t new) (sym (events_more r base vlan port t (change_event change) leases lease past))
      (subst (λ (v : ℕ). Represents r base (if is_on_link r base v port t lease.address.0 then with_event r base v port t lease.address.0 (change_event change lease) marks else marks) t new) of
      (told_here port base old new lease.address.0 (change_event change lease) marks o here (subst (λ (e : Ev). Hears r t old new lease.address.0 e o) same heard) (told base past is)))

  -- a Reply without a DUID, or another message
  replied_none : (base : AccessBase) (port : Port) (past : List Mark) (dhcp : Dhcp) (s : Option (ArrayVec ℕ)) → None ≡ option_map (λ (d : ArrayVec ℕ). d.items) s → replied r base vlan port t past dhcp s ≡ past
  replied_none base port past dhcp None is = refl
  replied_none base port past dhcp (Some d) is = absurd (cc)

  replied_some : (base : AccessBase) (port : Port) (past : List Mark) (dhcp : Dhcp) (s : Option (ArrayVec ℕ)) (duid : List ℕ) (o : Option Port) → Some duid ≡ option_map (λ (d : ArrayVec ℕ). d.items) s → asker dhcp.tid duid (open_requests base vlan past t) ≡ o → replied r base vlan port t past dhcp s ≡ replied_by r base vlan port t past dhcp duid o
  replied_some base port past dhcp None duid o is asks = absurd (cc)
  replied_some base port past dhcp (Some d) duid o is asks =
      let same : d.items ≡ duid = cc in
      ap (λ (l : List ℕ). replied_by r base vlan port t past dhcp l (asker dhcp.tid l (open_requests base vlan past t))) same
      ∙ ap (replied_by r base vlan port t past dhcp duid) asks

  pub reply_for_none : (port : Port) (kept : Kept) (dhcp : Dhcp) (s : Option (ArrayVec ℕ)) → None ≡ option_map (λ (d : ArrayVec ℕ). d.items) s → Moves r t kept kept (λ base past. replied r base vlan port t past dhcp s)
  reply_for_none port kept dhcp s none = λ base past is. subst (λ (ms : List Mark). Represents r base ms t kept) (sym (replied_none base port past dhcp s none)) is

  pub reply_unasked : (port : Port) (old new : Kept) (dhcp : Dhcp) (s : Option (ArrayVec ℕ)) (duid : List ℕ) → Some duid ≡ option_map (λ (d : ArrayVec ℕ). d.items) s → None ≡ asker dhcp.tid duid (open_at t old.requests) → old.vlan ≡ vlan → Moves r t old new (λ base past. past) → Moves r t old new (λ base past. replied r base vlan port t past dhcp s)
  reply_unasked port old new dhcp s duid own none of same = λ base past is.
      subst (λ (ms : List Mark). Represents r base ms t new) (sym (replied_some base port past dhcp s duid None own (ap (asker dhcp.tid duid) (sym (is.requests ∙ ap (λ (v : ℕ). open_requests base v past t) of)) ∙ sym none))) (same base past is)

  pub reply_asked : (port : Port) (old between new : Kept) (dhcp : Dhcp) (s : Option (ArrayVec ℕ)) (duid : List ℕ) (q : Port) → Some duid ≡ option_map (λ (d : ArrayVec ℕ). d.items) s → Some q ≡ asker dhcp.tid duid (open_at t old.requests) → old.vlan ≡ vlan
      → Moves r t old between (λ base past. Met vlan t dhcp.tid duid ∷ past)
      → (r.addresses.vlan_of (number_of q) ≡ Some vlan → Moves r t between new (λ base past. with_events r base vlan port t (change_event (Leased q)) dhcp.leases.items past))
      → Moves r t old new (λ base past. replied r base vlan port t past dhcp s)
  reply_asked port old between new dhcp s duid q own asks of met told = λ base past is.
      let here : asker dhcp.tid duid (open_requests base vlan past t) ≡ Some q = ap (asker dhcp.tid duid) (sym (is.requests ∙ ap (λ (v : ℕ). open_requests base v past t) of)) ∙ sym asks in
      subst (λ (ms : List Mark). Represents r base ms t new) (sym (replied_some base port past dhcp s duid (Some q) own here))
      (told (asker_of r base is.base_is vlan past t dhcp.tid duid q is.marks here) base (Met vlan t dhcp.tid duid ∷ past) (met base past is))

  -- a client that asks
  to_server_some : (base : AccessBase) (port : Port) (past : List Mark) (dhcp : Dhcp) (s : Option (ArrayVec ℕ)) (duid : List ℕ) (o : Option Rule) → Some duid ≡ option_map (λ (d : ArrayVec ℕ). d.items) s → refusal (number_of port) dhcp.tid duid (open_requests base vlan past t) ≡ o → to_server_by r base vlan port t past dhcp s ≡ asked_by r base vlan port t past dhcp.tid duid o
  to_server_some base port past dhcp None duid o is refused = absurd (cc)
  to_server_some base port past dhcp (Some d) duid o is refused =
      let same : d.items ≡ duid = cc in
      ap (λ (l : List ℕ). asked_by r base vlan port t past dhcp.tid l (refusal (number_of port) dhcp.tid l (open_requests base vlan past t))) same
      ∙ ap (asked_by r base vlan port t past dhcp.tid duid) refused

  pub asks_for : (port : Port) (old new : Kept) (dhcp : Dhcp) (s : Option (ArrayVec ℕ)) (duid : List ℕ) (o : Option Rule) (result : Judgement) → Some duid ≡ option_map (λ (d : ArrayVec ℕ). d.items) s → o ≡ refusal (number_of port) dhcp.tid duid (open_at t old.requests) → old.vlan ≡ vlan
      → ((base : AccessBase) (past : List Mark) → Represents r base past t old → ComesTo r base t new result (asked_by r base vlan port t past dhcp.tid duid o))
      → FollowsStep r t old new result (λ base past. to_server_by r base vlan port t past dhcp s)
  asks_for port old new dhcp s duid o result own refused of comes = λ base past is.
      subst (λ (j : Judged). ComesTo r base t new result j) (sym (to_server_some base port past dhcp s duid o own (ap (refusal (number_of port) dhcp.tid duid) (sym (is.requests ∙ ap (λ (v : ℕ). open_requests base v past t) of)) ∙ sym refused))) (comes base past is)

-- all leases
pub taken_all : (leases : List Offered) (n : ℕ) → length leases ≤ n → take n leases ≡ leases
taken_all [] zero past = refl
taken_all [] (suc n) past = refl
taken_all (lease ∷ leases) zero past = absurd (omega (arith, past))
taken_all (lease ∷ leases) (suc n) past = ap (λ l. lease ∷ l) (taken_all leases n (omega (arith, past)))

module _ (r : AccessRules) (vlan t : ℕ) where
  -- a message to servers by which none asks
  pub gives_up_for : (port : Port) (old new : Kept) (dhcp : Dhcp) (s : Option (ArrayVec ℕ)) (result : Judgement) → None ≡ option_map (λ (d : ArrayVec ℕ). d.items) s → result ≡ record { verdict = Pass All; probe = None }
      → Moves r t old new (λ base past. if gives_up dhcp then with_events r base vlan port t (λ lease. Release port) dhcp.leases.items past else past)
      → FollowsStep r t old new result (λ base past. to_server_by r base vlan port t past dhcp s)
  gives_up_for port old new dhcp None result own passed told = λ base past is. record {
    verdict = ap (λ (j : Judgement). j.verdict) passed;
    probe = ap (λ (j : Judgement). j.probe) passed;
    kept = told base past is;
  }
  gives_up_for port old new dhcp (Some d) result own passed told = absurd (cc)
