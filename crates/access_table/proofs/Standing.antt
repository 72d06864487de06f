-- What stands for a past, and for that past with one mark more.
use Rattle.std.proofs.Common.{◌≡◌, ℕ, ◌≤◌, ◌^◌, Option, Some, None, is_some, if◌then◌else◌, List, [], ◌∷◌, ◌++◌, find, refl, sym, ap, ◌∙◌, subst, inl, inr, arith}
use Rattle.std.specs.Option.{option_map}
use Rattle.std.proofs.lemmas.Bool.{cases_Bool, eq-eqb}
use Rattle.savi_kinds.specs.declared.port.Port.{Port}
use Rattle.savi_kinds.specs.declared.plan.Method.{Method}
use Rattle.savi_kinds.specs.Ports.{number_of}
use Rattle.dhcp6_read.specs.declared.message.Lease.{Lease as Offered}
use Rattle.fcfs_states.specs.declared.event.Ev.{Ev}
use Rattle.fcfs_states.specs.declared.times.Times.{Times}
use Rattle.fcfs_states.specs.Premises.{AreTimes}
use Rattle.dhcp_states.specs.declared.request.Request.{Request}
use Rattle.dhcp_states.specs.Requests.{request_of, open_at, has_pair, refusal, without_pair, with_request, asker}
use Rattle.dhcp_states.proofs.Counts.{open_at-later}
use Rattle.mix_rules.specs.Next.{Outcome, next_state}
use Rattle.mix_rules.specs.Premises.{IsLeaseInRange}
use Rattle.savi_access.specs.declared.row.Row.{Row}
use Rattle.savi_access.specs.Rows.{state_in, with_state}
use Rattle.addr_table.specs.Addresses.{Addresses}
use Rattle.savi_access.specs.Ages.{aged_rows, AllStill}
use Rattle.savi_access.specs.Keeps.{AreSound}
use Rattle.savi_access.specs.Sends.{sends}
use Rattle.savi_access.specs.Rooms.{port_of, IsFixable}
use Rattle.addr_table.specs.Outcomes.{outcome_in}
use Rattle.savi_access.specs.Bases.{AreTables}
use Rattle.savi_access.specs.NamedMarks.{Named}
use Rattle.savi_access.specs.Tables.{rows_after, rows_at}
use Rattle.savi_access.specs.Probes.{probes_between}
use Rattle.savi_access.specs.Limits.{IsOfVlan}
use Rattle.savi_access.proofs.TablesOf.{rows-later, at_mark, answer_by_rows}
use Rattle.savi_access.proofs.AllSends.{sends-late}
use Rattle.savi_access.proofs.StatesKept.{base_times, base_tables}
use Rattle.savi_access.specs.Rules.{AccessRules, AccessBase}
use Rattle.savi_access.specs.Marks.{Mark, Asked, Met, told, requests_after, open_requests, named_for}
use Rattle.savi_access.specs.Judged.{answer_to, with_event, with_events, is_on_link}
use Rattle.savi_access.proofs.States.{none_some}
use Rattle.savi_access.proofs.Requests.{open_with, open_without}
use Rattle.savi_access.proofs.Keeping.{told_follows}
use Rattle.access_table.specs.Kept.{Kept, Represents, IsAgedTo}

-- where none asked there is nothing to take away
pub none_without : (tid : ℕ) (duid : List ℕ) (requests : List Request) → asker tid duid requests ≡ None → without_pair tid duid requests ≡ requests
none_without tid duid [] none = refl
none_without tid duid (request ∷ requests) none =
    elim (cases_Bool (has_pair tid duid request)) [
      | inl here ↦ absurd (none_some (ap is_some (sym (subst (λ b. option_map (λ (q : Request). q.port) (if b then Some request else find (has_pair tid duid) requests) ≡ None) here none))))
      | inr behind ↦ rw behind (ap (λ l. request ∷ l) (none_without tid duid requests (subst (λ b. option_map (λ (q : Request). q.port) (if b then Some request else find (has_pair tid duid) requests) ≡ None) behind none)))
    ]

-- the requests of a VLAN once one more was asked there, or one was met
asked_after : (base : AccessBase) (past : List Mark) (v w : ℕ) → w ≡ v → (request : Request) → requests_after base w (Asked v request ∷ past) ≡ with_request request (requests_after base v past)
asked_after base past v w same request = ap (λ (u : ℕ). requests_after base u (Asked v request ∷ past)) same ∙ rw (eq-eqb v v refl) refl

met_after : (base : AccessBase) (past : List Mark) (v w : ℕ) → w ≡ v → (t tid : ℕ) (duid : List ℕ) → requests_after base w (Met v t tid duid ∷ past) ≡ without_pair tid duid (requests_after base v past)
met_after base past v w same t tid duid = ap (λ (u : ℕ). requests_after base u (Met v t tid duid ∷ past)) same ∙ rw (eq-eqb v v refl) refl

module _ (r : AccessRules) (base : AccessBase) (past : List Mark) where
  -- the same addresses and open requests stand for the same
  pub same_stands : (t : ℕ) (old new : Kept) → Represents r base past t old → new.vlan ≡ old.vlan → new.addresses ≡ old.addresses → open_at t new.requests ≡ open_at t old.requests → Represents r base past t new
  same_stands t old new is vlan addresses requests = record {
    base_is = is.base_is;
    marks = is.marks;
    last = is.last;
    rows = ap (λ (x : Addresses). x.rows) addresses ∙ is.rows ∙ ap (rows_at r.addresses base.addresses (told past) t) (sym vlan);
    requests = requests ∙ is.requests ∙ ap (λ (v : ℕ). open_requests base v past t) (sym vlan);
    times = ap (λ (x : Addresses). x.times) addresses ∙ is.times;
    per_port = ap (λ (x : Addresses). x.per_port) addresses ∙ is.per_port;
  }

  -- ageing leaves what was told
  pub aged_stands : (from t : ℕ) (old new : Kept) → Represents r base past from old → from ≤ t → new.vlan ≡ old.vlan → new.addresses ≡ record old.addresses { rows = aged_rows old.addresses.times t old.addresses.rows } → new.requests ≡ old.requests → Represents r base past t new
  aged_stands from t old new is after vlan addresses requests = record {
    base_is = is.base_is;
    marks = is.marks;
    last = omega (arith, is.last, after);
    rows =
        ap (λ (x : Addresses). x.rows) addresses
        ∙ ap (λ (k : Times). aged_rows k t old.addresses.rows) is.times
        ∙ ap (aged_rows r.addresses.times t) is.rows
        ∙ sym (rows-later r.addresses base.addresses (base_tables r.addresses base.addresses is.base_is.addresses) (base_times r.addresses base.addresses is.base_is.addresses) (told past) from t old.vlan after)
        ∙ ap (rows_at r.addresses base.addresses (told past) t) (sym vlan);
    requests =
        ap (open_at t) requests
        ∙ sym (open_at-later from t old.requests after)
        ∙ ap (open_at t) is.requests
        ∙ open_at-later from t (requests_after base old.vlan past) after
        ∙ ap (λ (v : ℕ). open_requests base v past t) (sym vlan);
    times = ap (λ (x : Addresses). x.times) addresses ∙ is.times;
    per_port = ap (λ (x : Addresses). x.per_port) addresses ∙ is.per_port;
  }

  -- what falls due meanwhile
  pub sent_between : (from t : ℕ) (old : Kept) → Represents r base past from old → from ≤ t → sends old.addresses.times t old.addresses.rows ≡ probes_between r.addresses base.addresses (told past) from t old.vlan
  sent_between from t old is after =
      ap (λ (k : Times). sends k t old.addresses.rows) is.times
      ∙ ap (sends r.addresses.times t) is.rows
      ∙ sym (sends-late r.addresses.times (base_times r.addresses base.addresses is.base_is.addresses) from t (rows_after r.addresses base.addresses (told past) old.vlan) after)

  -- a frame at t
  module _ (t : ℕ) (early : t ≤ 2 ^ 62) (old : Kept) (is : Represents r base past t old) where
    times : AreTimes r.addresses.times
    times = base_times r.addresses base.addresses is.base_is.addresses

    tables : AreTables base.addresses
    tables = base_tables r.addresses base.addresses is.base_is.addresses

    module _ (a : ℕ) (event : Ev) (m : Method) (port : Port) (found : r.addresses.method_of old.vlan a ≡ Some m) where
      abbrev named : Named
      named = named_for r base old.vlan t past a event

      abbrev by_marks : Outcome
      by_marks = next_state m r.addresses.times t named.room (state_in (rows_at r.addresses base.addresses (told past) t old.vlan) a) event

      abbrev by_table : Outcome
      by_table = outcome_in m t old.addresses a event

      same : by_table ≡ by_marks
      same =
          ap (λ (rows : List Row). outcome_in m t (record { rows = rows; times = old.addresses.times; per_port = old.addresses.per_port }) a event) is.rows
          ∙ ap (λ (k : Times). outcome_in m t (record { rows = rows_at r.addresses base.addresses (told past) t old.vlan; times = k; per_port = old.addresses.per_port }) a event) is.times
          ∙ ap (λ (n : ℕ). outcome_in m t (record { rows = rows_at r.addresses base.addresses (told past) t old.vlan; times = r.addresses.times; per_port = n }) a event) is.per_port

      pub event_answer : by_table.0 ≡ answer_to r base old.vlan port t past a event
      event_answer = ap (λ (o : Outcome). o.0) same ∙ sym (answer_by_rows r.addresses base.addresses tables times named (told past) m found)

      event_rows : with_state a by_table.1 old.addresses.rows ≡ rows_at r.addresses base.addresses (named ∷ told past) t old.vlan
      event_rows =
          ap (λ (o : Outcome). with_state a o.1 old.addresses.rows) same
          ∙ ap (with_state a by_marks.1) is.rows
          ∙ sym (at_mark r.addresses base.addresses tables times named (told past) m found)

      fixable_by_marks : IsFixable old.addresses.per_port old.addresses.rows a event → IsFixable r.addresses.per_port (rows_at r.addresses base.addresses (told past) t old.vlan) a event
      fixable_by_marks fix =
          subst (λ (n : ℕ). IsFixable n (rows_at r.addresses base.addresses (told past) t old.vlan) a event) is.per_port
          (subst (λ (rows : List Row). IsFixable old.addresses.per_port rows a event) is.rows fix)

      pub event_stands : IsLeaseInRange event → IsFixable old.addresses.per_port old.addresses.rows a event → IsOfVlan r.addresses old.vlan (port_of event) → (new : Kept) → new.vlan ≡ old.vlan → new.addresses ≡ record old.addresses { rows = with_state a by_table.1 old.addresses.rows } → new.requests ≡ old.requests → Represents r base (with_event r base old.vlan port t a event past) t new
      event_stands lease fix own new vlan addresses requests = record {
        base_is = is.base_is;
        marks = (
          told_follows r base is.base_is old.vlan port t early past is.marks is.last a event (ap is_some found) lease own (fixable_by_marks fix),
          is.marks,
        );
        last = omega arith;
        rows = ap (λ (x : Addresses). x.rows) addresses ∙ event_rows ∙ ap (rows_at r.addresses base.addresses (named ∷ told past) t) (sym vlan);
        requests = ap (open_at t) requests ∙ is.requests ∙ ap (λ (v : ℕ). open_requests base v past t) (sym vlan);
        times = ap (λ (x : Addresses). x.times) addresses ∙ is.times;
        per_port = ap (λ (x : Addresses). x.per_port) addresses ∙ is.per_port;
      }

    -- a request that isn't refused is open
    pub asked_stands : (port : Port) (tid : ℕ) (duid : List ℕ) → r.addresses.vlan_of (number_of port) ≡ Some old.vlan → refusal (number_of port) tid duid (open_at t old.requests) ≡ None → (new : Kept) → new.vlan ≡ old.vlan → new.addresses ≡ old.addresses → open_at t new.requests ≡ with_request (request_of port tid duid t) (open_at t old.requests) → Represents r base (Asked old.vlan (request_of port tid duid t) ∷ past) t new
    asked_stands port tid duid own free new vlan addresses requests = record {
      base_is = is.base_is;
      marks = (record { order = is.last; early = early; kind = (own, ap (refusal (number_of port) tid duid) (sym is.requests) ∙ free) }, is.marks);
      last = omega arith;
      rows = ap (λ (x : Addresses). x.rows) addresses ∙ is.rows ∙ ap (rows_at r.addresses base.addresses (told past) t) (sym vlan);
      requests =
          requests
          ∙ ap (with_request (request_of port tid duid t)) is.requests
          ∙ sym (open_with (request_of port tid duid t) (requests_after base old.vlan past))
          ∙ ap (open_at t) (sym (asked_after base past old.vlan new.vlan vlan (request_of port tid duid t)));
      times = ap (λ (x : Addresses). x.times) addresses ∙ is.times;
      per_port = ap (λ (x : Addresses). x.per_port) addresses ∙ is.per_port;
    }

    -- a request that was met is gone
    pub met_stands : (tid : ℕ) (duid : List ℕ) (q : Port) → asker tid duid (open_at t old.requests) ≡ Some q → (new : Kept) → new.vlan ≡ old.vlan → new.addresses ≡ old.addresses → open_at t new.requests ≡ without_pair tid duid (open_at t old.requests) → Represents r base (Met old.vlan t tid duid ∷ past) t new
    met_stands tid duid q asks new vlan addresses requests = record {
      base_is = is.base_is;
      marks = (record { order = is.last; early = early; kind = ap is_some (ap (asker tid duid) (sym is.requests) ∙ asks) }, is.marks);
      last = omega arith;
      rows = ap (λ (x : Addresses). x.rows) addresses ∙ is.rows ∙ ap (rows_at r.addresses base.addresses (told past) t) (sym vlan);
      requests =
          requests
          ∙ ap (without_pair tid duid) is.requests
          ∙ sym (open_without t tid duid (requests_after base old.vlan past))
          ∙ ap (open_at t) (sym (met_after base past old.vlan new.vlan vlan t tid duid));
      times = ap (λ (x : Addresses). x.times) addresses ∙ is.times;
      per_port = ap (λ (x : Addresses). x.per_port) addresses ∙ is.per_port;
    }

-- the events on some addresses, and then on one more
pub events_more : (r : AccessRules) (base : AccessBase) (vlan : ℕ) (port : Port) (t : ℕ) (event : Offered → Ev) (leases : List Offered) (lease : Offered) (past : List Mark)
    → with_events r base vlan port t event (leases ++ lease ∷ []) past
    ≡ (if is_on_link r base vlan port t lease.address.0 then with_event r base vlan port t lease.address.0 (event lease) (with_events r base vlan port t event leases past) else with_events r base vlan port t event leases past)
events_more r base vlan port t event [] lease past = refl
events_more r base vlan port t event (first ∷ leases) lease past =
    events_more r base vlan port t event leases lease (if is_on_link r base vlan port t first.address.0 then with_event r base vlan port t first.address.0 (event first) past else past)

-- after an event all states are still aged, and sound
pub event_ready : (r : AccessRules) (t : ℕ) (old new : Kept) (a : ℕ) (m : Method) (rows : List Row) → IsAgedTo r t old → r.addresses.method_of old.vlan a ≡ Some m → new.vlan ≡ old.vlan → new.addresses ≡ record old.addresses { rows = rows } → AllStill old.addresses.times t new.addresses.rows
    → ((method_of : ℕ → Option Method) → method_of a ≡ Some m → AreSound method_of old.addresses.rows → AreSound method_of new.addresses.rows)
    → IsAgedTo r t new
event_ready r t old new a m rows ready found vlan addresses still sound = record {
  made = record {
    times = ap (λ (x : Addresses). x.times) addresses ∙ ready.made.times;
    per_port = ap (λ (x : Addresses). x.per_port) addresses ∙ ready.made.per_port;
  };
  still = subst (λ (k : Times). AllStill k t new.addresses.rows) (sym (ap (λ (x : Addresses). x.times) addresses)) still;
  sound = subst (λ (v : ℕ). AreSound (r.addresses.method_of v) new.addresses.rows) (sym vlan) (sound (r.addresses.method_of old.vlan) found ready.sound);
}
