-- The rows and what is armed, once the state of one address was changed in both.
use Rattle.std.proofs.Common.{◌≡◌, ◌≢◌, ◌⊎◌, ℕ, ◌*◌, ◌<◌, ◌≤◌, Bool, true, Option, Some, None, IsSome, List, [], length, refl, sym, ◌∙◌, ap, subst, inl, inr, arith}
use Rattle.std.proofs.lemmas.Bool.{cases_Bool}
use Rattle.savi_kinds.specs.declared.address.Addr.{Addr}
use Rattle.savi_kinds.specs.declared.plan.Method.{Method}
use Rattle.fcfs_states.specs.declared.answer.Answer.{Answer}
use Rattle.fcfs_states.specs.declared.answer.Probe.{Probe}
use Rattle.fcfs_states.specs.declared.event.Ev.{Ev}
use Rattle.fcfs_states.specs.declared.times.Times.{Times}
use Rattle.fcfs_states.specs.Ageing.{probes_behind}
use Rattle.mix_rules.specs.declared.state.AddrState.{AddrState}
use Rattle.mix_rules.specs.States.{has_state, IsSoundFor}
use Rattle.mix_rules.specs.Ageing.{aged_state, due_next as due_of, IsStill}
use Rattle.mix_rules.specs.Premises.{AllMomentsFit}
use Rattle.mix_rules.specs.Next.{Outcome, next_state}
use Rattle.savi_access.specs.declared.row.Row.{Row}
use Rattle.savi_access.specs.Rows.{state_in, with_state}
use Rattle.bind_table.specs.Bindings.{Bindings}
use Rattle.savi_access.proofs.Parts.{state_cases}
use Rattle.timer_wheel.specs.declared.armed.Armed.{Armed}
use Rattle.timer_wheel.specs.Arms.{Wheel, due_in, with_due, first_armed, due_within}
use Rattle.addr_table.specs.Addresses.{Addresses}
use Rattle.addr_table.specs.Dues.{dues}
use Rattle.savi_access.specs.Ages.{AllStill}
use Rattle.addr_table.specs.Armed.{IsArmed}
use Rattle.savi_access.specs.Keeps.{IsWithinRules, IsSoundBy, AreSound, StaySound}
use Rattle.addr_table.specs.OneTurn.{TurnsOnce, IsQuiet}
use Rattle.savi_access.specs.Rooms.{room_for, IsFixable}
use Rattle.addr_table.proofs.Arms.{due_again, arms-with}
use Rattle.addr_table.proofs.Firsts.{first_due, IsFirst, first_is, first_by}
use Rattle.addr_table.proofs.Keeping.{IsAllowed, each_with, kept_with, aged-allowed, event-allowed, row_place, pair_place, taken_place, sound_with, aged-sound_by}
use Rattle.addr_table.proofs.Quiet.{quiet}
use Rattle.addr_table.proofs.Splits.{gone_is, own_parts}
use Rattle.addr_table.proofs.Steps.{step_rows, step_sends, step_turns}

-- what contracts see of these parts
abbrev pub view_of : List Row → Times → ℕ → Addresses
view_of rows k per_port = record { rows = rows; times = k; per_port = per_port }

module _ (k : Times) (per_port : ℕ) (table table_new : Bindings) (wheel wheel_new : Wheel) (a : ℕ) (state : AddrState) (armed : IsArmed k per_port table wheel) (rows_new : table_new ≡ record table { rows = with_state a state table.rows }) where
  after : with_due a (due_of k state) wheel.arms ≡ dues k table_new.rows
  after = ap (with_due a (due_of k state)) armed.arms ∙ arms-with k a state table.rows ∙ sym (ap (λ (t : Bindings). dues k t.rows) rows_new)

  most_rows : table_new.most ≡ 16 * per_port
  most_rows = ap (λ (t : Bindings). t.most) rows_new ∙ armed.rows_most

  pub armed_with : wheel_new ≡ record wheel { arms = with_due a (due_of k state) wheel.arms } → IsArmed k per_port table_new wheel_new
  armed_with arms_new = record {
    arms = ap (λ (w : Wheel). w.arms) arms_new ∙ after;
    rows_most = most_rows;
    arms_most = ap (λ (w : Wheel). w.most) arms_new ∙ armed.arms_most;
  }

  -- where the pair was taken out before
  pub armed_again : (between : Wheel) → between ≡ record wheel { arms = with_due a None wheel.arms } → wheel_new ≡ record between { arms = with_due a (due_of k state) between.arms } → IsArmed k per_port table_new wheel_new
  armed_again between taken arms_new = record {
    arms = ap (λ (w : Wheel). w.arms) arms_new ∙ ap (λ (w : Wheel). with_due a (due_of k state) w.arms) taken ∙ due_again a (due_of k state) wheel.arms ∙ after;
    rows_most = most_rows;
    arms_most = ap (λ (w : Wheel). w.most) arms_new ∙ ap (λ (w : Wheel). w.most) taken ∙ armed.arms_most;
  }

-- a turn of what is due first by t
module _ (k : Times) (per_port t : ℕ) (table : Bindings) (wheel : Wheel) (due : ℕ) (address : Addr) (kept : IsWithinRules k per_port table.rows) (armed : IsArmed k per_port table wheel) (found : Some (due, address) ≡ due_within t (first_armed wheel.arms)) where
  both : (first_due k table.rows ≡ Some (due, address)) × (due ≤ t)
  both = first_by t (first_due k table.rows) due address (ap (λ arms. due_within t (first_armed arms)) (sym armed.arms) ∙ sym found)

  pub due_soon : due ≤ t
  due_soon = both.1

  first : IsFirst k due address.0 table.rows
  first = first_is k table.rows kept.table.rising due address both.0

  pub own_due : due_of k (state_in table.rows address.0) ≡ Some due
  own_due = first.own

  stands : has_state (state_in table.rows address.0) ≡ true
  stands =
      elim (state_cases table.rows address.0 kept.table.stand) [
        | inl some ↦ some
        | inr none ↦ let never : due_of k (state_in table.rows address.0) ≡ None = ap (due_of k) none in let due_is : due_of k (state_in table.rows address.0) ≡ Some due = first.own in cc
      ]

  pub turn_row : (has_state (state_in table.rows address.0) ≡ true) ⊎ (length table.rows < table.most)
  turn_row = inl stands

  module _ (state : AddrState) (aged : state ≡ (aged_state k due (state_in table.rows address.0)).state) (fits : AllMomentsFit state) where
    pub kept_turn : IsWithinRules k per_port (with_state address.0 state table.rows)
    kept_turn = kept_with k per_port table.rows address.0 state kept fits (subst (IsAllowed per_port table.rows address.0) (sym aged) (aged-allowed k per_port table.rows address.0 due kept.times))

    pub turn_sound : StaySound table.rows (with_state address.0 state table.rows)
    turn_sound = λ method_of sound. sound_with method_of address.0 state table.rows sound (subst (IsSoundBy (method_of address.0)) (sym aged) (aged-sound_by k due kept.times (method_of address.0) (state_in table.rows address.0) (sound address.0)))

    pub turn_pair : (between : Wheel) → between ≡ record wheel { arms = with_due address.0 None wheel.arms } → IsSome (due_in between.arms address.0) ⊎ (length between.arms < between.most)
    turn_pair between taken =
        let arms : between.arms ≡ with_due address.0 None (dues k table.rows) = ap (λ (w : Wheel). w.arms) taken ∙ ap (with_due address.0 None) armed.arms in
        let most : between.most ≡ 16 * per_port = ap (λ (w : Wheel). w.most) taken ∙ armed.arms_most in
        let left : length (with_due address.0 None (dues k table.rows)) < 16 * per_port = taken_place k per_port table.rows address.0 state kept kept_turn (inl stands) (16 * per_port) refl in
        inr (omega (arith, ap length arms, most, left))

    pub turn : (probe : Option Probe) → (aged_state k due (state_in table.rows address.0)).probes ≡ probes_behind due probe [] → (rows : List Row) → rows ≡ with_state address.0 state table.rows
        → TurnsOnce t (record { rows = table.rows; times = k; per_port = per_port }) (record { rows = rows; times = k; per_port = per_port }) (record { due = due; address = address; probe = probe })
    turn probe probes rows is =
        let s : AddrState = state_in table.rows address.0 in
        let now : rows ≡ with_state address.0 (aged_state k due s).state table.rows = is ∙ ap (λ x. with_state address.0 x table.rows) aged in
        subst (λ (rs : List Row). TurnsOnce t (record { rows = table.rows; times = k; per_port = per_port }) (record { rows = rs; times = k; per_port = per_port }) (record { due = due; address = address; probe = probe })) (sym now)
        (record {
          sends = step_sends k kept.times t due table.rows both.1 address.0 kept.table first probe probes;
          rows = step_rows k kept.times t due table.rows both.1 address.0 kept.table first;
          rest = refl;
          fewer = step_turns k kept.times t due table.rows both.1 address.0 kept.table first;
        })

-- nothing is due by t
pub no_turn : (k : Times) (per_port t : ℕ) (table : Bindings) (wheel : Wheel) → IsWithinRules k per_port table.rows → IsArmed k per_port table wheel → None ≡ due_within t (first_armed wheel.arms) → IsQuiet t (record { rows = table.rows; times = k; per_port = per_port })
no_turn k per_port t table wheel kept armed none = quiet k kept.times t table.rows per_port kept.table (ap (λ arms. due_within t (first_armed arms)) (sym armed.arms) ∙ sym none)

-- an event on an address
module _ (m : Method) (k : Times) (per_port t : ℕ) (table : Bindings) (wheel : Wheel) (now : Addresses) (a : ℕ) (event : Ev) (room : Bool) (before : AddrState) (answer : Answer) (state : AddrState) (kept : IsWithinRules k per_port table.rows) (view : view_of table.rows k per_port ≡ now) (room_is : room ≡ room_for now.per_port now.rows event) (before_is : before ≡ state_in table.rows a) (value : next_state m k t room before event ≡ (answer, state)) where
  -- what it comes to, told of the table
  own_value : next_state m k t (room_for per_port table.rows event) (state_in table.rows a) event ≡ (answer, state)
  own_value =
      let own_room : room ≡ room_for per_port table.rows event = room_is ∙ ap (λ (all : Addresses). room_for all.per_port all.rows event) (sym view) in
      ap (λ r. next_state m k t r (state_in table.rows a) event) (sym own_room) ∙ ap (λ s. next_state m k t room s event) (sym before_is) ∙ value

  module _ (fixable : IsFixable now.per_port now.rows a event) (fits : AllMomentsFit state) where
    pub kept_event : IsWithinRules k per_port (with_state a state table.rows)
    kept_event =
        let P : Addresses → Type 0 = λ all. IsFixable all.per_port all.rows a event in
        let own_fixable : IsFixable per_port table.rows a event = subst P (sym view) fixable in
        kept_with k per_port table.rows a state kept fits (subst (λ (o : Outcome). IsAllowed per_port table.rows a o.1) own_value (event-allowed m k t per_port table.rows a event own_fixable))

    module _ (armed : IsArmed k per_port table wheel) (apart : state ≢ before) where
      some : (has_state (state_in table.rows a) ≡ true) ⊎ (has_state state ≡ true)
      some =
          elim (cases_Bool (has_state state)) [
            | inl new ↦ inr new
            | inr gone ↦
                elim (state_cases table.rows a kept.table.stand) [
                  | inl old ↦ inl old
                  | inr none ↦ absurd (apart (gone_is state gone ∙ sym none ∙ sym before_is))
                ]
          ]

      pub event_row : (has_state (state_in table.rows a) ≡ true) ⊎ (length table.rows < table.most)
      event_row = row_place k per_port table.rows a state kept kept_event some table.most armed.rows_most

      pub event_pair : IsSome (due_in wheel.arms a) ⊎ (length wheel.arms < wheel.most)
      event_pair = subst (λ (arms : List Armed). IsSome (due_in arms a) ⊎ (length arms < wheel.most)) (sym armed.arms) (pair_place k per_port table.rows a state kept kept_event some wheel.most armed.arms_most)

  pub event_still : AllStill now.times t now.rows → IsStill k t state → (table_new : Bindings) → table_new ≡ record table { rows = with_state a state table.rows } → AllStill now.times t table_new.rows
  event_still still mine table_new is =
      let times : k ≡ now.times = ap (λ (all : Addresses). all.times) view in
      let rows : table.rows ≡ now.rows = ap (λ (all : Addresses). all.rows) view in
      let others : AllStill k t table.rows = subst (λ (all : Addresses). AllStill all.times t all.rows) (sym view) still in
      let each : AllStill k t (with_state a state table.rows) = each_with (IsStill k t) a state table.rows others mine in
      subst (λ (kk : Times). AllStill kk t table_new.rows) times (subst (λ (b : Bindings). AllStill k t b.rows) (sym is) each)

  pub event_sound : IsSoundFor m state → (method_of : ℕ → Option Method) → method_of a ≡ Some m → AreSound method_of now.rows → (table_new : Bindings) → table_new ≡ record table { rows = with_state a state table.rows } → AreSound method_of table_new.rows
  event_sound mine method_of is sound table_new rows_new =
      let others : AreSound method_of table.rows = subst (λ (all : Addresses). AreSound method_of all.rows) (sym view) sound in
      let own : IsSoundBy (method_of a) state = subst (λ (o : Option Method). IsSoundBy o state) (sym is) mine in
      subst (λ (b : Bindings). AreSound method_of b.rows) (sym rows_new) (sound_with method_of a state table.rows others own)

  -- one that leaves the state as it is leaves all
  pub event_same : state ≡ before → now ≡ record now { rows = with_state a (next_state m now.times t (room_for now.per_port now.rows event) (state_in now.rows a) event).1 now.rows }
  event_same same =
      let P : Addresses → Type 0 = λ all. all ≡ record all { rows = with_state a (next_state m all.times t (room_for all.per_port all.rows event) (state_in all.rows a) event).1 all.rows } in
      let left : (next_state m k t (room_for per_port table.rows event) (state_in table.rows a) event).1 ≡ state_in table.rows a = ap (λ (o : Outcome). o.1) own_value ∙ same ∙ before_is in
      let rows : table.rows ≡ with_state a (next_state m k t (room_for per_port table.rows event) (state_in table.rows a) event).1 table.rows = own_parts a table.rows kept.table ∙ ap (λ s. with_state a s table.rows) (sym left) in
      subst P view (ap (λ rs. view_of rs k per_port) rows)
