-- The rows of a VLAN are the states of its addresses.
use Rattle.std.proofs.Common.{◌≡◌, ◌≢◌, ◌↔◌, ℕ, ◌≤◌, ◌==◌, false, Option, Some, None, List, [], ◌∷◌, ◌++◌, refl, sym, ◌∙◌, ap, inl, inr, arith}
use Rattle.std.proofs.lemmas.Bool.{cases_Bool, eqb-true, eq-eqb}
use Rattle.savi_kinds.specs.declared.plan.Method.{Method}
use Rattle.fcfs_states.specs.declared.times.Times.{Times}
use Rattle.fcfs_states.specs.Premises.{AreTimes}
use Rattle.fcfs_states.specs.FirstCome.{TimedEvent}
use Rattle.mix_rules.specs.declared.state.AddrState.{AddrState}
use Rattle.mix_rules.specs.Next.{Outcome, next_state}
use Rattle.mix_rules.specs.Ageing.{AgedAddr, aged_state, IsStill}
use Rattle.mix_rules.proofs.AgeingLemmas.{aged-still, aged-joins-all}
use Rattle.mix_rules.proofs.EventLemmas.{next-still}
use Rattle.savi_access.specs.declared.row.Row.{Row}
use Rattle.savi_access.specs.Rows.{state_in, with_state, IsTable}
use Rattle.savi_access.proofs.Pointwise.{changed_at}
use Rattle.savi_access.specs.Ages.{aged_rows}
use Rattle.savi_access.specs.Bases.{AddrRules, AddrBase, AreTables}
use Rattle.savi_kinds.specs.Orders.{AreInTurn}
use Rattle.savi_access.specs.NamedMarks.{Named, mark_of, names, named_moment}
use Rattle.savi_access.specs.States.{outcome_by, outcome_of, state_of, state_at, answer_at}
use Rattle.savi_access.specs.Tables.{rows_after, rows_at}
use Rattle.savi_access.specs.Probes.{HasChanged}
use Rattle.savi_access.specs.Limits.{base_at}
use Rattle.savi_access.proofs.Aged.{table_with, aged-table, nobody-still, still-state, state_in-aged, aged-with, aged-twice, same_or_other}
use Rattle.savi_access.proofs.MarksOn.{state_of-own, state_of-other}

-- after an event nothing is due
pub outcome-still : (method : Option Method) (k : Times) (times : AreTimes k) (mark : TimedEvent) (s : AddrState) → IsStill k mark.moment (outcome_by method k mark s).1
outcome-still None k times mark s = nobody-still k times mark.moment
outcome-still (Some m) k times mark s = next-still m k mark.moment mark.room (aged_state k mark.moment s).state mark.event times (aged-still k times mark.moment s)

pub states_later : (r : AddrRules) (base : AddrBase) → AreTimes r.times → (past : List Named) (t u vlan a : ℕ) → t ≤ u → state_at r base past u vlan a ≡ (aged_state r.times u (state_at r base past t vlan a)).state
states_later r base times past t u vlan a after = ap (λ (s : AgedAddr). s.state) (aged-joins-all r.times times t u after (state_of r base past vlan a))

-- a mark leaves the other VLANs
pub at_other : (r : AddrRules) (base : AddrBase) (named : Named) (past : List Named) (t vlan : ℕ) → (named.vlan == vlan) ≡ false → rows_at r base (named ∷ past) t vlan ≡ rows_at r base past t vlan
at_other r base named past t vlan not = rw not refl

module _ (r : AddrRules) (base : AddrBase) (tables : AreTables base) where
  pub table_after : (past : List Named) (vlan : ℕ) → IsTable (rows_after r base past vlan)
  table_after [] vlan = tables vlan
  table_after (named ∷ past) vlan =
      elim (cases_Bool (named.vlan == vlan)) [
        | inl is ↦ rw is (table_with named.address (outcome_by (r.method_of named.vlan named.address) r.times (mark_of named) (state_in (rows_after r base past vlan) named.address)).1 (rows_after r base past vlan) (table_after past vlan))
        | inr not ↦ rw not (table_after past vlan)
      ]

  pub table_at : (past : List Named) (t vlan : ℕ) → IsTable (rows_at r base past t vlan)
  table_at past t vlan = aged-table r.times t (rows_after r base past vlan) (table_after past vlan)

  pub states_after : (past : List Named) (vlan a : ℕ) → state_in (rows_after r base past vlan) a ≡ state_of r base past vlan a
  states_after [] vlan a = refl
  states_after (named ∷ past) vlan a =
      let before : state_in (rows_after r base past vlan) a ≡ state_of r base past vlan a = states_after past vlan a in
      elim (cases_Bool (named.vlan == vlan)) [
        | inr not ↦ rw not before
        | inl is ↦
            rw is
            (changed_at named.address a (outcome_of r named (state_in (rows_after r base past vlan) named.address)).1 (rows_after r base past vlan)
            ∙ (elim (cases_Bool (named.address == a)) [
              | inr apart ↦ rw apart before
              | inl here ↦
                  rw here
                  (ap (λ n. (outcome_of r named (state_in (rows_after r base past vlan) n)).1) (eqb-true named.address a here)
                  ∙ ap (λ s. (outcome_of r named s).1) before)
            ]))
      ]

  module _ (times : AreTimes r.times) where
    pub states_at : (past : List Named) (t vlan a : ℕ) → state_in (rows_at r base past t vlan) a ≡ state_at r base past t vlan a
    states_at past t vlan a =
        state_in-aged r.times times t (rows_after r base past vlan) a (table_after past vlan).rising
        ∙ ap (λ s. (aged_state r.times t s).state) (states_after past vlan a)

    pub rows-later : (past : List Named) (t u vlan : ℕ) → t ≤ u → rows_at r base past u vlan ≡ aged_rows r.times u (rows_at r base past t vlan)
    rows-later past t u vlan after = sym (aged-twice r.times times t u (rows_after r base past vlan) after (table_after past vlan))

    -- a mark's row, at its moment
    pub at_mark_by : (named : Named) (past : List Named) → rows_at r base (named ∷ past) named.moment named.vlan ≡ with_state named.address (outcome_by (r.method_of named.vlan named.address) r.times (mark_of named) (state_in (rows_after r base past named.vlan) named.address)).1 (rows_at r base past named.moment named.vlan)
    at_mark_by named past =
        let k : Times = r.times in
        let t : ℕ = named.moment in
        let rows : List Row = rows_after r base past named.vlan in
        let new : AddrState = (outcome_by (r.method_of named.vlan named.address) k (mark_of named) (state_in rows named.address)).1 in
        let own : rows_after r base (named ∷ past) named.vlan ≡ with_state named.address new rows = rw (eq-eqb named.vlan named.vlan refl) refl in
        ap (aged_rows k t) own
        ∙ aged-with k times t named.address new rows (table_after past named.vlan)
        ∙ ap (λ s. with_state named.address s (aged_rows k t rows)) (still-state k times t new (outcome-still (r.method_of named.vlan named.address) k times (mark_of named) (state_in rows named.address)))

    -- what a mark comes to, read from the rows at its moment
    by_rows : (named : Named) (past : List Named) (m : Method) → r.method_of named.vlan named.address ≡ Some m → outcome_by (r.method_of named.vlan named.address) r.times (mark_of named) (state_in (rows_after r base past named.vlan) named.address) ≡ next_state m r.times named.moment named.room (state_in (rows_at r base past named.moment named.vlan) named.address) named.event
    by_rows named past m is =
        ap (λ method. outcome_by method r.times (mark_of named) (state_in (rows_after r base past named.vlan) named.address)) is
        ∙ ap (λ s. next_state m r.times named.moment named.room s named.event) (sym (state_in-aged r.times times named.moment (rows_after r base past named.vlan) named.address (table_after past named.vlan).rising))

    pub at_mark : (named : Named) (past : List Named) (m : Method) → r.method_of named.vlan named.address ≡ Some m → rows_at r base (named ∷ past) named.moment named.vlan ≡ with_state named.address (next_state m r.times named.moment named.room (state_in (rows_at r base past named.moment named.vlan) named.address) named.event).1 (rows_at r base past named.moment named.vlan)
    at_mark named past m is = at_mark_by named past ∙ ap (λ (o : Outcome). with_state named.address o.1 (rows_at r base past named.moment named.vlan)) (by_rows named past m is)

    pub answer_by_rows : (named : Named) (past : List Named) (m : Method) → r.method_of named.vlan named.address ≡ Some m → answer_at r base past named ≡ (next_state m r.times named.moment named.room (state_in (rows_at r base past named.moment named.vlan) named.address) named.event).0
    answer_by_rows named past m is =
        ap (λ s. (outcome_by (r.method_of named.vlan named.address) r.times (mark_of named) s).0) (sym (states_after past named.vlan named.address))
        ∙ ap (λ (o : Outcome). o.0) (by_rows named past m is)

    -- some state is another one where the rows are others, and only there
    pub changes : (past : List Named) (from t vlan : ℕ) → from ≤ t → (HasChanged r base past from t vlan ↔ (rows_at r base past t vlan ≢ rows_at r base past from vlan))
    changes past from t vlan after = (
      λ changed same. changed.1 (sym (states_at past t vlan changed.0) ∙ ap (λ rows. state_in rows changed.0) same ∙ states_at past from vlan changed.0),
      λ other.
          elim (same_or_other r.times times t (rows_at r base past from vlan) (table_at past from vlan)) [
            | inl found ↦ (found.0, λ same. found.1 (ap (λ rows. state_in rows found.0) (sym (rows-later past from t vlan after)) ∙ states_at past t vlan found.0 ∙ same ∙ sym (states_at past from vlan found.0)))
            | inr same ↦ absurd (other (rows-later past from t vlan after ∙ same))
          ],
    )

    turn-later : (from t u : ℕ) (past : List Named) → t ≤ u → AreInTurn named_moment from t past → AreInTurn named_moment from u past
    turn-later from t u [] after turn = omega (arith, after, turn)
    turn-later from t u (named ∷ past) after turn = (omega (arith, after, turn.0), turn.1)

    -- the states at a moment lead on as the whole list does
    pub cut_at : (early late : List Named) (t0 t vlan a : ℕ) → AreInTurn named_moment t0 t late → state_at r base (late ++ early) t vlan a ≡ state_at r (base_at r base early t0) late t vlan a
    cut_at early [] t0 t vlan a turn = states_later r base times early t0 t vlan a turn ∙ ap (λ s. (aged_state r.times t s).state) (sym (states_at early t0 vlan a))
    cut_at early (named ∷ late) t0 t vlan a turn =
        let before : state_at r base (late ++ early) named.moment vlan a ≡ state_at r (base_at r base early t0) late named.moment vlan a = cut_at early late t0 named.moment vlan a turn.1 in
        elim (cases_Bool (names vlan a named)) [
          | inl is ↦
              ap (λ s. (aged_state r.times t s).state)
              (state_of-own r base vlan a named (late ++ early) is
              ∙ same_outcome (r.method_of vlan a) (mark_of named) (state_of r base (late ++ early) vlan a) (state_of r (base_at r base early t0) late vlan a) before
              ∙ sym (state_of-own r (base_at r base early t0) vlan a named late is))
          | inr not ↦
              ap (λ s. (aged_state r.times t s).state) (state_of-other r base vlan a named (late ++ early) not)
              ∙ cut_at early late t0 t vlan a (turn-later t0 named.moment t late turn.0 turn.1)
              ∙ sym (ap (λ s. (aged_state r.times t s).state) (state_of-other r (base_at r base early t0) vlan a named late not))
        ]
      where
        same_outcome : (method : Option Method) (mark : TimedEvent) (s other : AddrState) → (aged_state r.times mark.moment s).state ≡ (aged_state r.times mark.moment other).state → (outcome_by method r.times mark s).1 ≡ (outcome_by method r.times mark other).1
        same_outcome None mark s other same = refl
        same_outcome (Some m) mark s other same = ap (λ state. (next_state m r.times mark.moment mark.room state mark.event).1) same
