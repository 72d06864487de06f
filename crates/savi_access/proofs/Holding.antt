-- No port comes to hold more addresses than it may.
use Rattle.std.proofs.Common.{◌≡◌, IsSome, ℕ, ◌+◌, ◌<◌, ◌≤◌, ◌==◌, ◌⊎◌, Bool, true, false, cond, Option, Some, None, List, [], ◌∷◌, refl, sym, ◌∙◌, ap, subst, inl, inr, arith, rules}
use Rattle.std.proofs.lemmas.Bool.{cases_Bool, ltb-true, false≢true, eqb-true}
use Rattle.std.proofs.lemmas.List.Sums.{sum_by-append}
use Rattle.savi_kinds.specs.declared.port.Port.{Port}
use Rattle.savi_kinds.specs.declared.plan.Method.{Method}
use Rattle.savi_kinds.specs.Ports.{number_of}
use Rattle.fcfs_states.specs.declared.event.Ev.{Ev}
use Rattle.fcfs_states.specs.declared.event.Ev.TheVariants.{Sent, Dad, Na, TpDad, TpNa, Lease, Release, Fix, Clear}
use Rattle.fcfs_states.specs.declared.times.Times.{Times}
use Rattle.fcfs_states.specs.Premises.{AreTimes}
use Rattle.fcfs_states.specs.States.{Same}
use Rattle.mix_rules.specs.declared.state.AddrState.{AddrState}
use Rattle.mix_rules.specs.States.{nobody, has_state, IsHeldAt, is_held_at}
use Rattle.mix_rules.specs.Holders.{MakesHolder}
use Rattle.mix_rules.specs.Next.{next_state}
use Rattle.mix_rules.specs.Ageing.{aged_state}
use Rattle.mix_rules.proofs.HolderLemmas.{next-held, aged-held}
use Rattle.savi_access.specs.declared.row.Row.{Row}
use Rattle.savi_access.specs.Rows.{address_of, state_in, rows_of, with_state, is_at, count_at, IsTable}
use Rattle.savi_access.proofs.Held.{held_once, recounted}
use Rattle.savi_access.specs.Ages.{aged_row, aged_rows}
use Rattle.savi_access.specs.Keeps.{IsWithinPorts}
use Rattle.savi_access.specs.Rooms.{room_for, may_hold_more, IsFixable}
use Rattle.savi_access.specs.Bases.{AddrRules, AddrBase, AreTables}
use Rattle.savi_access.specs.NamedMarks.{Named, mark_of, last_moment}
use Rattle.savi_access.specs.States.{outcome_by}
use Rattle.savi_access.specs.Tables.{rows_after, rows_at, held_in, held_at}
use Rattle.savi_access.specs.Limits.{MayFollow, IsPast}
use Rattle.savi_access.proofs.Aged.{gone}
use Rattle.savi_access.proofs.TablesOf.{table_at, rows-later, at_mark_by, at_mark, at_other}

-- holding, as a test and in words
pub held-told : (s : AddrState) (port : Port) → is_held_at (number_of port) s ≡ true → IsHeldAt s port
held-told s port is = search rules

pub told-held : (s : AddrState) (port : Port) → IsHeldAt s port → is_held_at (number_of port) s ≡ true
told-held s port held = search rules

held-same : (s : AddrState) (f port : Port) → Same f port → IsHeldAt s f → IsHeldAt s port
held-same s f port same held = search rules

known : (state : AddrState) → (has_state state ≡ true) ⊎ (state ≡ nobody)
known state = elim (cases_Bool (has_state state)) [ inl stands ↦ inl stands | inr none ↦ inr (gone state none) ]

one_or_none : (b : Bool) → cond b 1 0 ≤ 1
one_or_none true = omega arith
one_or_none false = omega arith

-- what is held after and before, as counts
once_less : (port : Port) (before after : AddrState) → (IsHeldAt after port → IsHeldAt before port) → held_once (number_of port) after ≤ held_once (number_of port) before
once_less port before after held =
    elim (cases_Bool (is_held_at (number_of port) after)) [
      | inr not ↦ rw not (omega arith)
      | inl is ↦ let was : is_held_at (number_of port) before ≡ true = told-held before port (held (held-told after port is)) in rw (is, was) (omega arith)
    ]

-- the rows of one address hold it once or not at all
count-own : (n a : ℕ) (state : AddrState) → count_at n (rows_of a state) ≤ held_once n state
count-own n a state =
    elim (cases_Bool (has_state state)) [
      | inl stands ↦ rw stands (one (is_held_at n state))
      | inr none ↦ rw none (omega arith)
    ]
  where
    one : (b : Bool) → 0 + cond b 1 0 ≤ cond b 1 0
    one b = omega arith

pub count-first : (n : ℕ) (row : Row) (rows : List Row) → count_at n (row ∷ rows) ≡ held_once n row.state + count_at n rows
count-first n row rows =
    let parts : count_at n (row ∷ rows) ≡ count_at n (row ∷ []) + count_at n rows = sum_by-append (λ r. cond (is_at n r) 1 0) (row ∷ []) rows in
    let first : count_at n (row ∷ []) ≡ held_once n row.state = one (is_held_at n row.state) in
    omega (arith, parts, first)
  where
    one : (b : Bool) → 0 + cond b 1 0 ≡ cond b 1 0
    one b = omega arith

-- ageing makes no port hold more
pub aged-less : (k : Times) (times : AreTimes k) (t : ℕ) (port : Port) (rows : List Row) → count_at (number_of port) (aged_rows k t rows) ≤ count_at (number_of port) rows
aged-less k times t port [] = omega arith
aged-less k times t port (row ∷ rows) =
    let n : ℕ = number_of port in
    let new : AddrState = (aged_state k t row.state).state in
    let all : count_at n (aged_rows k t (row ∷ rows)) ≡ count_at n (aged_row k t row) + count_at n (aged_rows k t rows) = sum_by-append (λ r. cond (is_at n r) 1 0) (aged_row k t row) (aged_rows k t rows) in
    omega (arith, all, count-own n (address_of row) new, once_less port row.state new (aged-held k t row.state port times), aged-less k times t port rows, count-first n row rows)

has-room : (per_port : ℕ) (rows : List Row) (p port : Port) → Same p port → may_hold_more per_port rows p ≡ true → count_at (number_of port) rows < per_port
has-room per_port rows p port same some = subst (λ n. count_at n rows < per_port) same (ltb-true (count_at (number_of p) rows) per_port some)

-- an event makes a port hold one more address only where it has room
makes-room : (per_port : ℕ) (rows : List Row) (a : ℕ) (event : Ev) (room : Bool) (port : Port) → room ≡ room_for per_port rows event → IsFixable per_port rows a event → ¬ IsHeldAt (state_in rows a) port → MakesHolder port room event → count_at (number_of port) rows < per_port
makes-room per_port rows a (Sent p) room port is fix free (same, some) = has-room per_port rows p port same (sym is ∙ some)
makes-room per_port rows a (Dad p) room port is fix free (same, some) = has-room per_port rows p port same (sym is ∙ some)
makes-room per_port rows a (Na p) room port is fix free makes = absurd makes
makes-room per_port rows a TpDad room port is fix free makes = absurd makes
makes-room per_port rows a TpNa room port is fix free makes = absurd makes
makes-room per_port rows a (Lease p valid) room port is fix free (same, some) = has-room per_port rows p port same (sym is ∙ some)
makes-room per_port rows a (Release p) room port is fix free makes = absurd makes
makes-room per_port rows a (Fix p) room port is (inl some) free makes = has-room per_port rows p port makes some
makes-room per_port rows a (Fix p) room port is (inr held) free makes = absurd (free (held-same (state_in rows a) p port makes held))
makes-room per_port rows a Clear room port is fix free makes = absurd makes

pub event-within : (m : Method) (k : Times) (t per_port : ℕ) (room : Bool) (rows : List Row) (a : ℕ) (event : Ev) → IsTable rows → room ≡ room_for per_port rows event → IsFixable per_port rows a event → IsWithinPorts per_port rows → IsWithinPorts per_port (with_state a (next_state m k t room (state_in rows a) event).1 rows)
event-within m k t per_port room rows a event is right fix within port =
    let n : ℕ = number_of port in
    let old : AddrState = state_in rows a in
    let new : AddrState = (next_state m k t room old event).1 in
    let counts : count_at n (with_state a new rows) + held_once n old ≡ count_at n rows + held_once n new = recounted n a new rows is.rising is.stand (known new) in
    elim (cases_Bool (is_held_at n old)) [
      | inl was ↦
          let one : held_once n old ≡ 1 = rw was refl in
          omega (arith, counts, one, one_or_none (is_held_at n new), within port)
      | inr free ↦
          let none : held_once n old ≡ 0 = rw free refl in
          elim (cases_Bool (is_held_at n new)) [
            | inr not ↦ let zero_new : held_once n new ≡ 0 = rw not refl in omega (arith, counts, none, zero_new, within port)
            | inl held ↦
                let was_free : ¬ IsHeldAt old port = λ was. false≢true (sym free ∙ told-held old port was) in
                let some : count_at n rows < per_port = makes-room per_port rows a event room port right fix was_free (next-held m k t room old event port was_free (held-told new port held)) in
                omega (arith, counts, none, one_or_none (is_held_at n new), some)
          ]
    ]

-- what makes a port hold more
more-once : (n : ℕ) (before after : AddrState) → held_once n before < held_once n after → (is_held_at n before ≡ false) × (is_held_at n after ≡ true)
more-once n before after more =
    elim (cases_Bool (is_held_at n after)) [
      | inr not ↦ let none : held_once n after ≡ 0 = rw not refl in absurd (omega (arith, none, more))
      | inl held ↦
          elim (cases_Bool (is_held_at n before)) [
            | inr free ↦ (free, held)
            | inl was ↦ let one : held_once n before ≡ 1 = rw was refl in absurd (omega (arith, one, one_or_none (is_held_at n after), more))
          ]
    ]

more-with : (n a : ℕ) (new : AddrState) (rows : List Row) → IsTable rows → count_at n rows < count_at n (with_state a new rows) → (is_held_at n (state_in rows a) ≡ false) × (is_held_at n new ≡ true)
more-with n a new rows is more =
    let counts : count_at n (with_state a new rows) + held_once n (state_in rows a) ≡ count_at n rows + held_once n new = recounted n a new rows is.rising is.stand (known new) in
    more-once n (state_in rows a) new (omega (arith, counts, more))

module _ (r : AddrRules) (base : AddrBase) (times : AreTimes r.times) (tables : AreTables base) where
  more-in : (named : Named) (past : List Named) (vlan : ℕ) (port : Port) → count_at (number_of port) (rows_at r base past named.moment vlan) < count_at (number_of port) (rows_at r base (named ∷ past) named.moment vlan) → MakesHolder port named.room named.event
  more-in named past vlan port more =
      elim (cases_Bool (named.vlan == vlan)) [
        | inr not ↦ let same : count_at (number_of port) (rows_at r base (named ∷ past) named.moment vlan) ≡ count_at (number_of port) (rows_at r base past named.moment vlan) = ap (count_at (number_of port)) (at_other r base named past named.moment vlan not) in absurd (omega (arith, same, more))
        | inl is ↦ by_method (r.method_of named.vlan named.address) refl (subst (λ v. count_at (number_of port) (rows_at r base past named.moment v) < count_at (number_of port) (rows_at r base (named ∷ past) named.moment v)) (sym (eqb-true named.vlan vlan is)) more)
      ]
    where
      by_method : (method : Option Method) → r.method_of named.vlan named.address ≡ method → count_at (number_of port) (rows_at r base past named.moment named.vlan) < count_at (number_of port) (rows_at r base (named ∷ past) named.moment named.vlan) → MakesHolder port named.room named.event
      by_method None none above =
          let gone_now : rows_at r base (named ∷ past) named.moment named.vlan ≡ with_state named.address nobody (rows_at r base past named.moment named.vlan) =
          at_mark_by r base tables times named past ∙ ap (λ method. with_state named.address (outcome_by method r.times (mark_of named) (state_in (rows_after r base past named.vlan) named.address)).1 (rows_at r base past named.moment named.vlan)) none in
          let told : (is_held_at (number_of port) (state_in (rows_at r base past named.moment named.vlan) named.address) ≡ false) × (is_held_at (number_of port) nobody ≡ true) =
          more-with (number_of port) named.address nobody (rows_at r base past named.moment named.vlan) (table_at r base tables past named.moment named.vlan)
          (subst (λ xs. count_at (number_of port) (rows_at r base past named.moment named.vlan) < count_at (number_of port) xs) gone_now above) in
          absurd (false≢true told.1)
      by_method (Some m) some above =
          let old : AddrState = state_in (rows_at r base past named.moment named.vlan) named.address in
          let new : AddrState = (next_state m r.times named.moment named.room old named.event).1 in
          let told : (is_held_at (number_of port) old ≡ false) × (is_held_at (number_of port) new ≡ true) =
          more-with (number_of port) named.address new (rows_at r base past named.moment named.vlan) (table_at r base tables past named.moment named.vlan)
          (subst (λ xs. count_at (number_of port) (rows_at r base past named.moment named.vlan) < count_at (number_of port) xs) (at_mark r base tables times named past m some) above) in
          next-held m r.times named.moment named.room old named.event port (λ was. false≢true (sym told.0 ∙ told-held old port was)) (held-told new port told.1)

  pub more-held : (named : Named) (past : List Named) (port : Port) → held_at r base past named.moment (number_of port) < held_at r base (named ∷ past) named.moment (number_of port) → MakesHolder port named.room named.event
  more-held named past port more = by_vlan (r.vlan_of (number_of port)) more
    where
      by_vlan : (vlan : Option ℕ) → held_in r base past named.moment (number_of port) vlan < held_in r base (named ∷ past) named.moment (number_of port) vlan → MakesHolder port named.room named.event
      by_vlan None above = absurd (omega (arith, above))
      by_vlan (Some vlan) above = more-in named past vlan port above

  pub held-later : (past : List Named) (t u : ℕ) (port : Port) → t ≤ u → held_at r base past u (number_of port) ≤ held_at r base past t (number_of port)
  held-later past t u port after = by_vlan (r.vlan_of (number_of port))
    where
      by_vlan : (vlan : Option ℕ) → held_in r base past u (number_of port) vlan ≤ held_in r base past t (number_of port) vlan
      by_vlan None = omega arith
      by_vlan (Some vlan) =
          subst (λ rows. count_at (number_of port) rows ≤ count_at (number_of port) (rows_at r base past t vlan)) (sym (rows-later r base tables times past t u vlan after)) (aged-less r.times times u port (rows_at r base past t vlan))

module _ (r : AddrRules) (base : AddrBase) (times : AreTimes r.times) (tables : AreTables base) (within : (vlan : ℕ) → IsWithinPorts r.per_port (base.rows vlan)) where
  -- a mark keeps it, at its moment
  mark-within : (named : Named) (past : List Named) → MayFollow r base past named → IsWithinPorts r.per_port (rows_at r base past named.moment named.vlan) → IsWithinPorts r.per_port (rows_at r base (named ∷ past) named.moment named.vlan)
  mark-within named past right before = by_method (r.method_of named.vlan named.address) refl
    where
      by_method : (method : Option Method) → r.method_of named.vlan named.address ≡ method → IsWithinPorts r.per_port (rows_at r base (named ∷ past) named.moment named.vlan)
      by_method None none = let linked : IsSome (r.method_of named.vlan named.address) = right.on_link in absurd (false≢true (subst (λ method. IsSome method) none linked))
      by_method (Some m) some =
          subst (IsWithinPorts r.per_port) (sym (at_mark r base tables times named past m some))
          (event-within m r.times named.moment r.per_port named.room (rows_at r base past named.moment named.vlan) named.address named.event (table_at r base tables past named.moment named.vlan) right.room right.fix before)

  pub within_at : (past : List Named) (t vlan : ℕ) → IsPast r base past → last_moment base past ≤ t → IsWithinPorts r.per_port (rows_at r base past t vlan)
  within_at [] t vlan right after port = omega (arith, aged-less r.times times t port (base.rows vlan), within vlan port)
  within_at (named ∷ past) t vlan right after port =
      elim (cases_Bool (named.vlan == vlan)) [
        | inr not ↦ subst (λ rows. count_at (number_of port) rows ≤ r.per_port) (sym (at_other r base named past t vlan not)) (within_at past t vlan right.1 (omega (arith, right.0.order, after)) port)
        | inl is ↦
            let own : IsWithinPorts r.per_port (rows_at r base (named ∷ past) named.moment named.vlan) = mark-within named past right.0 (within_at past named.moment named.vlan right.1 right.0.order) in
            let later : count_at (number_of port) (rows_at r base (named ∷ past) t named.vlan) ≤ r.per_port =
            subst (λ rows. count_at (number_of port) rows ≤ r.per_port) (sym (rows-later r base tables times (named ∷ past) named.moment t named.vlan after))
            (omega (arith, aged-less r.times times t port (rows_at r base (named ∷ past) named.moment named.vlan), own port)) in
            subst (λ v. count_at (number_of port) (rows_at r base (named ∷ past) t v) ≤ r.per_port) (eqb-true named.vlan vlan is) later
      ]

  pub held-within : (past : List Named) (t : ℕ) (port : Port) → IsPast r base past → last_moment base past ≤ t → held_at r base past t (number_of port) ≤ r.per_port
  held-within past t port right after = by_vlan (r.vlan_of (number_of port))
    where
      by_vlan : (vlan : Option ℕ) → held_in r base past t (number_of port) vlan ≤ r.per_port
      by_vlan None = omega arith
      by_vlan (Some vlan) = within_at past t vlan right after port
