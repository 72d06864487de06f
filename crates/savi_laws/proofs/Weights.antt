-- What the states of addresses may still bring about by themselves: probes that wait at ports, and ticks.
use Rattle.std.proofs.Common.{◌≡◌, ℕ, ◌+◌, ◌*◌, ◌<◌, ◌≤◌, Bool, true, false, if◌then◌else◌, Option, Some, None, List, [], ◌∷◌, ◌++◌, filter, length, length-append, refl, ap, ◌∙◌, inl, inr, ◌⊎◌, arith}
use Rattle.std.proofs.lemmas.Bool.{cases_lt, cases_eq, lt-ltb, le-ltb, eq-eqb}
use Rattle.std.proofs.lemmas.List.{length-map}
use Rattle.savi_kinds.specs.declared.plan.Method.{Method}
use Rattle.savi_kinds.specs.declared.port.Port.{Port}
use Rattle.savi_kinds.specs.Orders.{is_below, is_above}
use Rattle.fcfs_states.specs.declared.answer.Probe.{Probe}
use Rattle.fcfs_states.specs.declared.event.Ev.{Ev}
use Rattle.fcfs_states.specs.declared.event.Ev.TheVariants.{Sent, Dad, Na, TpDad, TpNa, Lease, Release, Fix, Clear}
use Rattle.fcfs_states.specs.declared.state.Fcfs.{Fcfs}
use Rattle.fcfs_states.specs.declared.state.Fcfs.TheVariants.{NoBind, Tentative, Valid, TestLt, TestVp}
use Rattle.fcfs_states.specs.declared.times.Times.{Times}
use Rattle.fcfs_states.specs.Premises.{AreTimes, IsFcfsEvent}
use Rattle.fcfs_states.specs.Ageing.{AgeRow, tentative_probe, test_lt_probe, test_vp_probe, tentative_ends, valid_ends, test_lt_ends, test_vp_ends, Ages, rests, goes_on, probes_behind}
use Rattle.fcfs_states.specs.Aged.{aged}
use Rattle.fcfs_states.specs.Next.{next}
use Rattle.fcfs_states.proofs.AgeingLemmas.{rank, Ages-aged}
use Rattle.dhcp_states.specs.declared.bound.Bound.{Bound}
use Rattle.dhcp_states.specs.Bindings.{is_over}
use Rattle.mix_rules.specs.declared.state.AddrState.{AddrState}
use Rattle.mix_rules.specs.States.{has_state}
use Rattle.mix_rules.specs.Ageing.{aged_state, bound_at}
use Rattle.mix_rules.specs.Next.{next_state, fcfs_by, bound_by, ended_at, is_dhcp}
use Rattle.savi_access.specs.declared.row.Row.{Row}
use Rattle.savi_access.specs.Rows.{address_of, state_in, rows_of, with_state, AllStand}
use Rattle.savi_access.specs.Ages.{aged_row, aged_rows}
use Rattle.savi_access.specs.Sends.{row_sends, all_sends}
use Rattle.savi_access.proofs.AllSends.{sent_at}
use Rattle.savi_access.proofs.Parts.{other_address, rows_of-standing}

-- a binding by DHCP may end once
abbrev pub ends_left : Option Bound → ℕ
ends_left None = 0
ends_left (Some bound) = 1

-- the weight of a state: for each row of ageing that may follow a probe at 16 ports and a tick, and a tick for the end of a
-- binding
abbrev pub weight_of : AddrState → ℕ
weight_of s = 17 * rank s.fcfs + ends_left s.dhcp

-- the weight of all states
abbrev pub weight : List Row → ℕ
weight [] = 0
weight (row ∷ rows) = weight_of row.state + weight rows

rank_most : (state : Fcfs) → rank state ≤ 5
rank_most NoBind = omega arith
rank_most (TestLt p since false) = omega arith
rank_most (TestLt p since true) = omega arith
rank_most (Valid p until) = omega arith
rank_most (Tentative p since false) = omega arith
rank_most (Tentative p since true) = omega arith
rank_most (TestVp p q since false) = omega arith
rank_most (TestVp p q since true) = omega arith

ends_most : (dhcp : Option Bound) → ends_left dhcp ≤ 1
ends_most None = omega arith
ends_most (Some bound) = omega arith

-- no state weighs more than 86
pub weight_most : (rows : List Row) → weight rows ≤ 86 * length rows
weight_most [] = omega arith
weight_most (row ∷ rows) = omega (arith, rank_most row.state.fcfs, ends_most row.state.dhcp, weight_most rows)

module _ (k : Times) where
  row_rank : {state new : Fcfs} {due : ℕ} {probe : Option Probe} → AgeRow k state due new probe → rank new < rank state
  row_rank tentative_probe = omega arith
  row_rank test_lt_probe = omega arith
  row_rank test_vp_probe = omega arith
  row_rank (tentative_ends {two = true}) = omega arith
  row_rank (tentative_ends {two = false}) = omega arith
  row_rank valid_ends = omega arith
  row_rank (test_lt_ends {two = true}) = omega arith
  row_rank (test_lt_ends {two = false}) = omega arith
  row_rank (test_vp_ends {two = true}) = omega arith
  row_rank (test_vp_ends {two = false}) = omega arith

  behind_most : (due : ℕ) (probe : Option Probe) (probes : List (ℕ × Probe)) → length (probes_behind due probe probes) ≤ 1 + length probes
  behind_most due None probes = omega arith
  behind_most due (Some probe) probes = omega arith

  -- each row of ageing sends one probe at most
  ages_rank : {t : ℕ} {state new : Fcfs} {probes : List (ℕ × Probe)} → Ages k t state probes new → rank new + length probes ≤ rank state
  ages_rank (rests rest) = omega arith
  ages_rank (goes_on {due = due} {probe = probe} {probes = probes} row by first later) =
      omega (arith, row_rank row, behind_most due probe probes, ages_rank later)

  ages_less : {t : ℕ} {state new : Fcfs} {probes : List (ℕ × Probe)} → Ages k t state probes new → (new ≡ state) ⊎ (rank new < rank state)
  ages_less (rests rest) = inl refl
  ages_less (goes_on row by first later) = inr (omega (arith, row_rank row, ages_rank later))

  module _ (times : AreTimes k) (t : ℕ) where
    bound_less : (dhcp : Option Bound) → (bound_at t dhcp ≡ dhcp) ⊎ (ends_left (bound_at t dhcp) < ends_left dhcp)
    bound_less None = inl refl
    bound_less (Some bound) = by_test (is_over t bound.until)
      where
        by_test : (over : Bool) → ((if over then None else Some bound) ≡ Some bound) ⊎ (ends_left (if over then None else Some bound) < 1)
        by_test true = inr (omega arith)
        by_test false = inl refl

    bound_most : (dhcp : Option Bound) → ends_left (bound_at t dhcp) ≤ ends_left dhcp
    bound_most None = omega arith
    bound_most (Some bound) = ends_most (bound_at t (Some bound))

    -- what ageing sends and leaves of a state weighs no more than it, and less where it leaves another one
    pub state_weight : (s : AddrState) → weight_of (aged_state k t s).state + 16 * length (aged_state k t s).probes ≤ weight_of s
    state_weight s = omega (arith, ages_rank (Ages-aged k times t s.fcfs), bound_most s.dhcp)

    state_less : (s : AddrState) → ((aged_state k t s).state ≡ s) ⊎ (weight_of (aged_state k t s).state + 16 * length (aged_state k t s).probes < weight_of s)
    state_less s = in_both (ages_less (Ages-aged k times t s.fcfs)) (bound_less s.dhcp)
      where
        in_both : ((aged k t s.fcfs).state ≡ s.fcfs) ⊎ (rank (aged k t s.fcfs).state < rank s.fcfs) → (bound_at t s.dhcp ≡ s.dhcp) ⊎ (ends_left (bound_at t s.dhcp) < ends_left s.dhcp)
            → ((aged_state k t s).state ≡ s) ⊎ (weight_of (aged_state k t s).state + 16 * length (aged_state k t s).probes < weight_of s)
        in_both (inl same) (inl stands) =
            let made : Fcfs → Option Bound → AddrState = λ fcfs dhcp. record { fixed = s.fixed; fcfs = fcfs; dhcp = dhcp } in
            inl (ap (λ (fcfs : Fcfs). made fcfs (bound_at t s.dhcp)) same ∙ ap (λ (dhcp : Option Bound). made s.fcfs dhcp) stands)
        in_both (inl same) (inr less) = inr (omega (arith, less, ages_rank (Ages-aged k times t s.fcfs), ap rank same))
        in_both (inr less) any = inr (omega (arith, less, ages_rank (Ages-aged k times t s.fcfs), bound_most s.dhcp))

weight-append : (xs ys : List Row) → weight (xs ++ ys) ≡ weight xs + weight ys
weight-append [] ys = omega arith
weight-append (row ∷ xs) ys = omega (arith, weight-append xs ys)

own_by : (b : Bool) (a : ℕ) (state : AddrState) → weight (if b then record { address = record { 0 = a }; state = state } ∷ [] else []) ≤ weight_of state
own_by true a state = omega arith
own_by false a state = omega arith

own_weight : (a : ℕ) (state : AddrState) → weight (rows_of a state) ≤ weight_of state
own_weight a state = own_by (has_state state) a state

module _ (k : Times) (times : AreTimes k) (t : ℕ) where
  sends_size : (row : Row) (rows : List Row) → length (all_sends k t (row ∷ rows)) ≡ length (aged_state k t row.state).probes + length (all_sends k t rows)
  sends_size row rows =
      length-append (row_sends k t row) (all_sends k t rows)
      ∙ ap (λ (n : ℕ). n + length (all_sends k t rows)) (length-map (aged_state k t row.state).probes (sent_at (address_of row)))

  aged_size : (row : Row) (rows : List Row) → weight (aged_rows k t (row ∷ rows)) ≤ weight_of (aged_state k t row.state).state + weight (aged_rows k t rows)
  aged_size row rows =
      omega (arith, weight-append (aged_row k t row) (aged_rows k t rows), own_weight (address_of row) (aged_state k t row.state).state)

  -- ageing pays for the probes that it sends, at 16 ports each
  pub rows-weight : (rows : List Row) → weight (aged_rows k t rows) + 16 * length (all_sends k t rows) ≤ weight rows
  rows-weight [] = omega arith
  rows-weight (row ∷ rows) =
      omega (arith, aged_size row rows, sends_size row rows, state_weight k times t row.state, rows-weight rows)

  -- and for a tick, where it changes a state
  pub same_or_less : (rows : List Row) → AllStand rows → (aged_rows k t rows ≡ rows) ⊎ (weight (aged_rows k t rows) + 16 * length (all_sends k t rows) < weight rows)
  same_or_less [] stand = inl refl
  same_or_less (row ∷ rows) stand = in_both (state_less k times t row.state) (same_or_less rows stand.1)
    where
      in_both : ((aged_state k t row.state).state ≡ row.state) ⊎ (weight_of (aged_state k t row.state).state + 16 * length (aged_state k t row.state).probes < weight_of row.state)
          → (aged_rows k t rows ≡ rows) ⊎ (weight (aged_rows k t rows) + 16 * length (all_sends k t rows) < weight rows)
          → (aged_rows k t (row ∷ rows) ≡ row ∷ rows) ⊎ (weight (aged_rows k t (row ∷ rows)) + 16 * length (all_sends k t (row ∷ rows)) < weight (row ∷ rows))
      in_both (inl same) (inl others) =
          inl (ap (λ (s : AddrState). rows_of (address_of row) s ++ aged_rows k t rows) same
          ∙ ap (λ (own : List Row). own ++ aged_rows k t rows) (rows_of-standing (address_of row) row.state stand.0)
          ∙ ap (λ (rest : List Row). row ∷ rest) others)
      in_both (inl same) (inr less) =
          inr (omega (arith, less, aged_size row rows, sends_size row rows, state_weight k times t row.state))
      in_both (inr less) any =
          inr (omega (arith, less, aged_size row rows, sends_size row rows, rows-weight rows))

-- the rows of other addresses, and the state of this one
others_weight : (a : ℕ) (rows : List Row) → weight (filter (is_below address_of a) rows) + weight (filter (is_above address_of a) rows) + weight_of (state_in rows a) ≤ weight rows
others_weight a [] = omega arith
others_weight a (row ∷ rows) =
    elim (cases_lt (address_of row) a) [
      | inl lower ↦
          rw (lt-ltb (address_of row) a lower, le-ltb a (address_of row) (omega (arith, lower)), other_address (address_of row) a (λ same. omega (arith, lower, same)))
          (omega (arith, others_weight a rows))
      | inr not_lower ↦ upper (others_weight a rows) not_lower (cases_eq (address_of row) a)
    ]
  where
    upper : weight (filter (is_below address_of a) rows) + weight (filter (is_above address_of a) rows) + weight_of (state_in rows a) ≤ weight rows
        → a ≤ address_of row → (address_of row ≡ a) ⊎ (address_of row ≡ a → ⊥)
        → weight (filter (is_below address_of a) (row ∷ rows)) + weight (filter (is_above address_of a) (row ∷ rows)) + weight_of (state_in (row ∷ rows) a) ≤ weight (row ∷ rows)
    upper rest not_lower (inl same) =
        rw (le-ltb (address_of row) a not_lower, le-ltb a (address_of row) (omega (arith, same)), eq-eqb (address_of row) a same)
        (omega (arith, rest))
    upper rest not_lower (inr other) =
        let above : a < address_of row = omega (arith, not_lower, other) in
        rw (le-ltb (address_of row) a not_lower, lt-ltb a (address_of row) above, other_address (address_of row) a other)
        (omega (arith, rest))

-- once an address has another state
pub changed_weight : (a : ℕ) (state : AddrState) (rows : List Row) → weight (with_state a state rows) + weight_of (state_in rows a) ≤ weight rows + weight_of state
changed_weight a state rows =
    let below : List Row = filter (is_below address_of a) rows in
    let above : List Row = filter (is_above address_of a) rows in
    omega (arith, weight-append below (rows_of a state ++ above), weight-append (rows_of a state) above, own_weight a state, others_weight a rows)

-- what an event may add to the weight of its address
abbrev pub cost_of : Ev → ℕ
cost_of (Sent p) = 85
cost_of (Dad p) = 85
cost_of (Na p) = 85
cost_of TpDad = 85
cost_of TpNa = 85
cost_of (Lease p valid) = 1
cost_of (Release p) = 0
cost_of (Fix p) = 0
cost_of Clear = 0

next_lease : (k : Times) (t : ℕ) (room : Bool) (state : Fcfs) (p : Port) (valid : ℕ) → (next k t room state (Lease p valid)).1 ≡ state
next_lease k t room NoBind p valid = refl
next_lease k t room (Tentative q since two) p valid = refl
next_lease k t room (Valid q until) p valid = refl
next_lease k t room (TestLt q since two) p valid = refl
next_lease k t room (TestVp q rival since two) p valid = refl

next_release : (k : Times) (t : ℕ) (room : Bool) (state : Fcfs) (p : Port) → (next k t room state (Release p)).1 ≡ state
next_release k t room NoBind p = refl
next_release k t room (Tentative q since two) p = refl
next_release k t room (Valid q until) p = refl
next_release k t room (TestLt q since two) p = refl
next_release k t room (TestVp q rival since two) p = refl

either_rank : (b : Bool) (new state : Fcfs) → new ≡ state → rank (if b then state else new) ≤ rank state
either_rank true new state same = omega arith
either_rank false new state same = omega (arith, ap rank same)

ended_few : (p : Port) (dhcp : Option Bound) → ends_left (ended_at p dhcp) ≤ ends_left dhcp
ended_few p None = omega arith
ended_few p (Some bound) = ends_most (ended_at p (Some bound))

module _ (m : Method) (k : Times) (t : ℕ) (room : Bool) where
  lease_rank : (fixed : Option Port) (fcfs : Fcfs) (dhcp : Option Bound) (p : Port) (valid : ℕ) → rank (fcfs_by m k t room fixed fcfs dhcp (Lease p valid)) ≤ rank fcfs
  lease_rank (Some f) fcfs dhcp p valid = omega arith
  lease_rank None fcfs (Some bound) p valid = omega arith
  lease_rank None fcfs None p valid = either_rank (is_dhcp m) (next k t room fcfs (Lease p valid)).1 fcfs (next_lease k t room fcfs p valid)

  release_rank : (fixed : Option Port) (fcfs : Fcfs) (dhcp : Option Bound) (p : Port) → rank (fcfs_by m k t room fixed fcfs dhcp (Release p)) ≤ rank fcfs
  release_rank (Some f) fcfs dhcp p = omega arith
  release_rank None fcfs (Some bound) p = omega arith
  release_rank None fcfs None p = either_rank (is_dhcp m) (next k t room fcfs (Release p)).1 fcfs (next_release k t room fcfs p)

  release_ends : (fixed : Option Port) (fcfs : Fcfs) (dhcp : Option Bound) (p : Port) → ends_left (bound_by m t room fixed fcfs dhcp (Release p)) ≤ ends_left dhcp
  release_ends (Some f) fcfs dhcp p = omega arith
  release_ends None fcfs dhcp p = ended_few p dhcp

  -- an event of first come leaves a binding by DHCP as it is
  fcfs_ends : (fixed : Option Port) (fcfs : Fcfs) (dhcp : Option Bound) (event : Ev) → IsFcfsEvent event → ends_left (bound_by m t room fixed fcfs dhcp event) ≤ ends_left dhcp
  fcfs_ends (Some f) fcfs dhcp event is = omega arith
  fcfs_ends None fcfs dhcp (Sent p) is = omega arith
  fcfs_ends None fcfs dhcp (Dad p) is = omega arith
  fcfs_ends None fcfs dhcp (Na p) is = omega arith
  fcfs_ends None fcfs dhcp TpDad is = omega arith
  fcfs_ends None fcfs dhcp TpNa is = omega arith
  fcfs_ends None fcfs dhcp (Lease p valid) is = absurd is
  fcfs_ends None fcfs dhcp (Release p) is = absurd is
  fcfs_ends None fcfs dhcp (Fix p) is = absurd is
  fcfs_ends None fcfs dhcp Clear is = absurd is

  event_rank : (s : AddrState) (event : Ev) → rank (fcfs_by m k t room s.fixed s.fcfs s.dhcp event) ≤ 5
  event_rank s event = rank_most (fcfs_by m k t room s.fixed s.fcfs s.dhcp event)

  event_ends : (s : AddrState) (event : Ev) → ends_left (bound_by m t room s.fixed s.fcfs s.dhcp event) ≤ 1
  event_ends s event = ends_most (bound_by m t room s.fixed s.fcfs s.dhcp event)

  pub event-weight : (s : AddrState) (event : Ev) → weight_of (next_state m k t room s event).1 ≤ weight_of s + cost_of event
  event-weight s (Lease p valid) = omega (arith, lease_rank s.fixed s.fcfs s.dhcp p valid, event_ends s (Lease p valid))
  event-weight s (Release p) = omega (arith, release_rank s.fixed s.fcfs s.dhcp p, release_ends s.fixed s.fcfs s.dhcp p)
  event-weight s (Fix p) = omega arith
  event-weight s Clear = omega arith
  event-weight s (Sent p) = omega (arith, event_rank s (Sent p), fcfs_ends s.fixed s.fcfs s.dhcp (Sent p) tt)
  event-weight s (Dad p) = omega (arith, event_rank s (Dad p), fcfs_ends s.fixed s.fcfs s.dhcp (Dad p) tt)
  event-weight s (Na p) = omega (arith, event_rank s (Na p), fcfs_ends s.fixed s.fcfs s.dhcp (Na p) tt)
  event-weight s TpDad = omega (arith, event_rank s TpDad, fcfs_ends s.fixed s.fcfs s.dhcp TpDad tt)
  event-weight s TpNa = omega (arith, event_rank s TpNa, fcfs_ends s.fixed s.fcfs s.dhcp TpNa tt)
