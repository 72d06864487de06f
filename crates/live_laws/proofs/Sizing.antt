-- What a live session's segments hold is no more than what its sources have, and so the budget by these suffices.
use Rattle.std.proofs.Common.{◌≡◌, ℕ, zero, suc, ◌+◌, ◌*◌, ◌<◌, ◌≤◌, false, List, [], ◌∷◌, ◌++◌, length, slice_index_or, sum_by, Option, Some, None, refl, sym, ap, subst, arith}
use Rattle.std.specs.List.{flat_map}
use Rattle.std.proofs.lemmas.List.Sums.{sum_by-append}
use Rattle.savi_kinds.specs.declared.plan.Plan.{Plan}
use Rattle.savi_kinds.specs.declared.plan.PortPlan.{PortPlan}
use Rattle.savi_kinds.specs.Ports.{number_of}
use Rattle.savi_kinds.specs.ValidPlan.{IsValidPlan}
use Rattle.savi_kinds.specs.Arrivals.{Arrival, Frame, Long, Input}
use Rattle.savi_kinds.proofs.Lists.{element}
use Rattle.savi_ends.specs.declared.world.Ends.{Ends}
use Rattle.stream_io.specs.Streams as streams
use Rattle.cli_lang.specs.Arrivals.{Line}
use Rattle.cli_lang.specs.Arrivals as control
use Rattle.hist_store.specs.Rows.{Row, held}
use Rattle.checkpoint.specs.Bases.{empty}
use Rattle.savi_history.specs.ControlInputs.{entered_lines}
use Rattle.savi_history.specs.Endings.{has_paused_end}
use Rattle.savi_history.specs.Limits.{IsWithinLimits}
use Rattle.savi_history.specs.PortInputs.{arrived}
use Rattle.live_session.specs.LiveSession.{ControlOf, IsLive}
use Rattle.savi_laws.specs.Budgets.{input_count, standing, given_count, given_octets, kept_of, lines_of, arrivals_of, all_arrived, entries_most}
use Rattle.savi_segments.specs.Segments.{AreLegal, base_after, joined}
use Rattle.savi_segments.specs.Unbroken.{unbroken}
use Rattle.savi_laws.proofs.Enough.{few_entries}
use Rattle.savi_laws.proofs.Given.{segments_given, sum_ones}
use Rattle.savi_laws.proofs.OneSegment.{count_both, fewer, one_segment}
use Rattle.live_laws.specs.SourceInputs.{HasLines, HaveInputs, causes_in, SufficesFor}
use Rattle.live_laws.proofs.Fitting.{read_most, control_most}

-- what is kept of an arrival isn't its stamp
kept_blind : (reading : ℕ) (a : Arrival) → kept_of (streams.stamped_at reading a) ≡ kept_of a
kept_blind reading (Frame stamp octets) = refl
kept_blind reading (Long stamp len) = refl

-- where each port's arrivals weigh no more than those of its input, all of them don't
ports_most : (weight : Arrival → ℕ) (past : List Row) (ports : List PortPlan) (inputs : List Input) → length inputs ≡ length ports
    → ((place : ℕ) (p : PortPlan) (i : Input) → place < length ports → sum_by weight (arrived (number_of (slice_index_or ports place p).number) past) ≤ sum_by weight (slice_index_or inputs place i).arrivals)
    → sum_by weight (flat_map (λ p. arrived (number_of p.number) past) ports) ≤ sum_by weight (arrivals_of inputs)
ports_most weight past [] inputs size each = omega arith
ports_most weight past (p ∷ ports) [] size each = absurd (omega (arith, size))
ports_most weight past (p ∷ ports) (i ∷ inputs) size each =
    omega (
      arith,
      sum_by-append weight (arrived (number_of p.number) past) (flat_map (λ q. arrived (number_of q.number) past) ports),
      sum_by-append weight i.arrivals (arrivals_of inputs),
      each zero p i (omega arith),
      ports_most weight past ports inputs (omega (arith, size)) (λ place q j within. each (suc place) q j (omega (arith, within))),
    )

few_of_fewer : (n i j b : ℕ) → i ≤ j → n ≤ 34 + 256 * (i + b) → n ≤ 34 + 256 * (j + b)
few_of_fewer n i j b fewer low = omega (arith, fewer, low)

few_octets : (h k x : ℕ) → h ≤ k → 1518 + k ≤ x → 1518 + h ≤ x
few_octets h k x less low = omega (arith, less, low)

-- of segments each one is legal from what those before it leave, and holds no more than all
one_of : (plan : Plan) (later before : List (List Row)) (segment : List Row) → AreLegal plan (later ++ segment ∷ before)
    → AreLegal plan (segment ∷ before) × (input_count segment ≤ input_count (joined (later ++ segment ∷ before)))
one_of plan [] before segment legal = let count = count_both segment (joined before) in (legal, omega (arith, count))
one_of plan (newest ∷ later) before segment legal =
    let rest = one_of plan later before segment legal.2 in
    let count = count_both newest (joined (later ++ segment ∷ before)) in
    let less = rest.1 in
    (rest.0, omega (arith, count, less))

module _ {S K C : Type 0} (left : S → Option (List ℕ)) (written : K → Option (List ℕ)) (source_faults : S → ℕ)
    (sink_faults : K → ℕ) (readings : C → Option (List ℕ)) (plan : Plan) (segments : List (List Row))
    (old_ports new_ports : List (Ends S K C)) (old_control new_control : Option (Ends S K C)) (old_clock new_clock : C)
    (lines : Option control.Input) (inputs : List Input)
    (live : IsLive left written source_faults sink_faults readings plan segments old_ports new_ports old_control new_control old_clock new_clock)
    (have : HaveInputs left plan old_ports old_control lines inputs) where
  abbrev rows : List Row
  rows = unbroken segments

  arrivals_most : (weight : Arrival → ℕ) → ((reading : ℕ) (a : Arrival) → weight (streams.stamped_at reading a) ≡ weight a) → sum_by weight (all_arrived plan rows) ≤ sum_by weight (arrivals_of inputs)
  arrivals_most weight blind =
      ports_most weight rows plan.ports inputs have.each_input (λ place p i within.
      let d : Ends S K C = element old_ports place (omega (arith, have.each_port, within)) in
      let has = have.have place p d i within in
      let row = (live.ports place p d within).0 in
      let all = (slice_index_or inputs place i).arrivals in
      read_most weight blind (slice_index_or plan.ports place p).format (left (slice_index_or old_ports place d).source) (left (slice_index_or new_ports place d).source) has.0 all
      (slice_index_or inputs place i).ending has.1 has.2 (arrived (number_of (slice_index_or plan.ports place p).number) rows) row.0 row.2.fits)

  lines_by : (weight : Line → ℕ) → ((reading : ℕ) (line : Line) → weight (control.stamped_at reading line) ≡ weight line)
      → (old new : Option (Ends S K C)) (given : Option control.Input) → ControlOf left written source_faults sink_faults readings plan segments old new → HasLines left old given
      → sum_by weight (entered_lines rows) ≤ sum_by weight (lines_of given)
  lines_by weight blind None None None row has = omega (arith, ap (λ (l : List Line). sum_by weight l) row.none)
  lines_by weight blind None None (Some input) row has = absurd has
  lines_by weight blind None (Some new) given row has = absurd row
  lines_by weight blind (Some old) None given row has = absurd row
  lines_by weight blind (Some old) (Some new) None row has = absurd has
  lines_by weight blind (Some old) (Some new) (Some input) row has =
      control_most weight blind (left old.source) (left new.source) has.0 input.arrivals input.ending has.1 has.2 (entered_lines rows) (Some row.ending) row.source.fits

  pub no_more : (input_count (joined segments) ≤ given_count (lines_of lines) (arrivals_of inputs)) × (held (joined segments) ≤ given_octets (lines_of lines) (arrivals_of inputs))
  no_more =
      let held_all = segments_given plan segments live.session.legal in (
        omega (
          arith,
          held_all.0,
          lines_by (λ line. 1) (λ reading line. refl) old_control new_control lines live.control have.commands,
          arrivals_most (λ a. 1) (λ reading a. refl),
          sum_ones (entered_lines rows),
          sum_ones (lines_of lines),
          sum_ones (all_arrived plan rows),
          sum_ones (arrivals_of inputs),
        ),
        omega (
          arith,
          held_all.1,
          lines_by (λ line. length line.command) (λ reading line. refl) old_control new_control lines live.control have.commands,
          arrivals_most kept_of kept_blind,
        ),
      )

  module _ (valid : IsValidPlan plan) where
    -- of each segment, within the limits of what it goes on from
    pub few : (later before : List (List Row)) (segment : List Row) → segments ≡ later ++ segment ∷ before → (AreLegal plan before → IsWithinLimits plan (base_after plan before))
        → length segment ≤ entries_most (causes_in plan (base_after plan before) lines inputs)
    few later before segment split within =
        let base = base_after plan before in
        let one = one_of plan later before segment (subst (AreLegal plan) split live.session.legal) in
        let all : input_count segment ≤ input_count (joined segments) = subst (λ (l : List (List Row)). input_count segment ≤ input_count (joined l)) (sym split) one.1 in
        let most = no_more.0 in
        few_of_fewer (length segment) (input_count segment) (given_count (lines_of lines) (arrivals_of inputs)) (standing plan base) (omega (arith, all, most))
        (few_entries plan base valid.port_count.1 (within one.0.2) segment one.0.0)

    pub not_full : SufficesFor plan lines inputs → (length segments ≡ 1) × (has_paused_end (joined segments) ≡ false)
    not_full suffices =
        let most = no_more in
        one_segment plan valid segments live.session (record {
          entries = fewer (given_count (lines_of lines) (arrivals_of inputs) + standing plan empty) (input_count (joined segments)) plan.entries (omega (arith, most.0)) suffices.entries;
          bytes = few_octets (held (joined segments)) (given_octets (lines_of lines) (arrivals_of inputs)) plan.bytes most.1 suffices.bytes;
        })
