-- A replay comes to few entries, and is of one segment where the budget suffices.
use Rattle.std.proofs.Common.{◌≡◌, ℕ, suc, ◌+◌, ◌*◌, ◌<◌, ◌≤◌, ◌==◌, nat_lt, nat_le, Bool, true, false, if◌then◌else◌, List, [], ◌∷◌, length, get_or, Option, refl, sym, ap, ◌∙◌, subst, append-nil, arith}
use Rattle.std.specs.List.{All}
use Rattle.std.proofs.Math.Nat.{mul-suc, mul-le-mul_left}
use Rattle.std.proofs.lemmas.Bool.{and_from, false≢true, lt-ltb, le-leb}
use Rattle.savi_kinds.specs.declared.plan.Plan.{Plan}
use Rattle.savi_kinds.specs.declared.plan.PortPlan.{PortPlan}
use Rattle.savi_kinds.specs.declared.port.Port.{Port}
use Rattle.savi_kinds.specs.declared.entry.Who.{Who}
use Rattle.savi_kinds.specs.declared.entry.Who.TheVariants as passes
use Rattle.savi_kinds.specs.declared.entry.How.{How}
use Rattle.savi_kinds.specs.declared.entry.How.TheVariants as hows
use Rattle.savi_kinds.specs.Ports.{number_of}
use Rattle.savi_kinds.specs.ValidPlan.{IsValidPlan}
use Rattle.savi_kinds.specs.Arrivals.{Arrival, Input}
use Rattle.savi_kinds.specs.Arrivals as arrivals
use Rattle.cli_lang.specs.Arrivals.{Line}
use Rattle.cli_lang.specs.Arrivals as control
use Rattle.hist_store.specs.Rows.{Row, held}
use Rattle.checkpoint.specs.Bases.{empty}
use Rattle.savi_history.specs.Passes.{pass_of, pass_count, egress_pass, has_ended, has_port}
use Rattle.savi_history.specs.Limits.{has_room}
use Rattle.savi_history.specs.Queues.{queue}
use Rattle.savi_history.specs.Endings.{has_pause}
use Rattle.savi_history.specs.Readable.{IsInput, IsControl}
use Rattle.savi_history.specs.Events.{Command, Drain, End}
use Rattle.savi_history.specs.Merges.{merged}
use Rattle.savi_history.specs.Turns.{Turn, Arrives, Commands, Ends, who_of, turn_at, all_turns}
use Rattle.savi_history.specs.Replay.{Stops, is_stopped, pieces_by, event_of, with_event, with_failure, begun, with_drain, drained, with_reply, entered, closed, closing, with_end, egress_ended}
use Rattle.savi_history.proofs.Replying.{behind_reply}
use Rattle.savi_segments.specs.Replay.{Run, all_closed, all_taken, entered_in, has_ended_in, inputs_taken, replayed, run_begun, segments_of, stops_left, taken, taken_if_open, turned}
use Rattle.savi_segments.specs.Segments.{joined}
use Rattle.savi_segments.proofs.Legality.{AreKnown, AreTurns, HasRoomFor as HasRoomForTurn, IsGood, IsTurn, all_known, all_turns_fit, good_begun, good_entered}
use Rattle.savi_segments.proofs.Turning.{ended_alike}
use Rattle.savi_segments.proofs.Unpaused.{pause_begun, unpaused_entered}
use Rattle.savi_laws.specs.Budgets.{SufficesForReplay, input_count, kept_of, given_count, given_octets, lines_of, arrivals_of, replay_entries}
use Rattle.savi_laws.proofs.FewEnds.{IsFew, ends, few_ends, few_more, open_below}
use Rattle.savi_laws.proofs.Given.{counts, keeps, of_turn, one_taken, replay_given, same_last}

-- numbers of entries, of drains that may come, of ends, and what inputs allow for
size_less : (l s e m : ℕ) → l + suc s ≤ e + m → l + s ≤ e + m
size_less l s e m size = omega (arith, size)

size_end : (l s e m : ℕ) → l + s ≤ e + m → suc l + s ≤ suc e + m
size_end l s e m size = omega (arith, size)

size_drain : (l s e m : ℕ) → l + suc s ≤ e + m → suc l + s ≤ e + m
size_drain l s e m size = omega (arith, size)

size_input : (l e m n all : ℕ) → all ≡ m + (n + 1) → l + 0 ≤ e + m → suc l + n ≤ e + all
size_input l e m n all more size = omega (arith, more, size)

at_most : (e left n : ℕ) → n ≤ 16 → e + left ≤ 2 * n + 2 → e ≤ 34
at_most e left n ports few = omega (arith, ports, few)

in_all : (l e m : ℕ) → l + 0 ≤ e + m → e ≤ 34 → l ≤ 34 + m
in_all l e m size few = omega (arith, size, few)

-- room for one input more leaves room for all entries before it
room_entries : (l e m n all x : ℕ) → all ≡ m + (n + 1) → l + 0 ≤ e + m → e ≤ 34 → 4130 + (34 + all) ≤ x → l + 4130 < x
room_entries l e m n all x more size few low = omega (arith, more, size, few, low)

room_bytes : (h more all x : ℕ) → all ≡ more + h → 1518 + all ≤ x → h + 1518 ≤ x
room_bytes h more all x is low = omega (arith, is, low)

pub fewer_octets : (k n x : ℕ) → k ≤ n → 1518 + n ≤ x → 1518 + k ≤ x
fewer_octets k n x few low = omega (arith, few, low)

fewer_inputs : (p k n x : ℕ) → (p + 1) * k ≤ (p + 1) * n → 4130 + (34 + (p + 1) * n) ≤ x → 4130 + (34 + (p + 1) * k) ≤ x
fewer_inputs p k n x few low = omega (arith, few, low)

one_input : (one now before : ℕ) → now ≡ one + before → one ≡ 1 → now ≡ suc before
one_input one now before more is = omega (arith, more, is)

no_more : (one more all : ℕ) → all ≡ more + one → one ≤ all
no_more one more all is = omega (arith, is)

module _ (plan : Plan) where
  -- what the inputs allow for
  abbrev most : ℕ → ℕ
  most count = (length plan.ports + 1) * count

  -- so many drains may still come before another input
  abbrev IsSized : ℕ → List Row → Type 0
  IsSized spare past = length past + spare ≤ ends past + most (input_count past)

  more : (count : ℕ) → most (suc count) ≡ most count + (length plan.ports + 1)
  more count = mul-suc (length plan.ports + 1) count

  -- within the first segment

  sized_end : (spare : ℕ) (past : List Row) (who : Who) (how : How) → IsSized spare past → IsSized spare (with_event plan empty past (End who how))
  sized_end spare past who how sized = size_end (length past) spare (ends past) (most (input_count past)) sized

  sized_drain : (spare : ℕ) (past : List Row) (port : Port) (count : ℕ) → IsSized (suc spare) past → IsSized spare (with_event plan empty past (Drain port count))
  sized_drain spare past port count sized = size_drain (length past) spare (ends past) (most (input_count past)) sized

  sized_input : (past : List Row) → IsSized 0 past → suc (length past) + length plan.ports ≤ ends past + most (suc (input_count past))
  sized_input past sized = size_input (length past) (ends past) (most (input_count past)) (length plan.ports) (most (suc (input_count past))) (more (input_count past)) sized

  sized_arrival : (past : List Row) (port : Port) (arrival : Arrival) → IsSized 0 past → IsSized (length plan.ports) (with_event plan empty past (event_of port arrival))
  sized_arrival past port (arrivals.Frame stamp octets) sized = sized_input past sized
  sized_arrival past port (arrivals.Long stamp len) sized = sized_input past sized

  sized_if : (spare : ℕ) (b : Bool) (one two : List Row) → IsSized spare one → IsSized spare two → IsSized spare (if b then one else two)
  sized_if spare true one two first second = first
  sized_if spare false one two first second = second

  module _ (stops : Stops) where
    sized_failure : (spare : ℕ) (past : List Row) (port : Port) → IsSized spare past → IsSized spare (with_failure plan empty stops.ports port past)
    sized_failure spare past port sized =
        sized_if spare (is_stopped (stops.ports (number_of port)) (pieces_by plan empty (number_of port) past)) (with_event plan empty past (End (passes.Egress port) hows.Failed)) past
        (sized_end spare past (passes.Egress port) hows.Failed sized) sized

    sized_begun : (qs : List PortPlan) (past : List Row) → IsSized 0 past → IsSized 0 (begun plan empty stops.ports qs past)
    sized_begun [] past sized = sized
    sized_begun (q ∷ qs) past sized = sized_begun qs (with_failure plan empty stops.ports q.number past) (sized_failure 0 past q.number sized)

    sized_with_drain : (spare : ℕ) (past : List Row) (port : Port) (count : ℕ) → IsSized (suc spare) past → IsSized spare (with_drain plan empty stops.ports port count past)
    sized_with_drain spare past port count sized =
        sized_if spare (count == 0) past (with_failure plan empty stops.ports port (with_event plan empty past (Drain port count)))
        (size_less (length past) spare (ends past) (most (input_count past)) sized)
        (sized_failure spare (with_event plan empty past (Drain port count)) port (sized_drain spare past port count sized))

    sized_drained : (qs : List PortPlan) (past : List Row) → IsSized (length qs) past → IsSized 0 (drained plan empty stops.ports qs past)
    sized_drained [] past sized = sized
    sized_drained (q ∷ qs) past sized =
        let count = length (queue plan empty (number_of q.number) past) in
        sized_drained qs (with_drain plan empty stops.ports q.number count past) (sized_with_drain (length qs) past q.number count sized)

    sized_reply : (spare : ℕ) (past : List Row) (line : Line) → IsSized spare past → IsSized spare (with_reply plan empty stops.control line past)
    sized_reply spare past line sized =
        behind_reply plan empty line past (IsSized spare) sized (sized_end spare past passes.Control hows.Unwritten sized) (sized_end spare past passes.Control hows.Quit sized) stops.control

    sized_entered : (turn : Turn) (past : List Row) → IsSized 0 past → IsSized 0 (entered plan empty stops turn past)
    sized_entered (Arrives port arrival) past sized = sized_drained plan.ports (with_event plan empty past (event_of port arrival)) (sized_arrival past port arrival sized)
    sized_entered (Commands line) past sized =
        let commanded = with_event plan empty past (Command line.stamp line.command) in
        sized_drained plan.ports (with_reply plan empty stops.control line commanded) (sized_reply (length plan.ports) commanded line (sized_input past sized))
    sized_entered (Ends who how) past sized = sized_end 0 past who how sized

  sized_egress : (qs : List PortPlan) (past : List Row) → IsSized 0 past → IsSized 0 (egress_ended plan empty qs past)
  sized_egress [] past sized = sized
  sized_egress (q ∷ qs) past sized =
      sized_egress qs (with_end plan empty q.number past)
      (sized_if 0 (has_ended empty (egress_pass plan (number_of q.number)) past) past (with_event plan empty past (End (passes.Egress q.number) (closing past))) sized
      (sized_end 0 past (passes.Egress q.number) (closing past) sized))

  sized_closed : (past : List Row) → IsSized 0 past → IsSized 0 (closed plan empty past)
  sized_closed past sized = sized_egress plan.ports (with_event plan empty past (End passes.Ticker (closing past))) (sized_end 0 past passes.Ticker (closing past) sized)

  -- where the segment closes each pass has ended at most once

  few_at : (past : List Row) (port : Port) (b : Bool) → has_port plan (number_of port) ≡ true → has_ended empty (egress_pass plan (number_of port)) past ≡ b → IsFew plan empty past
      → IsFew plan empty (if b then past else with_event plan empty past (End (passes.Egress port) (closing past)))
  few_at past port true known is few = few
  few_at past port false known is few = few_more plan empty past (passes.Egress port) (closing past) known is few

  few_egress : (qs : List PortPlan) (past : List Row) → AreKnown plan qs → IsFew plan empty past → IsFew plan empty (egress_ended plan empty qs past)
  few_egress [] past known few = few
  few_egress (q ∷ qs) past known few =
      few_egress qs (with_end plan empty q.number past) known.1 (few_at past q.number (has_ended empty (egress_pass plan (number_of q.number)) past) known.0 refl few)

  few_closed : (stops : Stops) (past : List Row) → IsGood plan empty past → IsFew plan empty (closed plan empty past)
  few_closed stops past good =
      few_egress plan.ports (with_event plan empty past (End passes.Ticker (closing past))) (all_known plan empty stops)
      (few_more plan empty past passes.Ticker (closing past) refl good.ticking (few_ends plan empty past good.legal))

-- The rows of a replay that is in its first segment: they are good, nothing is paused, and they are no more than inputs and
-- ends allow for.
record IsFirst (plan : Plan) (past : List Row) : Type 0 where
  good : IsGood plan empty past
  unpaused : has_pause past ≡ false
  sized : IsSized plan 0 past

abbrev run_at : List (List Row) → List Row → Run
run_at earlier past = record { closed = earlier; past = past }

-- room for a replay with the inputs that these rows have
abbrev IsRoomy : Plan → List Row → Type 0
IsRoomy plan rows = SufficesForReplay plan (input_count rows) (held rows)

-- a replay is in its first segment, or there wasn't room for its inputs
abbrev Stage : Plan → List (List Row) → List Row → Type 0
Stage plan [] past = IsFirst plan past
Stage plan (segment ∷ earlier) past = IsRoomy plan (joined (segments_of (run_at (segment ∷ earlier) past))) → ⊥

abbrev InStage : Plan → Run → Type 0
InStage plan run = Stage plan run.closed run.past

module _ (plan : Plan) (valid : IsValidPlan plan) (stops : Stops) where
  ends_few : (past : List Row) → IsFew plan empty past → ends past ≤ 34
  ends_few past few = at_most (ends past) (open_below empty past (pass_count plan)) (length plan.ports) valid.port_count.1 few

  -- what a turn weighs

  count_taken : (t : Turn) (run : Run) → input_count (joined (segments_of (taken plan stops t run))) ≡ of_turn (λ a. 1) (λ line. 1) t + input_count (joined (segments_of run))
  count_taken t run = one_taken (λ a. 1) (λ line. 1) plan input_count (counts plan) stops t run

  octets_taken : (t : Turn) (run : Run) → held (joined (segments_of (taken plan stops t run))) ≡ of_turn kept_of (λ line. length line.command) t + held (joined (segments_of run))
  octets_taken t run = one_taken kept_of (λ line. length line.command) plan held (keeps plan) stops t run

  -- room behind a turn was room before it
  roomy_before : (t : Turn) (run : Run) → IsRoomy plan (joined (segments_of (taken plan stops t run))) → IsRoomy plan (joined (segments_of run))
  roomy_before t run roomy =
      let now = joined (segments_of (taken plan stops t run)) in
      let before = joined (segments_of run) in
      record {
        entries = fewer_inputs (length plan.ports) (input_count before) (input_count now) plan.entries
            (mul-le-mul_left (length plan.ports + 1) (no_more (input_count before) (of_turn (λ a. 1) (λ line. 1) t) (input_count now) (count_taken t run))) roomy.entries;
        bytes = fewer_octets (held before) (held now) plan.bytes (no_more (held before) (of_turn kept_of (λ line. length line.command) t) (held now) (octets_taken t run)) roomy.bytes;
      }

  -- where there is room for all inputs there is for one more
  has_room_for : (past : List Row) (rows : List Row) (octets : ℕ) → IsFirst plan past → input_count rows ≡ suc (input_count past) → held rows ≡ octets + held past → IsRoomy plan rows → has_room plan past ≡ true
  has_room_for past rows octets first one_more all roomy =
      let entries : length past + 4130 < plan.entries =
      room_entries (length past) (ends past) (most plan (input_count past)) (length plan.ports) (most plan (suc (input_count past))) plan.entries (more plan (input_count past)) first.sized
      (ends_few past (few_ends plan empty past first.good.legal))
      (subst (λ (n : ℕ). 4130 + (34 + most plan n) ≤ plan.entries) one_more roomy.entries) in
      and_from (nat_lt (length past + 4130) plan.entries) (nat_le (held past + 1518) plan.bytes)
      (lt-ltb (length past + 4130) plan.entries entries)
      (le-leb (held past + 1518) plan.bytes (room_bytes (held past) octets (held rows) plan.bytes all roomy.bytes))

  first_count : (past : List Row) → input_count (joined (segments_of (run_at [] past))) ≡ input_count past
  first_count past = ap (λ (l : List Row). input_count l) (append-nil past)

  first_octets : (past : List Row) → held (joined (segments_of (run_at [] past))) ≡ held past
  first_octets past = ap (λ (l : List Row). held l) (append-nil past)

  -- a turn in the first segment

  module _ (t : Turn) (past : List Row) (first : IsFirst plan past) where
    abbrev now : List Row
    now = joined (segments_of (taken plan stops t (run_at [] past)))

    -- an arrival or a line has room
    input_room : of_turn (λ a. 1) (λ line. 1) t ≡ 1 → IsRoomy plan now → has_room plan past ≡ true
    input_room one roomy =
        has_room_for past now (of_turn kept_of (λ line. length line.command) t) first
        (one_input (of_turn (λ a. 1) (λ line. 1) t) (input_count now) (input_count past) (count_taken t (run_at [] past) ∙ ap (λ (n : ℕ). of_turn (λ a. 1) (λ line. 1) t + n) (first_count past)) one)
        (octets_taken t (run_at [] past) ∙ ap (λ (n : ℕ). of_turn kept_of (λ line. length line.command) t + n) (first_octets past))
        roomy

    first_entered : IsTurn plan t → HasRoomForTurn plan t past → has_ended_in plan (pass_of plan (who_of t)) (run_at [] past) ≡ false → IsFirst plan (entered plan empty (stops_left plan stops (run_at [] past)) t past)
    first_entered fits room is_open =
        let left = stops_left plan stops (run_at [] past) in
        record {
          good = good_entered plan empty left t past first.good fits room (ended_alike plan empty past (pass_of plan (who_of t)) first.good.legal first.unpaused ∙ is_open);
          unpaused = unpaused_entered plan empty left t past fits first.unpaused;
          sized = sized_entered plan left t past first.sized;
        }

    -- it goes into this segment, or there wasn't room
    stage_room : (b : Bool) → has_room plan past ≡ b → (has_room plan past ≡ true → IsFirst plan (entered plan empty (stops_left plan stops (run_at [] past)) t past))
        → (IsRoomy plan (joined (segments_of (entered_in plan stops t (if b then run_at [] past else turned plan (run_at [] past))))) → has_room plan past ≡ true)
        → InStage plan (entered_in plan stops t (if b then run_at [] past else turned plan (run_at [] past)))
    stage_room true room goes needs = goes room
    stage_room false none goes needs = λ roomy. false≢true (sym none ∙ needs roomy)

  stage_first : (t : Turn) (past : List Row) → IsTurn plan t → has_ended_in plan (pass_of plan (who_of t)) (run_at [] past) ≡ false → IsFirst plan past → InStage plan (taken plan stops t (run_at [] past))
  stage_first (Arrives port a) past fits is_open first =
      stage_room (Arrives port a) past first (has_room plan past) refl (λ room. first_entered (Arrives port a) past first fits room is_open) (input_room (Arrives port a) past first refl)
  stage_first (Commands line) past fits is_open first =
      stage_room (Commands line) past first (has_room plan past) refl (λ room. first_entered (Commands line) past first fits room is_open) (input_room (Commands line) past first refl)
  stage_first (Ends who how) past fits is_open first = first_entered (Ends who how) past first fits tt is_open

  -- a turn in another segment

  stage_next : (t : Turn) (segment : List Row) (earlier : List (List Row)) (past : List Row) (b : Bool) → let run = run_at (segment ∷ earlier) past in
      (IsRoomy plan (joined (segments_of (entered_in plan stops t (if b then run else turned plan run)))) → ⊥) → InStage plan (entered_in plan stops t (if b then run else turned plan run))
  stage_next t segment earlier past true none = none
  stage_next t segment earlier past false none = none

  stage_later : (t : Turn) (segment : List Row) (earlier : List (List Row)) (past : List Row) → (IsRoomy plan (joined (segments_of (taken plan stops t (run_at (segment ∷ earlier) past)))) → ⊥)
      → InStage plan (taken plan stops t (run_at (segment ∷ earlier) past))
  stage_later (Arrives port a) segment earlier past none = stage_next (Arrives port a) segment earlier past (has_room plan past) none
  stage_later (Commands line) segment earlier past none = stage_next (Commands line) segment earlier past (has_room plan past) none
  stage_later (Ends who how) segment earlier past none = none

  -- all turns

  stage_taken : (t : Turn) (earlier : List (List Row)) (past : List Row) → IsTurn plan t → has_ended_in plan (pass_of plan (who_of t)) (run_at earlier past) ≡ false → Stage plan earlier past
      → InStage plan (taken plan stops t (run_at earlier past))
  stage_taken t [] past fits is_open stage = stage_first t past fits is_open stage
  stage_taken t (segment ∷ earlier) past fits is_open stage =
      stage_later t segment earlier past (λ roomy. stage (roomy_before t (run_at (segment ∷ earlier) past) roomy))

  stage_at : (t : Turn) (run : Run) (b : Bool) → has_ended_in plan (pass_of plan (who_of t)) run ≡ b → IsTurn plan t → InStage plan run → InStage plan (if b then run else taken plan stops t run)
  stage_at t run true is fits stage = stage
  stage_at t run false is fits stage = stage_taken t run.closed run.past fits is stage

  stage_all : (ts : List Turn) (run : Run) → AreTurns plan ts → InStage plan run → InStage plan (all_taken plan stops ts run)
  stage_all [] run fit stage = stage
  stage_all (t ∷ ts) run fit stage = stage_all ts (taken_if_open plan stops t run) fit.1 (stage_at t run (has_ended_in plan (pass_of plan (who_of t)) run) refl fit.0 stage)

  stage_begun : InStage plan (run_begun plan stops)
  stage_begun = record {
    good = good_begun plan empty stops valid.ports (λ pass. refl);
    unpaused = pause_begun plan empty stops.ports plan.ports [];
    sized = sized_begun plan stops plan.ports [] (omega arith);
  }

  -- in the end

  alone : (earlier : List (List Row)) (past : List Row) → Stage plan earlier past → IsRoomy plan (joined (segments_of (run_at earlier past))) → length earlier ≡ 0
  alone [] past stage roomy = refl
  alone (segment ∷ earlier) past stage roomy = absurd (stage roomy)

  few_alone : (earlier : List (List Row)) (last past : List Row) → Stage plan earlier last → all_closed plan (run_at earlier last) ≡ past ∷ [] → length past ≤ replay_entries plan (input_count past)
  few_alone [] last past first is =
      let segment = closed plan empty last in
      let same : segment ≡ past = ap (λ (l : List (List Row)). get_or l 0 []) is in
      subst (λ (l : List Row). length l ≤ replay_entries plan (input_count l)) same
      (in_all (length segment) (ends segment) (most plan (input_count segment)) (sized_closed plan last first.sized) (ends_few segment (few_closed plan stops last first.good)))
  few_alone (segment ∷ earlier) last past stage is =
      let size : suc (suc (length earlier)) ≡ 1 = ap (λ (l : List (List Row)). length l) is in absurd (omega (arith, size))

module _ (plan : Plan) (valid : IsValidPlan plan) (lines : Option control.Input) (inputs : List Input) (stops : Stops) (is : IsControl lines) (are : All IsInput inputs) where
  abbrev last : Run
  last = inputs_taken plan lines inputs stops

  stage_last : InStage plan last
  stage_last = stage_all plan valid stops (merged turn_at (all_turns lines plan.ports inputs)) (run_begun plan stops) (all_turns_fit plan empty stops lines inputs is are) (stage_begun plan valid stops)

  -- a replay of one segment has no more entries than its inputs allow for
  pub one_segment_few : (past : List Row) → replayed plan lines inputs stops ≡ past ∷ [] → length past ≤ replay_entries plan (input_count past)
  one_segment_few past same = few_alone plan valid stops last.closed last.past past stage_last same

  -- with room for its inputs a replay is of one segment
  pub one_segment : SufficesForReplay plan (input_count (joined (replayed plan lines inputs stops))) (held (joined (replayed plan lines inputs stops))) → length (replayed plan lines inputs stops) ≡ 1
  one_segment suffices =
      let count = same_last (λ a. 1) (λ line. 1) plan input_count (counts plan) stops last in
      let octets = same_last kept_of (λ line. length line.command) plan held (keeps plan) stops last in
      ap (λ (n : ℕ). suc n)
      (alone plan valid stops last.closed last.past stage_last (record {
        entries = subst (λ (n : ℕ). 4130 + replay_entries plan n ≤ plan.entries) count suffices.entries;
        bytes = subst (λ (n : ℕ). 1518 + n ≤ plan.bytes) octets suffices.bytes;
      }))

  -- so what its inputs have suffices
  pub given_one_segment : SufficesForReplay plan (given_count (lines_of lines) (arrivals_of inputs)) (given_octets (lines_of lines) (arrivals_of inputs)) → length (replayed plan lines inputs stops) ≡ 1
  given_one_segment suffices =
      let rows = joined (replayed plan lines inputs stops) in
      let given = replay_given plan lines inputs stops in
      one_segment (record {
        entries = fewer_inputs (length plan.ports) (input_count rows) (given_count (lines_of lines) (arrivals_of inputs)) plan.entries (mul-le-mul_left (length plan.ports + 1) given.0) suffices.entries;
        bytes = fewer_octets (held rows) (given_octets (lines_of lines) (arrivals_of inputs)) plan.bytes given.1 suffices.bytes;
      })
