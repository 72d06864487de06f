-- What serves the ends stands behind a segment: that of one port more, and all of it, by the history of the switch.
use Rattle.std.proofs.Common.{◌≡◌, ℕ, ◌+◌, ◌<◌, true, List, [], ◌∷◌, ◌++◌, length, take, slice_index_or, Option, Some, None, refl, sym, ap, subst, ◌∙◌, length-append, arith, inl, inr}
use Rattle.std.specs.List.{All}
use Rattle.std.proofs.Math.Nat.{eq-or-lt_of_le}
use Rattle.std.proofs.lemmas.List.{get_or-take, length-take-le}
use Rattle.std.proofs.lemmas.Option.{slice_get_within, get_or_from_slice_get}
use Rattle.savi_kinds.specs.declared.entry.Who.{Who}
use Rattle.savi_kinds.specs.declared.entry.Who.TheVariants as passes
use Rattle.savi_kinds.specs.declared.plan.Format.{Format}
use Rattle.savi_kinds.specs.declared.plan.Plan.{Plan}
use Rattle.savi_kinds.specs.declared.plan.PortPlan.{PortPlan}
use Rattle.savi_kinds.specs.declared.port.Port.{Port}
use Rattle.savi_kinds.specs.Ports.{number_of}
use Rattle.parcel_ring.specs.Sides.{was_taken}
use Rattle.hist_store.specs.Rows.{Row}
use Rattle.checkpoint.specs.Bases.{Base}
use Rattle.savi_history.specs.Legal.{IsLegal, IsFinished}
use Rattle.savi_history.specs.Passes.{pass_of, pass_count, has_ended}
use Rattle.savi_segments.specs.Segments.{AreLegal, base_after}
use Rattle.table_lock.specs.Entries.{StartsWith, mine}
use Rattle.table_lock.specs.Passes.{AreNumbered, pass_number, pass_own, pass_seen}
use Rattle.table_lock.specs.declared.lock.TableLock.{TableLock}
use Rattle.table_lock.specs.declared.pass.Pass.{Pass}
use Rattle.core_keep.specs.declared.keep.KeptCore.{KeptCore}
use Rattle.core_keep.specs.Pasts.{coded}
use Rattle.core_keep.specs.Seen.{IsLater, past_seen}
use Rattle.core_keep.proofs.Goings.{later_of}
use Rattle.core_keep.proofs.PastsRead.{past_again}
use Rattle.live_session.specs.Standing.{InputStands, OutputStands, TickerStands}
use Rattle.live_session.proofs.Same.{SameControl, control_same, input_same, no_control_same, output_same}
use Rattle.live_session.proofs.StandsOn.{same_control, same_input, same_output, ticker_later}
use Rattle.live_turns.specs.Seats.{lock_base, lock_plan}
use Rattle.live_turns.proofs.Seating.{ended_stays}
use Rattle.live_input.specs.Judged.{kept_of}
use Rattle.live_input.specs.declared.judge.Ingress.{Ingress}
use Rattle.live_output.specs.declared.output.Output.{Output}
use Rattle.live_control.specs.Sides.{WorkerStands}
use Rattle.live_control.specs.declared.side.ControlSide.{ControlSide}
use Rattle.live_control.specs.declared.worker.ControlWorker.{ControlWorker}
use Rattle.live_ticker.specs.declared.ticker.TickerWorker.{TickerWorker}
use Rattle.live_switch.specs.declared.services.PortService.{PortService}
use Rattle.live_switch.specs.declared.services.Service.{Service}
use Rattle.live_switch.specs.declared.workers.PortShift.{PortShift}
use Rattle.live_switch.specs.Joined.{AllStand, Firsts, GoesOn, PortStands}
use Rattle.live_switch.specs.Served.{IsInputServed, IsLineServed, IsOutputServed, IsOverOf, IsTickerServed}
use Rattle.live_switch.specs.Sharing.{port_service}
use Rattle.live_switch.specs.Works.{IsOver, IsPortService}
use Rattle.live_switch.proofs.Dealing.{at_front, at_end}

-- what holds of each of these holds of the last one, and of those before it
pub front_part : {X : Type 0} (P : X → Type 0) (xs : List X) (x : X) → All P (xs ++ x ∷ []) → All P xs
front_part P xs x all k d within = subst P (at_front xs x k d within) (all k d (omega (arith, length-append xs (x ∷ []))))

pub last_part : {X : Type 0} (P : X → Type 0) (xs : List X) (x : X) → All P (xs ++ x ∷ []) → P x
last_part P xs x all = subst P (at_end xs x (length xs) x refl) (all (length xs) x (omega (arith, length-append xs (x ∷ []))))

-- what stands of control stands of segments of which the same is said
pub worker_same : {K : Type 0} (written : K → Option (List ℕ)) (faults : K → ℕ) (plan : Plan) (old new : List (List Row)) → SameControl plan old new
    → (first : Option K) (ends : Option (ControlSide K)) → WorkerStands written faults plan old first ends → WorkerStands written faults plan new first ends
worker_same written faults plan old new same (Some first) (Some side) stands = record {
  stands = control_same written faults plan old new same first side.sink _ _ stands.stands;
  passes = λ is. sym same.ended ∙ stands.passes is;
}
worker_same written faults plan old new same None None stands = no_control_same plan old new same stands
worker_same written faults plan old new same (Some first) None stands = stands
worker_same written faults plan old new same None (Some side) stands = stands

-- One worker behind the segment, by the history that has gone on from what its pass has seen.
module _ (lock : TableLock KeptCore) (before : List (List Row)) (past : List Row) (legals : AreLegal (lock_plan lock) before)
    (base : lock_base lock ≡ base_after (lock_plan lock) before) (is_legal : IsLegal (lock_plan lock) (lock_base lock) past) where
  legal : IsLegal (lock_plan lock) (base_after (lock_plan lock) before) past
  legal = subst (λ (b : Base). IsLegal (lock_plan lock) b past) base is_legal

  later : (who : Who) (pass : Pass) → IsOverOf lock who pass → GoesOn past pass → IsLater (pass_of (lock_plan lock) who) (past_seen pass) past
  later who pass over goes_on = subst (λ (n : ℕ). IsLater n (past_seen pass) past) over.number_is goes_on

  input_behind : (old new : Ingress) (dealt pass : Pass) → IsInputServed lock old dealt new pass → GoesOn past pass
      → InputStands (number_of old.port) before (was_taken old.taker) (kept_of old.kept) → InputStands (number_of old.port) (past ∷ before) (was_taken new.taker) (kept_of new.kept)
  input_behind old new dealt pass served goes_on stands =
      input_same (number_of old.port) (past_seen pass ∷ before) (past ∷ before) (was_taken new.taker) (kept_of new.kept)
      (same_input (lock_plan lock) before (past_seen pass) past legal (number_of old.port) (later (passes.Ingress old.port) pass served.ended goes_on))
      (served.stands before legals base stands)

  module _ {K : Type 0} (written : K → Option (List ℕ)) (faults : K → ℕ) where
    output_behind : (first : K) (old new : Output K) (dealt pass : Pass) → IsOutputServed written faults lock old dealt new pass → GoesOn past pass
        → OutputStands written faults old.format (lock_plan lock) (number_of old.port) before old.begun first old.sink
        → OutputStands written faults old.format (lock_plan lock) (number_of old.port) (past ∷ before) new.begun first new.sink
    output_behind first old new dealt pass served goes_on stands =
        output_same written faults old.format (lock_plan lock) (number_of old.port) (past_seen pass ∷ before) (past ∷ before)
        (same_output (lock_plan lock) before (past_seen pass) past legal old.format (number_of old.port) (later (passes.Egress old.port) pass served.ended goes_on))
        first new.sink new.begun (served.stands first before legals base stands)

    -- both of a port
    pub port_behind : (p : PortPlan) (first : K) (old new : PortShift K) → IsPortService p (port_service old)
        → IsInputServed lock old.judge old.input new.judge new.input → IsOutputServed written faults lock old.writer old.output new.writer new.output → GoesOn past new.input → GoesOn past new.output
        → PortStands written faults (lock_plan lock) before p first (port_service old) → PortStands written faults (lock_plan lock) (past ∷ before) p first (port_service new)
    port_behind p first old new is judged wrote goes_on goes_on_out stands = record {
      input = subst (λ (port : Port). InputStands (number_of port) (past ∷ before) (was_taken new.judge.taker) (kept_of new.judge.kept)) is.judge
          (input_behind old.judge new.judge old.input new.input judged goes_on
          (subst (λ (port : Port). InputStands (number_of port) before (was_taken old.judge.taker) (kept_of old.judge.kept)) (sym is.judge) stands.input));
      output = subst (λ (t : Format × Port). OutputStands written faults t.0 (lock_plan lock) (number_of t.1) (past ∷ before) new.writer.begun first new.writer.sink) (λ i. (is.format i, is.writer i))
          (output_behind first old.writer new.writer old.output new.output wrote goes_on_out
          (subst (λ (t : Format × Port). OutputStands written faults t.0 (lock_plan lock) (number_of t.1) before old.writer.begun first old.writer.sink) (λ i. (sym is.format i, sym is.writer i)) stands.output));
    }

    pub line_behind : (first : Option K) (old new : ControlWorker K) (dealt pass : Pass) → IsLineServed written faults lock old dealt new pass → GoesOn past pass
        → WorkerStands written faults (lock_plan lock) before first old.ends → WorkerStands written faults (lock_plan lock) (past ∷ before) first new.ends
    line_behind first old new dealt pass served goes_on stands =
        worker_same written faults (lock_plan lock) (past_seen pass ∷ before) (past ∷ before)
        (same_control (lock_plan lock) before (past_seen pass) past legal (later passes.Control pass served.ended goes_on)) first new.ends
        (served.stands first before legals base stands)

  pub tick_behind : {C : Type 0} (readings : C → Option (List ℕ)) (first : C) (old new : TickerWorker C) (dealt pass : Pass) → IsTickerServed readings lock old dealt new pass → GoesOn past pass
      → TickerStands readings (lock_plan lock) before first old.clock → TickerStands readings (lock_plan lock) (past ∷ before) first new.clock
  tick_behind readings first old new dealt pass served goes_on stands =
      ticker_later (lock_plan lock) before (past_seen pass) past legal readings first new.clock (later passes.Ticker pass served.ended goes_on)
      (served.stands first before legals base stands)

-- What serves the ports, control and the ticker, of which one port is the last.
module _ {K C : Type 0} (written : K → Option (List ℕ)) (faults : K → ℕ) (readings : C → Option (List ℕ)) (plan : Plan) (segments : List (List Row)) where
  -- but for the last port
  abbrev pub fewer : Firsts K C → ℕ → Firsts K C
  fewer first n = record { sinks = take n first.sinks; sink = first.sink; clock = first.clock }

  pub stand_fewer : (first : Firsts K C) (all few : Service K C) (x : PortService K) → all.ports.items ≡ few.ports.items ++ x ∷ [] → few.control ≡ all.control → few.ticker ≡ all.ticker
      → AllStand written faults readings plan segments first all → AllStand written faults readings plan segments (fewer first (length few.ports.items)) few
  stand_fewer first all few x last control ticker stands =
      let n : ℕ = length few.ports.items in
      let whole : length first.sinks ≡ n + 1 = sym stands.size ∙ ap length last ∙ length-append few.ports.items (x ∷ []) in
      let size : length (take n first.sinks) ≡ n = length-take-le n first.sinks (omega (arith, whole)) in
      record {
        size = sym size;
        ports = λ place p k d within.
            subst (λ (t : K × PortService K). PortStands written faults plan segments (slice_index_or plan.ports place p) t.0 t.1)
            (λ i. (sym (get_or-take n first.sinks place k (omega (arith, size))) i, (ap (λ (l : List (PortService K)). slice_index_or l place d) last ∙ at_front few.ports.items x place d (omega (arith, size))) i))
            (stands.ports place p k d (omega (arith, size, whole)));
        control = subst (λ (w : ControlWorker K). WorkerStands written faults plan segments first.sink w.ends) (sym control) stands.control;
        ticker = subst (λ (w : TickerWorker C). TickerStands readings plan segments first.clock w.clock) (sym ticker) stands.ticker;
      }

  -- and the last one alone
  pub stands_last : (first : Firsts K C) (all few : Service K C) (x : PortService K) → all.ports.items ≡ few.ports.items ++ x ∷ [] → AllStand written faults readings plan segments first all
      → (p : PortPlan) (k : K) → PortStands written faults plan segments (slice_index_or plan.ports (length few.ports.items) p) (slice_index_or first.sinks (length few.ports.items) k) x
  stands_last first all few x last stands p k =
      let n : ℕ = length few.ports.items in
      let whole : length first.sinks ≡ n + 1 = sym stands.size ∙ ap length last ∙ length-append few.ports.items (x ∷ []) in
      subst (PortStands written faults plan segments (slice_index_or plan.ports n p) (slice_index_or first.sinks n k))
      (ap (λ (l : List (PortService K)). slice_index_or l n x) last ∙ at_end few.ports.items x n x refl)
      (stands.ports n p k x (omega (arith, whole)))

  -- both together
  pub stand_more : (first : Firsts K C) (all few : Service K C) (y : PortService K) → all.ports.items ≡ few.ports.items ++ y ∷ [] → all.control ≡ few.control → all.ticker ≡ few.ticker
      → length first.sinks ≡ length few.ports.items + 1 → AllStand written faults readings plan segments (fewer first (length few.ports.items)) few
      → ((p : PortPlan) (k : K) → PortStands written faults plan segments (slice_index_or plan.ports (length few.ports.items) p) (slice_index_or first.sinks (length few.ports.items) k) y)
      → AllStand written faults readings plan segments first all
  stand_more first all few y last control ticker whole stands here =
      let n : ℕ = length few.ports.items in
      let size : length (take n first.sinks) ≡ n = length-take-le n first.sinks (omega (arith, whole)) in
      record {
        size = ap length last ∙ length-append few.ports.items (y ∷ []) ∙ sym whole;
        ports = λ place p k d within.
            elim (eq-or-lt_of_le {n = place} {m = n} (omega (arith, whole))) [
              | inl at ↦
                  subst (PortStands written faults plan segments (slice_index_or plan.ports place p) (slice_index_or first.sinks place k))
                  (sym (ap (λ (l : List (PortService K)). slice_index_or l place d) last ∙ at_end few.ports.items y place d at))
                  (subst (λ (m : ℕ). PortStands written faults plan segments (slice_index_or plan.ports m p) (slice_index_or first.sinks m k) y) (sym at) (here p k))
              | inr below ↦
                  subst (λ (t : K × PortService K). PortStands written faults plan segments (slice_index_or plan.ports place p) t.0 t.1)
                  (λ i. (get_or-take n first.sinks place k below i, sym (ap (λ (l : List (PortService K)). slice_index_or l place d) last ∙ at_front few.ports.items y place d below) i))
                  (stands.ports place p k d (omega (arith, size, below)))
            ];
        control = subst (λ (w : ControlWorker K). WorkerStands written faults plan segments first.sink w.ends) (sym control) stands.control;
        ticker = subst (λ (w : TickerWorker C). TickerStands readings plan segments first.clock w.clock) (sym ticker) stands.ticker;
      }

-- each pass knows the history but for what others made since
pub all_go_on : (past : List Row) (passes : List Pass) → All (λ p. mine (pass_number p) (coded past) ≡ pass_own p) passes → All (λ p. StartsWith (coded past) (pass_seen p)) passes → All (GoesOn past) passes
all_go_on past passes own begins k d within =
    let p : Pass = slice_index_or passes k d in
    subst (λ (rows : List Row). IsLater (pass_number p) (past_seen p) rows) (past_again past) (later_of (pass_number p) (pass_seen p) (coded past) (begins k d within) (own k d within))

pub all_finished : (lock : TableLock KeptCore) (past : List Row) (passes : List Pass) → AreNumbered (pass_count (lock_plan lock)) passes → All (IsOver lock) passes → All (GoesOn past) passes → IsFinished (lock_plan lock) (lock_base lock) past
all_finished lock past passes numbers ended goes_on pass below =
    let h = numbers pass below in
    let k : ℕ = h.0 in
    let p : Pass = h.1 in
    let within : k < length passes = slice_get_within passes k p h.2 in
    let at : slice_index_or passes k p ≡ p = get_or_from_slice_get passes k p p h.2 in
    let over_p : IsOver lock p = subst (IsOver lock) at (ended k p within) in
    let later_p : GoesOn past p = subst (GoesOn past) at (goes_on k p within) in
    subst (λ (n : ℕ). has_ended (lock_base lock) n past ≡ true) h.3 (ended_stays (lock_base lock) (pass_number p) (past_seen p) past later_p ∙ over_p.ended)
