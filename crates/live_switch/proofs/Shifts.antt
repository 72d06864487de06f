-- What the workers of a port need of a shift, and the shift with what they give back.
use Rattle.std.proofs.Common.{◌≡◌, ℕ, ◌+◌, ◌<◌, List, [], ◌∷◌, ◌++◌, length, take, slice_index_or, vec_len, vec_capacity, Option, sym, ap, subst, ◌∙◌, length-append, arith, inl, inr}
use Rattle.std.specs.List.{All}
use Rattle.std.proofs.Math.Nat.{eq-or-lt_of_le}
use Rattle.std.proofs.lemmas.List.Elements.{All-push}
use Rattle.savi_kinds.specs.declared.entry.Who.TheVariants as passes
use Rattle.savi_kinds.specs.declared.plan.PortPlan.{PortPlan}
use Rattle.table_lock.specs.declared.lock.TableLock.{TableLock}
use Rattle.table_lock.specs.declared.pass.Pass.{Pass}
use Rattle.core_keep.specs.declared.keep.KeptCore.{KeptCore}
use Rattle.live_turns.specs.Seats.{IsDealtTo, lock_plan}
use Rattle.live_switch.specs.declared.services.PortService.{PortService}
use Rattle.live_switch.specs.declared.workers.PortShift.{PortShift}
use Rattle.live_switch.specs.declared.workers.Shift.{Shift}
use Rattle.live_switch.specs.Dealt.{AreFor}
use Rattle.live_control.specs.Sides.{worker_ring}
use Rattle.live_control.specs.declared.worker.ControlWorker.{ControlWorker}
use Rattle.live_switch.specs.Joined.{AllStand, GoesOn, StandsAfter, PortStands}
use Rattle.live_switch.specs.Served.{IsInputServed, IsLineServed, IsOutputServed, IsTickerServed}
use Rattle.live_switch.specs.Sharing.{port_service, Took, Gave}
use Rattle.live_switch.specs.Works.{IsDone, IsOver, IsPortService, IsReadyShift, ServesSamePort, IsSameService}
use Rattle.live_switch.proofs.Dealing.{at_front, at_end, fewer, input_fresh, output_fresh, input_dealt, output_dealt}
use Rattle.live_switch.proofs.Joining.{front_part, last_part, line_behind, port_behind, stand_fewer, stand_more, stands_last, tick_behind}

module _ {K C : Type 0} (lock : TableLock KeptCore) (shift : Shift K C) (port : PortShift K) (rest : Shift K C) (ready : IsReadyShift lock shift) (took : Took shift port rest) where
  abbrev count : ℕ
  count = vec_len rest.service.ports

  passes_were : AreFor lock (count + 1) shift.passes.items
  passes_were = subst (λ (n : ℕ). AreFor lock n shift.passes.items) (sym took.ports_len) ready.passes

  size : length rest.service.ports.items ≡ count
  size = omega (arith, rest.service.ports.ok.0)

  within : count < length (lock_plan lock).ports
  within = omega (arith, ready.few, took.ports_len)

  -- it is that of its place in the plan
  pub port_is : (p : PortPlan) → IsPortService (slice_index_or (lock_plan lock).ports count p) (port_service port)
  port_is p =
      subst (IsPortService (slice_index_or (lock_plan lock).ports count p))
      (ap (λ (l : List (PortService K)). slice_index_or l count (port_service port)) took.ports ∙ at_end rest.service.ports.items (port_service port) count (port_service port) (sym size))
      (ready.ports count p (port_service port) (omega (arith, took.ports_len)))

  pub rest_ready : IsReadyShift lock rest
  rest_ready = record {
    valid = ready.valid;
    few = omega (arith, within);
    ports = λ place p d below.
        subst (IsPortService (slice_index_or (lock_plan lock).ports place p))
        (ap (λ (l : List (PortService K)). slice_index_or l place d) took.ports ∙ at_front rest.service.ports.items (port_service port) place d (omega (arith, size)))
        (ready.ports place p d (omega (arith, took.ports_len)));
    passes = fewer lock count shift.passes.items took.most rest.passes.items port.output port.input passes_were took.last took.here took.below took.above took.size;
  }

  pub input_is_dealt : IsDealtTo lock (passes.Ingress port.judge.port) port.input
  input_is_dealt = input_dealt lock count port.judge.port ready.valid within (λ p. (port_is p).judge) port.input
      (input_fresh lock count shift.passes.items took.most rest.passes.items port.output port.input passes_were took.last took.here took.below took.above took.size)

  pub output_is_dealt : IsDealtTo lock (passes.Egress port.writer.port) port.output
  output_is_dealt = output_dealt lock count port.writer.port ready.valid within (λ p. (port_is p).writer) port.output
      (output_fresh lock count shift.passes.items took.most rest.passes.items port.output port.input passes_were took.last took.here took.below took.above took.size)

  module _ (written : K → Option (List ℕ)) (faults : K → ℕ) (readings : C → Option (List ℕ)) (back new : Shift K C) (served : PortShift K) where
    same_more : ServesSamePort (port_service port) (port_service served) → IsDone written faults readings lock rest back → Gave back served new → IsSameService shift.service new.service
    same_more here done gave =
        let behind : length back.service.ports.items ≡ count = omega (arith, back.service.ports.ok.0, done.same.len) in
        record {
          len = omega (arith, gave.ports_len, done.same.len, took.ports_len);
          room = gave.ports_room ∙ done.same.room ∙ took.ports_room;
          ports = λ place d below.
              elim (eq-or-lt_of_le {n = place} {m = count} (omega (arith, took.ports_len))) [
                | inl at ↦
                    subst (λ (t : PortService K × PortService K). ServesSamePort t.0 t.1)
                    (λ i. (
                      sym (ap (λ (l : List (PortService K)). slice_index_or l place d) took.ports ∙ at_end rest.service.ports.items (port_service port) place d (at ∙ sym size)) i,
                      sym (ap (λ (l : List (PortService K)). slice_index_or l place d) gave.ports ∙ at_end back.service.ports.items (port_service served) place d (at ∙ sym behind)) i,
                    )) here
                | inr inside ↦
                    subst (λ (t : PortService K × PortService K). ServesSamePort t.0 t.1)
                    (λ i. (
                      sym (ap (λ (l : List (PortService K)). slice_index_or l place d) took.ports ∙ at_front rest.service.ports.items (port_service port) place d (omega (arith, size))) i,
                      sym (ap (λ (l : List (PortService K)). slice_index_or l place d) gave.ports ∙ at_front back.service.ports.items (port_service served) place d (omega (arith, behind))) i,
                    )) (done.same.ports place d inside)
              ];
          ring = ap (λ (w : ControlWorker K). worker_ring w.ends) gave.control ∙ done.same.ring ∙ ap (λ (w : ControlWorker K). worker_ring w.ends) took.control;
        }

    holds_more : IsInputServed lock port.judge port.input served.judge served.input → IsOutputServed written faults lock port.writer port.output served.writer served.output
        → IsDone written faults readings lock rest back → Gave back served new → StandsAfter written faults readings lock new.passes.items shift.service new.service
    holds_more judged wrote done gave before past legals base is_legal all first stands =
        let P : Pass → Type 0 = GoesOn past in
        let passes_are : All P ((back.passes.items ++ served.input ∷ []) ++ served.output ∷ []) = subst (λ (ps : List Pass). All P ps) gave.passes all in
        let inner : All P (back.passes.items ++ served.input ∷ []) = front_part P (back.passes.items ++ served.input ∷ []) served.output passes_are in
        let few = stand_fewer written faults readings (lock_plan lock) before first shift.service rest.service (port_service port) took.ports took.control took.ticker stands in
        let behind : length back.service.ports.items ≡ length rest.service.ports.items = omega (arith, back.service.ports.ok.0, rest.service.ports.ok.0, done.same.len) in
        let whole : length first.sinks ≡ length back.service.ports.items + 1 =
        sym stands.size ∙ ap length took.ports ∙ length-append rest.service.ports.items (port_service port ∷ []) ∙ omega (arith, behind) in
        let now = done.stands before past legals base is_legal (front_part P back.passes.items served.input inner) (record { sinks = take (length rest.service.ports.items) first.sinks; sink = first.sink; clock = first.clock }) few in
        stand_more written faults readings (lock_plan lock) (past ∷ before) first new.service back.service (port_service served) gave.ports gave.control gave.ticker whole
        (subst (λ (n : ℕ). AllStand written faults readings (lock_plan lock) (past ∷ before) (record { sinks = take n first.sinks; sink = first.sink; clock = first.clock }) back.service) (sym behind) now)
        (λ p k.
        let here : ℕ = length back.service.ports.items in
        let place : here ≡ count = behind ∙ size in
        port_behind lock before past legals base is_legal written faults (slice_index_or (lock_plan lock).ports here p) (slice_index_or first.sinks here k) port served
        (subst (λ (n : ℕ). IsPortService (slice_index_or (lock_plan lock).ports n p) (port_service port)) (sym place) (port_is p))
        judged wrote (last_part P back.passes.items served.input inner) (last_part P (back.passes.items ++ served.input ∷ []) served.output passes_are)
        (subst (λ (n : ℕ). PortStands written faults (lock_plan lock) before (slice_index_or (lock_plan lock).ports n p) (slice_index_or first.sinks n k) (port_service port)) (sym behind)
        (stands_last written faults readings (lock_plan lock) before first shift.service rest.service (port_service port) took.ports stands p k)))

    pub done_more : IsInputServed lock port.judge port.input served.judge served.input → IsOutputServed written faults lock port.writer port.output served.writer served.output
        → IsDone written faults readings lock rest back → Gave back served new → IsDone written faults readings lock shift new
    done_more judged wrote done gave =
        let Over : Pass → Type 0 = IsOver lock in
        let ended : All Over ((back.passes.items ++ served.input ∷ []) ++ served.output ∷ []) =
        All-push Over (back.passes.items ++ served.input ∷ []) served.output (All-push Over back.passes.items served.input done.ended judged.ended.over) wrote.ended.over in
        record {
          same = same_more (record { judge = judged.port; rings = judged.rings; writer = (wrote.port, wrote.format) }) done gave;
          passes_len = omega (arith, gave.passes_len, done.passes_len, took.passes_len);
          passes_room = gave.passes_room ∙ done.passes_room ∙ took.passes_room;
          ended = subst (λ (ps : List Pass). All Over ps) (sym gave.passes) ended;
          stands = holds_more judged wrote done gave;
        }

-- Where no port is left: control and the ticker.
module _ {K C : Type 0} (written : K → Option (List ℕ)) (faults : K → ℕ) (readings : C → Option (List ℕ)) (lock : TableLock KeptCore) (old new : Shift K C) (bare : List Pass) (line tick line_now tick_now : Pass)
    (none : vec_len old.service.ports ≡ 0) (ports : new.service.ports ≡ old.service.ports)
    (passes_are : new.passes.items ≡ (bare ++ line_now ∷ []) ++ tick_now ∷ []) (no_others : length bare ≡ 0)
    (served : IsLineServed written faults lock old.service.control line new.service.control line_now) (ticked : IsTickerServed readings lock old.service.ticker tick new.service.ticker tick_now) where
  holds_first : StandsAfter written faults readings lock new.passes.items old.service new.service
  holds_first before past legals base is_legal all first stands =
      let P : Pass → Type 0 = GoesOn past in
      let both : All P ((bare ++ line_now ∷ []) ++ tick_now ∷ []) = subst (λ (ps : List Pass). All P ps) passes_are all in
      let no_sinks : length first.sinks ≡ 0 = omega (arith, stands.size, none, old.service.ports.ok.0) in
      record {
        size = ap (λ v. length v.items) ports ∙ stands.size;
        ports = λ place p k d within. absurd (omega (arith, within, no_sinks));
        control = line_behind lock before past legals base is_legal written faults first.sink old.service.control new.service.control line line_now served
            (last_part P bare line_now (front_part P (bare ++ line_now ∷ []) tick_now both)) stands.control;
        ticker = tick_behind lock before past legals base is_legal readings first.clock old.service.ticker new.service.ticker tick tick_now ticked
            (last_part P (bare ++ line_now ∷ []) tick_now both) stands.ticker;
      }

  pub done_first : vec_len new.passes ≡ vec_len old.passes → vec_capacity new.passes ≡ vec_capacity old.passes → IsDone written faults readings lock old new
  done_first len room =
      let Over : Pass → Type 0 = IsOver lock in
      let bare_over : All Over bare = λ k d within. absurd (omega (arith, within, no_others)) in
      let ended : All Over ((bare ++ line_now ∷ []) ++ tick_now ∷ []) =
      All-push Over (bare ++ line_now ∷ []) tick_now (All-push Over bare line_now bare_over served.ended.over) ticked.ended.over in
      record {
        same = record {
          len = ap (λ v. vec_len v) ports;
          room = ap (λ v. vec_capacity v) ports;
          ports = λ place d below. absurd (omega (arith, below, none));
          ring = served.ring;
        };
        passes_len = len;
        passes_room = room;
        ended = subst (λ (ps : List Pass). All Over ps) (sym passes_are) ended;
        stands = holds_first;
      }
