-- The turn of control, and the drains behind it.
use Rattle.std.proofs.Common.{◌≡◌, ◌≤◌, ℕ, Bool, true, false, List, [], get_or, refl, sym, ap, ◌∙◌, subst, arith, Option, Some, None, IfSome, IsSome}
use Rattle.std.specs.List.{All}
use Rattle.savi_kinds.specs.declared.plan.Plan.{Plan}
use Rattle.savi_kinds.specs.declared.entry.Who.TheVariants.{Control}
use Rattle.savi_kinds.specs.Ports.{number_of}
use Rattle.hist_store.specs.Rows.{Row}
use Rattle.checkpoint.specs.Bases.{Base}
use Rattle.savi_history.specs.ControlInputs.{is_quit}
use Rattle.savi_history.specs.Events.{End}
use Rattle.savi_history.specs.Passes.{has_port, has_ended, control_pass, ticker_pass}
use Rattle.savi_history.specs.Queues.{queue}
use Rattle.savi_history.specs.Replay.{drained, entered, with_event}
use Rattle.savi_history.specs.Turns.{Turn}
use Rattle.savi_history.proofs.Depth.{queue_within}
use Rattle.savi_history.proofs.PassNumbers.{number_at, known_at}
use Rattle.savi_segments.specs.Replay.{Run, base_in, entered_in, run_with, stops_left}
use Rattle.savi_core.specs.Machines.{Machine, base_of}
use Rattle.port_worker.specs.declared.control_ends.LineAhead.{LineAhead}
use Rattle.port_worker.specs.declared.port_ends.PortEnds.{PortEnds}
use Rattle.port_worker.specs.ControlOutputs.{AllOutputsGoOn}
use Rattle.port_worker.specs.Drains.{IsDrainable}
use Rattle.port_worker.specs.LineSteps.{EntersLine, IsAnswered, line_ahead_after, with_command}
use Rattle.port_worker.specs.Outputs.{OutputsGoOn}
use Rattle.port_worker.specs.Replays.{ports_held, ports_planned}
use Rattle.port_worker.specs.Turnings.{StandsAt}
use Rattle.port_worker.proofs.ControlGoing.{keeps_answered, line_goes, end_goes}
use Rattle.port_worker.proofs.KeptOutputs.{KeepsOutput}
use Rattle.port_worker.proofs.Planned.{count_is, number_is}

module _ {S K C : Type 0} (written : K → Option (List ℕ)) (faults : K → ℕ) (m mid : Machine) (o : Option Turn) (result : Bool) (sink sink_new : K) (ports : List (PortEnds S K C))
    (enters : IfSome o (λ turn. EntersLine written faults m.plan (base_of m) turn result m.past mid.past sink sink_new)) (some : IsSome o) (plan_is : mid.plan ≡ m.plan) (base_is : base_of mid ≡ base_of m) where
  entered_so : (t : Turn) (b : Bool) → o ≡ Some t → result ≡ b → EntersLine written faults m.plan (base_of m) t b m.past mid.past sink sink_new
  entered_so t b is answer =
      subst (λ (b : Bool). EntersLine written faults m.plan (base_of m) t b m.past mid.past sink sink_new) answer
      (subst (λ (p : Option Turn). IfSome p (λ turn. EntersLine written faults m.plan (base_of m) turn result m.past mid.past sink sink_new)) is enters)

  keeps_at : (p : Option Turn) → o ≡ p → result ≡ true → (n : ℕ) → KeepsOutput m.plan (base_of m) n m.past mid.past
  keeps_at None is answer n = let e : IsSome {T = Turn} None = subst (λ (p : Option Turn). IsSome p) is some in cc
  keeps_at (Some t) is answer n = let e = entered_so t true is answer in keeps_answered written faults m.plan (base_of m) m.past mid.past e.0 sink sink_new e.2 n

  pub drainable_line : result ≡ true → m.plan.depth ≤ 256 → ports_held ports ≡ ports_planned m.plan → All (λ p. queue m.plan (base_of m) (number_of p.port) m.past ≡ []) ports → All (λ p. IsDrainable mid.plan (base_of mid) mid.past p.port) ports
  drainable_line answer depth planned quiet k d within =
      let count = count_is ports m.plan planned in
      let here = (get_or ports k d).port in
      let number : number_of here ≡ number_at m.plan k = number_is ports m.plan k d planned within in
      let keeps = keeps_at o refl answer (number_of here) in
      let few = queue_within m.plan (base_of m) (number_of here) mid.past in
      subst (λ (p : Plan). IsDrainable p (base_of mid) mid.past here) (sym plan_is)
      (subst (λ (b : Base). IsDrainable m.plan b mid.past here) (sym base_is) (record {
        known = ap (has_port m.plan) number ∙ known_at m.plan k (omega (arith, count, within));
        few = omega (arith, few, depth);
        quiet = λ ended. keeps.quiet (sym keeps.ended_same ∙ ended) (quiet k d within);
      }))

  -- the drains leave of control what the line made of it
  pub ahead_line : (now : List Row) (a : LineAhead) → a ≡ line_ahead_after (has_ended (base_of m) (control_pass m.plan) mid.past) → ((pass : ℕ) → pass ≤ ticker_pass mid.plan → has_ended (base_of mid) pass now ≡ has_ended (base_of mid) pass mid.past)
      → a ≡ line_ahead_after (has_ended (base_of m) (control_pass m.plan) now)
  ahead_line now a is low =
      let kept : has_ended (base_of m) (control_pass m.plan) now ≡ has_ended (base_of m) (control_pass m.plan) mid.past =
      subst (λ (b : Base). has_ended b (control_pass m.plan) now ≡ has_ended b (control_pass m.plan) mid.past) base_is
      (low (control_pass m.plan) (omega (arith, ap (λ (p : Plan). ticker_pass p) plan_is))) in
      is ∙ ap line_ahead_after (sym kept)

  module _ (open_now : has_ended (base_of m) (control_pass m.plan) m.past ≡ false) (run : Run) (stands : StandsAt m run) where
    running : has_ended (base_in m.plan run) (control_pass m.plan) run.past ≡ false
    running =
        subst (λ (l : List Row). has_ended (base_in m.plan run) (control_pass m.plan) l ≡ false) stands.rows
        (subst (λ (b : Base). has_ended b (control_pass m.plan) m.past ≡ false) stands.base open_now)

    -- behind a line
    pub goes_line : (now : List Row) (new : List (PortEnds S K C)) → result ≡ true
        → ((r : Run) → StandsAt mid r → OutputsGoOn written faults mid.plan r (run_with r now) ports new (λ stops. run_with r (drained mid.plan (base_of mid) (stops_left mid.plan stops r).ports mid.plan.ports mid.past)))
        → IfSome o (λ turn. AllOutputsGoOn written faults m.plan run (run_with run now) sink sink_new ports new (λ stops. entered_in m.plan stops turn run))
    goes_line now new answer goes =
        let stands_mid : StandsAt mid (run_with run mid.past) = record { base = base_is ∙ stands.base ∙ ap (λ (p : Plan). base_in p run) (sym plan_is); rows = refl } in
        let goes_plan : OutputsGoOn written faults m.plan (run_with run mid.past) (run_with run now) ports new (λ stops. run_with run (drained m.plan (base_of mid) (stops_left m.plan stops run).ports m.plan.ports mid.past)) =
        subst (λ (p : Plan). OutputsGoOn written faults p (run_with run mid.past) (run_with run now) ports new (λ stops. run_with run (drained p (base_of mid) (stops_left p stops run).ports p.ports mid.past))) plan_is (goes (run_with run mid.past) stands_mid) in
        let goes_base : OutputsGoOn written faults m.plan (run_with run mid.past) (run_with run now) ports new (λ stops. run_with run (drained m.plan (base_in m.plan run) (stops_left m.plan stops run).ports m.plan.ports mid.past)) =
        subst (λ (b : Base). OutputsGoOn written faults m.plan (run_with run mid.past) (run_with run now) ports new (λ stops. run_with run (drained m.plan b (stops_left m.plan stops run).ports m.plan.ports mid.past))) (base_is ∙ stands.base) goes_plan in
        line_at now new answer goes_base o refl
      where
        line_at : (now : List Row) (new : List (PortEnds S K C)) → result ≡ true
            → OutputsGoOn written faults m.plan (run_with run mid.past) (run_with run now) ports new (λ stops. run_with run (drained m.plan (base_in m.plan run) (stops_left m.plan stops run).ports m.plan.ports mid.past)) → (p : Option Turn) → o ≡ p
            → IfSome p (λ turn. AllOutputsGoOn written faults m.plan run (run_with run now) sink sink_new ports new (λ stops. entered_in m.plan stops turn run))
        line_at now new answer goes None is = tt
        line_at now new answer goes (Some t) is =
            let e = entered_so t true is answer in
            let answered : IsAnswered written faults m.plan (base_in m.plan run) (is_quit e.0) (with_command m.plan (base_in m.plan run) e.0 run.past) mid.past sink sink_new =
            subst (λ (l : List Row). IsAnswered written faults m.plan (base_in m.plan run) (is_quit e.0) (with_command m.plan (base_in m.plan run) e.0 l) mid.past sink sink_new) stands.rows
            (subst (λ (b : Base). IsAnswered written faults m.plan b (is_quit e.0) (with_command m.plan b e.0 m.past) mid.past sink sink_new) stands.base e.2) in
            subst (λ (t : Turn). AllOutputsGoOn written faults m.plan run (run_with run now) sink sink_new ports new (λ stops. entered_in m.plan stops t run)) (sym e.1)
            (line_goes written faults m.plan run mid.past now e.0 ports new sink sink_new running goes answered)

    -- control has ended
    pub goes_end : result ≡ false → IfSome o (λ turn. AllOutputsGoOn written faults m.plan run (run_with run mid.past) sink sink_new ports ports (λ stops. entered_in m.plan stops turn run))
    goes_end answer = end_at o refl
      where
        end_at : (p : Option Turn) → o ≡ p → IfSome p (λ turn. AllOutputsGoOn written faults m.plan run (run_with run mid.past) sink sink_new ports ports (λ stops. entered_in m.plan stops turn run))
        end_at None is = tt
        end_at (Some t) is =
            let base = base_in m.plan run in
            let e = entered_so t false is answer in
            let mid_is : mid.past ≡ with_event m.plan base run.past (End Control e.0) =
            e.2 ∙ ap (λ (b : Base). with_event m.plan b m.past (End Control e.0)) stands.base ∙ ap (λ (l : List Row). with_event m.plan base l (End Control e.0)) stands.rows in
            end_goes written faults m.plan run e.0 e.4 running mid.past sink sink_new ports (λ stops. entered_in m.plan stops t run) mid_is e.3
            (λ stops. ap (λ (l : List Row). run_with run l) (mid_is ∙ ap (λ (u : Turn). entered m.plan base (stops_left m.plan stops run) u run.past) (sym e.1)))
