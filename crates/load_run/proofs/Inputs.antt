-- What a replay over the captures of a load made of them are the segments of the load.
use Rattle.std.proofs.Common.{◌≡◌, ℕ, ◌≤◌, ◌<◌, ◌^◌, Bool, true, false, List, [], ◌∷◌, length, map, get_or, refl, sym, ap, ◌∙◌, subst, arith, All, Option, Some, None, inl, inr, Vec, Global}
use Rattle.std.proofs.lemmas.List.{same_lists, get_or-map, length-map}
use Rattle.savi_kinds.specs.declared.plan.Plan.{Plan}
use Rattle.savi_kinds.specs.declared.entry.How.{How}
use Rattle.savi_kinds.specs.declared.entry.How.TheVariants as hows
use Rattle.savi_kinds.specs.Arrivals.{Arrival, Input}
use Rattle.savi_ends.specs.declared.count_sink.CountSink.{CountSink}
use Rattle.savi_ends.specs.declared.mem_clock.MemClock.{MemClock}
use Rattle.savi_ends.specs.declared.sure_source.SureSource.{SureSource}
use Rattle.savi_ends.specs.Faults.{Rose}
use Rattle.savi_ends.specs.MemSources.{sure_left}
use Rattle.cli_lang.specs.Arrivals as control
use Rattle.pcap_io.specs.Captures.{capture_text}
use Rattle.pcap_io.specs.Kinds.{classic_kinds}
use Rattle.pcap_io.specs.Readers.{State, Comes, Fresh}
use Rattle.pcap_io.specs.Runs.{Arrive}
use Rattle.pcap_io.proofs.Uniqueness.{one_input}
use Rattle.hist_store.specs.Rows.{Row}
use Rattle.load_gen.specs.Captures.{sent_at, captures_of}
use Rattle.load_gen.specs.LoadPlan.{said, load_ports}
use Rattle.load_gen.specs.Sendings.{Sending, sendings}
use Rattle.load_gen.proofs.Wholes.{loads_are_inputs}
use Rattle.savi_history.specs.ControlInputs.{control_end}
use Rattle.savi_history.specs.Endings.{has_failed_write}
use Rattle.savi_history.specs.PortInputs.{input_end}
use Rattle.savi_segments.specs.Replay.{replayed}
use Rattle.savi_segments.specs.Segments.{AreLegal}
use Rattle.savi_segments.specs.Unbroken.{unbroken}
use Rattle.savi_segments.proofs.EnteringLines.{without_control}
use Rattle.savi_segments.proofs.Failures.{failed_write_at_output, IsOfOutput}
use Rattle.savi_core.specs.Machines.{port_number_at}
use Rattle.port_worker.specs.declared.control_ends.ControlEnds.{ControlEnds}
use Rattle.port_worker.specs.ControlServed.{ServesControl}
use Rattle.port_worker.specs.Served.{IsInputOf, IsServed, ServesEnds}
use Rattle.load_run.specs.LoadEnds.{LoadEnds, IsFresh, octets_left}
use Rattle.load_run.specs.LoadHistory.{input_at, load_inputs, load_segments, no_stops}
use Rattle.load_run.proofs.Holding.{items_of}
use Rattle.load_run.proofs.Unstopped.{replayed_unstopped}

-- an element of a list that has one
element : {X : Type 0} (xs : List X) (k : ℕ) → k < length xs → X
element [] k inside = absurd (omega arith)
element (x ∷ xs) k inside = x

not_true : (b : Bool) → (b ≡ true → ⊥) → b ≡ false
not_true true never = absurd (never refl)
not_true false never = refl

-- these octets are one input, and no read of them failed
input_of : (octets : List ℕ) (after : Option (List ℕ)) (ended_so : Option How) (want : Input) (arrivals : List Arrival) (ending : How) → Arrive classic_kinds true octets want → (ended_so ≡ Some hows.Failed → ⊥)
    → IsInputOf (Arrive classic_kinds) (Some octets) after ended_so arrivals ending → record { arrivals = arrivals; ending = ending } ≡ want
input_of octets after ended_so want arrivals hows.End arrive never gave = one_input classic_kinds true octets (record { arrivals = arrivals; ending = hows.End }) want gave arrive
input_of octets after ended_so want arrivals (hows.Malformed at) arrive never gave = one_input classic_kinds true octets (record { arrivals = arrivals; ending = hows.Malformed at }) want gave arrive
input_of octets after ended_so want arrivals hows.Failed arrive never gave = absurd (never gave.0)
input_of octets after ended_so want arrivals hows.Quit arrive never gave = absurd gave
input_of octets after ended_so want arrivals (hows.Overlong at) arrive never gave = absurd gave
input_of octets after ended_so want arrivals hows.Unwritten arrive never gave = absurd gave
input_of octets after ended_so want arrivals hows.Paused arrive never gave = absurd gave

never_rose : Rose 0 0 → ⊥
never_rose rose = omega (arith, rose)

abbrev numbers_five : List ℕ
numbers_five = 1 ∷ 2 ∷ 3 ∷ 4 ∷ 5 ∷ []

pub five : (plan : Plan) → map said plan.ports ≡ load_ports → length plan.ports ≡ 5
five plan ports = sym (length-map plan.ports said) ∙ ap length ports

-- a load has as many captures as ports
pub as_many_ports : (plan : Plan) (captures : List (Vec ℕ Global)) (seed frames : ℕ) → map said plan.ports ≡ load_ports → map items_of captures ≡ captures_of (sendings seed frames) → length captures ≡ length plan.ports
unfolding captures_of
as_many_ports plan captures seed frames ports octets =
    sym (length-map captures items_of) ∙ ap length octets ∙ sym (sym (length-map plan.ports said) ∙ ap length ports)

no_lines : (new : Option (ControlEnds SureSource CountSink MemClock)) (plan : Plan) (segments : List (List Row)) (lines : Option control.Input) (stop : Option ℕ)
    → ServesControl {S = SureSource} {K = CountSink} {C = MemClock} (λ s. Some (sure_left s)) (λ k. None) (λ s. 0) (λ k. 0) plan segments None new lines stop → lines ≡ None
no_lines None plan segments None stop is = refl
no_lines None plan segments (Some input) stop is = absurd is
no_lines (Some new) plan segments lines stop is = absurd is

module _ (plan : Plan) (seed frames : ℕ) (segments : List (List Row)) (control_new : Option (ControlEnds SureSource CountSink MemClock)) (old new : List LoadEnds)
    (ports : map said plan.ports ≡ load_ports) (within : frames ≤ 2 ^ 32) (fresh : All IsFresh old) (octets : map octets_left old ≡ captures_of (sendings seed frames))
    (served : ServesEnds {S = SureSource} {K = CountSink} {C = MemClock} (λ s. Some (sure_left s)) (λ k. None) (λ s. 0) (λ k. 0) plan segments None control_new old new) where
  five_ports : length plan.ports ≡ 5
  five_ports = sym (length-map plan.ports said) ∙ ap length ports

  five_ends : length old ≡ 5
  unfolding captures_of
  five_ends = sym (length-map old octets_left) ∙ ap length octets

  capture_at : (k : ℕ) (d : LoadEnds) → k < 5 → octets_left (get_or old k d) ≡ capture_text (sent_at (get_or numbers_five k 0) (sendings seed frames))
  unfolding captures_of
  capture_at k d inside =
      let all : List Sending = sendings seed frames in
      let here : k < length old = omega (arith, inside, five_ends) in
      sym (get_or-map octets_left old k d (octets_left d) here)
      ∙ ap (λ (l : List (List ℕ)). get_or l k (octets_left d)) octets
      ∙ get_or-map (λ (port : ℕ). capture_text (sent_at port all)) numbers_five k 0 (octets_left d) inside

  -- some ends, to name those at a place
  some_ends : LoadEnds
  some_ends = element old 0 (omega (arith, five_ends))

  -- what the segments were to each port's ends
  abbrev Was : ℕ → Input → Type 0
  Was k i = IsServed {S = SureSource} {K = CountSink} {C = MemClock} (λ s. Some (sure_left s)) (λ k. None) (λ s. 0) (λ k. 0) (Comes (get_or old k some_ends).reader) plan segments (port_number_at plan k) (get_or served.inputs k i) (served.stops.ports (port_number_at plan k)) (get_or old k some_ends).ends (get_or new k some_ends).ends

  was : (k : ℕ) (i : Input) → k < 5 → Was k i
  was k i inside = served.each k i (omega (arith, inside, five_ports)) some_ends

  input_is : (k : ℕ) (i : Input) → k < 5 → get_or served.inputs k i ≡ input_at (get_or numbers_five k 0) (sendings seed frames)
  input_is k i inside =
      let p : LoadEnds = get_or old k some_ends in
      let port : ℕ = get_or numbers_five k 0 in
      let anew : p.reader ≡ Fresh classic_kinds = (fresh k some_ends (omega (arith, inside, five_ends))).anew in
      let one : Was k i = was k i inside in
      let got : Input = get_or served.inputs k i in
      let ended_so : Option How = input_end (port_number_at plan k) (unbroken segments) in
      let after : Option (List ℕ) = Some (sure_left (get_or new k some_ends).ends.source) in
      let gave : IsInputOf (Arrive classic_kinds) (Some (octets_left p)) after ended_so got.arrivals got.ending =
      subst (λ (r : State). IsInputOf (Comes r) (Some (octets_left p)) after ended_so got.arrivals got.ending) anew one.gave in
      let arrive : Arrive classic_kinds true (octets_left p) (input_at port (sendings seed frames)) =
      subst (λ (o : List ℕ). Arrive classic_kinds true o (input_at port (sendings seed frames))) (sym (capture_at k some_ends inside)) (loads_are_inputs seed frames port within) in
      input_of (octets_left p) after ended_so (input_at port (sendings seed frames)) got.arrivals got.ending arrive (λ failed. never_rose (one.broken failed)) gave

  inputs_are : served.inputs ≡ load_inputs seed frames
  unfolding load_inputs
  inputs_are =
      let size : length served.inputs ≡ 5 = served.size ∙ five_ports in
      same_lists served.inputs (load_inputs seed frames) size (λ k i here.
      let inside : k < 5 = omega (arith, here, size) in
      input_is k i inside ∙ sym (get_or-map (λ (port : ℕ). input_at port (sendings seed frames)) numbers_five k 0 i inside))

  abbrev Silent : Type 0
  Silent = segments ≡ replayed plan None served.inputs served.stops

  silent : Silent
  silent =
      served.replay
      ∙ ap (λ (lines : Option control.Input). replayed plan lines served.inputs served.stops) (no_lines control_new plan segments served.lines served.stops.control served.control)

  none_failed : IsOfOutput plan (unbroken segments) → ⊥
  none_failed (inl found) =
      let inside : found.0 < 5 = omega (arith, found.1, five_ports) in
      never_rose ((was found.0 (record { arrivals = []; ending = hows.End }) inside).broken_out found.2)
  none_failed (inr found) =
      let legal : AreLegal plan (replayed plan None served.inputs served.stops) = subst (λ (all : List (List Row)). AreLegal plan all) silent served.session.legal in
      let ended : control_end (unbroken segments) ≡ Some hows.End =
      subst (λ (all : List (List Row)). control_end (unbroken all) ≡ Some hows.End) (sym silent) (without_control plan served.inputs served.stops legal).1 in
      cc

  unfailed : has_failed_write (unbroken segments) ≡ false
  unfailed = not_true (has_failed_write (unbroken segments)) (λ failed. none_failed (failed_write_at_output plan segments served.session.legal failed))

  pub load_was_replayed : segments ≡ load_segments plan seed frames
  unfolding load_segments
  load_was_replayed =
      silent
      ∙ replayed_unstopped plan served.stops None served.inputs (subst (λ (all : List (List Row)). has_failed_write (unbroken all) ≡ false) silent unfailed)
      ∙ ap (λ (inputs : List Input). replayed plan None inputs no_stops) inputs_are
