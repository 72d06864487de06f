-- A replay between two turns: where the switch stands, and what was told and written of the segments that are closed.
use Rattle.std.proofs.Common.{◌≡◌, ◌≢◌, ℕ, zero, suc, ◌+◌, ◌<◌, ◌≤◌, false, List, [], ◌∷◌, length, map, get_or, refl, sym, ap, ◌∙◌, subst, arith, Option, Some, None, IfSome, IsSome}
use Rattle.std.specs.List.{All}
use Rattle.savi_kinds.specs.declared.plan.Plan.{Plan}
use Rattle.savi_kinds.specs.declared.entry.Who.{Who}
use Rattle.savi_kinds.specs.declared.entry.Who.TheVariants.{Ingress, Control}
use Rattle.savi_kinds.specs.declared.entry.How.{How}
use Rattle.savi_kinds.specs.Ports.{number_of}
use Rattle.savi_kinds.specs.ValidPlan.{IsValidPlan}
use Rattle.hist_store.specs.Rows.{Row}
use Rattle.checkpoint.specs.Bases.{Base}
use Rattle.savi_history.specs.Endings.{has_pause}
use Rattle.savi_history.specs.Legal.{IsFinished, IsLegal, IsOpen}
use Rattle.savi_history.specs.Passes.{AllEnded, control_pass, has_ended, ticker_pass}
use Rattle.savi_history.specs.Picks.{IsLeast}
use Rattle.savi_history.specs.Queues.{queue}
use Rattle.savi_history.specs.Replay.{closed}
use Rattle.savi_history.specs.Turns.{Turn}
use Rattle.savi_segments.specs.Replay.{Run, base_in, entered_in, room_made, run_with}
use Rattle.savi_segments.specs.Segments.{AreOctets, IsWholeSession, base_after}
use Rattle.savi_segments.proofs.Turning.{pause_closed}
use Rattle.savi_core.specs.Machines.{Machine, base_of}
use Rattle.journal_write.specs.declared.journal.Journal.{Journal}
use Rattle.port_worker.specs.declared.control_ends.ControlEnds.{ControlEnds}
use Rattle.port_worker.specs.declared.port_ends.PortEnds.{PortEnds}
use Rattle.port_worker.specs.Pairs.{EachPair}
use Rattle.port_worker.specs.ControlOutputs.{ControlGoesOn, IsAheadAfter, IsControlAdvanced, IsControlTurn}
use Rattle.port_worker.specs.Inputs.{IsLooked, IsReadAhead, IsSoundAhead, turn_moment, turn_of}
use Rattle.port_worker.specs.Journalled.{IsJournalled}
use Rattle.port_worker.specs.LineInputs.{IsControlHeard, IsControlKnown, control_moment}
use Rattle.port_worker.specs.Outputs.{IsOutputEnded, OutputsGoOn}
use Rattle.port_worker.specs.Replays.{ports_held, ports_planned}
use Rattle.port_worker.specs.SentFrames.{OnlySink}
use Rattle.port_worker.specs.Served.{ServesEnds}
use Rattle.port_worker.specs.Steps.{HasRoomFor, IsStepped, ahead_after, ends_input}
use Rattle.journal_write.specs.Told.{TellsOf, passes_over}
use Rattle.port_worker.specs.Turnings.{AreTurned, StandsAt, turn_next}
use Rattle.port_worker.proofs.Alike.{IsAlike}
use Rattle.port_worker.proofs.ControlRunning.{control_weighs, control_weight}
use Rattle.port_worker.proofs.ControlTurns.{ControlNext, Turned, control_next}
use Rattle.port_worker.proofs.Ending.{inputs_ended, serves}
use Rattle.journal_write.proofs.FewEnds.{counts_told}
use Rattle.port_worker.proofs.Fitting.{FitsSoFar, fits_looked}
use Rattle.port_worker.proofs.Making.{next_port}
use Rattle.port_worker.proofs.Measures.{undone, undone_looked}
use Rattle.port_worker.proofs.RowsHeld.{rows_of}
use Rattle.port_worker.proofs.Running.{Running, Standing, look_step}
use Rattle.port_worker.proofs.Starting.{input_open, planned_now, quiet_now, sound_now, ticker_now}
use Rattle.port_worker.proofs.Stepping as stepping
use Rattle.port_worker.proofs.Unbroken.{no_pause}

-- what holds of a run holds of the switch that stands there
pub at_machine : (m : Machine) (plan : Plan) (run : Run) (P : Plan → Base → List Row → Type 0) → m.plan ≡ plan → StandsAt m run → P plan (base_in plan run) run.past → P m.plan (base_of m) m.past
at_machine m plan run P plan_is stands holds =
    subst (λ (past : List Row). P m.plan (base_of m) past) (sym stands.rows)
    (subst (λ (b : Base). P m.plan b run.past) (sym stands.base) (subst (λ (p : Plan). P p (base_in p run) run.past) (sym plan_is) holds))

-- and the other way
pub at_run : (m : Machine) (plan : Plan) (run : Run) (P : Plan → Base → List Row → Type 0) → m.plan ≡ plan → StandsAt m run → P m.plan (base_of m) m.past → P plan (base_in plan run) run.past
at_run m plan run P plan_is stands holds =
    subst (λ (p : Plan). P p (base_in p run) run.past) plan_is
    (subst (λ (b : Base). P m.plan b run.past) stands.base (subst (λ (past : List Row). P m.plan (base_of m) past) stands.rows holds))

-- where a turn is known, what holds of it holds
pub of_some : {X : Type 0} (o : Option X) (x : X) (P : X → Type 0) → o ≡ Some x → IfSome o P → P x
of_some {X} o x P is holds = subst (λ (p : Option X). IfSome p P) is holds

pub some_of : {X : Type 0} (o : Option X) (x : X) (P : X → Type 0) → o ≡ Some x → P x → IfSome o P
some_of {X} o x P is holds = subst (λ (p : Option X). IfSome p P) (sym is) holds

module _ {S K C : Type 0} (left : S → Option (List ℕ)) (written : K → Option (List ℕ)) (source_faults : S → ℕ) (sink_faults : K → ℕ) (plan : Plan) (ends_first : Option (ControlEnds S K C)) (first : List (PortEnds S K C)) (journal_first : Option (Journal K)) where
  pub record Going (ends : Option (ControlEnds S K C)) (ports : List (PortEnds S K C)) (journal : Option (Journal K)) (entries : ℕ) (ended : List (Who × How)) (m : Machine) : Type 0 where
    pub run : Run
    pub plan_is : m.plan ≡ plan
    pub at : StandsAt m run
    pub runs : Running left written source_faults sink_faults plan ends_first ends first ports run
    pub fits : EachPair (FitsSoFar left source_faults (rows_of run)) first ports
    pub tells : TellsOf entries ended run.closed
    pub written_so : IsJournalled written sink_faults plan run.closed journal_first journal
    pub turned : AreTurned plan run.closed

  module _ (planned : ports_held first ≡ ports_planned plan) (valid : IsValidPlan plan) (ends : Option (ControlEnds S K C)) (ports : List (PortEnds S K C)) (journal : Option (Journal K)) (entries : ℕ) (ended : List (Who × How)) (m : Machine) where
    -- to read ahead
    pub goes_looked : (ends_new : Option (ControlEnds S K C)) (new : List (PortEnds S K C)) → IsControlHeard left source_faults ends ends_new → EachPair (IsLooked left source_faults) ports new → Going ends ports journal entries ended m → Going ends_new new journal entries ended m
    goes_looked ends_new new heard looked g = record {
      run = g.run;
      plan_is = g.plan_is;
      at = g.at;
      runs = look_step left written source_faults sink_faults plan ends_first first ends ends_new ports new g.run g.runs heard looked;
      fits = fits_looked left source_faults (rows_of g.run) first ports new g.fits looked;
      tells = g.tells;
      written_so = g.written_so;
      turned = g.turned;
    }

    -- it makes what may come no more
    pub looked_weighs : (ends_new : Option (ControlEnds S K C)) (new : List (PortEnds S K C)) → IsControlHeard left source_faults ends ends_new → EachPair (IsLooked left source_faults) ports new → undone new + control_weight ends_new ≤ undone ports + control_weight ends
    looked_weighs ends_new new heard looked =
        let one = undone_looked left source_faults ports new looked in
        let other = control_weighs left written source_faults sink_faults plan ends ends_new heard in
        omega (arith, one, other)

    module _ (g : Going ends ports journal entries ended m) where
      pub goes_planned : ports_held ports ≡ ports_planned m.plan
      goes_planned =
          planned_now left written source_faults sink_faults plan ends first ports planned valid.ports ends_first g.runs.taken g.runs.control_taken g.runs.known g.run g.runs.stands
          ∙ ap ports_planned (sym g.plan_is)

      pub goes_valid : IsValidPlan m.plan
      goes_valid = subst IsValidPlan (sym g.plan_is) valid

      pub goes_quiet : All (λ p. queue m.plan (base_of m) (number_of p.port) m.past ≡ []) ports
      goes_quiet =
          at_machine m plan g.run (λ p b past. All (λ q. queue p b (number_of q.port) past ≡ []) ports) g.plan_is g.at
          (quiet_now left written source_faults sink_faults plan ends first ports planned valid.ports ends_first g.runs.taken g.runs.control_taken g.runs.known g.run g.runs.stands)

      pub goes_ticker : has_ended (base_of m) (ticker_pass m.plan) m.past ≡ false
      goes_ticker =
          at_machine m plan g.run (λ p b past. has_ended b (ticker_pass p) past ≡ false) g.plan_is g.at
          (ticker_now left written source_faults sink_faults plan ends first ports planned valid.ports ends_first g.runs.taken g.runs.control_taken g.runs.known g.run g.runs.stands)

      -- as many ends are told as passes have ended for good
      pub goes_few : length ended ≡ passes_over m.plan (base_of m) []
      goes_few =
          at_machine m plan g.run (λ p b past. length ended ≡ passes_over p b []) g.plan_is g.at
          (ap (λ (l : List (Who × How)). length l) g.tells.ends_are ∙ counts_told plan g.run.closed g.turned.legal)

      -- All inputs are done.
      module _ (heard : IsControlKnown ends) (known : All (λ p. IsReadAhead p.ahead) ports) (none : All (λ n. n ≡ None) (control_moment ends ∷ map turn_moment ports)) where
        pub goes_over : AllEnded (base_of m) (control_pass m.plan + 1) m.past
        goes_over =
            at_machine m plan g.run (λ p b past. AllEnded b (control_pass p + 1) past) g.plan_is g.at
            (inputs_ended left written source_faults sink_faults plan ends_first ends first ports g.run planned g.runs heard known none)

        module _ (now : Machine) (closes : now ≡ record m { past = closed m.plan (base_of m) m.past }) (outputs : All (λ p. IsOutputEnded m.plan (base_of m) m.past now.past (number_of p.port)) ports) (finished : IsFinished m.plan (base_of m) now.past)
            (legal : IsLegal now.plan (base_of now) now.past) (octets : AreOctets now.past) where
          plan_now : now.plan ≡ m.plan
          plan_now = ap (λ (x : Machine). x.plan) closes

          base_now : base_of now ≡ base_of m
          base_now = ap base_of closes

          past_now : now.past ≡ closed plan (base_in plan g.run) g.run.past
          past_now = at_run m plan g.run (λ p b past. now.past ≡ closed p b past) g.plan_is g.at (ap (λ (x : Machine). x.past) closes)

          -- the newest segment of a session
          closed_session : IsWholeSession plan (now.past ∷ g.run.closed)
          closed_session =
              let base = base_in plan g.run in
              let legal_was : IsLegal m.plan (base_of m) now.past = subst (λ (p : Plan). IsLegal p (base_of m) now.past) plan_now (subst (λ (b : Base). IsLegal now.plan b now.past) base_now legal) in
              record {
                legal = (at_run m plan g.run (λ p b past. IsLegal p b now.past) g.plan_is g.at legal_was, octets, g.turned.legal);
                turned = (g.turned.newest, g.turned.before);
                closed = (
                  at_run m plan g.run (λ p b past. IsFinished p b now.past) g.plan_is g.at finished,
                  ap has_pause past_now ∙ pause_closed plan base g.run.past ∙ no_pause g.run.past g.runs.stands.plain,
                );
              }

          pub goes_serves : ServesEnds left written source_faults sink_faults plan (now.past ∷ g.run.closed) ends_first ends first ports
          goes_serves =
              serves left written source_faults sink_faults plan ends_first ends first ports g.run planned g.runs heard known none now.past past_now
              (at_run m plan g.run (λ p b past. All (λ q. IsOutputEnded p b past now.past (number_of q.port)) ports) g.plan_is g.at outputs) closed_session g.fits

          pub goes_base : base_of now ≡ base_after now.plan g.run.closed
          goes_base = base_now ∙ g.at.base ∙ ap (λ (p : Plan). base_after p g.run.closed) (sym plan_now)

    -- The turn at a place comes next.
    pub record Next (g : Going ends ports journal entries ended m) (place : ℕ) : Type 0 where
      pub turn : Turn
      pub turn_is : turn_next ends ports place ≡ Some turn
      pub pass : ℕ
      pub below : pass < control_pass plan + 1
      pub open_now : has_ended (base_in plan g.run) pass g.run.past ≡ false
      pub alike : IsAlike plan g.run (room_made plan turn g.run)
      pub stands : Standing left written source_faults sink_faults plan ends_first ends first ports g.runs.taken g.runs.control_taken g.runs.known (room_made plan turn g.run)

    module _ (g : Going ends ports journal entries ended m) (heard : IsControlKnown ends) (known : All (λ p. IsReadAhead p.ahead) ports) where
      pub control_here : IsLeast (control_moment ends ∷ map turn_moment ports) 0 → ControlNext left written source_faults sink_faults plan first ports g.run planned valid.ports known ends_first ends g.runs
      control_here least = control_next left written source_faults sink_faults plan first ports g.run planned valid.ports known ends_first ends g.runs heard least

      pub below_last : control_pass plan < control_pass plan + 1
      below_last = omega arith

      abbrev pub control_next_here : IsLeast (control_moment ends ∷ map turn_moment ports) 0 → Next g 0
      control_next_here least = record {
        turn = (control_here least).turn;
        turn_is = (control_here least).turn_is;
        pass = control_pass plan;
        below = below_last;
        open_now = (control_here least).open_now;
        alike = (control_here least).alike;
        stands = (control_here least).stands;
      }

      pub below_control : (j : ℕ) → IsLeast (control_moment ends ∷ map turn_moment ports) (suc j) → j < control_pass plan + 1
      below_control j least =
          let within = stepping.inside_plan left written source_faults sink_faults plan ends_first ends first ports g.run j planned valid.ports g.runs heard known least in
          omega (arith, within)

      abbrev pub port_next_here : (j : ℕ) → IsLeast (control_moment ends ∷ map turn_moment ports) (suc j) → Next g (suc j)
      port_next_here j least = record {
        turn = stepping.turn left written source_faults sink_faults plan ends_first ends first ports g.run j planned valid.ports g.runs heard known least;
        turn_is = next_port ends ports j ∙ stepping.turn_next_here left written source_faults sink_faults plan ends_first ends first ports g.run j planned valid.ports g.runs heard known least;
        pass = j;
        below = below_control j least;
        open_now = stepping.open_j left written source_faults sink_faults plan ends_first ends first ports g.run j planned valid.ports g.runs heard known least;
        alike = stepping.alike left written source_faults sink_faults plan ends_first ends first ports g.run j planned valid.ports g.runs heard known least;
        stands = stepping.stands_mid left written source_faults sink_faults plan ends_first ends first ports g.run j planned valid.ports g.runs heard known least;
      }

      pub next_at : (place : ℕ) → IsLeast (control_moment ends ∷ map turn_moment ports) place → Next g place
      next_at zero least = control_next_here least
      next_at (suc j) least = port_next_here j least

      -- the switch once room was made for the turn that comes next
      pub record Made (turn : Turn) (journal_now : Option (Journal K)) (entries_now : ℕ) (ended_now : List (Who × How)) (mid : Machine) : Type 0 where
        pub plan_is : mid.plan ≡ plan
        pub at : StandsAt mid (room_made plan turn g.run)
        pub tells : TellsOf entries_now ended_now (room_made plan turn g.run).closed
        pub written_so : IsJournalled written sink_faults plan (room_made plan turn g.run).closed journal_first journal_now
        pub turned : AreTurned plan (room_made plan turn g.run).closed

      -- what making room says of the machine, it says of the run
      pub made_so : (place : ℕ) (next : Next g place) (journal_now : Option (Journal K)) (entries_now : ℕ) (ended_now : List (Who × How)) (mid : Machine) → mid.plan ≡ m.plan
          → ((run : Run) → StandsAt m run → IfSome (turn_next ends ports place) (λ turn. StandsAt mid (room_made m.plan turn run)))
          → ((run : Run) → StandsAt m run → AreTurned m.plan run.closed → IfSome (turn_next ends ports place) (λ turn. AreTurned m.plan (room_made m.plan turn run).closed))
          → ((run : Run) → StandsAt m run → TellsOf entries ended run.closed → IfSome (turn_next ends ports place) (λ turn. TellsOf entries_now ended_now (room_made m.plan turn run).closed))
          → ((run : Run) (began : Option (Journal K)) → StandsAt m run → IsJournalled written sink_faults m.plan run.closed began journal → IfSome (turn_next ends ports place) (λ turn. IsJournalled written sink_faults m.plan (room_made m.plan turn run).closed began journal_now))
          → Made next.turn journal_now entries_now ended_now mid
      made_so place next journal_now entries_now ended_now mid plan_mid makes turns_so tells_so writes_so =
          let same = g.plan_is in
          let turned_now = turns_so g.run g.at (subst (λ (p : Plan). AreTurned p g.run.closed) (sym same) g.turned) in
          let written_now = writes_so g.run journal_first g.at (subst (λ (p : Plan). IsJournalled written sink_faults p g.run.closed journal_first journal) (sym same) g.written_so) in
          record {
            plan_is = plan_mid ∙ same;
            at = subst (λ (p : Plan). StandsAt mid (room_made p next.turn g.run)) same (of_some (turn_next ends ports place) next.turn (λ turn. StandsAt mid (room_made m.plan turn g.run)) next.turn_is (makes g.run g.at));
            tells = subst (λ (p : Plan). TellsOf entries_now ended_now (room_made p next.turn g.run).closed) same
                (of_some (turn_next ends ports place) next.turn (λ turn. TellsOf entries_now ended_now (room_made m.plan turn g.run).closed) next.turn_is (tells_so g.run g.at g.tells));
            written_so = subst (λ (p : Plan). IsJournalled written sink_faults p (room_made p next.turn g.run).closed journal_first journal_now) same
                (of_some (turn_next ends ports place) next.turn (λ turn. IsJournalled written sink_faults m.plan (room_made m.plan turn g.run).closed journal_first journal_now) next.turn_is written_now);
            turned = subst (λ (p : Plan). AreTurned p (room_made p next.turn g.run).closed) same
                (of_some (turn_next ends ports place) next.turn (λ turn. AreTurned m.plan (room_made m.plan turn g.run).closed) next.turn_is turned_now);
          }

      -- what a turn asks of it
      module _ (place : ℕ) (next : Next g place) (journal_now : Option (Journal K)) (entries_now : ℕ) (ended_now : List (Who × How)) (mid : Machine) (made : Made next.turn journal_now entries_now ended_now mid) where
        abbrev turned_run : Run
        turned_run = room_made plan next.turn g.run

        pub made_planned : ports_held ports ≡ ports_planned mid.plan
        made_planned =
            planned_now left written source_faults sink_faults plan ends first ports planned valid.ports ends_first g.runs.taken g.runs.control_taken g.runs.known turned_run next.stands
            ∙ ap ports_planned (sym made.plan_is)

        pub made_valid : IsValidPlan mid.plan
        made_valid = subst IsValidPlan (sym made.plan_is) valid

        pub made_quiet : All (λ p. queue mid.plan (base_of mid) (number_of p.port) mid.past ≡ []) ports
        made_quiet =
            at_machine mid plan turned_run (λ p b past. All (λ q. queue p b (number_of q.port) past ≡ []) ports) made.plan_is made.at
            (quiet_now left written source_faults sink_faults plan ends first ports planned valid.ports ends_first g.runs.taken g.runs.control_taken g.runs.known turned_run next.stands)

        pub made_sound : All (λ p. IsSoundAhead p.reader p.ahead) ports
        made_sound = sound_now left written source_faults sink_faults plan ends first ports planned valid.ports ends_first g.runs.taken g.runs.control_taken g.runs.known turned_run next.stands

        made_here : (now : Machine) → now.plan ≡ mid.plan → base_of now ≡ base_of mid → StandsAt now (run_with turned_run now.past)
        made_here now plan_now base_now = record {
          base = base_now ∙ made.at.base ∙ ap (λ (p : Plan). base_in p turned_run) (sym plan_now);
          rows = refl;
        }

        -- Going on from there.
        pub going_on : (c : Option (ControlEnds S K C)) (new : List (PortEnds S K C)) (now : Machine) → now.plan ≡ mid.plan → base_of now ≡ base_of mid
            → Running left written source_faults sink_faults plan ends_first c first new (run_with turned_run now.past) → EachPair (FitsSoFar left source_faults (rows_of (run_with turned_run now.past))) first new
            → Going c new journal_now entries_now ended_now now
        going_on c new now plan_now base_now runs fits = record {
          run = run_with turned_run now.past;
          plan_is = plan_now ∙ made.plan_is;
          at = made_here now plan_now base_now;
          runs = runs;
          fits = fits;
          tells = made.tells;
          written_so = made.written_so;
          turned = made.turned;
        }

      -- Control's turn.
      module _ (least : IsLeast (control_moment ends ∷ map turn_moment ports) 0) (journal_now : Option (Journal K)) (entries_now : ℕ) (ended_now : List (Who × How)) (mid : Machine) (made : Made (control_next_here least).turn journal_now entries_now ended_now mid) where
        abbrev here : ControlNext left written source_faults sink_faults plan first ports g.run planned valid.ports known ends_first ends g.runs
        here = control_here least

        abbrev control_run : Run
        control_run = room_made plan here.turn g.run

        pub control_turns : IsControlTurn ends
        control_turns = here.may

        pub control_open : IsOpen mid.plan (base_of mid) mid.past Control
        control_open = at_machine mid plan control_run (λ p b past. IsOpen p b past Control) made.plan_is made.at (record { known = refl; running = here.open_mid })

        module _ (c : Option (ControlEnds S K C)) (new : List (PortEnds S K C)) (now : Machine) (plan_now : now.plan ≡ mid.plan) (base_now : base_of now ≡ base_of mid) (sinks : EachPair (OnlySink written sink_faults) ports new) (stepped : IsControlAdvanced written sink_faults ends c)
            (aheads : IsAheadAfter mid.plan (base_of mid) now.past c) (goes : (run : Run) → StandsAt mid run → ControlGoesOn written sink_faults mid.plan run (run_with run now.past) ends c ports new) where
          control_turned : Turned left written source_faults sink_faults plan first ports g.run planned valid.ports known ends_first c new (run_with control_run now.past) (control_weight ends)
          control_turned =
              here.turns now.past c new sinks stepped
              (at_run mid plan control_run (λ p b past. IsAheadAfter p b now.past c) made.plan_is made.at aheads)
              (subst (λ (p : Plan). ControlGoesOn written sink_faults p control_run (run_with control_run now.past) ends c ports new) made.plan_is (goes control_run made.at))

          pub control_goes : Going c new journal_now entries_now ended_now now
          control_goes = going_on 0 (control_next_here least) journal_now entries_now ended_now mid made c new now plan_now base_now control_turned.runs (control_turned.fits g.fits)

          pub control_less : undone new + control_weight c < undone ports + control_weight ends
          control_less = control_turned.smaller

      -- The turn of a port.
      module _ (j : ℕ) (least : IsLeast (control_moment ends ∷ map turn_moment ports) (suc j)) (journal_now : Option (Journal K)) (entries_now : ℕ) (ended_now : List (Who × How)) (mid : Machine) (made : Made (port_next_here j least).turn journal_now entries_now ended_now mid) where
        abbrev turn_here : Turn
        turn_here = (port_next_here j least).turn

        abbrev port_run : Run
        port_run = room_made plan turn_here g.run

        pub port_inside : j < length ports
        port_inside = stepping.inside left written source_faults sink_faults plan ends_first ends first ports g.run j planned valid.ports g.runs heard known least

        pub port_turn : (d : PortEnds S K C) → turn_of (get_or ports j d) ≡ Some turn_here
        port_turn d = stepping.turn_at left written source_faults sink_faults plan ends_first ends first ports g.run j planned valid.ports g.runs heard known least d

        pub port_known : (d : PortEnds S K C) → IsSome (turn_of (get_or ports j d))
        port_known d = stepping.turn_known left written source_faults sink_faults plan ends_first ends first ports g.run j planned valid.ports g.runs heard known least d

        pub port_open : (d : PortEnds S K C) → IsOpen mid.plan (base_of mid) mid.past (Ingress (get_or ports j d).port)
        port_open d =
            at_machine mid plan port_run (λ p b past. IsOpen p b past (Ingress (get_or ports j d).port)) made.plan_is made.at
            (input_open left written source_faults sink_faults plan ends first ports planned valid.ports ends_first g.runs.taken g.runs.control_taken g.runs.known port_run (port_next_here j least).stands j d port_inside
            (stepping.open_mid left written source_faults sink_faults plan ends_first ends first ports g.run j planned valid.ports g.runs heard known least))

        -- there is room for it
        pub port_room : (d : PortEnds S K C) → IfSome (turn_next ends ports (suc j)) (λ turn. HasRoomFor mid.plan mid.past turn) → IfSome (turn_of (get_or ports j d)) (λ turn. HasRoomFor mid.plan mid.past turn)
        port_room d room =
            some_of (turn_of (get_or ports j d)) turn_here (λ turn. HasRoomFor mid.plan mid.past turn) (port_turn d)
            (of_some (turn_next ends ports (suc j)) turn_here (λ turn. HasRoomFor mid.plan mid.past turn) (port_next_here j least).turn_is room)

        module _ (new : List (PortEnds S K C)) (now : Machine) (plan_now : now.plan ≡ mid.plan) (base_now : base_of now ≡ base_of mid) (stepped : EachPair (IsStepped written sink_faults) ports new)
            (others : (k : ℕ) (d : PortEnds S K C) → k ≢ j → k < length ports → (get_or new k d).ahead ≡ (get_or ports k d).ahead)
            (ahead_is : (d : PortEnds S K C) → IfSome (turn_of (get_or ports j d)) (λ turn. (get_or new j d).ahead ≡ ahead_after (ends_input turn)))
            (goes : (d : PortEnds S K C) (run : Run) → StandsAt mid run → IfSome (turn_of (get_or ports j d)) (λ turn. OutputsGoOn written sink_faults mid.plan run (run_with run now.past) ports new (λ stops. entered_in mid.plan stops turn run))) where
          ahead_at : (d : PortEnds S K C) → (get_or new j d).ahead ≡ ahead_after (ends_input turn_here)
          ahead_at d = of_some (turn_of (get_or ports j d)) turn_here (λ turn. (get_or new j d).ahead ≡ ahead_after (ends_input turn)) (port_turn d) (ahead_is d)

          goes_at : OutputsGoOn written sink_faults plan port_run (run_with port_run now.past) ports new (λ stops. entered_in plan stops turn_here port_run)
          goes_at =
              let d = stepping.d_here left written source_faults sink_faults plan ends_first ends first ports g.run j planned valid.ports g.runs heard known least in
              subst (λ (p : Plan). OutputsGoOn written sink_faults p port_run (run_with port_run now.past) ports new (λ stops. entered_in p stops turn_here port_run)) made.plan_is
              (of_some (turn_of (get_or ports j d)) turn_here (λ turn. OutputsGoOn written sink_faults mid.plan port_run (run_with port_run now.past) ports new (λ stops. entered_in mid.plan stops turn port_run)) (port_turn d) (goes d port_run made.at))

          pub port_goes : Going ends new journal_now entries_now ended_now now
          port_goes =
              going_on (suc j) (port_next_here j least) journal_now entries_now ended_now mid made ends new now plan_now base_now
              (stepping.turn_step left written source_faults sink_faults plan ends_first ends first ports g.run j planned valid.ports g.runs heard known least now.past new stepped others goes_at ahead_at)
              (stepping.fits_step left written source_faults sink_faults plan ends_first ends first ports g.run j planned valid.ports g.runs heard known least now.past new stepped others goes_at ahead_at g.fits)

          pub port_less : undone new + control_weight ends < undone ports + control_weight ends
          port_less =
              let less = stepping.smaller left written source_faults sink_faults plan ends_first ends first ports g.run j planned valid.ports g.runs heard known least now.past new stepped others goes_at ahead_at in
              omega (arith, less)
