-- The state of a replay behind the last turn.
use Rattle.std.proofs.Common.{◌≡◌, ℕ, zero, suc, ◌+◌, ◌<◌, ◌≤◌, true, List, [], ◌∷◌, ◌++◌, length, map, get_or, refl, sym, ap, ◌∙◌, subst, arith, ◌⊎◌, inl, inr, Option, None}
use Rattle.std.proofs.lemmas.Bool.{cases_lt}
use Rattle.std.proofs.lemmas.List.{length-map, get_or-map, get_or_default, get_or_past, same_lists}
use Rattle.std.specs.List.{All}
use Rattle.savi_kinds.specs.declared.port.Port.{Port}
use Rattle.savi_kinds.specs.declared.plan.Plan.{Plan}
use Rattle.savi_kinds.specs.declared.plan.PortPlan.{PortPlan}
use Rattle.savi_kinds.specs.declared.entry.How.{How}
use Rattle.savi_kinds.specs.declared.entry.How.TheVariants as hows
use Rattle.savi_kinds.specs.Ports.{number_of}
use Rattle.savi_kinds.specs.Arrivals.{Input}
use Rattle.pcap_io.specs.Readers.{Comes}
use Rattle.hist_store.specs.Rows.{Row}
use Rattle.checkpoint.specs.Bases.{Base}
use Rattle.savi_history.specs.Passes.{AllEnded, control_pass, pass_count}
use Rattle.savi_history.specs.Turns.{Turn, turn_at, turns, port_turns}
use Rattle.savi_history.specs.Merges.{merged}
use Rattle.savi_history.specs.Replay.{closed}
use Rattle.savi_history.proofs.ControlSame.{control_finished}
use Rattle.savi_history.proofs.PortInputs.{HoldsSame, same_finished}
use Rattle.savi_segments.specs.Replay.{Run, all_closed, all_taken, base_in, has_ended_in, inputs_taken, replayed, run_begun, run_with, segments_of}
use Rattle.savi_segments.specs.Segments.{IsWholeSession}
use Rattle.savi_segments.proofs.ForGood.{AreOf}
use Rattle.savi_segments.proofs.Reaching.{pass_at, Head, Done, Agrees, IsLeft, AreLeft, joined, reaches_end}
use Rattle.port_worker.specs.declared.control_ends.ControlEnds.{ControlEnds}
use Rattle.port_worker.specs.declared.port_ends.Ahead.{Ahead}
use Rattle.port_worker.specs.declared.port_ends.Ahead.TheVariants as ahead
use Rattle.port_worker.specs.declared.port_ends.PortEnds.{PortEnds}
use Rattle.port_worker.specs.Inputs.{IsReadAhead, turn_moment}
use Rattle.port_worker.specs.LineInputs.{IsControlKnown, control_moment}
use Rattle.port_worker.specs.Pairs.{EachPair}
use Rattle.port_worker.specs.Outputs.{IsOutput, IsOutputEnded}
use Rattle.port_worker.specs.Replays.{ports_held, ports_planned}
use Rattle.port_worker.specs.Served.{IsInputOf, IsServed, ServesEnds}
use Rattle.port_worker.proofs.Allowed.{all_allowed_itself}
use Rattle.port_worker.proofs.ControlEnding.{ControlOver, control_done, control_over}
use Rattle.port_worker.proofs.ControlFirst.{agree_all, done_all}
use Rattle.port_worker.proofs.ControlProgress.{control_head}
use Rattle.port_worker.proofs.ControlRunning.{control_agrees}
use Rattle.port_worker.proofs.EndedOutputs.{took_of, fit_of, broken_of, still_of}
use Rattle.port_worker.proofs.Fitting.{FitsSoFar, IsFit, HasCause, causes_finished, fits_finished}
use Rattle.port_worker.proofs.Later.{IsLater}
use Rattle.port_worker.proofs.Planned.{count_is, number_is}
use Rattle.port_worker.proofs.Progress.{head_of, done_at_none, Gone, IsInputAt, ProgressBy}
use Rattle.port_worker.proofs.RowsHeld.{ControlKept, kept_in, rows_of, same_in}
use Rattle.port_worker.proofs.Running.{Running, head_at, element}
use Rattle.port_worker.proofs.Unbroken.{IsUnpaused, alike_in}
use Rattle.port_worker.proofs.Unpaused.{unpaused_closed}

collected_at : {X : Type 0} (n : ℕ) (P : ℕ → X → Type 0) (x : X) (xs : List X) → P 0 x → ((k : ℕ) (d : X) → k < n → P (suc k) (get_or xs k d)) → (k : ℕ) (d : X) → k < suc n → P k (get_or (x ∷ xs) k d)
collected_at n P x xs first later zero d inside = first
collected_at n P x xs first later (suc k) d inside = later k d (omega arith)

-- a list of things, one for each place
collect : {X : Type 0} (n : ℕ) (P : ℕ → X → Type 0) → ((k : ℕ) → k < n → (x : X) × P k x) → (xs : List X) × (length xs ≡ n) × ((k : ℕ) (d : X) → k < n → P k (get_or xs k d))
collect zero P each = ([], refl, λ k d inside. absurd (omega arith))
collect {X} (suc n) P each =
    let first = each 0 (omega arith) in
    let later = collect n (λ k x. P (suc k) x) (λ k inside. each (suc k) (omega arith)) in
    (first.0 ∷ later.0, ap (λ (m : ℕ). suc m) later.1, collected_at n P first.0 later.0 first.1 later.2)

joined_count : (taken rest : List (List Turn)) → length taken ≡ length rest → length (joined taken rest) ≡ length taken
joined_count [] rest size = refl
joined_count (t ∷ taken) [] size = absurd (omega arith)
joined_count (t ∷ taken) (r ∷ rest) size = ap (λ (n : ℕ). suc n) (joined_count taken rest (omega arith))

joined_at : (taken rest : List (List Turn)) (k : ℕ) (d : List Turn) → length taken ≡ length rest → k < length taken → get_or (joined taken rest) k d ≡ get_or taken k [] ++ get_or rest k []
joined_at [] rest k d size inside = absurd (omega arith)
joined_at (t ∷ taken) [] k d size inside = absurd (omega arith)
joined_at (t ∷ taken) (r ∷ rest) zero d size inside = refl
joined_at (t ∷ taken) (r ∷ rest) (suc k) d size inside = joined_at taken rest k d (omega arith) (omega arith)

port_turns_count : (plans : List PortPlan) (inputs : List Input) → length inputs ≡ length plans → length (port_turns plans inputs) ≡ length plans
port_turns_count [] inputs size = refl
port_turns_count (p ∷ plans) [] size = absurd (omega arith)
port_turns_count (p ∷ plans) (i ∷ inputs) size = ap (λ (n : ℕ). suc n) (port_turns_count plans inputs (omega arith))

port_turns_at : (plans : List PortPlan) (inputs : List Input) (k : ℕ) (d : List Turn) (port : Port) (i : Input) → length inputs ≡ length plans → k < length plans → get_or (port_turns plans inputs) k d ≡ turns (get_or (map (λ p. p.number) plans) k port) (get_or inputs k i)
port_turns_at [] inputs k d port i size inside = absurd (omega arith)
port_turns_at (p ∷ plans) [] k d port i size inside = absurd (omega arith)
port_turns_at (p ∷ plans) (j ∷ inputs) zero d port i size inside = refl
port_turns_at (p ∷ plans) (j ∷ inputs) (suc k) d port i size inside = port_turns_at plans inputs k d port i (omega arith) (omega arith)

module _ {S K C : Type 0} (left : S → Option (List ℕ)) (written : K → Option (List ℕ)) (source_faults : S → ℕ) (sink_faults : K → ℕ) (plan : Plan) (ends_first ends : Option (ControlEnds S K C)) (first ports : List (PortEnds S K C)) (run : Run)
    (planned : ports_held first ≡ ports_planned plan) (r : Running left written source_faults sink_faults plan ends_first ends first ports run) (heard : IsControlKnown ends) (known : All (λ p. IsReadAhead p.ahead) ports) (none : All (λ n. n ≡ None) (control_moment ends ∷ map turn_moment ports)) where
  done_at : (k : ℕ) (d : PortEnds S K C) → k < length ports → (get_or ports k d).ahead ≡ ahead.Done
  done_at k d inside =
      let sizes = length-map ports turn_moment in
      done_at_none (get_or ports k d).ahead (known k d inside) (sym (get_or-map turn_moment ports k d None inside) ∙ none (suc k) None (omega arith))

  control_none : control_moment ends ≡ None
  control_none = none 0 None (omega arith)

  over : ControlOver left written source_faults sink_faults plan run r.known.control ends_first ends r.control_taken
  over = control_over left written source_faults sink_faults plan run r.known.control ends_first ends r.control_taken heard control_none r.stands.control

  head_done : control_head ends ≡ Done
  head_done = control_done ends heard control_none

  control_ended : has_ended_in plan (control_pass plan) run ≡ true
  control_ended = subst (λ (h : Head). Agrees plan run (control_pass plan) h) head_done (control_agrees left written source_faults sink_faults plan run r.known.control ends_first ends r.control_taken r.stands.control)

  heads_done : (k : ℕ) → k < length (map head_of ports) → get_or (map head_of ports) k Done ≡ Done
  heads_done k inside =
      let sizes = length-map ports head_of in
      let within : k < length ports = omega arith in
      let d = element ports k within in
      rw (head_at ports k d Done within, done_at k d within) refl

  size_now : length ports ≡ length plan.ports
  size_now = r.stands.later.size ∙ count_is first plan planned

  ended_at : (pass : ℕ) → pass < control_pass plan + 1 → (pass < length ports) ⊎ (length ports ≤ pass) → has_ended_in plan pass run ≡ true
  ended_at pass below (inl inside) =
      let sizes = length-map ports head_of in
      subst (λ (h : Head). Agrees plan run pass h) (heads_done pass (omega arith)) (r.stands.agree pass (omega arith))
  ended_at pass below (inr outside) =
      let size = size_now in
      let same : pass ≡ control_pass plan = omega arith in
      rw same control_ended

  pub inputs_ended : AllEnded (base_in plan run) (control_pass plan + 1) run.past
  inputs_ended pass below = alike_in plan run pass r.stands.plain ∙ ended_at pass below (cases_lt pass (length ports))

  -- the whole input of a port
  record Whole (k : ℕ) (both : Input × List Turn) : Type 0 where
    of : AreOf plan k both.1
    split : (d : PortEnds S K C) → get_or r.taken k [] ++ both.1 ≡ turns (get_or first k d).port both.0
    came : (d : PortEnds S K C) → IsInputAt left (rows_of run) (get_or first k d) (get_or ports k d) both.0

  whole_at : (k : ℕ) → k < length first → (both : Input × List Turn) × Whole k both
  whole_at k inside =
      let size = r.stands.later.size in
      let d = element first k inside in
      let gone : Gone left plan k (rows_of run) (get_or first k d) (get_or ports k d) (get_or r.taken k []) =
      subst (λ (a : Ahead). ProgressBy left plan k (rows_of run) (get_or first k d) (get_or ports k d) (get_or r.taken k []) a) (done_at k d (omega arith)) (r.stands.progress k d inside) in (
        (gone.input, gone.rest),
        record {
          of = gone.of;
          split = λ e. subst (λ (p : PortEnds S K C). get_or r.taken k [] ++ gone.rest ≡ turns p.port gone.input) (get_or_default first k d e inside) gone.split;
          came = λ e.
              subst (λ (p : PortEnds S K C). IsInputAt left (rows_of run) p (get_or ports k e) gone.input) (get_or_default first k d e inside)
              (subst (λ (q : PortEnds S K C). IsInputAt left (rows_of run) (get_or first k d) q gone.input) (get_or_default ports k d e (omega arith)) gone.came);
        },
      )

  wholes : (xs : List (Input × List Turn)) × (length xs ≡ length first) × ((k : ℕ) (d : Input × List Turn) → k < length first → Whole k (get_or xs k d))
  wholes = collect (length first) Whole whole_at

  pub inputs_of : List Input
  inputs_of = map (λ (b : Input × List Turn). b.0) wholes.0

  rests : List (List Turn)
  rests = map (λ (b : Input × List Turn). b.1) wholes.0

  inputs_count : length inputs_of ≡ length first
  unfolding inputs_of
  inputs_count = length-map wholes.0 (λ (b : Input × List Turn). b.0) ∙ wholes.1

  rests_count : length rests ≡ length first
  unfolding rests
  rests_count = length-map wholes.0 (λ (b : Input × List Turn). b.1) ∙ wholes.1

  both_default : Input × List Turn
  both_default = (record { arrivals = []; ending = hows.End }, [])

  input_at : (k : ℕ) (i : Input) → k < length first → get_or inputs_of k i ≡ (get_or wholes.0 k both_default).0
  unfolding inputs_of
  input_at k i inside = let size = wholes.1 in get_or-map (λ (b : Input × List Turn). b.0) wholes.0 k both_default i (omega arith)

  rest_at : (k : ℕ) → k < length first → get_or rests k [] ≡ (get_or wholes.0 k both_default).1
  unfolding rests
  rest_at k inside = let size = wholes.1 in get_or-map (λ (b : Input × List Turn). b.1) wholes.0 k both_default [] (omega arith)

  of_at : (k : ℕ) → (k < length first) ⊎ (length first ≤ k) → AreOf plan k (get_or rests k [])
  of_at k (inl inside) = rw (rest_at k inside) (wholes.2 k both_default inside).of
  of_at k (inr outside) = let size = rests_count in rw (get_or_past rests k [] (omega arith)) tt

  left_at : (k : ℕ) → (k < length (map head_of ports)) ⊎ (length (map head_of ports) ≤ k) → IsLeft (get_or (map head_of ports) k Done) (get_or rests k [])
  left_at k (inl inside) = rw (heads_done k inside) tt
  left_at k (inr outside) = rw (get_or_past (map head_of ports) k Done outside) tt

  of_all : (k : ℕ) → AreOf plan (pass_at plan k) (get_or (over.rest ∷ rests) k [])
  of_all zero = over.of
  of_all (suc k) = of_at k (cases_lt k (length first))

  left_all : (k : ℕ) → IsLeft (get_or (control_head ends ∷ map head_of ports) k Done) (get_or (over.rest ∷ rests) k [])
  left_all zero = rw head_done tt
  left_all (suc k) = left_at k (cases_lt k (length (map head_of ports)))

  low_all : (k : ℕ) → k < length (control_head ends ∷ map head_of ports) → pass_at plan k < pass_count plan
  low_all zero inside = omega arith
  low_all (suc k) inside = let sizes = length-map ports head_of in let size = size_now in omega (arith, inside, sizes, size)

  rests_left : AreLeft plan (control_head ends ∷ map head_of ports) (over.rest ∷ rests)
  rests_left =
      let size = r.stands.later.size in
      let sizes = length-map ports head_of in
      let count = rests_count in
      record {
        size = omega arith;
        low = low_all;
        of = of_all;
        each = left_all;
      }

  port_at : (k : ℕ) (d : PortEnds S K C) → k < length first → get_or (ports_planned plan) k d.port ≡ (get_or first k d).port
  port_at k d inside = ap (λ (l : List Port). get_or l k d.port) (sym planned) ∙ get_or-map (λ (p : PortEnds S K C). p.port) first k d d.port inside

  turns_are : joined r.taken rests ≡ port_turns plan.ports inputs_of
  turns_are =
      let count = count_is first plan planned in
      let rests_size = rests_count in
      let inputs_size = inputs_count in
      let taken_size = r.taken_size in
      let count_joined = joined_count r.taken rests (omega arith) in
      let count_turns = port_turns_count plan.ports inputs_of (omega arith) in
      same_lists (joined r.taken rests) (port_turns plan.ports inputs_of) (omega arith) (λ k d inside.
      let within : k < length first = omega arith in
      let e = element first k within in
      joined_at r.taken rests k d (omega arith) (omega arith)
      ∙ ap (λ (l : List Turn). get_or r.taken k [] ++ l) (rest_at k within)
      ∙ (wholes.2 k both_default within).split e
      ∙ ap (λ (i : Input). turns (get_or first k e).port i) (sym (input_at k both_default.0 within))
      ∙ ap (λ (p : Port). turns p (get_or inputs_of k both_default.0)) (sym (port_at k e within))
      ∙ sym (port_turns_at plan.ports inputs_of k d e.port both_default.0 (omega arith) (omega arith)))

  run_is : run ≡ inputs_taken plan over.lines inputs_of r.known
  run_is =
      let begins = run_begun plan r.known in
      let head = control_head ends in
      reaches_end plan r.known begins (head ∷ map head_of ports) (r.control_taken ∷ r.taken) run (over.rest ∷ rests) (done_all head (map head_of ports) head_done heads_done)
      (agree_all plan run head (map head_of ports) (control_agrees left written source_faults sink_faults plan run r.known.control ends_first ends r.control_taken r.stands.control) r.stands.agree) rests_left (r.reaches r.known (all_allowed_itself plan r.known run))
      ∙ ap (λ (l : List (List Turn)). all_taken plan r.known (merged turn_at ((r.control_taken ++ over.rest) ∷ l)) begins) turns_are
      ∙ ap (λ (l : List Turn). all_taken plan r.known (merged turn_at (l ∷ port_turns plan.ports inputs_of)) begins) over.split

  -- the newest segment is closed
  module _ (now : List Row) (closes : now ≡ closed plan (base_in plan run) run.past) (outputs : All (λ p. IsOutputEnded plan (base_in plan run) run.past now (number_of p.port)) ports)
      (session : IsWholeSession plan (now ∷ run.closed)) (so_far : EachPair (FitsSoFar left source_faults (rows_of run)) first ports) where
    abbrev base : Base
    base = base_in plan run

    abbrev after : Run
    after = run_with run now

    plain_now : IsUnpaused now
    plain_now = subst IsUnpaused (sym closes) (unpaused_closed plan base run.past r.stands.plain)

    -- it holds no more of the inputs
    same_held : (n : ℕ) → HoldsSame n (rows_of run) (rows_of after)
    same_held n = same_in run now r.stands.plain plain_now n (subst (λ (l : List Row). HoldsSame n run.past l) (sym closes) (same_finished plan base run.past n))

    control_same : ControlKept plan run after
    control_same = kept_in run now r.stands.plain plain_now plan (rw closes (control_finished plan base run.past))

    fits : EachPair (IsFit left (rows_of after)) first ports
    fits = fits_finished left source_faults first ports (rows_of run) (rows_of after) so_far done_at same_held

    causes : EachPair (HasCause left source_faults (rows_of after)) first ports
    causes = causes_finished left source_faults first ports (rows_of run) (rows_of after) so_far done_at (λ n. (same_held n).end_same)

    -- the output of a port, and what the end left of it
    output_at : (k : ℕ) (d : PortEnds S K C) → k < length first → IsOutput written sink_faults plan run (number_of (get_or first k d).port) (get_or first k d).ends.sink (get_or ports k d).ends.sink (r.known.ports (number_of (get_or first k d).port))
    output_at k d inside = (r.stands.outputs.each k d inside).output

    ended_output : (k : ℕ) (d : PortEnds S K C) → k < length first → IsOutputEnded plan base run.past now (number_of (get_or first k d).port)
    ended_output k d inside = subst (λ (p : Port). IsOutputEnded plan base run.past now (number_of p)) (r.stands.outputs.each k d inside).port (outputs k d (omega (arith, r.stands.outputs.size, inside)))

    input_now : (k : ℕ) (d : PortEnds S K C) (input : Input) → k < length first → IsInputAt left (rows_of run) (get_or first k d) (get_or ports k d) input → IsInputAt left (rows_of after) (get_or first k d) (get_or ports k d) input
    input_now k d input inside is =
        let p = get_or first k d in
        subst (λ (e : Option How). IsInputOf (Comes p.reader) (left p.ends.source) (left (get_or ports k d).ends.source) e input.arrivals input.ending) (sym (same_held (number_of p.port)).end_same) is

    served_at : (k : ℕ) (d : PortEnds S K C) (i : Input) → k < length first
        → let n = number_of (get_or first k d).port in IsServed left written source_faults sink_faults (Comes (get_or first k d).reader) plan (segments_of after) n (get_or inputs_of k i) (r.known.ports n) (get_or first k d).ends (get_or ports k d).ends
    served_at k d i inside =
        let p = get_or first k d in
        let q = get_or ports k d in
        let n = number_of p.port in
        let stop = r.known.ports n in
        let later : IsLater left written source_faults sink_faults p q = r.stands.later.each k d inside in
        let output = output_at k d inside in
        let ended = ended_output k d inside in
        record {
          used = later.used;
          gave = subst (λ (input : Input). IsInputAt left (rows_of after) p q input) (sym (input_at k i inside)) (input_now k d (get_or wholes.0 k both_default).0 inside ((wholes.2 k both_default inside).came d));
          fits = fits.each k d inside;
          took = took_of written sink_faults plan run now n p.ends.sink q.ends.sink r.stands.plain plain_now ended stop output;
          fits_out = fit_of written sink_faults plan run now n p.ends.sink q.ends.sink r.stands.plain plain_now ended stop output;
          source = later.source;
          sink = later.sink;
          broken = (causes.each k d inside).broken;
          still = (causes.each k d inside).still;
          near = (causes.each k d inside).near;
          still_out = still_of written sink_faults plan run now n p.ends.sink q.ends.sink r.stands.plain plain_now ended stop output;
          broken_out = broken_of written sink_faults plan run now n p.ends.sink q.ends.sink r.stands.plain plain_now ended stop output;
        }

    replay_is : segments_of after ≡ replayed plan over.lines inputs_of r.known
    replay_is = ap (λ (l : List Row). l ∷ run.closed) closes ∙ ap (all_closed plan) run_is

    pub serves : ServesEnds left written source_faults sink_faults plan (segments_of after) ends_first ends first ports
    serves = record {
      lines = over.lines;
      inputs = inputs_of;
      stops = r.known;
      size = inputs_count ∙ count_is first plan planned;
      replay = replay_is;
      session = session;
      control = over.serves after inputs_of r.known refl control_same session replay_is;
      each = λ k i within d.
          let inside : k < length first = omega (arith, count_is first plan planned, within) in
          subst (λ (n : ℕ). IsServed left written source_faults sink_faults (Comes (get_or first k d).reader) plan (segments_of after) n (get_or inputs_of k i) (r.known.ports n) (get_or first k d).ends (get_or ports k d).ends)
          (number_is first plan k d planned inside) (served_at k d i inside);
    }
