-- The state of a replay between two turns.
use Rattle.std.proofs.Common.{◌≡◌, ℕ, zero, suc, ◌<◌, ◌≤◌, true, false, List, [], ◌∷◌, ◌++◌, length, map, get_or, refl, sym, ap, ◌∙◌, subst, arith, ◌⊎◌, inl, inr, Option}
use Rattle.std.proofs.lemmas.Bool.{cases_lt}
use Rattle.std.proofs.lemmas.List.{length-map, get_or-map, get_or_past}
use Rattle.std.specs.List.{All}
use Rattle.std.specs.List.Sorted.{IsStrictlyIncreasing}
use Rattle.savi_kinds.specs.declared.port.Port.{Port}
use Rattle.savi_kinds.specs.declared.plan.Plan.{Plan}
use Rattle.savi_kinds.specs.Ports.{number_of}
use Rattle.savi_kinds.specs.ValidPlan.{numbers_of}
use Rattle.pcap_io.specs.Readers.{HasRead}
use Rattle.hist_store.specs.Rows.{Row}
use Rattle.savi_history.specs.Passes.{pass_count, ticker_pass}
use Rattle.savi_history.specs.Queues.{queue}
use Rattle.savi_history.specs.Turns.{Turn}
use Rattle.savi_history.specs.Replay.{Stops}
use Rattle.savi_history.proofs.PassNumbers.{number_at}
use Rattle.savi_segments.specs.Replay.{Run, base_in, has_ended_in, run_begun}
use Rattle.savi_segments.proofs.Reaching.{pass_at, Head, Unread, Known, Done, IsLeft, AreLeft, AllRead, Agrees, Reaches}
use Rattle.savi_segments.proofs.Reaching as reaching
use Rattle.port_worker.specs.declared.control_ends.ControlEnds.{ControlEnds}
use Rattle.port_worker.specs.declared.port_ends.Ahead.{Ahead}
use Rattle.port_worker.specs.declared.port_ends.Ahead.TheVariants as ahead
use Rattle.port_worker.specs.declared.port_ends.PortEnds.{PortEnds}
use Rattle.port_worker.specs.Pairs.{EachPair}
use Rattle.port_worker.specs.Inputs.{IsSoundAhead, IsReadAhead, IsLooked, turn_moment}
use Rattle.port_worker.specs.ControlOutputs.{AreAllowed}
use Rattle.port_worker.specs.LineInputs.{IsControlHeard}
use Rattle.port_worker.specs.Outputs.{IsOutput, AreOutputs}
use Rattle.port_worker.specs.Replays.{ports_held, ports_planned}
use Rattle.port_worker.proofs.Alike.{IsAlike, control_alike, keeps_alike}
use Rattle.port_worker.proofs.ControlFirst.{PortsAgree}
use Rattle.port_worker.proofs.ControlProgress.{control_head}
use Rattle.port_worker.proofs.ControlRunning.{ControlStands, control_kept, control_left, control_looked}
use Rattle.port_worker.proofs.Joining.{takes_twice}
use Rattle.port_worker.proofs.KeptOutputs.{output_kept}
use Rattle.port_worker.proofs.Later.{IsLater, looked_later}
use Rattle.port_worker.proofs.Planned.{count_is, number_is}
use Rattle.port_worker.proofs.Progress.{head_of, head_ahead, moment_same, read_known, HasReadAhead, Goes, Progress, ProgressBy, read_ahead}
use Rattle.port_worker.proofs.RowsHeld.{rows_of}
use Rattle.port_worker.proofs.Unbroken.{IsUnpaused}

-- How the ends of control and of the ports stand to a run: what was taken of each input, and what is known of each output.
pub record Standing {S K C : Type 0} (left : S → Option (List ℕ)) (written : K → Option (List ℕ)) (source_faults : S → ℕ) (sink_faults : K → ℕ) (plan : Plan) (ends_first ends : Option (ControlEnds S K C)) (first ports : List (PortEnds S K C)) (taken : List (List Turn)) (control_taken : List Turn) (known : Stops) (run : Run) : Type 0 where
  pub later : EachPair (IsLater left written source_faults sink_faults) first ports
  pub sound : (k : ℕ) (d : PortEnds S K C) → k < length first → IsSoundAhead (get_or ports k d).reader (get_or ports k d).ahead
  pub agree : PortsAgree plan run (map head_of ports)
  pub progress : (k : ℕ) (d : PortEnds S K C) → k < length first → Progress left plan k (rows_of run) (get_or first k d) (get_or ports k d) (get_or taken k [])
  pub control : ControlStands left written source_faults sink_faults plan run known.control ends_first ends control_taken
  pub ticker : has_ended_in plan (ticker_pass plan) run ≡ false
  pub quiet : (k : ℕ) → k < length plan.ports → queue plan (base_in plan run) (number_at plan k) run.past ≡ []
  pub outputs : AreOutputs written sink_faults plan known run first ports
  pub plain : IsUnpaused run.past

-- The run is what was taken so far, with whatever may come behind it.
pub record Running {S K C : Type 0} (left : S → Option (List ℕ)) (written : K → Option (List ℕ)) (source_faults : S → ℕ) (sink_faults : K → ℕ) (plan : Plan) (ends_first ends : Option (ControlEnds S K C)) (first ports : List (PortEnds S K C)) (run : Run) : Type 0 where
  pub taken : List (List Turn)
  pub taken_size : length taken ≡ length first
  pub control_taken : List Turn
  pub known : Stops
  pub stands : Standing left written source_faults sink_faults plan ends_first ends first ports taken control_taken known run
  pub reaches : (stops : Stops) → AreAllowed plan known stops run → Reaches plan stops (run_begun plan stops) (control_head ends ∷ map head_of ports) (control_taken ∷ taken) run

-- the head of the port at a place
pub head_at : {S K C : Type 0} (ports : List (PortEnds S K C)) (k : ℕ) (d : PortEnds S K C) (h : Head) → k < length ports → get_or (map head_of ports) k h ≡ head_of (get_or ports k d)
head_at ports k d h inside = get_or-map head_of ports k d h inside

pub element : {X : Type 0} (xs : List X) (k : ℕ) → k < length xs → X
element [] k inside = absurd (omega arith)
element (x ∷ xs) k inside = x

pub moments_same : {S K C : Type 0} (ports : List (PortEnds S K C)) → map reaching.moment_of (map head_of ports) ≡ map turn_moment ports
moments_same [] = refl
moments_same (p ∷ ports) = ap (λ (o : Option ℕ). o ∷ map reaching.moment_of (map head_of ports)) (moment_same p.port p.buf p.ahead) ∙ ap (λ (l : List (Option ℕ)). turn_moment p ∷ l) (moments_same ports)

pub all_read : {S K C : Type 0} (ports : List (PortEnds S K C)) → All (λ p. IsReadAhead p.ahead) ports → AllRead (map head_of ports)
all_read ports known k inside =
    let size = length-map ports head_of in
    let within : k < length ports = omega arith in
    let d = element ports k within in
    rw (head_at ports k d Done within) (read_known (get_or ports k d).port (get_or ports k d).buf (get_or ports k d).ahead (known k d within))

-- what holds of an input that is done, and of one that isn't
abbrev pub IsOpenAs : Plan → Run → ℕ → Ahead → Type 0
IsOpenAs plan run k a = (a ≡ ahead.Done → has_ended_in plan k run ≡ true) × ((a ≡ ahead.Done → ⊥) → has_ended_in plan k run ≡ false)

pub agrees_from : (plan : Plan) (run : Run) (k : ℕ) (port : Port) (buf : List ℕ) (a : Ahead) → IsOpenAs plan run k a → Agrees plan run k (head_ahead port buf a)
agrees_from plan run k port buf ahead.Unread is = is.1 (λ same. cc)
agrees_from plan run k port buf (ahead.Frame stamp len) is = is.1 (λ same. cc)
agrees_from plan run k port buf (ahead.Long stamp len) is = is.1 (λ same. cc)
agrees_from plan run k port buf ahead.End is = is.1 (λ same. cc)
agrees_from plan run k port buf (ahead.Malformed at) is = is.1 (λ same. cc)
agrees_from plan run k port buf ahead.Failed is = is.1 (λ same. cc)
agrees_from plan run k port buf ahead.Done is = is.0 refl

pub agrees_as : (plan : Plan) (run : Run) (k : ℕ) (port : Port) (buf : List ℕ) (a : Ahead) → Agrees plan run k (head_ahead port buf a) → IsOpenAs plan run k a
agrees_as plan run k port buf ahead.Unread is = (λ same. cc, λ other. is)
agrees_as plan run k port buf (ahead.Frame stamp len) is = (λ same. cc, λ other. is)
agrees_as plan run k port buf (ahead.Long stamp len) is = (λ same. cc, λ other. is)
agrees_as plan run k port buf ahead.End is = (λ same. cc, λ other. is)
agrees_as plan run k port buf (ahead.Malformed at) is = (λ same. cc, λ other. is)
agrees_as plan run k port buf ahead.Failed is = (λ same. cc, λ other. is)
agrees_as plan run k port buf ahead.Done is = (λ same. is, λ other. absurd (other refl))

pub agrees_same : (plan : Plan) (run now : Run) (k : ℕ) (h : Head) → has_ended_in plan k now ≡ has_ended_in plan k run → Agrees plan run k h → Agrees plan now k h
agrees_same plan run now k Unread same is = same ∙ is
agrees_same plan run now k (Known turn) same is = same ∙ is
agrees_same plan run now k Done same is = same ∙ is

-- the turns that may be left where more is known may be left where less is
left_less : {S K C : Type 0} (p q : PortEnds S K C) (a : Ahead) (turns : List Turn) → p.ahead ≡ a → (IsReadAhead p.ahead → q ≡ p) → IsLeft (head_of q) turns → IsLeft (head_ahead p.port p.buf a) turns
left_less p q ahead.Unread turns is same there = tt
left_less {S} {K} {C} p q (ahead.Frame stamp len) turns is same there = subst (λ (b : Ahead). IsLeft (head_ahead p.port p.buf b) turns) is (subst (λ (r : PortEnds S K C). IsLeft (head_of r) turns) (same (subst IsReadAhead (sym is) tt)) there)
left_less {S} {K} {C} p q (ahead.Long stamp len) turns is same there = subst (λ (b : Ahead). IsLeft (head_ahead p.port p.buf b) turns) is (subst (λ (r : PortEnds S K C). IsLeft (head_of r) turns) (same (subst IsReadAhead (sym is) tt)) there)
left_less {S} {K} {C} p q ahead.End turns is same there = subst (λ (b : Ahead). IsLeft (head_ahead p.port p.buf b) turns) is (subst (λ (r : PortEnds S K C). IsLeft (head_of r) turns) (same (subst IsReadAhead (sym is) tt)) there)
left_less {S} {K} {C} p q (ahead.Malformed at) turns is same there = subst (λ (b : Ahead). IsLeft (head_ahead p.port p.buf b) turns) is (subst (λ (r : PortEnds S K C). IsLeft (head_of r) turns) (same (subst IsReadAhead (sym is) tt)) there)
left_less {S} {K} {C} p q ahead.Failed turns is same there = subst (λ (b : Ahead). IsLeft (head_ahead p.port p.buf b) turns) is (subst (λ (r : PortEnds S K C). IsLeft (head_of r) turns) (same (subst IsReadAhead (sym is) tt)) there)
left_less p q ahead.Done turns is same there = tt

goes_by : {S K C : Type 0} (left : S → Option (List ℕ)) (plan : Plan) (k : ℕ) (past : List Row) (old new : PortEnds S K C) (taken : List Turn) (a : Ahead) → (a ≡ ahead.Done → ⊥) → Goes left old new taken → ProgressBy left plan k past old new taken a
goes_by left plan k past old new taken ahead.Unread other goes = goes
goes_by left plan k past old new taken (ahead.Frame stamp len) other goes = goes
goes_by left plan k past old new taken (ahead.Long stamp len) other goes = goes
goes_by left plan k past old new taken ahead.End other goes = goes
goes_by left plan k past old new taken (ahead.Malformed at) other goes = goes
goes_by left plan k past old new taken ahead.Failed other goes = goes
goes_by left plan k past old new taken ahead.Done other goes = absurd (other refl)

progress_known : {S K C : Type 0} (left : S → Option (List ℕ)) (plan : Plan) (k : ℕ) (past : List Row) (old p q : PortEnds S K C) (taken : List Turn) (a : Ahead) → p.ahead ≡ a → IsReadAhead a → (IsReadAhead p.ahead → q ≡ p) → Progress left plan k past old p taken → Progress left plan k past old q taken
progress_known {S} {K} {C} left plan k past old p q taken a is known same progress = subst (λ (r : PortEnds S K C). Progress left plan k past old r taken) (sym (same (subst IsReadAhead (sym is) known))) progress

progress_look : {S K C : Type 0} (left : S → Option (List ℕ)) (source_faults : S → ℕ) (plan : Plan) (k : ℕ) (past : List Row) (old p q : PortEnds S K C) (taken : List Turn) (a : Ahead) → p.ahead ≡ a → IsLooked left source_faults p q → Progress left plan k past old p taken → Progress left plan k past old q taken
progress_look left source_faults plan k past old p q taken ahead.Unread is looked progress =
    let goes : Goes left old p taken = subst (λ (b : Ahead). ProgressBy left plan k past old p taken b) is progress in
    let more = looked.read is in
    let read : HasRead old.reader p.reader goes.gave goes.before = subst (λ (b : Ahead). HasReadAhead old.reader p.reader goes.gave p.buf goes.before b) is goes.read in
    goes_by left plan k past old q taken q.ahead (λ done. let e = looked.done done in cc)
    (record {
      before = goes.before;
      taken_is = goes.taken_is;
      gave = goes.gave ++ more.0;
      takes = takes_twice (left old.ends.source) (left p.ends.source) (left q.ends.source) goes.gave more.0 goes.takes more.1;
      read = read_ahead old.reader p.reader q.reader goes.gave more.0 goes.before q.buf (left q.ends.source) q.ahead read more.2;
      comes = λ input will. goes.comes input (looked.comes input will);
    })
progress_look left source_faults plan k past old p q taken (ahead.Frame stamp len) is looked progress = progress_known left plan k past old p q taken (ahead.Frame stamp len) is tt looked.same progress
progress_look left source_faults plan k past old p q taken (ahead.Long stamp len) is looked progress = progress_known left plan k past old p q taken (ahead.Long stamp len) is tt looked.same progress
progress_look left source_faults plan k past old p q taken ahead.End is looked progress = progress_known left plan k past old p q taken ahead.End is tt looked.same progress
progress_look left source_faults plan k past old p q taken (ahead.Malformed at) is looked progress = progress_known left plan k past old p q taken (ahead.Malformed at) is tt looked.same progress
progress_look left source_faults plan k past old p q taken ahead.Failed is looked progress = progress_known left plan k past old p q taken ahead.Failed is tt looked.same progress
progress_look left source_faults plan k past old p q taken ahead.Done is looked progress = progress_known left plan k past old p q taken ahead.Done is tt looked.same progress

done_both : {S K C : Type 0} (left : S → Option (List ℕ)) (source_faults : S → ℕ) (p q : PortEnds S K C) → IsLooked left source_faults p q → p.ahead ≡ ahead.Done → q.ahead ≡ ahead.Done
done_both {S} {K} {C} left source_faults p q looked is = ap (λ (r : PortEnds S K C). r.ahead) (looked.same (subst IsReadAhead (sym is) tt)) ∙ is

-- to read ahead changes no output
outputs_looked : {S K C : Type 0} (written : K → Option (List ℕ)) (sink_faults : K → ℕ) (left : S → Option (List ℕ)) (source_faults : S → ℕ) (plan : Plan) (known : Stops) (run : Run) (first ports new : List (PortEnds S K C)) → AreOutputs written sink_faults plan known run first ports → EachPair (IsLooked left source_faults) ports new
    → AreOutputs written sink_faults plan known run first new
outputs_looked {S} {K} {C} written sink_faults left source_faults plan known run first ports new outputs looked = record {
  size = looked.size ∙ outputs.size;
  each = λ k d inside.
      let was = outputs.each k d inside in
      let look = looked.each k d (omega (arith, outputs.size, inside)) in
      let n = number_of (get_or first k d).port in
      record {
        port = look.port ∙ was.port;
        later = subst (λ (s : K). sink_faults (get_or first k d).ends.sink ≤ sink_faults s) (sym look.sink) was.later;
        output = subst (λ (s : K). IsOutput written sink_faults plan run n (get_or first k d).ends.sink s (known.ports n)) (sym look.sink) was.output;
      };
}

module _ {S K C : Type 0} (left : S → Option (List ℕ)) (written : K → Option (List ℕ)) (source_faults : S → ℕ) (sink_faults : K → ℕ) (plan : Plan) (ends_first : Option (ControlEnds S K C)) (first : List (PortEnds S K C)) where
  abbrev Runs : Option (ControlEnds S K C) → List (PortEnds S K C) → Run → Type 0
  Runs ends ports run = Running left written source_faults sink_faults plan ends_first ends first ports run

  -- to read ahead

  module _ (ends ends_new : Option (ControlEnds S K C)) (ports new : List (PortEnds S K C)) (run : Run) (r : Runs ends ports run) (heard : IsControlHeard left source_faults ends ends_new) (looked : EachPair (IsLooked left source_faults) ports new) where
    size_ports : length ports ≡ length first
    size_ports = r.stands.later.size

    left_at : (rest : List (List Turn)) (k : ℕ) → AreLeft plan (control_head ends_new ∷ map head_of new) rest → (k < length ports) ⊎ (length ports ≤ k) → IsLeft (get_or (map head_of ports) k Done) (get_or rest (suc k) [])
    left_at rest k there (inl inside) =
        let d = element ports k inside in
        let size = looked.size in
        rw (head_at ports k d Done inside)
        (left_less (get_or ports k d) (get_or new k d) (get_or ports k d).ahead (get_or rest (suc k) []) refl (looked.each k d inside).same
        (subst (λ (h : Head). IsLeft h (get_or rest (suc k) [])) (head_at new k d Done (omega arith)) (there.each (suc k))))
    left_at rest k there (inr outside) = let size = length-map ports head_of in rw (get_or_past (map head_of ports) k Done (omega arith)) tt

    left_all : (rest : List (List Turn)) (k : ℕ) → AreLeft plan (control_head ends_new ∷ map head_of new) rest → IsLeft (get_or (control_head ends ∷ map head_of ports) k Done) (get_or rest k [])
    left_all rest zero there = control_left left written source_faults sink_faults plan ends ends_new (get_or rest 0 []) heard (there.each 0)
    left_all rest (suc k) there = left_at rest k there (cases_lt k (length ports))

    low_all : (rest : List (List Turn)) (k : ℕ) → AreLeft plan (control_head ends_new ∷ map head_of new) rest → k < length (control_head ends ∷ map head_of ports) → pass_at plan k < pass_count plan
    low_all rest k there inside =
        let sizes = length-map ports head_of in
        let sizes_new = length-map new head_of in
        let size = looked.size in
        there.low k (omega (arith, inside, sizes, sizes_new, size))

    agree_at : (k : ℕ) → k < length (map head_of new) → Agrees plan run k (get_or (map head_of new) k Done)
    agree_at k inside =
        let size_new = length-map new head_of in
        let size = looked.size in
        let within : k < length ports = omega arith in
        let d = element ports k within in
        let p = get_or ports k d in
        let q = get_or new k d in
        let look = looked.each k d within in
        let size_old = length-map ports head_of in
        let was : IsOpenAs plan run k p.ahead = agrees_as plan run k p.port p.buf p.ahead (subst (λ (h : Head). Agrees plan run k h) (head_at ports k d Done within) (r.stands.agree k (omega arith))) in
        rw (head_at new k d Done (omega arith))
        (agrees_from plan run k q.port q.buf q.ahead ((λ done. was.0 (look.done done)), (λ other. was.1 (λ done. other (done_both left source_faults p q look done)))))

    pub look_step : Runs ends_new new run
    look_step = record {
      taken = r.taken;
      taken_size = r.taken_size;
      control_taken = r.control_taken;
      known = r.known;
      stands = record {
        later = looked_later left written source_faults sink_faults first ports new r.stands.later looked;
        sound = λ k d inside. (looked.each k d (omega (arith, size_ports))).sound;
        agree = agree_at;
        progress = λ k d inside. let within : k < length ports = omega (arith, size_ports) in
            progress_look left source_faults plan k (rows_of run) (get_or first k d) (get_or ports k d) (get_or new k d) (get_or r.taken k []) (get_or ports k d).ahead refl (looked.each k d within) (r.stands.progress k d inside);
        control = control_looked left written source_faults sink_faults plan run r.known.control ends_first ends ends_new r.control_taken heard r.stands.control;
        ticker = r.stands.ticker;
        quiet = r.stands.quiet;
        outputs = outputs_looked written sink_faults left source_faults plan r.known run first ports new r.stands.outputs looked;
        plain = r.stands.plain;
      };
      reaches = λ stops allowed rest there.
          let sizes = length-map ports head_of in
          let sizes_new = length-map new head_of in
          let size = looked.size in
          let there_size = there.size in
          r.reaches stops allowed rest (record { size = omega arith; low = λ k inside. low_all rest k there inside; of = there.of; each = λ k. left_all rest k there });
    }

  -- a run that tells the same
  pub stands_alike : (ends : Option (ControlEnds S K C)) (ports : List (PortEnds S K C)) (taken : List (List Turn)) (control_taken : List Turn) (known : Stops) (run now : Run) → ports_held first ≡ ports_planned plan → IsStrictlyIncreasing (numbers_of plan.ports) → IsAlike plan run now
      → Standing left written source_faults sink_faults plan ends_first ends first ports taken control_taken known run → Standing left written source_faults sink_faults plan ends_first ends first ports taken control_taken known now
  stands_alike ends ports taken control_taken known run now planned rising alike was =
      let count = count_is first plan planned in
      let size = was.later.size in
      record {
        later = was.later;
        sound = was.sound;
        agree = λ k inside.
            let sizes = length-map ports head_of in
            agrees_same plan run now k (get_or (map head_of ports) k Done) (alike.over_same k (omega (arith, inside, sizes, size, count))) (was.agree k inside);
        progress = λ k d inside. subst (λ (l : List Row). Progress left plan k l (get_or first k d) (get_or ports k d) (get_or taken k [])) (sym alike.rows_same) (was.progress k d inside);
        control = control_kept left written source_faults sink_faults plan run now known.control ends_first ends control_taken (control_alike plan run now alike) was.control;
        ticker = alike.over_same (ticker_pass plan) (omega arith) ∙ was.ticker;
        quiet = λ k inside. alike.quiet (number_at plan k) (was.quiet k inside);
        outputs = record {
          size = was.outputs.size;
          each = λ k d inside.
              let one = was.outputs.each k d inside in
              let n = number_of (get_or first k d).port in
              record {
                port = one.port;
                later = one.later;
                output = output_kept written sink_faults plan n run now (get_or first k d).ends.sink (get_or ports k d).ends.sink (known.ports n)
                    (keeps_alike plan run now alike rising n k (omega (arith, inside, count)) (number_is first plan k d planned inside)) one.output;
              };
        };
        plain = alike.plain was.plain;
      }
