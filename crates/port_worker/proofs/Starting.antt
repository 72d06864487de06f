-- The state of a replay before the first turn, and what each turn may ask of it.
use Rattle.std.proofs.Common.{◌≡◌, ◌≢◌, ℕ, zero, suc, ◌*◌, ◌<◌, ◌≤◌, true, false, List, [], ◌∷◌, length, map, get_or, refl, sym, ap, ◌∙◌, subst, arith, Option, Some, None, IfSome}
use Rattle.std.proofs.lemmas.List.{length-map, get_or-map, same_lists}
use Rattle.std.proofs.lemmas.List.Elements.{All-nil}
use Rattle.std.specs.List.{All}
use Rattle.std.specs.List.Sorted.{IsStrictlyIncreasing}
use Rattle.savi_kinds.specs.declared.plan.Plan.{Plan}
use Rattle.savi_kinds.specs.declared.entry.Who.TheVariants.{Ingress, Control}
use Rattle.savi_kinds.specs.declared.entry.How.TheVariants as hows
use Rattle.savi_kinds.specs.Ports.{number_of}
use Rattle.savi_kinds.specs.ValidPlan.{numbers_of}
use Rattle.cli_lang.specs.Readers.{State, Running as RunningLines, Ended}
use Rattle.hist_store.specs.Rows.{Row}
use Rattle.checkpoint.specs.Bases.{Base, empty}
use Rattle.savi_history.specs.Passes.{has_ended, has_port, pass_of, place_of, control_pass, ticker_pass}
use Rattle.savi_history.specs.Queues.{queue}
use Rattle.savi_history.specs.Legal.{IsOpen}
use Rattle.savi_history.specs.Events.{End}
use Rattle.savi_history.specs.ControlInputs.{control_end}
use Rattle.savi_history.specs.PortOutputs.{TookPieces}
use Rattle.savi_history.specs.Readable.{IsLineInRange}
use Rattle.savi_history.specs.Turns.{Turn, control_turns}
use Rattle.savi_history.specs.Replay.{PortStops, Stops, begun, with_event}
use Rattle.savi_history.proofs.ControlSame.{ControlSame, control_begun}
use Rattle.savi_history.proofs.PassNumbers.{number_at, place_at, known_at}
use Rattle.savi_history.proofs.Waiting.{ended_now, ended_other, ended_begun, empty_end, empty_begun}
use Rattle.savi_history.proofs.PortInputs.{HoldsSame, same_begun, same_control}
use Rattle.savi_segments.specs.Replay.{Run, base_in, has_ended_in, run_begun, run_with}
use Rattle.savi_segments.proofs.Reaching.{Done, Agrees, Reaches, joined}
use Rattle.savi_core.specs.Machines.{Machine, base_of, started, station_room}
use Rattle.savi_core.proofs.Leaving.{start_is}
use Rattle.port_worker.specs.declared.control_ends.ControlEnds.{ControlEnds}
use Rattle.port_worker.specs.declared.control_ends.LineAhead.{LineAhead}
use Rattle.port_worker.specs.declared.control_ends.LineAhead.TheVariants as line_ahead
use Rattle.port_worker.specs.declared.port_ends.Ahead.{Ahead}
use Rattle.port_worker.specs.declared.port_ends.Ahead.TheVariants as ahead
use Rattle.port_worker.specs.declared.port_ends.PortEnds.{PortEnds}
use Rattle.port_worker.specs.Pairs.{EachPair}
use Rattle.port_worker.specs.Inputs.{IsSoundAhead, IsReadable, WillGive, WillCome}
use Rattle.port_worker.specs.ControlOutputs.{unheard}
use Rattle.port_worker.specs.LineInputs.{IsControlUnheard, IsHearing, IsLineSound, IsUnheard}
use Rattle.port_worker.specs.SentFrames.{OnlySink}
use Rattle.port_worker.specs.Outputs.{AreOutputs, Allows, ArePortsAllowed}
use Rattle.port_worker.specs.Replays.{IsUnread, ports_held, ports_planned}
use Rattle.port_worker.proofs.Allowed.{allowed_itself}
use Rattle.port_worker.proofs.Beginning.{begun_at}
use Rattle.port_worker.proofs.ControlFirst.{reaches_control, reaches_unread}
use Rattle.port_worker.proofs.ControlGoing.{with_stop}
use Rattle.port_worker.proofs.ControlProgress.{HeardAhead, control_head, line_head}
use Rattle.port_worker.proofs.ControlRunning.{ControlRuns, ControlStands, LineProgress}
use Rattle.port_worker.proofs.Hearing.{HasHeard, heard_none}
use Rattle.port_worker.proofs.KeptOutputs.{KeepsIn, KeepsOutput, keeps_control, keeps_in, keeps_same, keeps_pieces, output_kept}
use Rattle.port_worker.proofs.Planned.{count_is, number_is}
use Rattle.port_worker.proofs.Joining.{front_none}
use Rattle.port_worker.proofs.Later.{IsLater, begun_later, behind_none, took_none}
use Rattle.port_worker.proofs.Progress.{head_of, Goes, ProgressBy}
use Rattle.port_worker.proofs.RowsHeld.{ControlKept, kept_in, rows_of, same_in}
use Rattle.port_worker.proofs.Running.{Running, Standing, head_at, element}
use Rattle.port_worker.proofs.Unbroken.{IsUnpaused, alike_in}
use Rattle.port_worker.proofs.Unpaused.{unpaused_begun}

-- nothing was taken yet
abbrev pub nothing_taken : {X : Type 0} → List X → List (List Turn)
nothing_taken [] = []
nothing_taken (x ∷ xs) = [] ∷ nothing_taken xs

nothing_count : {X : Type 0} (xs : List X) → length (nothing_taken xs) ≡ length xs
nothing_count [] = refl
nothing_count (x ∷ xs) = ap (λ (n : ℕ). suc n) (nothing_count xs)

nothing_at : {X : Type 0} (xs : List X) (k : ℕ) → get_or (nothing_taken xs) k [] ≡ []
nothing_at [] k = refl
nothing_at (x ∷ xs) zero = refl
nothing_at (x ∷ xs) (suc k) = nothing_at xs k

nothing_joined : {X : Type 0} (xs : List X) (rest : List (List Turn)) → length rest ≡ length xs → joined (nothing_taken xs) rest ≡ rest
nothing_joined [] [] size = refl
nothing_joined [] (r ∷ rest) size = absurd (omega arith)
nothing_joined (x ∷ xs) [] size = absurd (omega arith)
nothing_joined (x ∷ xs) (r ∷ rest) size = ap (λ (l : List (List Turn)). r ∷ l) (nothing_joined xs rest (omega arith))

pub held_same : {S K C : Type 0} (left : S → Option (List ℕ)) (written : K → Option (List ℕ)) (source_faults : S → ℕ) (sink_faults : K → ℕ) (first ports : List (PortEnds S K C)) → EachPair (IsLater left written source_faults sink_faults) first ports → ports_held ports ≡ ports_held first
held_same {S} {K} {C} left written source_faults sink_faults first ports later =
    let size = later.size in
    let size_f = length-map first (λ p. p.port) in
    let size_p = length-map ports (λ p. p.port) in
    same_lists (ports_held ports) (ports_held first) (omega arith) (λ k d inside.
    let within : k < length first = omega arith in
    let e = element first k within in
    get_or-map (λ (p : PortEnds S K C). p.port) ports k e d (omega arith) ∙ (later.each k e within).port ∙ sym (get_or-map (λ (p : PortEnds S K C). p.port) first k e d within))

-- the history behind the beginnings of the outputs: without ends of control its input ends at once
abbrev pub opened : {S K C : Type 0} → Plan → List Row → Option (ControlEnds S K C) → List Row
opened plan before None = with_event plan empty before (End Control hows.End)
opened plan before (Some c) = before

opened_ends : {S K C : Type 0} (plan : Plan) (before : List Row) (ends : Option (ControlEnds S K C)) (pass : ℕ) → pass ≢ control_pass plan → has_ended empty pass (opened plan before ends) ≡ has_ended empty pass before
opened_ends plan before None pass other = ended_other plan empty before Control hows.End pass (λ e. other (sym e))
opened_ends plan before (Some c) pass other = refl

opened_holds : {S K C : Type 0} (plan : Plan) (before : List Row) (ends : Option (ControlEnds S K C)) (n : ℕ) → HoldsSame n before (opened plan before ends)
opened_holds plan before None n = same_control plan empty before hows.End n
opened_holds plan before (Some c) n = record { arrivals_same = refl; end_same = refl }

opened_keeps : {S K C : Type 0} (plan : Plan) (before : List Row) (ends : Option (ControlEnds S K C)) (n : ℕ) → KeepsOutput plan empty n before (opened plan before ends)
opened_keeps plan before None n = keeps_control plan empty before hows.End n
opened_keeps plan before (Some c) n = keeps_same plan empty n before before refl

opened_quiet : {S K C : Type 0} (plan : Plan) (before : List Row) (ends : Option (ControlEnds S K C)) (n : ℕ) → queue plan empty n before ≡ [] → queue plan empty n (opened plan before ends) ≡ []
opened_quiet plan before None n none = empty_end plan empty before Control hows.End n none
opened_quiet plan before (Some c) n none = none

opened_plain : {S K C : Type 0} (plan : Plan) (before : List Row) (ends : Option (ControlEnds S K C)) → IsUnpaused before → IsUnpaused (opened plan before ends)
opened_plain plan before None none = none
opened_plain plan before (Some c) none = none

-- a switch at its start goes on from nothing
pub started_empty : (plan : Plan) → base_of (started plan) ≡ empty
started_empty plan = start_is (16 * plan.per_port) (station_room plan)

pub opened_machine : {S K C : Type 0} (m : Machine) → base_of m ≡ empty → (ends : Option (ControlEnds S K C)) → (unheard m ends).past ≡ opened m.plan m.past ends
opened_machine m base_is None = ap (λ (b : Base). with_event m.plan b m.past (End Control hows.End)) base_is
opened_machine m base_is (Some c) = refl

pub opened_plan : {S K C : Type 0} (m : Machine) (ends : Option (ControlEnds S K C)) → (unheard m ends).plan ≡ m.plan
opened_plan m None = refl
opened_plan m (Some c) = refl

pub opened_base : {S K C : Type 0} (m : Machine) (ends : Option (ControlEnds S K C)) → base_of (unheard m ends) ≡ base_of m
opened_base m None = refl
opened_base m (Some c) = refl

running_hears : (state : State) → state ≡ RunningLines 0 [] → IsHearing state
running_hears state is failed = let e : RunningLines 0 [] ≡ Ended hows.Failed = sym is ∙ failed in cc

none_so : {X : Type 0} (o : Option X) (x : X) → o ≡ None → o ≡ Some x → ⊥
none_so o x none some = let e : None ≡ Some x = sym none ∙ some in cc

unread_failed : (a : LineAhead) → a ≡ line_ahead.Unread → a ≡ line_ahead.Failed → ⊥
unread_failed a unread failed = cc

-- nothing is paused where the outputs are begun
begun_plain : (plan : Plan) (stops : PortStops) (before : List Row) → before ≡ begun plan empty stops plan.ports [] → IsUnpaused before
begun_plain plan stops before begins = subst IsUnpaused (sym begins) (unpaused_begun plan empty stops plan.ports [] refl)

-- nor has control said anything
begun_keeps : (plan : Plan) (stops : PortStops) (before : List Row) → before ≡ begun plan empty stops plan.ports [] → ControlKept plan (begun_at []) (begun_at before)
begun_keeps plan stops before begins =
    kept_in (begun_at []) before refl (begun_plain plan stops before begins) plan
    (subst (λ (l : List Row). ControlSame plan empty [] l) (sym begins) (control_begun plan empty stops plan.ports []))

-- the ends of control of which nothing was read
control_starts : {S K C : Type 0} (left : S → Option (List ℕ)) (written : K → Option (List ℕ)) (source_faults : S → ℕ) (sink_faults : K → ℕ) (plan : Plan) (before : List Row) (c : ControlEnds S K C) (stops : PortStops) → before ≡ begun plan empty stops plan.ports [] → IsUnheard c
    → ControlRuns left written source_faults sink_faults plan (begun_at before) None c c []
control_starts left written source_faults sink_faults plan before c stops begins none =
    let same : ControlKept plan (begun_at []) (begun_at before) = begun_keeps plan stops before begins in
    let rows = rows_of (begun_at before) in
    let said : control_end rows ≡ None = same.end_same in
    record {
      used = record { gave = ([], sym (front_none (left c.ends.source))); took = took_none (written c.ends.sink); clock = refl };
      source = omega arith;
      sink = omega arith;
      sound = subst (λ (a : LineAhead). IsLineSound c.reader a) (sym none.0) (running_hears c.reader none.1);
      agrees = subst (λ (a : LineAhead). Agrees plan (begun_at before) (control_pass plan) (line_head c.buf a)) (sym none.0) same.over_same;
      progress = subst (λ (a : LineAhead). LineProgress left plan rows c c [] a) (sym none.0) (record {
        before = [];
        taken_is = refl;
        entered = same.lines_same;
        running = said;
        lines = All-nil IsLineInRange;
        gave = [];
        takes = sym (front_none (left c.ends.source));
        heard = subst (λ (a : LineAhead). HeardAhead (left c.ends.source) (left c.ends.source) c.reader [] c.buf [] a) (sym none.0)
            (subst (λ (s : State). HasHeard s [] (left c.ends.source) []) (sym none.1) (heard_none (left c.ends.source)));
      });
      replied = record {
        none = λ is. none_so (control_end rows) hows.Unwritten said is;
        took = subst (λ (l : List (List ℕ)). TookPieces (written c.ends.sink) (written c.ends.sink) l None) (sym same.replies_same) (behind_none (written c.ends.sink));
        still = refl;
      };
      failed = λ failed. absurd (unread_failed c.ahead none.0 failed);
      broken = λ is. absurd (none_so (control_end rows) hows.Failed said is);
      still = λ other others. refl;
    }

module _ {S K C : Type 0} (left : S → Option (List ℕ)) (written : K → Option (List ℕ)) (source_faults : S → ℕ) (sink_faults : K → ℕ) (plan : Plan) (ends : Option (ControlEnds S K C)) (first ports : List (PortEnds S K C))
    (planned : ports_held first ≡ ports_planned plan) (rising : IsStrictlyIncreasing (numbers_of plan.ports)) where
  module _ (before : List Row) (known : Stops) (unread : All IsUnread first) (only : EachPair (OnlySink written sink_faults) first ports) (outputs : AreOutputs written sink_faults plan known (begun_at before) first ports)
      (begun_is : (stops : Stops) → ArePortsAllowed plan known stops (begun_at before) → begun_at before ≡ run_begun plan stops) (none_heard : IsControlUnheard ends) where
    abbrev past : List Row
    past = opened plan before ends

    rows_are : (stops : Stops) → ArePortsAllowed plan known stops (begun_at before) → before ≡ begun plan empty stops.ports plan.ports []
    rows_are stops allowed = ap (λ (x : Run). x.past) (begun_is stops allowed)

    before_is : before ≡ begun plan empty known.ports plan.ports []
    before_is = rows_are known (allowed_itself plan known (begun_at before))

    plain_before : IsUnpaused before
    plain_before = begun_plain plan known.ports before before_is

    plain_past : IsUnpaused past
    plain_past = opened_plain plan before ends plain_before

    -- nothing came in yet
    pub holds : (n : ℕ) → HoldsSame n [] (rows_of (begun_at past))
    holds n =
        let begins : HoldsSame n [] before = subst (λ (l : List Row). HoldsSame n [] l) (sym before_is) (same_begun plan empty known.ports plan.ports [] n) in
        let last = opened_holds plan before ends n in
        same_in (begun_at []) past refl plain_past n (record { arrivals_same = last.arrivals_same ∙ begins.arrivals_same; end_same = last.end_same ∙ begins.end_same })

    ahead_is : (k : ℕ) (d : PortEnds S K C) → k < length first → (get_or ports k d).ahead ≡ ahead.Unread
    ahead_is k d inside = ap (λ (p : PortEnds S K C). p.ahead) (only.each k d inside).same ∙ (unread k d inside).0

    source_is : (k : ℕ) (d : PortEnds S K C) → k < length first → (get_or first k d).ends.source ≡ (get_or ports k d).ends.source
    source_is k d inside = sym (ap (λ (p : PortEnds S K C). p.ends.source) (only.each k d inside).same)

    reader_is : (k : ℕ) (d : PortEnds S K C) → k < length first → (get_or first k d).reader ≡ (get_or ports k d).reader
    reader_is k d inside = sym (ap (λ (p : PortEnds S K C). p.reader) (only.each k d inside).same)

    ended_before : (pass : ℕ) → pass ≤ ticker_pass plan → has_ended empty pass before ≡ false
    ended_before pass low = ap (λ (l : List Row). has_ended empty pass l) before_is ∙ ended_begun plan empty known.ports plan.ports [] pass low

    -- control may end
    pub control_open : (plan' : Plan) → plan' ≡ plan → IsOpen plan' empty before Control
    control_open plan' same = subst (λ (p : Plan). IsOpen p empty before Control) (sym same) (record { known = refl; running = ended_before (control_pass plan) (omega arith) })

    over_none : (pass : ℕ) → pass ≤ ticker_pass plan → pass ≢ control_pass plan → has_ended_in plan pass (begun_at past) ≡ false
    over_none pass low other = sym (alike_in plan (begun_at past) pass plain_past) ∙ opened_ends plan before ends pass other ∙ ended_before pass low

    agree_at : (k : ℕ) → k < length (map head_of ports) → Agrees plan (begun_at past) k (get_or (map head_of ports) k Done)
    agree_at k inside =
        let sizes = length-map ports head_of in
        let size = only.size in
        let count = count_is first plan planned in
        let within : k < length first = omega arith in
        let d = element first k within in
        rw (head_at ports k d Done (omega arith), ahead_is k d within) (over_none k (omega arith) (λ same. absurd (omega arith)))

    goes_at_first : (k : ℕ) (d : PortEnds S K C) → k < length first → Goes left (get_or first k d) (get_or ports k d) []
    goes_at_first k d inside = record {
      before = [];
      taken_is = refl;
      gave = [];
      takes = ap left (source_is k d inside) ∙ sym (front_none (left (get_or ports k d).ends.source));
      read = rw (ahead_is k d inside, sym (reader_is k d inside)) (λ seen rest later ending comes. comes);
      comes = λ input will.
          subst (λ (a : Ahead). IfSome (left (get_or first k d).ends.source) (λ octets. WillGive (get_or first k d).reader (get_or first k d).buf a octets input)) (unread k d inside).0
          (subst (λ (p : PortEnds S K C). WillCome left p input) (only.each k d inside).same will);
    }

    keeps : (n : ℕ) → KeepsIn plan n (begun_at before) (begun_at past)
    keeps n = keeps_in plan (begun_at before) n past (opened_keeps plan before ends n)

    allowed_before : (stops : Stops) → ArePortsAllowed plan known stops (begun_at past) → ArePortsAllowed plan known stops (begun_at before)
    allowed_before stops allowed k d within =
        let n = get_or (numbers_of plan.ports) k d in
        subst (λ (c : ℕ). Allows (known.ports n) (stops.ports n) c) (keeps_pieces plan n (begun_at before) (begun_at past) (keeps n)) (allowed k d within)

    over_begun : (stops : Stops) → has_ended_in plan (control_pass plan) (run_begun plan stops) ≡ false
    over_begun stops =
        sym (alike_in plan (run_begun plan stops) (control_pass plan) (unpaused_begun plan empty stops.ports plan.ports [] refl))
        ∙ ended_begun plan empty stops.ports plan.ports [] (control_pass plan) (omega arith)

    -- control before the first turn
    start_control : (e : Option (ControlEnds S K C)) → IsControlUnheard e → (taken : List Turn) × ControlStands left written source_faults sink_faults plan (begun_at (opened plan before e)) None e e taken
        × ((stops : Stops) → begun_at before ≡ run_begun plan stops → Reaches plan stops (run_begun plan stops) (control_head e ∷ map head_of ports) (taken ∷ nothing_taken first) (begun_at (opened plan before e)))
    start_control None none = (
      control_turns None,
      (refl, sym (alike_in plan (begun_at (opened {S = S} {K = K} {C = C} plan before None)) (control_pass plan) (opened_plain {S = S} {K = K} {C = C} plan before None plain_before)) ∙ ended_now plan empty before Control hows.End),
      λ stops same.
          let size = only.size in
          let sizes = length-map ports head_of in
          let begins = run_begun plan stops in
          subst (λ (x : Run). Reaches plan stops begins (Done ∷ map head_of ports) (control_turns None ∷ nothing_taken first) (run_with x (with_event plan (base_in plan x) x.past (End Control hows.End)))) (sym same)
          (reaches_control plan stops begins (map head_of ports) (nothing_taken first) (over_begun stops) (λ rest size_r. nothing_joined first rest (omega arith))),
    )
    start_control (Some c) none = (
      [],
      control_starts left written source_faults sink_faults plan before c known.ports before_is none,
      λ stops same.
          let size = only.size in
          let sizes = length-map ports head_of in
          let begins = run_begun plan stops in
          subst (λ (x : Run). Reaches plan stops begins (line_head c.buf c.ahead ∷ map head_of ports) ([] ∷ nothing_taken first) x) (sym same)
          (reaches_unread plan stops begins (line_head c.buf c.ahead) (map head_of ports) (nothing_taken first) (λ rest size_r. nothing_joined first rest (omega arith))),
    )

    pub start : Running left written source_faults sink_faults plan ends ends first ports (begun_at past)
    start = let begins = start_control ends none_heard in record {
      taken = nothing_taken first;
      taken_size = nothing_count first;
      control_taken = begins.0;
      known = with_stop known None;
      reaches = λ stops allowed. begins.2 stops (begun_is stops (allowed_before stops allowed.ports));
      stands = record {
        later = begun_later left written source_faults sink_faults first ports only;
        sound = λ k d inside. rw (ahead_is k d inside) (subst (λ (p : PortEnds S K C). IsReadable p.reader) (sym (only.each k d inside).same) (unread k d inside).1);
        agree = agree_at;
        progress = λ k d inside.
            rw (nothing_at first k) (subst (λ (a : Ahead). ProgressBy left plan k (rows_of (begun_at past)) (get_or first k d) (get_or ports k d) [] a) (sym (ahead_is k d inside)) (goes_at_first k d inside));
        control = begins.1;
        ticker = over_none (ticker_pass plan) (omega arith) (λ same. absurd (omega arith));
        quiet = λ k inside.
            opened_quiet plan before ends (number_at plan k) (ap (λ (l : List Row). queue plan empty (number_at plan k) l) before_is ∙ empty_begun plan empty known.ports plan.ports [] (number_at plan k) refl);
        outputs = record {
          size = outputs.size;
          each = λ k d inside.
              let was = outputs.each k d inside in
              let n = number_of (get_or first k d).port in
              record {
                port = was.port;
                later = was.later;
                output = output_kept written sink_faults plan n (begun_at before) (begun_at past) (get_or first k d).ends.sink (get_or ports k d).ends.sink (known.ports n) (keeps n) was.output;
              };
        };
        plain = plain_past;
      };
    }

  -- what a turn may ask of the ends, and of the run in which it is entered
  module _ (ends_first : Option (ControlEnds S K C)) (taken : List (List Turn)) (control_taken : List Turn) (known : Stops) (run : Run) (s : Standing left written source_faults sink_faults plan ends_first ends first ports taken control_taken known run) where
    pub planned_now : ports_held ports ≡ ports_planned plan
    planned_now = held_same left written source_faults sink_faults first ports s.later ∙ planned

    number_now : (k : ℕ) (d : PortEnds S K C) → k < length ports → number_of (get_or ports k d).port ≡ number_at plan k
    number_now k d inside = number_is ports plan k d planned_now inside

    known_now : (k : ℕ) (d : PortEnds S K C) → k < length ports → has_port plan (number_of (get_or ports k d).port) ≡ true
    known_now k d inside = let count = count_is ports plan planned_now in ap (has_port plan) (number_now k d inside) ∙ known_at plan k (omega arith)

    pub sound_now : All (λ p. IsSoundAhead p.reader p.ahead) ports
    sound_now k d inside = let size = s.later.size in s.sound k d (omega arith)

    pub quiet_now : All (λ p. queue plan (base_in plan run) (number_of p.port) run.past ≡ []) ports
    quiet_now k d inside =
        let count = count_is ports plan planned_now in
        ap (λ (n : ℕ). queue plan (base_in plan run) n run.past) (number_now k d inside) ∙ s.quiet k (omega arith)

    pub input_open : (k : ℕ) (d : PortEnds S K C) → k < length ports → has_ended (base_in plan run) k run.past ≡ false → IsOpen plan (base_in plan run) run.past (Ingress (get_or ports k d).port)
    input_open k d inside running =
        let count = count_is ports plan planned_now in
        let pass : pass_of plan (Ingress (get_or ports k d).port) ≡ k = ap (place_of plan) (number_now k d inside) ∙ place_at plan k rising (omega arith) in
        record { known = known_now k d inside; running = ap (λ (n : ℕ). has_ended (base_in plan run) n run.past) pass ∙ running }

    pub ticker_now : has_ended (base_in plan run) (ticker_pass plan) run.past ≡ false
    ticker_now = alike_in plan run (ticker_pass plan) s.plain ∙ s.ticker
