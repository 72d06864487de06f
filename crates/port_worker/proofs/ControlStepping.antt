-- The turn of control, and how control stands behind it.
use Rattle.std.proofs.Common.{◌≡◌, ◌≢◌, ℕ, ◌+◌, ◌<◌, ◌≤◌, Bool, true, false, List, [], ◌∷◌, ◌++◌, length, refl, sym, ap, ◌∙◌, subst, arith, ◌⊎◌, inl, inr, Option, Some, None, IfSome}
use Rattle.savi_kinds.specs.declared.plan.Plan.{Plan}
use Rattle.savi_kinds.specs.declared.entry.Who.TheVariants.{Control}
use Rattle.savi_kinds.specs.declared.entry.Who.TheVariants as passes
use Rattle.savi_kinds.specs.declared.entry.How.{How}
use Rattle.savi_kinds.specs.declared.entry.How.TheVariants as hows
use Rattle.savi_ends.specs.Faults.{Rose}
use Rattle.savi_ends.specs.Octets.{Takes}
use Rattle.cli_lang.specs.Arrivals.{Line}
use Rattle.cli_lang.specs.Readers.{State, Comes, IsFaultAt, longest_reach}
use Rattle.hist_store.specs.Rows.{Row}
use Rattle.checkpoint.specs.Bases.{Base}
use Rattle.savi_history.specs.ControlInputs.{control_end, entered_lines}
use Rattle.savi_history.specs.Events.{Command, End}
use Rattle.savi_history.specs.Passes.{control_pass, has_ended}
use Rattle.savi_history.specs.Readable.{IsControlEnding}
use Rattle.savi_history.specs.Replay.{Stops, with_event, with_reply, drained, entered}
use Rattle.savi_history.specs.Turns.{Turn, Arrives, Commands, Ends}
use Rattle.savi_history.proofs.ControlSame.{ControlSame, control_drained}
use Rattle.savi_segments.specs.Replay.{Run, base_in, has_ended_in, run_with, stops_left}
use Rattle.savi_segments.proofs.Reaching.{Agrees, Known}
use Rattle.savi_history.proofs.Replying.{behind_reply}
use Rattle.savi_history.proofs.Waiting.{ended_now}
use Rattle.port_worker.specs.declared.control_ends.ControlEnds.{ControlEnds}
use Rattle.port_worker.specs.declared.control_ends.LineAhead.{LineAhead}
use Rattle.port_worker.specs.declared.control_ends.LineAhead.TheVariants as ahead
use Rattle.port_worker.specs.ControlOutputs.{AreReplies}
use Rattle.port_worker.specs.LineInputs.{IsHearing, IsLineSound, control_turn_of, line_moment_ahead, line_read, line_turn_ahead}
use Rattle.port_worker.specs.LineSteps.{IsControlStepped, line_ahead_after}
use Rattle.port_worker.proofs.ControlProgress.{HeardAhead, HeardOut, HeardSoFar, at_fault_as, end_out, fail_out, line_head, line_on, line_out}
use Rattle.port_worker.proofs.ControlRunning.{ControlRuns, LineProgress, line_weight}
use Rattle.port_worker.proofs.Hearing.{IsSeenEnd, of_lines, start}
use Rattle.port_worker.proofs.Later.{took_again}
use Rattle.port_worker.proofs.RowsHeld.{control_ended_in, control_in, lines_in, over_as, rows_of}
use Rattle.port_worker.proofs.Unbroken.{IsUnpaused, alike_in}

-- the turn is one of control
abbrev pub IsControls : Turn → Type 0
IsControls (Arrives port arrival) = ⊥
IsControls (Commands line) = Unit {0}
IsControls (Ends (passes.Ingress port) how) = ⊥
IsControls (Ends passes.Control how) = Unit {0}
IsControls (Ends passes.Ticker how) = ⊥
IsControls (Ends (passes.Egress port) how) = ⊥

same_turn : (t u : Turn) → Some t ≡ Some u → u ≡ t
same_turn t u is = cc

pub line_turn : (buf : List ℕ) (a : LineAhead) (turn : Turn) → line_turn_ahead buf a ≡ Some turn → IsControls turn
line_turn buf ahead.Unread turn is = cc
line_turn buf (ahead.Line stamp len) turn is = rw (same_turn (Commands (line_read stamp len buf)) turn is) tt
line_turn buf ahead.End turn is = rw (same_turn (Ends Control hows.End) turn is) tt
line_turn buf (ahead.Malformed at) turn is = rw (same_turn (Ends Control (hows.Malformed at)) turn is) tt
line_turn buf (ahead.Overlong at) turn is = rw (same_turn (Ends Control (hows.Overlong at)) turn is) tt
line_turn buf ahead.Failed turn is = rw (same_turn (Ends Control hows.Failed) turn is) tt
line_turn buf ahead.Done turn is = cc

-- where a moment is known, so is the turn
pub line_at_moment : (buf : List ℕ) (a : LineAhead) (n : ℕ) → line_moment_ahead a ≡ Some n → (t : Turn) × (line_turn_ahead buf a ≡ Some t) × (line_head buf a ≡ Known t)
line_at_moment buf ahead.Unread n is = cc
line_at_moment buf (ahead.Line stamp len) n is = (_, refl, refl)
line_at_moment buf ahead.End n is = (_, refl, refl)
line_at_moment buf (ahead.Malformed at) n is = (_, refl, refl)
line_at_moment buf (ahead.Overlong at) n is = (_, refl, refl)
line_at_moment buf ahead.Failed n is = (_, refl, refl)
line_at_moment buf ahead.Done n is = cc

-- where none is, control is done
pub line_done_at_none : (a : LineAhead) → (a ≡ ahead.Unread → ⊥) → line_moment_ahead a ≡ None → a ≡ ahead.Done
line_done_at_none ahead.Unread known is = absurd (known refl)
line_done_at_none (ahead.Line stamp len) known is = cc
line_done_at_none ahead.End known is = cc
line_done_at_none (ahead.Malformed at) known is = cc
line_done_at_none (ahead.Overlong at) known is = cc
line_done_at_none ahead.Failed known is = cc
line_done_at_none ahead.Done known is = refl

-- what a line makes of what a history holds of control
pub record GoesOn (plan : Plan) (base : Base) (line : Line) (past now : List Row) : Type 0 where
  pub running : has_ended base (control_pass plan) now ≡ false
  pub lines : entered_lines now ≡ entered_lines past ++ line ∷ []
  pub end_same : control_end now ≡ control_end past

pub record IsOver (plan : Plan) (base : Base) (past now : List Row) : Type 0 where
  pub ended : has_ended base (control_pass plan) now ≡ true
  pub how : How
  pub which : (how ≡ hows.Unwritten) ⊎ (how ≡ hows.Quit)
  pub said : control_end now ≡ Some how

abbrev pub LineMakes : Plan → Base → Line → List Row → List Row → Type 0
LineMakes plan base line past now = GoesOn plan base line past now ⊎ IsOver plan base past now

no_failure : (how : How) → (how ≡ hows.Unwritten) ⊎ (how ≡ hows.Quit) → Some how ≡ Some hows.Failed → ⊥
no_failure how (inl is) same = cc
no_failure how (inr is) same = cc

no_fault : (how : How) → (how ≡ hows.Unwritten) ⊎ (how ≡ hows.Quit) → (at : ℕ) → IsFaultAt how at → ⊥
no_fault how (inl is) at fault = subst (λ (h : How). IsFaultAt h at) is fault
no_fault how (inr is) at fault = subst (λ (h : How). IsFaultAt h at) is fault

module _ (plan : Plan) (base : Base) (stops : Stops) (line : Line) (past : List Row) where
  abbrev mid : List Row
  mid = with_event plan base past (Command line.stamp line.command)

  makes_same : (now later : List Row) → ControlSame plan base now later → LineMakes plan base line past now → LineMakes plan base line past later
  makes_same now later same (inl on) = inl (record { running = same.ended_same ∙ on.running; lines = same.lines_same ∙ on.lines; end_same = same.end_same ∙ on.end_same })
  makes_same now later same (inr over) = inr (record { ended = same.ended_same ∙ over.ended; how = over.how; which = over.which; said = same.end_same ∙ over.said })

  ends_so : (how : How) → (how ≡ hows.Unwritten) ⊎ (how ≡ hows.Quit) → LineMakes plan base line past (with_event plan base mid (End Control how))
  ends_so how which = inr (record { ended = ended_now plan base mid Control how; how = how; which = which; said = refl })

  pub line_makes : has_ended base (control_pass plan) past ≡ false → LineMakes plan base line past (entered plan base stops (Commands line) past)
  line_makes running =
      let answered = with_reply plan base stops.control line mid in
      let behind : LineMakes plan base line past answered =
      behind_reply plan base line mid (λ now. LineMakes plan base line past now) (inl (record { running = running; lines = refl; end_same = refl })) (ends_so hows.Unwritten (inl refl)) (ends_so hows.Quit (inr refl)) stops.control in
      makes_same answered (drained plan base stops.ports plan.ports answered) (control_drained plan base stops.ports plan.ports answered) behind

-- what is known of control's input behind a turn

agrees_after : (plan : Plan) (now : Run) (buf : List ℕ) (b : Bool) → has_ended_in plan (control_pass plan) now ≡ b → Agrees plan now (control_pass plan) (line_head buf (line_ahead_after b))
agrees_after plan now buf true is = is
agrees_after plan now buf false is = is

-- behind a turn less may come
less_by : (state : State) (a : LineAhead) (b : Bool) → (b ≡ false → line_weight state ahead.Unread < line_weight state a) → 0 < line_weight state a → line_weight state (line_ahead_after b) < line_weight state a
less_by state a true open_so some = some
less_by state a false open_so some = open_so refl

never_failed : (b : Bool) → line_ahead_after b ≡ ahead.Failed → ⊥
never_failed true failed = cc
never_failed false failed = cc

module _ {S K C : Type 0} (left : S → Option (List ℕ)) (written : K → Option (List ℕ)) (source_faults : S → ℕ) (sink_faults : K → ℕ) (plan : Plan) (stops : Stops) (run : Run) (now : List Row) (stop stop_now : Option ℕ) (first old new : ControlEnds S K C) (taken : List Turn) (turn : Turn) (none_run : IsUnpaused run.past) (none_now : IsUnpaused now)
    (runs : ControlRuns left written source_faults sink_faults plan run stop first old taken) (stepped : IsControlStepped written sink_faults old new) (turn_is : control_turn_of old ≡ Some turn) (now_is : now ≡ entered plan (base_in plan run) (stops_left plan stops run) turn run.past)
    (ahead_is : new.ahead ≡ line_ahead_after (has_ended (base_in plan run) (control_pass plan) now)) (replied : AreReplies written sink_faults plan (run_with run now) first.ends.sink new.ends.sink stop_now) where
  abbrev base : Base
  base = base_in plan run

  abbrev after : Run
  after = run_with run now

  source_is : new.ends.source ≡ old.ends.source
  source_is = ap (λ (c : ControlEnds S K C). c.ends.source) stepped.same

  reader_is : new.reader ≡ old.reader
  reader_is = ap (λ (c : ControlEnds S K C). c.reader) stepped.same

  clock_is : new.ends.clock ≡ old.ends.clock
  clock_is = ap (λ (c : ControlEnds S K C). c.ends.clock) stepped.same

  abbrev Now : Type 0
  Now = ControlRuns left written source_faults sink_faults plan after stop_now first new (taken ++ turn ∷ [])

  runs_by : (b : Bool) → has_ended base (control_pass plan) now ≡ b → IsLineSound new.reader (line_ahead_after b) → LineProgress left plan (rows_of after) first new (taken ++ turn ∷ []) (line_ahead_after b)
      → (control_end (rows_of after) ≡ Some hows.Failed → Rose (source_faults first.ends.source) (source_faults old.ends.source))
      → (control_end (rows_of after) ≢ Some hows.Failed → source_faults old.ends.source ≡ source_faults first.ends.source) → Now
  runs_by b ended sound progress broken still =
      let there : new.ahead ≡ line_ahead_after b = ahead_is ∙ ap line_ahead_after ended in
      record {
        used = record {
          gave = subst (λ (s : S). (octets : List ℕ) × Takes (left first.ends.source) (left s) octets) (sym source_is) runs.used.gave;
          took = took_again (written first.ends.sink) (written old.ends.sink) (written new.ends.sink) runs.used.took stepped.took;
          clock = clock_is ∙ runs.used.clock;
        };
        source = subst (λ (s : S). source_faults first.ends.source ≤ source_faults s) (sym source_is) runs.source;
        sink = omega (arith, runs.sink, stepped.later);
        sound = subst (λ (a : LineAhead). IsLineSound new.reader a) (sym there) sound;
        agrees = subst (λ (a : LineAhead). Agrees plan after (control_pass plan) (line_head new.buf a)) (sym there) (agrees_after plan after new.buf b (over_as run now none_run none_now plan (control_pass plan) b ended));
        progress = subst (λ (a : LineAhead). LineProgress left plan (rows_of after) first new (taken ++ turn ∷ []) a) (sym there) progress;
        replied = replied;
        failed = λ failed. absurd (never_failed b (sym there ∙ failed));
        broken = λ ended_so. subst (λ (s : S). Rose (source_faults first.ends.source) (source_faults s)) (sym source_is) (broken ended_so);
        still = λ other others. ap source_faults source_is ∙ still others;
      }

  -- no read has failed where none is known of
  quiet : old.ahead ≢ ahead.Failed → HeardSoFar left (rows_of run) first old taken → source_faults old.ends.source ≡ source_faults first.ends.source
  quiet other so_far = runs.still other (λ failed. let e : None ≡ Some hows.Failed = sym so_far.running ∙ failed in cc)

  -- a line

  module _ (stamp len : ℕ) (is : old.ahead ≡ ahead.Line stamp len) where
    abbrev line : Line
    line = line_read stamp len old.buf

    so_far : HeardSoFar left (rows_of run) first old taken
    so_far = subst (λ (a : LineAhead). LineProgress left plan (rows_of run) first old taken a) is runs.progress

    is_commands : turn ≡ Commands line
    is_commands = same_turn (Commands line) turn (subst (λ (a : LineAhead). line_turn_ahead old.buf a ≡ Some turn) is turn_is)

    running : has_ended base (control_pass plan) run.past ≡ false
    running = alike_in plan run (control_pass plan) none_run ∙ subst (λ (a : LineAhead). Agrees plan run (control_pass plan) (line_head old.buf a)) is runs.agrees

    made : LineMakes plan base line run.past now
    made =
        subst (λ (l : List Row). LineMakes plan base line run.past l) (sym (now_is ∙ ap (λ (t : Turn). entered plan base (stops_left plan stops run) t run.past) is_commands))
        (line_makes plan base (stops_left plan stops run) line run.past running)

    hears : IsHearing new.reader
    hears = subst (λ (s : State). IsHearing s) (sym reader_is) (subst (λ (a : LineAhead). IsLineSound old.reader a) is runs.sound).1

    line_quiet : source_faults old.ends.source ≡ source_faults first.ends.source
    line_quiet = quiet (λ failed. let e : ahead.Line stamp len ≡ ahead.Failed = sym is ∙ failed in cc) so_far

    none_failed : control_end (rows_of after) ≡ None → control_end (rows_of after) ≡ Some hows.Failed → ⊥
    none_failed none failed = let e : None ≡ Some hows.Failed = sym none ∙ failed in cc

    line_by : LineMakes plan base line run.past now → Now
    line_by (inl on) =
        let there : new.ahead ≡ ahead.Unread = ahead_is ∙ ap line_ahead_after on.running in
        let none : control_end (rows_of after) ≡ None = control_in run now none_run none_now on.end_same ∙ so_far.running in
        runs_by false on.running hears
        (subst (λ (t : Turn). HeardSoFar left (rows_of after) first new (taken ++ t ∷ [])) (sym is_commands)
        (line_on left plan (rows_of run) (rows_of after) first old new taken so_far source_is reader_is stamp len is there (lines_in run now none_run none_now (line ∷ []) on.lines) none))
        (λ failed. absurd (none_failed none failed))
        (λ others. line_quiet)
    line_by (inr over) =
        let said : control_end (rows_of after) ≡ Some over.how = control_ended_in run now none_run none_now over.how over.said in
        runs_by true over.ended tt
        (subst (λ (t : Turn). HeardOut left plan (rows_of after) first new (taken ++ t ∷ [])) (sym is_commands)
        (line_out left plan (rows_of run) (rows_of after) first old new taken so_far source_is reader_is stamp len is
        (λ ending at is_so fault. no_fault over.how over.which at (at_fault_as over.how ending at (sym said ∙ is_so) fault))))
        (λ failed. absurd (no_failure over.how over.which (sym said ∙ failed)))
        (λ others. line_quiet)

    line_stepped : Now
    line_stepped = line_by made

  -- an ending

  module _ (ending : How) (is_end : turn ≡ Ends Control ending) where
    end_made : now ≡ with_event plan base run.past (End Control ending)
    end_made = now_is ∙ ap (λ (t : Turn). entered plan base (stops_left plan stops run) t run.past) is_end

    ended : has_ended base (control_pass plan) now ≡ true
    ended = ap (λ (l : List Row). has_ended base (control_pass plan) l) end_made ∙ ended_now plan base run.past Control ending

    ends_as : control_end (rows_of after) ≡ Some ending
    ends_as = control_ended_in run now none_run none_now ending (ap (λ (l : List Row). control_end l) end_made)

    some_other : ending ≢ hows.Failed → control_end (rows_of after) ≡ Some hows.Failed → ⊥
    some_other other failed = let e : Some ending ≡ Some hows.Failed = sym ends_as ∙ failed in other cc

    end_stepped : IsSeenEnd ending → IsControlEnding ending → ending ≢ hows.Failed → old.ahead ≢ ahead.Failed → (so_far : HeardSoFar left (rows_of run) first old taken) → IfSome (left first.ends.source) (λ octets. Comes false true start octets (of_lines so_far.before ending)) → ((at : ℕ) → IsFaultAt ending at → length so_far.gave ≤ at + longest_reach) → Now
    end_stepped seen fine other apart so_far whole few =
        runs_by true ended tt
        (subst (λ (t : Turn). HeardOut left plan (rows_of after) first new (taken ++ t ∷ [])) (sym is_end) (end_out left plan (rows_of run) (rows_of after) first old new taken so_far source_is reader_is ending seen fine ends_as whole few))
        (λ failed. absurd (some_other other failed))
        (λ others. quiet apart so_far)

  fail_stepped : old.ahead ≡ ahead.Failed → Now
  fail_stepped is =
      let so_far : HeardSoFar left (rows_of run) first old taken = subst (λ (a : LineAhead). LineProgress left plan (rows_of run) first old taken a) is runs.progress in
      let is_end : turn ≡ Ends Control hows.Failed = same_turn (Ends Control hows.Failed) turn (subst (λ (a : LineAhead). line_turn_ahead old.buf a ≡ Some turn) is turn_is) in
      let comes : Comes false false start so_far.gave (of_lines so_far.before hows.Failed) =
      subst (λ (a : LineAhead). HeardAhead (left first.ends.source) (left old.ends.source) old.reader so_far.gave old.buf so_far.before a) is so_far.heard in
      runs_by true (ended hows.Failed is_end) tt
      (subst (λ (t : Turn). HeardOut left plan (rows_of after) first new (taken ++ t ∷ [])) (sym is_end) (fail_out left plan (rows_of run) (rows_of after) first old new taken so_far source_is reader_is (ends_as hows.Failed is_end) comes))
      (λ failed. runs.failed is)
      (λ others. absurd (others (ends_as hows.Failed is_end)))

  whole_stepped : (a : LineAhead) (ending : How) → old.ahead ≡ a → Some (Ends Control ending) ≡ line_turn_ahead old.buf a → IsSeenEnd ending → IsControlEnding ending → ending ≢ hows.Failed
      → ((so_far : HeardSoFar left (rows_of run) first old taken) → HeardAhead (left first.ends.source) (left old.ends.source) old.reader so_far.gave old.buf so_far.before a → IfSome (left first.ends.source) (λ octets. Comes false true start octets (of_lines so_far.before ending)) × ((at : ℕ) → IsFaultAt ending at → length so_far.gave ≤ at + longest_reach))
      → (LineProgress left plan (rows_of run) first old taken a → HeardSoFar left (rows_of run) first old taken) → Now
  whole_stepped a ending is which seen fine other whole goes =
      let so_far : HeardSoFar left (rows_of run) first old taken = goes (subst (λ (b : LineAhead). LineProgress left plan (rows_of run) first old taken b) is runs.progress) in
      let is_end : turn ≡ Ends Control ending = same_turn (Ends Control ending) turn (which ∙ subst (λ (b : LineAhead). line_turn_ahead old.buf b ≡ Some turn) is turn_is) in
      let apart : old.ahead ≢ ahead.Failed = λ failed. other (let e : Some (Ends Control ending) ≡ Some (Ends Control hows.Failed) = which ∙ ap (line_turn_ahead old.buf) (sym is ∙ failed) in cc) in
      let here = whole so_far (subst (λ (b : LineAhead). HeardAhead (left first.ends.source) (left old.ends.source) old.reader so_far.gave old.buf so_far.before b) is so_far.heard) in
      end_stepped ending is_end seen fine other apart so_far here.0 here.1

  stepped_at : (a : LineAhead) → old.ahead ≡ a → line_turn_ahead old.buf a ≡ Some turn → Now
  stepped_at ahead.Unread is there = cc
  stepped_at (ahead.Line stamp len) is there = line_stepped stamp len is
  stepped_at ahead.End is there = whole_stepped ahead.End hows.End is refl tt tt (λ same. cc) (λ so_far heard. (heard, λ place fault. absurd fault)) (λ so_far. so_far)
  stepped_at (ahead.Malformed at) is there =
      whole_stepped (ahead.Malformed at) (hows.Malformed at) is refl tt (subst (λ (a : LineAhead). IsLineSound old.reader a) is runs.sound) (λ same. cc) (λ so_far heard. (heard.0, λ place fault. omega (arith, heard.1, fault))) (λ so_far. so_far)
  stepped_at (ahead.Overlong at) is there =
      whole_stepped (ahead.Overlong at) (hows.Overlong at) is refl tt (subst (λ (a : LineAhead). IsLineSound old.reader a) is runs.sound) (λ same. cc) (λ so_far heard. (heard.0, λ place fault. omega (arith, heard.1, fault))) (λ so_far. so_far)
  stepped_at ahead.Failed is there = fail_stepped is
  stepped_at ahead.Done is there = cc

  pub control_stepped : Now
  control_stepped = stepped_at old.ahead refl turn_is

  -- less may come than before
  weighs_at : (a : LineAhead) → line_turn_ahead old.buf a ≡ Some turn → line_weight old.reader new.ahead < line_weight old.reader a
  weighs_at a there = subst (λ (b : LineAhead). line_weight old.reader b < line_weight old.reader a) (sym ahead_is) (by_turn a there)
    where
      ended_so : (ending : How) → turn ≡ Ends Control ending → has_ended base (control_pass plan) now ≡ true
      ended_so ending is_end = ended ending is_end

      open_less : (a : LineAhead) (ending : How) → turn ≡ Ends Control ending → has_ended base (control_pass plan) now ≡ false → line_weight old.reader ahead.Unread < line_weight old.reader a
      open_less a ending is_end open_so = let e : true ≡ false = sym (ended_so ending is_end) ∙ open_so in cc

      by_turn : (a : LineAhead) → line_turn_ahead old.buf a ≡ Some turn → line_weight old.reader (line_ahead_after (has_ended base (control_pass plan) now)) < line_weight old.reader a
      by_turn ahead.Unread there = cc
      by_turn (ahead.Line stamp len) there = less_by old.reader (ahead.Line stamp len) (has_ended base (control_pass plan) now) (λ open_so. omega arith) (omega arith)
      by_turn ahead.End there = less_by old.reader ahead.End (has_ended base (control_pass plan) now) (open_less ahead.End hows.End (same_turn (Ends Control hows.End) turn there)) (omega arith)
      by_turn (ahead.Malformed at) there =
          less_by old.reader (ahead.Malformed at) (has_ended base (control_pass plan) now) (open_less (ahead.Malformed at) (hows.Malformed at) (same_turn (Ends Control (hows.Malformed at)) turn there)) (omega arith)
      by_turn (ahead.Overlong at) there =
          less_by old.reader (ahead.Overlong at) (has_ended base (control_pass plan) now) (open_less (ahead.Overlong at) (hows.Overlong at) (same_turn (Ends Control (hows.Overlong at)) turn there)) (omega arith)
      by_turn ahead.Failed there = less_by old.reader ahead.Failed (has_ended base (control_pass plan) now) (open_less ahead.Failed hows.Failed (same_turn (Ends Control hows.Failed) turn there)) (omega arith)
      by_turn ahead.Done there = cc

  pub control_smaller : line_weight new.reader new.ahead < line_weight old.reader old.ahead
  control_smaller = subst (λ (s : State). line_weight s new.ahead < line_weight old.reader old.ahead) (sym reader_is) (weighs_at old.ahead turn_is)
