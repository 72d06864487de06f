-- The ends of control between two turns.
use Rattle.std.proofs.Common.{◌≡◌, ◌≢◌, ℕ, ◌+◌, ◌*◌, ◌≤◌, true, false, List, refl, sym, ◌∙◌, subst, arith, Option, Some, None}
use Rattle.savi_kinds.specs.declared.plan.Plan.{Plan}
use Rattle.savi_kinds.specs.declared.entry.How.{How}
use Rattle.savi_kinds.specs.declared.entry.How.TheVariants as hows
use Rattle.savi_ends.specs.Faults.{Rose}
use Rattle.savi_ends.proofs.FaultCounts.{rose_since}
use Rattle.cli_lang.specs.Readers.{State}
use Rattle.hist_store.specs.Rows.{Row}
use Rattle.savi_history.specs.ControlInputs.{control_end}
use Rattle.savi_history.specs.Passes.{control_pass}
use Rattle.savi_history.specs.PortOutputs.{TookPieces}
use Rattle.savi_history.specs.Turns.{Turn, control_turns}
use Rattle.savi_segments.specs.Replay.{Run, has_ended_in}
use Rattle.savi_segments.proofs.Reaching.{Head, Unread, Known, Done, Agrees, IsLeft, IsRead}
use Rattle.port_worker.specs.declared.control_ends.ControlEnds.{ControlEnds}
use Rattle.port_worker.specs.declared.control_ends.LineAhead.{LineAhead}
use Rattle.port_worker.specs.declared.control_ends.LineAhead.TheVariants as ahead
use Rattle.port_worker.specs.ControlOutputs.{AreReplies}
use Rattle.port_worker.specs.ControlServed.{IsControlInputOf}
use Rattle.port_worker.specs.LineInputs.{IsControlHeard, IsControlKnown, IsHeard, IsHeardAs, IsLineKnown, IsLineSound}
use Rattle.port_worker.specs.Used.{IsUsed}
use Rattle.port_worker.proofs.ControlProgress.{HeardOut, HeardSoFar, control_head, heard_look, line_head}
use Rattle.port_worker.proofs.Later.{gave_again}
use Rattle.port_worker.proofs.LinesLeft.{lines_left, line_less}
use Rattle.port_worker.proofs.RowsHeld.{ControlKept, rows_of}

-- how far control's input has come, by what was read of it
abbrev pub LineProgress : {S K C : Type 0} → (S → Option (List ℕ)) → Plan → List Row → ControlEnds S K C → ControlEnds S K C → List Turn → LineAhead → Type 0
LineProgress left plan past first now taken ahead.Unread = HeardSoFar left past first now taken
LineProgress left plan past first now taken (ahead.Line stamp len) = HeardSoFar left past first now taken
LineProgress left plan past first now taken ahead.End = HeardSoFar left past first now taken
LineProgress left plan past first now taken (ahead.Malformed at) = HeardSoFar left past first now taken
LineProgress left plan past first now taken (ahead.Overlong at) = HeardSoFar left past first now taken
LineProgress left plan past first now taken ahead.Failed = HeardSoFar left past first now taken
LineProgress left plan past first now taken ahead.Done = HeardOut left plan past first now taken

pub record ControlRuns {S K C : Type 0} (left : S → Option (List ℕ)) (written : K → Option (List ℕ)) (source_faults : S → ℕ) (sink_faults : K → ℕ) (plan : Plan) (run : Run) (stop : Option ℕ) (first now : ControlEnds S K C) (taken : List Turn) : Type 0 where
  pub used : IsUsed left written first.ends now.ends
  pub source : source_faults first.ends.source ≤ source_faults now.ends.source
  pub sink : sink_faults first.ends.sink ≤ sink_faults now.ends.sink
  pub sound : IsLineSound now.reader now.ahead
  pub agrees : Agrees plan run (control_pass plan) (line_head now.buf now.ahead)
  pub progress : LineProgress left plan (rows_of run) first now taken now.ahead
  pub replied : AreReplies written sink_faults plan run first.ends.sink now.ends.sink stop
  -- a read that failed, entered or not, was a fault of the source
  pub failed : now.ahead ≡ ahead.Failed → Rose (source_faults first.ends.source) (source_faults now.ends.source)
  pub broken : control_end (rows_of run) ≡ Some hows.Failed → Rose (source_faults first.ends.source) (source_faults now.ends.source)
  -- and there was no other one
  pub still : now.ahead ≢ ahead.Failed → control_end (rows_of run) ≢ Some hows.Failed → source_faults now.ends.source ≡ source_faults first.ends.source

-- The same of control's ends, where there are any; else its input has ended at once.
abbrev pub ControlStands : {S K C : Type 0} → (S → Option (List ℕ)) → (K → Option (List ℕ)) → (S → ℕ) → (K → ℕ) → Plan → Run → Option ℕ → Option (ControlEnds S K C) → Option (ControlEnds S K C) → List Turn → Type 0
ControlStands left written source_faults sink_faults plan run stop None None taken = (taken ≡ control_turns None) × (has_ended_in plan (control_pass plan) run ≡ true)
ControlStands left written source_faults sink_faults plan run stop None (Some now) taken = ⊥
ControlStands left written source_faults sink_faults plan run stop (Some first) None taken = ⊥
ControlStands left written source_faults sink_faults plan run stop (Some first) (Some now) taken = ControlRuns left written source_faults sink_faults plan run stop first now taken

line_read_known : (buf : List ℕ) (a : LineAhead) → IsLineKnown a → IsRead (line_head buf a)
line_read_known buf ahead.Unread known = absurd known
line_read_known buf (ahead.Line stamp len) known = tt
line_read_known buf ahead.End known = tt
line_read_known buf (ahead.Malformed at) known = tt
line_read_known buf (ahead.Overlong at) known = tt
line_read_known buf ahead.Failed known = tt
line_read_known buf ahead.Done known = tt

pub control_read : {S K C : Type 0} (ends : Option (ControlEnds S K C)) → IsControlKnown ends → IsRead (control_head ends)
control_read None known = tt
control_read (Some c) known = line_read_known c.buf c.ahead known

-- how much may still come on control: a line is one more than what is left behind it, and what is left is read and entered
abbrev pub line_weight : State → LineAhead → ℕ
line_weight state ahead.Unread = 2 * lines_left state + 1
line_weight state (ahead.Line stamp len) = 2 * lines_left state + 2
line_weight state ahead.End = 1
line_weight state (ahead.Malformed at) = 1
line_weight state (ahead.Overlong at) = 1
line_weight state ahead.Failed = 1
line_weight state ahead.Done = 0

abbrev pub control_weight : {S K C : Type 0} → Option (ControlEnds S K C) → ℕ
control_weight None = 0
control_weight (Some c) = line_weight c.reader c.ahead

unread_done : (a : LineAhead) → a ≡ ahead.Unread → a ≡ ahead.Done → ⊥
unread_done a unread done = cc

-- an input that isn't done is open
open_from : (plan : Plan) (run : Run) (pass : ℕ) (buf : List ℕ) (a : LineAhead) → (a ≡ ahead.Done → ⊥) → has_ended_in plan pass run ≡ false → Agrees plan run pass (line_head buf a)
open_from plan run pass buf ahead.Unread other is = is
open_from plan run pass buf (ahead.Line stamp len) other is = is
open_from plan run pass buf ahead.End other is = is
open_from plan run pass buf (ahead.Malformed at) other is = is
open_from plan run pass buf (ahead.Overlong at) other is = is
open_from plan run pass buf ahead.Failed other is = is
open_from plan run pass buf ahead.Done other is = absurd (other refl)

so_far_as : {S K C : Type 0} (left : S → Option (List ℕ)) (plan : Plan) (past : List Row) (first now : ControlEnds S K C) (taken : List Turn) (a : LineAhead) → (a ≡ ahead.Done → ⊥) → HeardSoFar left past first now taken → LineProgress left plan past first now taken a
so_far_as left plan past first now taken ahead.Unread other so_far = so_far
so_far_as left plan past first now taken (ahead.Line stamp len) other so_far = so_far
so_far_as left plan past first now taken ahead.End other so_far = so_far
so_far_as left plan past first now taken (ahead.Malformed at) other so_far = so_far
so_far_as left plan past first now taken (ahead.Overlong at) other so_far = so_far
so_far_as left plan past first now taken ahead.Failed other so_far = so_far
so_far_as left plan past first now taken ahead.Done other so_far = absurd (other refl)

-- behind a step that says nothing of control

agrees_kept : (plan : Plan) (run now : Run) (h : Head) → ControlKept plan run now → Agrees plan run (control_pass plan) h → Agrees plan now (control_pass plan) h
agrees_kept plan run now Unread same is = same.over_same ∙ is
agrees_kept plan run now (Known turn) same is = same.over_same ∙ is
agrees_kept plan run now Done same is = same.over_same ∙ is

replied_kept : {K : Type 0} (written : K → Option (List ℕ)) (sink_faults : K → ℕ) (plan : Plan) (run now : Run) (start sink : K) (stop : Option ℕ) → ControlKept plan run now → AreReplies written sink_faults plan run start sink stop → AreReplies written sink_faults plan now start sink stop
replied_kept written sink_faults plan run now start sink None same was = record {
  none = λ is. was.none (sym same.end_same ∙ is);
  took = subst (λ (l : List (List ℕ)). TookPieces (written start) (written sink) l None) (sym same.replies_same) was.took;
  still = was.still;
}
replied_kept written sink_faults plan run now start sink (Some whole) same was = record {
  ended = same.over_same ∙ was.ended;
  failed = same.end_same ∙ was.failed;
  took = subst (λ (l : List (List ℕ)). TookPieces (written start) (written sink) l (Some whole)) (sym same.replies_same) was.took;
  rose = was.rose;
}

unread_failed : (a : LineAhead) → a ≡ ahead.Unread → a ≡ ahead.Failed → ⊥
unread_failed a unread failed = cc

not_failed : (ending : Option How) → ending ≡ None → ending ≡ Some hows.Failed → ⊥
not_failed ending none failed = cc

-- a read leaves no more to come
weighs_read : (old new : State) (gave buf : List ℕ) (rest : Option (List ℕ)) (a : LineAhead) → IsHeardAs old new gave buf rest a → line_weight new a ≤ line_weight old ahead.Unread
weighs_read old new gave buf rest ahead.Unread is = absurd is
weighs_read old new gave buf rest (ahead.Line stamp len) is = let less = line_less old new gave rest _ is in omega (arith, less)
weighs_read old new gave buf rest ahead.End is = omega arith
weighs_read old new gave buf rest (ahead.Malformed at) is = omega arith
weighs_read old new gave buf rest (ahead.Overlong at) is = omega arith
weighs_read old new gave buf rest ahead.Failed is = omega arith
weighs_read old new gave buf rest ahead.Done is = absurd is

module _ {S K C : Type 0} (left : S → Option (List ℕ)) (written : K → Option (List ℕ)) (source_faults : S → ℕ) (sink_faults : K → ℕ) (plan : Plan) where
  pub control_agrees : (run : Run) (stop : Option ℕ) (first now : Option (ControlEnds S K C)) (taken : List Turn) → ControlStands left written source_faults sink_faults plan run stop first now taken → Agrees plan run (control_pass plan) (control_head now)
  control_agrees run stop None None taken stands = stands.1
  control_agrees run stop None (Some now) taken stands = absurd stands
  control_agrees run stop (Some first) None taken stands = absurd stands
  control_agrees run stop (Some first) (Some now) taken stands = stands.agrees

  -- to read on

  looked_unread : (run : Run) (stop : Option ℕ) (first old new : ControlEnds S K C) (taken : List Turn) → old.ahead ≡ ahead.Unread → IsHeard left source_faults old new
      → ControlRuns left written source_faults sink_faults plan run stop first old taken → ControlRuns left written source_faults sink_faults plan run stop first new taken
  looked_unread run stop first old new taken unread looked runs =
      let open_now : new.ahead ≡ ahead.Done → ⊥ = λ done. unread_done old.ahead unread (looked.done done) in
      let so_far : HeardSoFar left (rows_of run) first old taken = subst (λ (a : LineAhead). LineProgress left plan (rows_of run) first old taken a) unread runs.progress in
      let running : has_ended_in plan (control_pass plan) run ≡ false = subst (λ (a : LineAhead). Agrees plan run (control_pass plan) (line_head old.buf a)) unread runs.agrees in
      let goes_on : control_end (rows_of run) ≡ Some hows.Failed → ⊥ = not_failed (control_end (rows_of run)) so_far.running in
      record {
        used = record {
          gave = gave_again (left first.ends.source) (left old.ends.source) (left new.ends.source) runs.used.gave looked.gave;
          took = rw looked.sink runs.used.took;
          clock = looked.clock ∙ runs.used.clock;
        };
        source = omega (arith, runs.source, looked.later);
        sink = rw looked.sink runs.sink;
        sound = looked.sound;
        agrees = open_from plan run (control_pass plan) new.buf new.ahead open_now running;
        progress = so_far_as left plan (rows_of run) first new taken new.ahead open_now (heard_look left source_faults (rows_of run) first old new taken unread looked so_far);
        replied = subst (λ (k : K). AreReplies written sink_faults plan run first.ends.sink k stop) (sym looked.sink) runs.replied;
        failed = λ failed.
            rose_since (source_faults first.ends.source) (source_faults old.ends.source) (source_faults new.ends.source)
            (runs.still (unread_failed old.ahead unread) goes_on) (looked.failed unread failed);
        broken = λ ended_so. absurd (goes_on ended_so);
        still = λ other others. looked.still other ∙ runs.still (λ failed. unread_failed old.ahead unread failed) others;
      }

  looked_known : (run : Run) (stop : Option ℕ) (first old new : ControlEnds S K C) (taken : List Turn) (a : LineAhead) → old.ahead ≡ a → IsLineKnown a → IsHeard left source_faults old new
      → ControlRuns left written source_faults sink_faults plan run stop first old taken → ControlRuns left written source_faults sink_faults plan run stop first new taken
  looked_known run stop first old new taken a is known looked runs =
      subst (λ (c : ControlEnds S K C). ControlRuns left written source_faults sink_faults plan run stop first c taken) (sym (looked.same (subst IsLineKnown (sym is) known))) runs

  looked_at : (run : Run) (stop : Option ℕ) (first old new : ControlEnds S K C) (taken : List Turn) (a : LineAhead) → old.ahead ≡ a → IsHeard left source_faults old new
      → ControlRuns left written source_faults sink_faults plan run stop first old taken → ControlRuns left written source_faults sink_faults plan run stop first new taken
  looked_at run stop first old new taken ahead.Unread is looked runs = looked_unread run stop first old new taken is looked runs
  looked_at run stop first old new taken (ahead.Line stamp len) is looked runs = looked_known run stop first old new taken (ahead.Line stamp len) is tt looked runs
  looked_at run stop first old new taken ahead.End is looked runs = looked_known run stop first old new taken ahead.End is tt looked runs
  looked_at run stop first old new taken (ahead.Malformed at) is looked runs = looked_known run stop first old new taken (ahead.Malformed at) is tt looked runs
  looked_at run stop first old new taken (ahead.Overlong at) is looked runs = looked_known run stop first old new taken (ahead.Overlong at) is tt looked runs
  looked_at run stop first old new taken ahead.Failed is looked runs = looked_known run stop first old new taken ahead.Failed is tt looked runs
  looked_at run stop first old new taken ahead.Done is looked runs = looked_known run stop first old new taken ahead.Done is tt looked runs

  pub control_looked : (run : Run) (stop : Option ℕ) (first old new : Option (ControlEnds S K C)) (taken : List Turn) → IsControlHeard left source_faults old new
      → ControlStands left written source_faults sink_faults plan run stop first old taken → ControlStands left written source_faults sink_faults plan run stop first new taken
  control_looked run stop None None None taken looked stands = stands
  control_looked run stop None None (Some new) taken looked stands = absurd looked
  control_looked run stop None (Some old) new taken looked stands = absurd stands
  control_looked run stop (Some first) None new taken looked stands = absurd stands
  control_looked run stop (Some first) (Some old) None taken looked stands = absurd looked
  control_looked run stop (Some first) (Some old) (Some new) taken looked stands = looked_at run stop first old new taken old.ahead refl looked stands

  -- the turns that may be left where more is known may be left where less is
  line_left_known : (old new : ControlEnds S K C) (turns : List Turn) (a : LineAhead) → old.ahead ≡ a → IsLineKnown a → IsHeard left source_faults old new → IsLeft (line_head new.buf new.ahead) turns → IsLeft (line_head old.buf old.ahead) turns
  line_left_known old new turns a is known looked there = subst (λ (c : ControlEnds S K C). IsLeft (line_head c.buf c.ahead) turns) (looked.same (subst IsLineKnown (sym is) known)) there

  line_left : (old new : ControlEnds S K C) (turns : List Turn) (a : LineAhead) → old.ahead ≡ a → IsHeard left source_faults old new → IsLeft (line_head new.buf new.ahead) turns → IsLeft (line_head old.buf old.ahead) turns
  line_left old new turns ahead.Unread is looked there = subst (λ (a : LineAhead). IsLeft (line_head old.buf a) turns) (sym is) tt
  line_left old new turns (ahead.Line stamp len) is looked there = line_left_known old new turns (ahead.Line stamp len) is tt looked there
  line_left old new turns ahead.End is looked there = line_left_known old new turns ahead.End is tt looked there
  line_left old new turns (ahead.Malformed at) is looked there = line_left_known old new turns (ahead.Malformed at) is tt looked there
  line_left old new turns (ahead.Overlong at) is looked there = line_left_known old new turns (ahead.Overlong at) is tt looked there
  line_left old new turns ahead.Failed is looked there = line_left_known old new turns ahead.Failed is tt looked there
  line_left old new turns ahead.Done is looked there = line_left_known old new turns ahead.Done is tt looked there

  pub control_left : (old new : Option (ControlEnds S K C)) (turns : List Turn) → IsControlHeard left source_faults old new → IsLeft (control_head new) turns → IsLeft (control_head old) turns
  control_left None None turns looked there = there
  control_left None (Some new) turns looked there = absurd looked
  control_left (Some old) None turns looked there = absurd looked
  control_left (Some old) (Some new) turns looked there = line_left old new turns old.ahead refl looked there

  weighs_known : (old new : ControlEnds S K C) (a : LineAhead) → old.ahead ≡ a → IsLineKnown a → IsHeard left source_faults old new → line_weight new.reader new.ahead ≤ line_weight old.reader old.ahead
  weighs_known old new a is known looked =
      subst (λ (c : ControlEnds S K C). line_weight c.reader c.ahead ≤ line_weight old.reader old.ahead) (sym (looked.same (subst IsLineKnown (sym is) known))) (omega arith)

  line_weighs : (old new : ControlEnds S K C) (a : LineAhead) → old.ahead ≡ a → IsHeard left source_faults old new → line_weight new.reader new.ahead ≤ line_weight old.reader old.ahead
  line_weighs old new ahead.Unread is looked =
      let read = looked.read is in
      subst (λ (b : LineAhead). line_weight new.reader new.ahead ≤ line_weight old.reader b) (sym is) (weighs_read old.reader new.reader read.0 new.buf (left new.ends.source) new.ahead read.2)
  line_weighs old new (ahead.Line stamp len) is looked = weighs_known old new (ahead.Line stamp len) is tt looked
  line_weighs old new ahead.End is looked = weighs_known old new ahead.End is tt looked
  line_weighs old new (ahead.Malformed at) is looked = weighs_known old new (ahead.Malformed at) is tt looked
  line_weighs old new (ahead.Overlong at) is looked = weighs_known old new (ahead.Overlong at) is tt looked
  line_weighs old new ahead.Failed is looked = weighs_known old new ahead.Failed is tt looked
  line_weighs old new ahead.Done is looked = weighs_known old new ahead.Done is tt looked

  -- to read on makes it no more
  pub control_weighs : (old new : Option (ControlEnds S K C)) → IsControlHeard left source_faults old new → control_weight new ≤ control_weight old
  control_weighs None None looked = omega arith
  control_weighs None (Some new) looked = absurd looked
  control_weighs (Some old) None looked = absurd looked
  control_weighs (Some old) (Some new) looked = line_weighs old new old.ahead refl looked

  -- what says nothing of control leaves it as it was

  so_far_kept : (run now : Run) (first c : ControlEnds S K C) (taken : List Turn) → ControlKept plan run now → HeardSoFar left (rows_of run) first c taken → HeardSoFar left (rows_of now) first c taken
  so_far_kept run now first c taken same so_far = record {
    before = so_far.before;
    taken_is = so_far.taken_is;
    entered = same.lines_same ∙ so_far.entered;
    running = same.end_same ∙ so_far.running;
    lines = so_far.lines;
    gave = so_far.gave;
    takes = so_far.takes;
    heard = so_far.heard;
  }

  out_kept : (run now : Run) (first c : ControlEnds S K C) (taken : List Turn) → ControlKept plan run now → HeardOut left plan (rows_of run) first c taken → HeardOut left plan (rows_of now) first c taken
  out_kept run now first c taken same out = record {
    input = out.input;
    readable = out.readable;
    rest = out.rest;
    of = out.of;
    split = out.split;
    came = subst (λ (e : Option How). IsControlInputOf (left first.ends.source) (left c.ends.source) e out.input.arrivals out.input.ending) (sym same.end_same) out.came;
    near = λ how at is. out.near how at (sym same.end_same ∙ is);
  }

  progress_kept : (run now : Run) (first c : ControlEnds S K C) (taken : List Turn) (a : LineAhead) → ControlKept plan run now → LineProgress left plan (rows_of run) first c taken a → LineProgress left plan (rows_of now) first c taken a
  progress_kept run now first c taken ahead.Unread same so_far = so_far_kept run now first c taken same so_far
  progress_kept run now first c taken (ahead.Line stamp len) same so_far = so_far_kept run now first c taken same so_far
  progress_kept run now first c taken ahead.End same so_far = so_far_kept run now first c taken same so_far
  progress_kept run now first c taken (ahead.Malformed at) same so_far = so_far_kept run now first c taken same so_far
  progress_kept run now first c taken (ahead.Overlong at) same so_far = so_far_kept run now first c taken same so_far
  progress_kept run now first c taken ahead.Failed same so_far = so_far_kept run now first c taken same so_far
  progress_kept run now first c taken ahead.Done same out = out_kept run now first c taken same out

  pub control_kept : (run now : Run) (stop : Option ℕ) (first ends : Option (ControlEnds S K C)) (taken : List Turn) → ControlKept plan run now → ControlStands left written source_faults sink_faults plan run stop first ends taken → ControlStands left written source_faults sink_faults plan now stop first ends taken
  control_kept run now stop None None taken same stands = (stands.0, same.over_same ∙ stands.1)
  control_kept run now stop None (Some c) taken same stands = absurd stands
  control_kept run now stop (Some first) None taken same stands = absurd stands
  control_kept run now stop (Some first) (Some c) taken same stands = record {
    used = stands.used;
    source = stands.source;
    sink = stands.sink;
    sound = stands.sound;
    agrees = agrees_kept plan run now (line_head c.buf c.ahead) same stands.agrees;
    progress = progress_kept run now first c taken c.ahead same stands.progress;
    replied = replied_kept written sink_faults plan run now first.ends.sink c.ends.sink stop same stands.replied;
    failed = stands.failed;
    broken = λ ended_so. stands.broken (sym same.end_same ∙ ended_so);
    still = λ other others. stands.still other (λ ended_so. others (same.end_same ∙ ended_so));
  }
