-- How far control's input was read and entered.
use Rattle.std.proofs.Common.{◌≡◌, ℕ, ◌+◌, ◌≤◌, Bool, true, false, List, [], ◌∷◌, ◌++◌, length, map, refl, sym, ap, ◌∙◌, subst, append-nil, append_assoc, Option, Some, None, IfSome}
use Rattle.std.specs.List.{All}
use Rattle.std.proofs.lemmas.List.{map-append}
use Rattle.savi_kinds.specs.declared.plan.Plan.{Plan}
use Rattle.savi_kinds.specs.declared.entry.Who.TheVariants.{Control}
use Rattle.savi_kinds.specs.declared.entry.How.{How}
use Rattle.savi_kinds.specs.declared.entry.How.TheVariants as hows
use Rattle.savi_ends.specs.Octets.{Takes}
use Rattle.cli_lang.specs.Arrivals.{Line, Input}
use Rattle.cli_lang.specs.Readers.{State, Comes, IsFaultAt, longest_reach}
use Rattle.hist_store.specs.Rows.{Row}
use Rattle.savi_history.specs.Readable.{IsLineInRange, IsControlEnding, IsControlInput}
use Rattle.savi_history.specs.ControlInputs.{entered_lines, control_end}
use Rattle.savi_history.specs.Passes.{control_pass}
use Rattle.savi_history.specs.Turns.{Turn, Commands, Ends, control_turns}
use Rattle.savi_segments.proofs.ForGood.{AreOf}
use Rattle.savi_segments.proofs.Reaching.{Head, Unread, Known, Done}
use Rattle.savi_segments.proofs.Reaching as reaching
use Rattle.port_worker.specs.declared.control_ends.LineAhead.{LineAhead}
use Rattle.port_worker.specs.declared.control_ends.LineAhead.TheVariants as ahead
use Rattle.port_worker.specs.declared.control_ends.ControlEnds.{ControlEnds}
use Rattle.port_worker.specs.Used.{GaveFew}
use Rattle.port_worker.specs.ControlServed.{AreLines, IsControlInputOf}
use Rattle.port_worker.specs.LineInputs.{IsHeard, IsHeardAs, control_moment, line_moment_ahead, line_read}
use Rattle.port_worker.proofs.Hearing.{start, of_lines, HasHeard, heard_line, heard_end, heard_failed, heard_near, IsSeenEnd, some_whole, heard_lines}
use Rattle.port_worker.proofs.Joining.{takes_twice}

-- control's place among the heads of the inputs
abbrev pub line_head : List ℕ → LineAhead → Head
line_head buf ahead.Unread = Unread
line_head buf (ahead.Line stamp len) = Known (Commands (line_read stamp len buf))
line_head buf ahead.End = Known (Ends Control hows.End)
line_head buf (ahead.Malformed at) = Known (Ends Control (hows.Malformed at))
line_head buf (ahead.Overlong at) = Known (Ends Control (hows.Overlong at))
line_head buf ahead.Failed = Known (Ends Control hows.Failed)
line_head buf ahead.Done = Done

abbrev pub control_head : {S K C : Type 0} → Option (ControlEnds S K C) → Head
control_head None = Done
control_head (Some c) = line_head c.buf c.ahead

line_moment : (buf : List ℕ) (a : LineAhead) → reaching.moment_of (line_head buf a) ≡ line_moment_ahead a
line_moment buf ahead.Unread = refl
line_moment buf (ahead.Line stamp len) = refl
line_moment buf ahead.End = refl
line_moment buf (ahead.Malformed at) = refl
line_moment buf (ahead.Overlong at) = refl
line_moment buf ahead.Failed = refl
line_moment buf ahead.Done = refl

pub head_moment : {S K C : Type 0} (control : Option (ControlEnds S K C)) → reaching.moment_of (control_head control) ≡ control_moment control
head_moment None = refl
head_moment (Some c) = line_moment c.buf c.ahead

-- what was read behind these lines, of the octets that the source gave; from a line at fault on no more than a reader
-- reaches
abbrev pub HeardAhead : Option (List ℕ) → Option (List ℕ) → State → List ℕ → List ℕ → List Line → LineAhead → Type 0
HeardAhead first left state gave buf before ahead.Unread = HasHeard state gave left before
HeardAhead first left state gave buf before (ahead.Line stamp len) = HasHeard state gave left (before ++ line_read stamp len buf ∷ [])
HeardAhead first left state gave buf before ahead.End = IfSome first (λ octets. Comes false true start octets (of_lines before hows.End))
HeardAhead first left state gave buf before (ahead.Malformed at) = IfSome first (λ octets. Comes false true start octets (of_lines before (hows.Malformed at))) × (length gave ≤ at + longest_reach)
HeardAhead first left state gave buf before (ahead.Overlong at) = IfSome first (λ octets. Comes false true start octets (of_lines before (hows.Overlong at))) × (length gave ≤ at + longest_reach)
HeardAhead first left state gave buf before ahead.Failed = Comes false false start gave (of_lines before hows.Failed)
HeardAhead first left state gave buf before ahead.Done = ⊥

-- These lines were entered, and control goes on.
pub record HeardSoFar {S K C : Type 0} (left : S → Option (List ℕ)) (past : List Row) (first now : ControlEnds S K C) (taken : List Turn) : Type 0 where
  pub before : List Line
  pub taken_is : taken ≡ map (λ line. Commands line) before
  pub entered : entered_lines past ≡ before
  pub running : control_end past ≡ None
  pub lines : All IsLineInRange before
  pub gave : List ℕ
  pub takes : Takes (left first.ends.source) (left now.ends.source) gave
  pub heard : HeardAhead (left first.ends.source) (left now.ends.source) now.reader gave now.buf before now.ahead

-- Control has ended: what was taken, with some turns that are passed over, are the turns of the input that its source's
-- octets are.
pub record HeardOut {S K C : Type 0} (left : S → Option (List ℕ)) (plan : Plan) (past : List Row) (first now : ControlEnds S K C) (taken : List Turn) : Type 0 where
  pub input : Input
  pub readable : IsControlInput input
  pub rest : List Turn
  pub of : AreOf plan (control_pass plan) rest
  pub split : taken ++ rest ≡ control_turns (Some input)
  pub came : IsControlInputOf (left first.ends.source) (left now.ends.source) (control_end past) input.arrivals input.ending
  pub near : (how : How) (at : ℕ) → control_end past ≡ Some how → IsFaultAt how at → GaveFew (left first.ends.source) (left now.ends.source) (at + longest_reach)

-- octets that come from a new reader are an input
are_lines : (seen : Bool) (octets : List ℕ) (lines : List Line) (ending : How) → Comes false seen start octets (of_lines lines ending) → AreLines seen octets lines ending
are_lines seen octets lines ending comes = record { whole = lines; run = comes; stamps = refl }

are_whole : (first : Option (List ℕ)) (lines : List Line) (ending : How) → IfSome first (λ octets. Comes false true start octets (of_lines lines ending)) → IfSome first (λ octets. AreLines true octets lines ending)
are_whole None lines ending whole = tt
are_whole (Some octets) lines ending whole = are_lines true octets lines ending whole

-- what was read next
ahead_of : (first mid left : Option (List ℕ)) (old new : State) (gave more buf : List ℕ) (before : List Line) (a : LineAhead) → HasHeard old gave mid before → Takes first mid gave → Takes mid left more → IsHeardAs old new more buf left a
    → HeardAhead first left new (gave ++ more) buf before a
ahead_of first mid left old new gave more buf before ahead.Unread heard took takes answers = absurd answers
ahead_of first mid left old new gave more buf before (ahead.Line stamp len) heard took takes answers = heard_line old new gave more mid left before (line_read stamp len buf) heard answers
ahead_of first mid left old new gave more buf before ahead.End heard took takes answers = heard_end old new gave more mid before hows.End first left heard answers took takes
ahead_of first mid left old new gave more buf before (ahead.Malformed at) heard took takes answers =
    (heard_end old new gave more mid before (hows.Malformed at) first left heard answers took takes, heard_near old new gave more mid left before (hows.Malformed at) at heard answers refl)
ahead_of first mid left old new gave more buf before (ahead.Overlong at) heard took takes answers =
    (heard_end old new gave more mid before (hows.Overlong at) first left heard answers took takes, heard_near old new gave more mid left before (hows.Overlong at) at heard answers refl)
ahead_of first mid left old new gave more buf before ahead.Failed heard took takes answers = heard_failed old new gave more mid left before heard answers.1
ahead_of first mid left old new gave more buf before ahead.Done heard took takes answers = absurd answers

pub heard_look : {S K C : Type 0} (left : S → Option (List ℕ)) (faults : S → ℕ) (past : List Row) (first old new : ControlEnds S K C) (taken : List Turn) → old.ahead ≡ ahead.Unread → IsHeard left faults old new → HeardSoFar left past first old taken → HeardSoFar left past first new taken
heard_look left faults past first old new taken is looked so_far =
    let more = looked.read is in
    let heard : HasHeard old.reader so_far.gave (left old.ends.source) so_far.before =
    subst (λ (a : LineAhead). HeardAhead (left first.ends.source) (left old.ends.source) old.reader so_far.gave old.buf so_far.before a) is so_far.heard in
    record {
      before = so_far.before;
      taken_is = so_far.taken_is;
      entered = so_far.entered;
      running = so_far.running;
      lines = so_far.lines;
      gave = so_far.gave ++ more.0;
      takes = takes_twice (left first.ends.source) (left old.ends.source) (left new.ends.source) so_far.gave more.0 so_far.takes more.1;
      heard = ahead_of (left first.ends.source) (left old.ends.source) (left new.ends.source) old.reader new.reader so_far.gave more.0 new.buf so_far.before new.ahead heard so_far.takes more.1 more.2;
    }

came_whole : (first after : Option (List ℕ)) (ended_so : Option How) (lines : List Line) (ending : How) → IsSeenEnd ending → IfSome first (λ octets. AreLines true octets lines ending) → IsControlInputOf first after ended_so lines ending
came_whole first after ended_so lines hows.End seen whole = whole
came_whole first after ended_so lines (hows.Malformed at) seen whole = whole
came_whole first after ended_so lines (hows.Overlong at) seen whole = whole
came_whole first after ended_so lines hows.Quit seen whole = seen
came_whole first after ended_so lines hows.Failed seen whole = absurd seen
came_whole first after ended_so lines hows.Unwritten seen whole = seen
came_whole first after ended_so lines hows.Paused seen whole = seen

of_turns : (plan : Plan) (lines : List Line) (ending : How) → AreOf plan (control_pass plan) (map (λ line. Commands line) lines ++ Ends Control ending ∷ [])
of_turns plan [] ending = (refl, tt)
of_turns plan (line ∷ lines) ending = (refl, of_turns plan lines ending)

some_same : (one other : How) → Some one ≡ Some other → one ≡ other
some_same one other same = cc

pub at_fault_as : (one other : How) (at : ℕ) → Some one ≡ Some other → IsFaultAt other at → IsFaultAt one at
at_fault_as one other at same fault = subst (λ (h : How). IsFaultAt h at) (sym (some_same one other same)) fault

module _ {S K C : Type 0} (left : S → Option (List ℕ)) (plan : Plan) (past now : List Row) (first old new : ControlEnds S K C) (taken : List Turn) (so_far : HeardSoFar left past first old taken)
    (source : new.ends.source ≡ old.ends.source) (reader : new.reader ≡ old.reader) where
  takes_new : Takes (left first.ends.source) (left new.ends.source) so_far.gave
  takes_new = subst (λ (s : S). Takes (left first.ends.source) (left s) so_far.gave) (sym source) so_far.takes

  module _ (stamp len : ℕ) (is : old.ahead ≡ ahead.Line stamp len) where
    abbrev line : Line
    line = line_read stamp len old.buf

    abbrev more : List Line
    more = so_far.before ++ line ∷ []

    heard : HasHeard old.reader so_far.gave (left old.ends.source) more
    heard = subst (λ (a : LineAhead). HeardAhead (left first.ends.source) (left old.ends.source) old.reader so_far.gave old.buf so_far.before a) is so_far.heard

    heard_new : HasHeard new.reader so_far.gave (left new.ends.source) more
    heard_new = subst (λ (s : S). HasHeard new.reader so_far.gave (left s) more) (sym source) (subst (λ (r : State). HasHeard r so_far.gave (left old.ends.source) more) (sym reader) heard)

    taken_more : taken ++ Commands line ∷ [] ≡ map (λ l. Commands l) more
    taken_more = ap (λ (l : List Turn). l ++ Commands line ∷ []) so_far.taken_is ∙ sym (map-append (λ l. Commands l) so_far.before (line ∷ []))

    -- a line was entered, and control goes on
    pub line_on : new.ahead ≡ ahead.Unread → entered_lines now ≡ entered_lines past ++ line ∷ [] → control_end now ≡ None → HeardSoFar left now first new (taken ++ Commands line ∷ [])
    line_on unread entered running = record {
      before = more;
      taken_is = taken_more;
      entered = entered ∙ ap (λ (l : List Line). l ++ line ∷ []) so_far.entered;
      running = running;
      lines = heard_lines old.reader so_far.gave (left old.ends.source) more heard;
      gave = so_far.gave;
      takes = takes_new;
      heard = subst (λ (a : LineAhead). HeardAhead (left first.ends.source) (left new.ends.source) new.reader so_far.gave new.buf more a) (sym unread) heard_new;
    }
        -- control has ended behind a line

    pub line_out : ((how : How) (at : ℕ) → control_end now ≡ Some how → IsFaultAt how at → ⊥) → HeardOut left plan now first new (taken ++ Commands line ∷ [])
    line_out sound =
        let whole = some_whole old.reader so_far.gave more (left first.ends.source) (left old.ends.source) heard so_far.takes in
        let ends = Ends Control whole.ending ∷ [] in
        record {
          input = of_lines (more ++ whole.behind) whole.ending;
          readable = record { arrivals = whole.readable; ending = whole.fine };
          rest = map (λ l. Commands l) whole.behind ++ ends;
          of = of_turns plan whole.behind whole.ending;
          split = ap (λ (l : List Turn). l ++ (map (λ l. Commands l) whole.behind ++ ends)) taken_more
              ∙ sym (append_assoc (map (λ l. Commands l) more) (map (λ l. Commands l) whole.behind) ends)
              ∙ ap (λ (l : List Turn). l ++ ends) (sym (map-append (λ l. Commands l) more whole.behind));
          came = came_whole (left first.ends.source) (left new.ends.source) (control_end now) (more ++ whole.behind) whole.ending whole.seen
              (are_whole (left first.ends.source) (more ++ whole.behind) whole.ending whole.whole);
          near = λ how at is fault. absurd (sound how at is fault);
        }

  -- the input has ended
  pub end_out : (ending : How) → IsSeenEnd ending → IsControlEnding ending → control_end now ≡ Some ending → IfSome (left first.ends.source) (λ octets. Comes false true start octets (of_lines so_far.before ending)) → ((at : ℕ) → IsFaultAt ending at → length so_far.gave ≤ at + longest_reach) → HeardOut left plan now first new (taken ++ Ends Control ending ∷ [])
  end_out ending seen fine now_ends whole few = record {
    input = of_lines so_far.before ending;
    readable = record { arrivals = so_far.lines; ending = fine };
    rest = [];
    of = tt;
    split = append-nil (taken ++ Ends Control ending ∷ []) ∙ ap (λ (l : List Turn). l ++ Ends Control ending ∷ []) so_far.taken_is;
    came = came_whole (left first.ends.source) (left new.ends.source) (control_end now) so_far.before ending seen (are_whole (left first.ends.source) so_far.before ending whole);
    near = λ how at is fault. (so_far.gave, takes_new, few at (at_fault_as ending how at (sym now_ends ∙ is) fault));
  }

  -- a read failed
  pub fail_out : control_end now ≡ Some hows.Failed → Comes false false start so_far.gave (of_lines so_far.before hows.Failed) → HeardOut left plan now first new (taken ++ Ends Control hows.Failed ∷ [])
  fail_out now_ends comes = record {
    input = of_lines so_far.before hows.Failed;
    readable = record { arrivals = so_far.lines; ending = tt };
    rest = [];
    of = tt;
    split = append-nil (taken ++ Ends Control hows.Failed ∷ []) ∙ ap (λ (l : List Turn). l ++ Ends Control hows.Failed ∷ []) so_far.taken_is;
    came = (now_ends, so_far.gave, takes_new, are_lines false so_far.gave so_far.before hows.Failed comes);
    near = λ how at is fault. absurd (at_fault_as hows.Failed how at (sym now_ends ∙ is) fault);
  }
