-- What control's sink took of the replies in a replay fits how control ended for good.
use Rattle.std.proofs.Common.{◌≡◌, ℕ, zero, suc, ◌+◌, ◌<◌, nat_lt, Bool, true, false, List, [], ◌∷◌, ◌++◌, take, get_or, length, length-append, refl, ap, sym, ◌∙◌, subst, arith, if◌then◌else◌, append-nil, Option, Some, None}
use Rattle.std.specs.List.{concat}
use Rattle.std.specs.Option.{is_some}
use Rattle.std.proofs.lemmas.Bool.Decides.{nat_tests}
use Rattle.savi_kinds.specs.declared.plan.Plan.{Plan}
use Rattle.savi_kinds.specs.declared.entry.Who.TheVariants as passes
use Rattle.savi_kinds.specs.declared.entry.How.{How}
use Rattle.savi_kinds.specs.declared.entry.How.TheVariants as hows
use Rattle.savi_kinds.specs.Arrivals.{Input}
use Rattle.cli_lang.specs.Arrivals.{Line}
use Rattle.cli_lang.specs.Arrivals as control
use Rattle.savi_ends.specs.Octets.{behind}
use Rattle.hist_store.specs.Rows.{Row}
use Rattle.checkpoint.specs.Bases.{Base, empty}
use Rattle.savi_history.specs.ControlInputs.{control_end, is_quit}
use Rattle.savi_history.specs.ControlOutputs.{FitsReplies, IsUnwritten, replies}
use Rattle.savi_history.specs.Endings.{is_paused_reason}
use Rattle.savi_history.specs.Events.{Command, End}
use Rattle.savi_history.specs.Limits.{has_room}
use Rattle.savi_history.specs.Merges.{merged}
use Rattle.savi_history.specs.Passes.{control_pass, pass_of}
use Rattle.savi_history.specs.PortOutputs.{TookPieces}
use Rattle.savi_history.specs.Readable.{IsControl, IsControlEnding}
use Rattle.savi_history.specs.Replay.{Stops, closed, drained, is_stopped, with_event, with_reply}
use Rattle.savi_history.specs.Shown.{shown}
use Rattle.savi_history.specs.Turns.{Turn, Arrives, Commands, Ends, all_turns, turn_at, who_of}
use Rattle.savi_history.proofs.ControlSame.{control_begun, control_drained, control_entered, control_finished, is_control}
use Rattle.savi_history.proofs.Replaying.{AreOurs, Controlled, IsOurs, MayControl, all_ours, anything}
use Rattle.savi_segments.specs.Replay.{Run, all_taken, base_in, entered_in, fewer, has_ended_in, inputs_paused, inputs_taken, replayed, room_made, run_begun, run_with, segments_of, stops_left, taken, taken_if_open, turned}
use Rattle.savi_segments.specs.Segments.{IsWholeSession}
use Rattle.savi_segments.specs.Sent.{FitsRepliesIn, replies_in}
use Rattle.savi_segments.specs.Unbroken.{unbroken}
use Rattle.savi_segments.proofs.ControlEnds.{how_in, how_turned, itself, other_begun, other_closed, other_drained, other_entered, replies_paused, said_last}
use Rattle.savi_segments.proofs.Turning.{ended_alike}

-- How control stands with the number of its replies, where its sink stops so.
abbrev pub Fine : Option ℕ → Option How → ℕ → Type 0
Fine stop None count = is_stopped stop count ≡ false
Fine stop (Some hows.End) count = is_stopped stop count ≡ false
Fine stop (Some hows.Quit) count = is_stopped stop count ≡ false
Fine stop (Some (hows.Malformed at)) count = is_stopped stop count ≡ false
Fine stop (Some (hows.Overlong at)) count = is_stopped stop count ≡ false
Fine stop (Some hows.Failed) count = is_stopped stop count ≡ false
Fine stop (Some hows.Unwritten) count = (written : ℕ) × (count ≡ suc written) × (is_stopped stop written ≡ false) × (is_stopped stop count ≡ true)
Fine stop (Some hows.Paused) count = is_stopped stop count ≡ false

-- every reason but that a reply could not be written, and no pause
abbrev IsOther : How → Type 0
IsOther hows.End = Unit {0}
IsOther hows.Quit = Unit {0}
IsOther (hows.Malformed at) = Unit {0}
IsOther (hows.Overlong at) = Unit {0}
IsOther hows.Failed = Unit {0}
IsOther hows.Unwritten = ⊥
IsOther hows.Paused = ⊥

fine_other : (stop : Option ℕ) (how : How) (count : ℕ) → IsOther how → is_stopped stop count ≡ false → Fine stop (Some how) count
fine_other stop hows.End count other running = running
fine_other stop hows.Quit count other running = running
fine_other stop (hows.Malformed at) count other running = running
fine_other stop (hows.Overlong at) count other running = running
fine_other stop hows.Failed count other running = running
fine_other stop hows.Unwritten count other running = absurd other
fine_other stop hows.Paused count other running = absurd other

-- control's input may end so
abbrev read_lines : Controlled
read_lines = record { Comes = λ line. Unit {0}; Closes = IsOther }

other_ending : (how : How) → IsControlEnding how → IsOther how
other_ending hows.End is = tt
other_ending hows.Quit is = absurd is
other_ending (hows.Malformed at) is = tt
other_ending (hows.Overlong at) is = tt
other_ending hows.Failed is = tt
other_ending hows.Unwritten is = absurd is
other_ending hows.Paused is = absurd is

may_read : (lines : Option control.Input) → IsControl lines → MayControl read_lines lines
may_read None is = tt
may_read (Some input) is = (λ k line inside. tt, other_ending input.ending is.ending)

none_of : (o : Option How) → is_some o ≡ false → o ≡ None
none_of None is = refl
none_of (Some how) is = cc

none_stopped : (stop : Option ℕ) → is_stopped stop 0 ≡ false
none_stopped None = refl
none_stopped (Some whole) = grind (arith, nat_tests)

-- how many pieces a sink takes is told behind those of closed segments
pub fewer_is : (stop : Option ℕ) (before more : ℕ) → is_stopped (fewer before stop) (suc more) ≡ is_stopped stop (before + suc more)
fewer_is None before more = refl
fewer_is (Some whole) before more = grind (arith, nat_tests)

-- all replies of a run
abbrev replied : Plan → Run → List (List ℕ)
replied plan run = replies_in plan (segments_of run)

-- two runs hold the same of control's end and of its replies
record RepliesSame (plan : Plan) (old new : Run) : Type 0 where
  replies_same : replied plan new ≡ replied plan old
  how_same : how_in plan new ≡ how_in plan old

replies_then : (plan : Plan) (old mid new : Run) → RepliesSame plan old mid → RepliesSame plan mid new → RepliesSame plan old new
replies_then plan old mid new first second = record { replies_same = second.replies_same ∙ first.replies_same; how_same = second.how_same ∙ first.how_same }

same_turned : (plan : Plan) (run : Run) → RepliesSame plan run (turned plan run)
same_turned plan run =
    let base = base_in plan run in
    let paused = inputs_paused plan base run.past in
    record {
      replies_same =
          append-nil (replies_in plan run.closed ++ replies plan base (closed plan base paused))
          ∙ ap (λ (l : List (List ℕ)). replies_in plan run.closed ++ l) ((control_finished plan base paused).replies_same ∙ replies_paused plan base run.past);
      how_same = how_turned plan run;
    }

same_room_at : (plan : Plan) (run : Run) (b : Bool) → RepliesSame plan run (if b then run else turned plan run)
same_room_at plan run true = record { replies_same = refl; how_same = refl }
same_room_at plan run false = same_turned plan run

same_room : (plan : Plan) (t : Turn) (run : Run) → RepliesSame plan run (room_made plan t run)
same_room plan (Arrives port a) run = same_room_at plan run (has_room plan run.past)
same_room plan (Commands line) run = same_room_at plan run (has_room plan run.past)
same_room plan (Ends who how) run = record { replies_same = refl; how_same = refl }

same_taken : (plan : Plan) (stops : Stops) (t : Turn) (run : Run) → IsOurs plan anything t → is_control t ≡ false → RepliesSame plan run (taken plan stops t run)
same_taken plan stops t run ours other =
    let made = room_made plan t run in
    replies_then plan run made (taken plan stops t run) (same_room plan t run) (record {
      replies_same = ap (λ (l : List (List ℕ)). replies_in plan made.closed ++ l) (control_entered plan (base_in plan made) (stops_left plan stops made) t made.past ours other).replies_same;
      how_same = other_entered plan (base_in plan made) (stops_left plan stops made) t made.past ours other;
    })

module _ (plan : Plan) (stops : Stops) where
  abbrev stop : Option ℕ
  stop = stops.control

  -- how control has ended for good fits the replies
  abbrev Stands : Run → Type 0
  Stands run = Fine stop (how_in plan run) (length (replied plan run))

  stands_same : (old new : Run) → RepliesSame plan old new → Stands old → Stands new
  stands_same old new same stands =
      subst (λ (o : Option How). Fine stop o (length (replied plan new))) (sym same.how_same)
      (subst (λ (l : List (List ℕ)). Fine stop (how_in plan old) (length l)) (sym same.replies_same) stands)

  -- while control is open no write of a reply has failed
  open_fine : (run : Run) → how_in plan run ≡ None → Stands run → is_stopped stop (length (replied plan run)) ≡ false
  open_fine run none stands = subst (λ (o : Option How). Fine stop o (length (replied plan run))) none stands

  stands_control : (run : Run) (past : List Row) (how : How) → is_paused_reason how ≡ false → Fine stop (Some how) (length (replied plan (run_with run past)))
      → Stands (run_with run (with_event plan (base_in plan run) past (End passes.Control how)))
  stands_control run past how good fine =
      let now = run_with run (with_event plan (base_in plan run) past (End passes.Control how)) in
      let ended : how_in plan now ≡ Some how = rw (good, itself (control_pass plan)) refl in
      let same : replied plan now ≡ replied plan (run_with run past) = ap (λ (l : List (List ℕ)). replies_in plan run.closed ++ l) (append-nil (replies plan (base_in plan run) past)) in
      subst (λ (o : Option How). Fine stop o (length (replied plan now))) (sym ended) (subst (λ (l : List (List ℕ)). Fine stop (Some how) (length l)) (sym same) fine)

  other_not_paused : (how : How) → IsOther how → is_paused_reason how ≡ false
  other_not_paused hows.End is = refl
  other_not_paused hows.Quit is = refl
  other_not_paused (hows.Malformed at) is = refl
  other_not_paused (hows.Overlong at) is = refl
  other_not_paused hows.Failed is = refl
  other_not_paused hows.Unwritten is = refl
  other_not_paused hows.Paused is = absurd is

  -- a line is entered, and its reply is written or not
  module _ (run : Run) (line : Line) (none : how_in plan run ≡ None) (stands : Stands run) where
    abbrev base : Base
    base = base_in plan run

    abbrev mid : List Row
    mid = with_event plan base run.past (Command line.stamp line.command)

    abbrev before : ℕ
    before = length (replies_in plan run.closed)

    one_more : length (replies plan base mid) ≡ suc (length (replies plan base run.past))
    one_more = let size = length-append (replies plan base run.past) (shown plan base mid ∷ []) in omega (arith, size)

    count_mid : length (replied plan (run_with run mid)) ≡ before + suc (length (replies plan base run.past))
    count_mid = length-append (replies_in plan run.closed) (replies plan base mid) ∙ ap (λ (n : ℕ). before + n) one_more

    count_run : length (replied plan run) ≡ before + length (replies plan base run.past)
    count_run = length-append (replies_in plan run.closed) (replies plan base run.past)

    -- the sink stops within the segment as it does over all
    stopped_alike : is_stopped (fewer before stop) (length (replies plan base mid)) ≡ is_stopped stop (length (replied plan (run_with run mid)))
    stopped_alike =
        ap (is_stopped (fewer before stop)) one_more ∙ fewer_is stop before (length (replies plan base run.past)) ∙ ap (is_stopped stop) (sym count_mid)

    replied_at : (failed quits : Bool) → is_stopped stop (length (replied plan (run_with run mid))) ≡ failed
        → Stands (run_with run (if failed then with_event plan base mid (End passes.Control hows.Unwritten) else if quits then with_event plan base mid (End passes.Control hows.Quit) else mid))
    replied_at true quits is =
        stands_control run mid hows.Unwritten refl (length (replied plan run), omega (arith, count_mid, count_run), open_fine run none stands, is)
    replied_at false true is = stands_control run mid hows.Quit refl is
    replied_at false false is = subst (λ (o : Option How). Fine stop o (length (replied plan (run_with run mid)))) (sym none) is

    stands_line : Stands (entered_in plan stops (Commands line) run)
    stands_line =
        let left = stops_left plan stops run in
        let answered = with_reply plan base left.control line mid in
        stands_same (run_with run answered) (run_with run (drained plan base left.ports plan.ports answered))
        (record {
          replies_same = ap (λ (l : List (List ℕ)). replies_in plan run.closed ++ l) (control_drained plan base left.ports plan.ports answered).replies_same;
          how_same = other_drained plan base left.ports plan.ports answered;
        })
        (replied_at (is_stopped left.control (length (replies plan base mid))) (is_quit line) (sym stopped_alike))

  stands_taken : (t : Turn) (run : Run) → IsOurs plan read_lines t → has_ended_in plan (pass_of plan (who_of t)) run ≡ false → Stands run → Stands (taken plan stops t run)
  stands_taken (Arrives port a) run ours running stands = stands_same run (taken plan stops (Arrives port a) run) (same_taken plan stops (Arrives port a) run ours refl) stands
  stands_taken (Commands line) run ours running stands =
      let made = room_made plan (Commands line) run in
      let room = same_room plan (Commands line) run in
      stands_line made line (room.how_same ∙ none_of (how_in plan run) running) (stands_same run made room stands)
  stands_taken (Ends (passes.Ingress port) how) run ours running stands =
      stands_same run (taken plan stops (Ends (passes.Ingress port) how) run) (same_taken plan stops (Ends (passes.Ingress port) how) run ours refl) stands
  stands_taken (Ends passes.Control how) run ours running stands =
      stands_control run run.past how (other_not_paused how ours) (fine_other stop how (length (replied plan run)) ours (open_fine run (none_of (how_in plan run) running) stands))
  stands_taken (Ends passes.Ticker how) run ours running stands = absurd ours
  stands_taken (Ends (passes.Egress port) how) run ours running stands = absurd ours

  stands_at : (t : Turn) (run : Run) (b : Bool) → has_ended_in plan (pass_of plan (who_of t)) run ≡ b → IsOurs plan read_lines t → Stands run → Stands (if b then run else taken plan stops t run)
  stands_at t run true is ours stands = stands
  stands_at t run false is ours stands = stands_taken t run ours is stands

  stands_all : (ts : List Turn) (run : Run) → AreOurs plan read_lines ts → Stands run → Stands (all_taken plan stops ts run)
  stands_all [] run ours stands = stands
  stands_all (t ∷ ts) run ours stands = stands_all ts (taken_if_open plan stops t run) ours.1 (stands_at t run (has_ended_in plan (pass_of plan (who_of t)) run) refl ours.0 stands)

  pub stands_last : (lines : Option control.Input) (inputs : List Input) → IsControl lines → Stands (inputs_taken plan lines inputs stops)
  stands_last lines inputs is =
      let begin : Run = run_begun plan stops in
      stands_all (merged turn_at (all_turns lines plan.ports inputs)) begin (all_ours plan read_lines lines inputs (may_read lines is))
      (stands_same (record { closed = []; past = [] }) begin
      (record { replies_same = (control_begun plan empty stops.ports plan.ports []).replies_same; how_same = other_begun plan empty stops.ports plan.ports [] }) (none_stopped stop))

-- what a sink took

last_apart : (l : List (List ℕ)) (k : ℕ) → length l ≡ suc k → l ≡ take k l ++ get_or l k [] ∷ []
last_apart [] k size = absurd (omega arith)
last_apart (x ∷ []) zero size = refl
last_apart (x ∷ y ∷ l) zero size = absurd (omega arith)
last_apart (x ∷ l) (suc k) size = ap (λ (m : List (List ℕ)). x ∷ m) (last_apart l k (omega arith))

took_all : (stop : Option ℕ) (before after : Option (List ℕ)) (texts : List (List ℕ)) → is_stopped stop (length texts) ≡ false → TookPieces before after texts stop → after ≡ behind before (concat texts)
took_all None before after texts running took = took
took_all (Some whole) before after texts running took =
    let stopped : nat_lt whole (length texts) ≡ true = let below = took.0 in grind (arith, nat_tests) in
    cc

took_front : (stop : Option ℕ) (before after : Option (List ℕ)) (texts : List (List ℕ)) → Fine stop (Some hows.Unwritten) (length texts) → TookPieces before after texts stop → IsUnwritten before after texts
took_front None before after texts fine took = cc (fine.3)
took_front (Some whole) before after texts fine took =
    let written : ℕ = fine.0 in
    let size : length texts ≡ suc written = fine.1 in
    let reached : nat_lt whole written ≡ false = fine.2 in
    let below : whole < length texts = took.0 in
    let same : whole ≡ written = grind (arith, nat_tests) in
    record {
      written = take whole texts;
      last = get_or texts whole [];
      all = last_apart texts whole (omega (arith, size, same));
      front = took.1;
      part = took.2;
      took = took.3;
    }

fits_replies : (stop : Option ℕ) (how : How) (before after : Option (List ℕ)) (texts : List (List ℕ)) → Fine stop (Some how) (length texts) → TookPieces before after texts stop → FitsReplies before after texts (Some how)
fits_replies stop hows.End before after texts fine took = took_all stop before after texts fine took
fits_replies stop hows.Quit before after texts fine took = took_all stop before after texts fine took
fits_replies stop (hows.Malformed at) before after texts fine took = took_all stop before after texts fine took
fits_replies stop (hows.Overlong at) before after texts fine took = took_all stop before after texts fine took
fits_replies stop hows.Failed before after texts fine took = took_all stop before after texts fine took
fits_replies stop hows.Unwritten before after texts fine took = took_front stop before after texts fine took
fits_replies stop hows.Paused before after texts fine took = took_all stop before after texts fine took

fits_by : (stop : Option ℕ) (o : Option How) (before after : Option (List ℕ)) (texts : List (List ℕ)) → is_some o ≡ true → Fine stop o (length texts) → TookPieces before after texts stop → FitsReplies before after texts o
fits_by stop None before after texts some fine took = cc
fits_by stop (Some how) before after texts some fine took = fits_replies stop how before after texts fine took

-- In a replay with these stops, what control's sink took of the replies fits how control ended for good.
pub all_replies_fit : (plan : Plan) (lines : Option control.Input) (inputs : List Input) (stops : Stops) (before after : Option (List ℕ)) → IsControl lines → IsWholeSession plan (replayed plan lines inputs stops)
    → TookPieces before after (replies_in plan (replayed plan lines inputs stops)) stops.control → FitsRepliesIn plan before after (replayed plan lines inputs stops)
all_replies_fit plan lines inputs stops before after is session took =
    let run = inputs_taken plan lines inputs stops in
    let base = base_in plan run in
    let segment = closed plan base run.past in
    let all = replies_in plan (replayed plan lines inputs stops) in
    let same : all ≡ replied plan run = ap (λ (l : List (List ℕ)). replies_in plan run.closed ++ l) (control_finished plan base run.past).replies_same in
    let said : control_end (unbroken (replayed plan lines inputs stops)) ≡ how_in plan run = said_last plan run session.legal in
    let over : is_some (how_in plan run) ≡ true =
    ap is_some (sym (other_closed plan base run.past)) ∙ sym (ended_alike plan base segment (control_pass plan) session.legal.0 session.closed.1) ∙ session.closed.0 (control_pass plan) (omega arith) in
    let fine : Fine stops.control (how_in plan run) (length all) = subst (λ (l : List (List ℕ)). Fine stops.control (how_in plan run) (length l)) (sym same) (stands_last plan stops lines inputs is) in
    subst (λ (o : Option How). FitsReplies before after all o) (sym said) (fits_by stops.control (how_in plan run) before after all over fine took)
