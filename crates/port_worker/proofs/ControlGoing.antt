-- What the turn of control makes of all outputs.
use Rattle.std.proofs.Common.{◌≡◌, ◌≢◌, ◌+◌, ◌==◌, not, ℕ, suc, Bool, true, false, if◌then◌else◌, List, [], ◌∷◌, ◌++◌, length, get_or, refl, sym, ap, ◌∙◌, subst, arith, inl, inr, append-nil, append_assoc, length-append, Option, Some, None}
use Rattle.std.specs.Option.{is_some}
use Rattle.std.proofs.lemmas.Bool.{false≢true}
use Rattle.std.proofs.lemmas.Bool.Decides.{nat_tests}
use Rattle.savi_kinds.specs.declared.plan.Plan.{Plan}
use Rattle.savi_kinds.specs.declared.plan.PortPlan.{PortPlan}
use Rattle.savi_kinds.specs.declared.port.Port.{Port}
use Rattle.savi_kinds.specs.declared.entry.Who.TheVariants.{Control, Egress}
use Rattle.savi_kinds.specs.declared.entry.How.{How}
use Rattle.savi_kinds.specs.declared.entry.How.TheVariants as hows
use Rattle.savi_kinds.specs.Ports.{number_of}
use Rattle.savi_kinds.specs.ValidPlan.{numbers_of}
use Rattle.savi_ends.specs.Faults.{Rose}
use Rattle.savi_ends.proofs.FaultCounts.{rose_since}
use Rattle.cli_lang.specs.Arrivals.{Line}
use Rattle.hist_store.specs.Rows.{Row}
use Rattle.checkpoint.specs.Bases.{Base}
use Rattle.savi_history.specs.ControlInputs.{is_quit, control_end}
use Rattle.savi_history.specs.ControlOutputs.{replies}
use Rattle.savi_history.specs.Endings.{is_paused_reason}
use Rattle.savi_history.specs.Events.{Drain, End, row_of}
use Rattle.savi_history.specs.Events as events
use Rattle.savi_history.specs.Passes.{has_ended, egress_pass, control_pass}
use Rattle.savi_history.specs.PortOutputs.{TookPieces}
use Rattle.savi_history.specs.Queues.{queue, offered_at, all_joined}
use Rattle.savi_history.specs.Replay.{PortStops, Stops, is_stopped, pieces_by, with_drain, with_event, with_failure, with_reply, drained}
use Rattle.savi_history.specs.Shown.{shown}
use Rattle.savi_history.specs.Turns.{Commands}
use Rattle.savi_history.proofs.ControlSame.{control_drained}
use Rattle.savi_history.proofs.Joining.{room_ended, joined_closed}
use Rattle.savi_segments.specs.Checkpoints.{end_of}
use Rattle.savi_segments.specs.Replay.{Run, base_in, entered_in, fewer, has_ended_in, run_with, segments_of, stops_left}
use Rattle.savi_segments.specs.Segments.{joined}
use Rattle.savi_segments.specs.Sent.{replies_in}
use Rattle.savi_segments.specs.Unbroken.{unbroken, without_pauses}
use Rattle.savi_segments.proofs.ControlEnds.{other_drained}
use Rattle.savi_segments.proofs.FittingReplies.{fewer_is}
use Rattle.port_worker.specs.declared.port_ends.PortEnds.{PortEnds}
use Rattle.port_worker.specs.ControlOutputs.{AreReplies, RepliesRunOn, AllFollow, AllOutputsGoOn}
use Rattle.port_worker.specs.LineSteps.{IsAnswered, behind_reply, with_command}
use Rattle.port_worker.specs.Outputs.{AreOutputs, Allows, ArePortsAllowed, MovesOn, OutputsGoOn}
use Rattle.port_worker.proofs.Allowed.{allowed_itself}
use Rattle.port_worker.proofs.KeptOutputs.{KeepsOutput, keeps_same, keeps_then, keeps_control, keeps_in, keeps_pieces, output_kept}
use Rattle.port_worker.proofs.Pieces.{took_then, took_until}
use Rattle.port_worker.proofs.PortSteps.{stopped_less, not_stopped, stopped_more}
use Rattle.savi_segments.proofs.HowEnded.{shows}

-- a line, whose probes join no queue whose egress has ended
no_probes : (plan : Plan) (base : Base) (past : List Row) (line : Line) (q : ℕ) → has_ended base (egress_pass plan q) past ≡ true → queue plan base q (with_command plan base line past) ≡ queue plan base q past
no_probes plan base past line q ended =
    let waiting = queue plan base q past in
    let items = offered_at plan base past (events.command_act past line.stamp line.command) line.command q in
    ap (λ (room : ℕ). all_joined room waiting items) (room_ended plan base past q ended) ∙ joined_closed waiting items

pub keeps_command : (plan : Plan) (base : Base) (past : List Row) (line : Line) (n : ℕ) → KeepsOutput plan base n past (with_command plan base line past)
keeps_command plan base past line n = record {
  sent_same = append-nil _;
  ended_same = refl;
  over_same = refl;
  end_same = λ rows. refl;
  sure_same = λ early text. refl;
  quiet = λ ended none. no_probes plan base past line n ended ∙ none;
}

keeps_behind : (plan : Plan) (base : Base) (quit : Bool) (past : List Row) (n : ℕ) → KeepsOutput plan base n past (behind_reply plan base quit past)
keeps_behind plan base true past n = keeps_control plan base past hows.Quit n
keeps_behind plan base false past n = keeps_same plan base n past past refl

-- a line that was entered and answered leaves the outputs of the ports
pub keeps_answered : {K : Type 0} (written : K → Option (List ℕ)) (faults : K → ℕ) (plan : Plan) (base : Base) (past mid : List Row) (line : Line) (sink sink_new : K) → IsAnswered written faults plan base (is_quit line) (with_command plan base line past) mid sink sink_new
    → (n : ℕ) → KeepsOutput plan base n past mid
keeps_answered written faults plan base past mid line sink sink_new (inl whole) n =
    let entry = with_command plan base line past in
    keeps_then plan base n past entry mid (keeps_command plan base past line n) (subst (λ (l : List Row). KeepsOutput plan base n entry l) (sym whole.made) (keeps_behind plan base (is_quit line) entry n))
keeps_answered written faults plan base past mid line sink sink_new (inr front) n =
    let entry = with_command plan base line past in
    keeps_then plan base n past entry mid (keeps_command plan base past line n) (subst (λ (l : List Row). KeepsOutput plan base n entry l) (sym front.made) (keeps_control plan base entry hows.Unwritten n))

replies_behind : (plan : Plan) (base : Base) (quit : Bool) (past : List Row) → replies plan base (behind_reply plan base quit past) ≡ replies plan base past
replies_behind plan base true past = append-nil (replies plan base past)
replies_behind plan base false past = refl

-- how control ended behind a reply that was written
end_behind : (plan : Plan) (base : Base) (quit : Bool) (past rows : List Row) → control_end (without_pauses (past ++ rows)) ≢ Some hows.Unwritten → control_end (without_pauses (behind_reply plan base quit past ++ rows)) ≢ Some hows.Unwritten
end_behind plan base true past rows other same = cc
end_behind plan base false past rows other same = other same

-- drains say nothing of control
module _ (plan : Plan) (base : Base) (rows : List Row) where
  abbrev said : List Row → Option How
  said past = control_end (without_pauses (past ++ rows))

  said_failure_at : (past : List Row) (port : Port) (b : Bool) → said (if b then with_event plan base past (End (Egress port) hows.Failed) else past) ≡ said past
  said_failure_at past port true = refl
  said_failure_at past port false = refl

  said_failure : (stops : PortStops) (past : List Row) (port : Port) → said (with_failure plan base stops port past) ≡ said past
  said_failure stops past port = said_failure_at past port (is_stopped (stops (number_of port)) (pieces_by plan base (number_of port) past))

  said_drain : (past : List Row) (port : Port) (count : ℕ) → said (with_event plan base past (Drain port count)) ≡ said past
  said_drain past port count = refl

  said_drain_at : (stops : PortStops) (past : List Row) (port : Port) (count : ℕ) (b : Bool) → said (if b then past else with_failure plan base stops port (with_event plan base past (Drain port count))) ≡ said past
  said_drain_at stops past port count true = refl
  said_drain_at stops past port count false = said_failure stops (with_event plan base past (Drain port count)) port ∙ said_drain past port count

  said_drained : (stops : PortStops) (ports : List PortPlan) (past : List Row) → said (drained plan base stops ports past) ≡ said past
  said_drained stops [] past = refl
  said_drained stops (q ∷ qs) past =
      let count = length (queue plan base (number_of q.number) past) in
      said_drained stops qs (with_drain plan base stops q.number count past) ∙ said_drain_at stops past q.number count (count == 0)

  pub control_drains : (stops : PortStops) (ports : List PortPlan) (past : List Row) → control_end (without_pauses (drained plan base stops ports past ++ rows)) ≡ control_end (without_pauses (past ++ rows))
  control_drains stops ports past = said_drained stops ports past

-- another stop of control
abbrev pub with_stop : Stops → Option ℕ → Stops
with_stop known stop = record { ports = known.ports; control = stop }

module _ {S K C : Type 0} (written : K → Option (List ℕ)) (faults : K → ℕ) (plan : Plan) where
  pub outputs_ports : (known : Stops) (stop : Option ℕ) (run : Run) (first old : List (PortEnds S K C)) → AreOutputs written faults plan known run first old → AreOutputs written faults plan (with_stop known stop) run first old
  outputs_ports known stop run first old was = record {
    size = was.size;
    each = λ k d within. let one = was.each k d within in record { port = one.port; later = one.later; output = one.output };
  }

  pub outputs_behind : (known : Stops) (run : Run) (mid : List Row) (first old : List (PortEnds S K C)) → ((n : ℕ) → KeepsOutput plan (base_in plan run) n run.past mid) → AreOutputs written faults plan known run first old
      → AreOutputs written faults plan known (run_with run mid) first old
  outputs_behind known run mid first old keeps was = record {
    size = was.size;
    each = λ k d within.
        let one = was.each k d within in
        let n = number_of (get_or first k d).port in
        record {
          port = one.port;
          later = one.later;
          output = output_kept written faults plan n run (run_with run mid) (get_or first k d).ends.sink (get_or old k d).ends.sink (known.ports n) (keeps_in plan run n mid (keeps n)) one.output;
        };
  }

allowed_behind : (plan : Plan) (known stops : Stops) (run : Run) (mid : List Row) → ((n : ℕ) → KeepsOutput plan (base_in plan run) n run.past mid) → ArePortsAllowed plan known stops (run_with run mid) → ArePortsAllowed plan known stops run
allowed_behind plan known stops run mid keeps allowed k d within =
    let n = get_or (numbers_of plan.ports) k d in
    subst (λ (c : ℕ). Allows (known.ports n) (stops.ports n) c) (keeps_pieces plan n run (run_with run mid) (keeps_in plan run n mid (keeps n))) (allowed k d within)

-- the end of control's input
abbrev over : Plan → Base → List Row → How → List Row
over plan base past how = with_event plan base past (End Control how)

some_same : (one other : How) → Some one ≡ Some other → one ≡ other
some_same one other same = cc

said_over : (b : Bool) (how : How) (r : Row) (rows : List Row) → control_end (r ∷ rows) ≡ Some how → how ≢ hows.Unwritten → control_end rows ≢ Some hows.Unwritten → control_end (if b then r ∷ rows else rows) ≢ Some hows.Unwritten
said_over true how r rows said other was same = other (some_same how hows.Unwritten (sym said ∙ same))
said_over false how r rows said other was same = was same

replies_same : (plan : Plan) (run : Run) (now : List Row) → replies plan (base_in plan run) now ≡ replies plan (base_in plan run) run.past → replies_in plan (segments_of (run_with run now)) ≡ replies_in plan (segments_of run)
replies_same plan run now same = ap (λ (l : List (List ℕ)). replies_in plan run.closed ++ l) same

replies_over : {K : Type 0} (written : K → Option (List ℕ)) (faults : K → ℕ) (plan : Plan) (run : Run) (how : How) (start old : K) (stop : Option ℕ) → how ≢ hows.Unwritten → has_ended (base_in plan run) (control_pass plan) run.past ≡ false → AreReplies written faults plan run start old stop
    → AreReplies written faults plan (run_with run (over plan (base_in plan run) run.past how)) start old stop
replies_over written faults plan run how start old None other running was =
    let base = base_in plan run in
    record {
      none = said_over (not (is_paused_reason how)) how (row_of plan base run.past (End Control how)) (without_pauses (run.past ++ joined run.closed)) refl other was.none;
      took = subst (λ (l : List (List ℕ)). TookPieces (written start) (written old) l None) (sym (replies_same plan run (over plan base run.past how) (append-nil (replies plan base run.past)))) was.took;
      still = was.still;
    }
replies_over written faults plan run how start old (Some whole) other running was =
    absurd (false≢true (sym running ∙ shows (base_in plan run) run.past (control_pass plan) was.ended))

pub end_goes : {S K C : Type 0} (written : K → Option (List ℕ)) (faults : K → ℕ) (plan : Plan) (run : Run) (how : How) → how ≢ hows.Unwritten → has_ended (base_in plan run) (control_pass plan) run.past ≡ false → (now : List Row) (sink sink_new : K) (old : List (PortEnds S K C)) (made : Stops → Run)
    → now ≡ over plan (base_in plan run) run.past how → sink_new ≡ sink → ((stops : Stops) → run_with run now ≡ made stops) → AllOutputsGoOn written faults plan run (run_with run now) sink sink_new old old made
end_goes {S} {K} {C} written faults plan run how other running now sink sink_new old made now_is sink_is made_so first start known outputs later answers =
    let base = base_in plan run in
    let ended = over plan base run.past how in
    let keeps : (n : ℕ) → KeepsOutput plan base n run.past ended = λ n. keeps_control plan base run.past how n in (
      known,
      subst (λ (l : List Row). AreOutputs written faults plan known (run_with run l) first old) (sym now_is) (outputs_behind written faults plan known run ended first old keeps outputs),
      subst (λ (l : List Row). AreReplies written faults plan (run_with run l) start sink_new known.control) (sym now_is)
          (subst (λ (k : K). AreReplies written faults plan (run_with run ended) start k known.control) (sym sink_is) (replies_over written faults plan run how start sink known.control other running answers)),
      record {
        before = λ stops allowed. record {
          ports = allowed_behind plan known stops run ended keeps (subst (λ (l : List Row). ArePortsAllowed plan known stops (run_with run l)) now_is allowed.ports);
          replies = subst (λ (l : List (List ℕ)). Allows known.control stops.control (length l))
              (ap (λ (l : List Row). replies_in plan (segments_of (run_with run l))) now_is ∙ replies_same plan run ended (append-nil (replies plan base run.past))) allowed.replies;
        };
        made_so = λ stops allowed. made_so stops;
      },
    )

-- the reply to a line, whether it was written
replied_is : (plan : Plan) (base : Base) (stop : Option ℕ) (line : Line) (entry : List Row) → is_stopped stop (length (replies plan base entry)) ≡ false → with_reply plan base stop line entry ≡ behind_reply plan base (is_quit line) entry
replied_is plan base stop line entry is = rw is refl

cut_is : (plan : Plan) (base : Base) (stop : Option ℕ) (line : Line) (entry : List Row) → is_stopped stop (length (replies plan base entry)) ≡ true → with_reply plan base stop line entry ≡ with_event plan base entry (End Control hows.Unwritten)
cut_is plan base stop line entry is = rw is refl

-- a line that was entered and answered
module _ {S K C : Type 0} (written : K → Option (List ℕ)) (faults : K → ℕ) (plan : Plan) (run : Run) (mid now : List Row) (line : Line) (old new : List (PortEnds S K C)) (sink sink_new : K)
    (running : has_ended (base_in plan run) (control_pass plan) run.past ≡ false)
    (goes : OutputsGoOn written faults plan (run_with run mid) (run_with run now) old new (λ stops. run_with run (drained plan (base_in plan run) (stops_left plan stops run).ports plan.ports mid))) where
  abbrev base : Base
  base = base_in plan run

  abbrev entry : List Row
  entry = with_command plan base line run.past

  abbrev replies_at : List Row → List (List ℕ)
  replies_at rows = replies_in plan (segments_of (run_with run rows))

  abbrev count : ℕ
  count = length (replies_in plan (segments_of run))

  entry_replies : replies_at entry ≡ replies_in plan (segments_of run) ++ shown plan base entry ∷ []
  entry_replies = sym (append_assoc (replies_in plan run.closed) (replies plan base run.past) (shown plan base entry ∷ []))

  entry_count : length (replies_at entry) ≡ count + 1
  entry_count = ap (λ (l : List (List ℕ)). length l) entry_replies ∙ length-append (replies_in plan (segments_of run)) (shown plan base entry ∷ [])

  -- where the reply can't be written is told behind those in closed segments
  left_is : (stops : Stops) → is_stopped (stops_left plan stops run).control (length (replies plan base entry)) ≡ is_stopped stops.control (length (replies_at entry))
  left_is stops =
      let early = length (replies_in plan run.closed) in
      let here = length (replies plan base run.past) in
      let one : length (replies plan base entry) ≡ suc here = let size = length-append (replies plan base run.past) (shown plan base entry ∷ []) in omega (arith, size) in
      let all : early + suc here ≡ length (replies_at entry) =
      let size = length-append (replies_in plan run.closed) (replies plan base entry) in omega (arith, size, one) in
      ap (is_stopped (fewer early stops.control)) one ∙ fewer_is stops.control early here ∙ ap (is_stopped stops.control) all

  module _ (first : List (PortEnds S K C)) (start : K) (known : Stops) (outputs : AreOutputs written faults plan known run first old) (keeps : (n : ℕ) → KeepsOutput plan base n run.past mid) where
    ports_go : (later : Stops) × AreOutputs written faults plan later (run_with run now) first new × MovesOn plan known later (run_with run mid) (run_with run now) (λ stops. run_with run (drained plan base (stops_left plan stops run).ports plan.ports mid))
    ports_go = goes first known (outputs_behind written faults plan known run mid first old keeps outputs)

    now_drained : now ≡ drained plan base (stops_left plan ports_go.0 run).ports plan.ports mid
    now_drained = ap (λ (r : Run). r.past) (ports_go.2.made_so ports_go.0 (allowed_itself plan ports_go.0 (run_with run now)))

    replies_now : replies_at now ≡ replies_at mid
    replies_now =
        ap (λ (l : List (List ℕ)). replies_in plan run.closed ++ l)
        (ap (λ (l : List Row). replies plan base l) now_drained ∙ (control_drained plan base (stops_left plan ports_go.0 run).ports plan.ports mid).replies_same)

    end_now : control_end (unbroken (segments_of (run_with run now))) ≡ control_end (unbroken (segments_of (run_with run mid)))
    end_now =
        ap (λ (l : List Row). control_end (without_pauses (l ++ joined run.closed))) now_drained ∙ control_drains plan base (joined run.closed) (stops_left plan ports_go.0 run).ports plan.ports mid

    over_now : has_ended_in plan (control_pass plan) (run_with run now) ≡ has_ended_in plan (control_pass plan) (run_with run mid)
    over_now = ap is_some (ap (λ (l : List Row). end_of base (control_pass plan) l) now_drained ∙ other_drained plan base (stops_left plan ports_go.0 run).ports plan.ports mid)

    -- the run behind the turn, by what its reply made
    made_with : (stops : Stops) → ArePortsAllowed plan ports_go.0 stops (run_with run now) → mid ≡ with_reply plan base (stops_left plan stops run).control line entry → run_with run now ≡ entered_in plan stops (Commands line) run
    made_with stops allowed mid_is =
        ports_go.2.made_so stops allowed ∙ ap (λ (l : List Row). run_with run (drained plan base (stops_left plan stops run).ports plan.ports l)) mid_is

    -- the reply was written
    went_on : mid ≡ behind_reply plan base (is_quit line) entry → TookPieces (written sink) (written sink_new) (shown plan base entry ∷ []) None → faults sink_new ≡ faults sink → RepliesRunOn written faults plan run start sink → known.control ≡ None
        → (later : Stops) × AreOutputs written faults plan later (run_with run now) first new × AreReplies written faults plan (run_with run now) start sink_new later.control × AllFollow plan known later run (run_with run now) (λ stops. entered_in plan stops (Commands line) run)
    went_on mid_is took still was none =
        let mid_replies : replies_at mid ≡ replies_at entry =
        ap (λ (l : List (List ℕ)). replies_in plan run.closed ++ l) (ap (λ (l : List Row). replies plan base l) mid_is ∙ replies_behind plan base (is_quit line) entry) in
        let all_now : replies_at now ≡ replies_at entry = replies_now ∙ mid_replies in
        let size : length (replies_at now) ≡ count + 1 = ap (λ (l : List (List ℕ)). length l) all_now ∙ entry_count in
        let end_mid : control_end (unbroken (segments_of (run_with run mid))) ≢ Some hows.Unwritten =
        subst (λ (l : List Row). control_end (without_pauses (l ++ joined run.closed)) ≢ Some hows.Unwritten) (sym mid_is) (end_behind plan base (is_quit line) entry (joined run.closed) was.none) in (
          with_stop ports_go.0 None,
          outputs_ports written faults plan ports_go.0 None (run_with run now) first new ports_go.1,
          record {
            none = λ same. end_mid (sym end_now ∙ same);
            took = subst (λ (l : List (List ℕ)). TookPieces (written start) (written sink_new) l None) (sym (all_now ∙ entry_replies))
                (took_then (written start) (written sink) (written sink_new) (replies_in plan (segments_of run)) (shown plan base entry ∷ []) was.took took);
            still = still ∙ was.still;
          },
          record {
            before = λ stops allowed. record {
              ports = allowed_behind plan known stops run mid keeps (ports_go.2.before stops allowed.ports);
              replies = rw none (stopped_less stops.control count (length (replies_at now)) (omega (arith, size)) allowed.replies);
            };
            made_so = λ stops allowed.
                let goes_on : is_stopped stops.control (length (replies_at entry)) ≡ false = subst (λ (l : List (List ℕ)). is_stopped stops.control (length l) ≡ false) all_now allowed.replies in
                made_with stops allowed.ports (mid_is ∙ sym (replied_is plan base (stops_left plan stops run).control line entry (left_is stops ∙ goes_on)));
          },
        )

    -- it could not be written
    stopped : mid ≡ with_event plan base entry (End Control hows.Unwritten) → TookPieces (written sink) (written sink_new) (shown plan base entry ∷ []) (Some 0) → Rose (faults sink) (faults sink_new) → RepliesRunOn written faults plan run start sink → known.control ≡ None
        → (later : Stops) × AreOutputs written faults plan later (run_with run now) first new × AreReplies written faults plan (run_with run now) start sink_new later.control × AllFollow plan known later run (run_with run now) (λ stops. entered_in plan stops (Commands line) run)
    stopped mid_is took rose was none =
        let whole = count + 0 in
        let mid_replies : replies_at mid ≡ replies_at entry = ap (λ (l : List (List ℕ)). replies_in plan run.closed ++ l) (ap (λ (l : List Row). replies plan base l) mid_is ∙ append-nil (replies plan base entry)) in
        let all_now : replies_at now ≡ replies_at entry = replies_now ∙ mid_replies in
        let end_mid : control_end (unbroken (segments_of (run_with run mid))) ≡ Some hows.Unwritten = ap (λ (l : List Row). control_end (without_pauses (l ++ joined run.closed))) mid_is in
        let over_mid : has_ended_in plan (control_pass plan) (run_with run mid) ≡ true = ap (λ (l : List Row). has_ended_in plan (control_pass plan) (run_with run l)) mid_is ∙ over_cut in
        let size_entry = entry_count in (
          with_stop ports_go.0 (Some whole),
          outputs_ports written faults plan ports_go.0 (Some whole) (run_with run now) first new ports_go.1,
          record {
            ended = over_now ∙ over_mid;
            failed = end_now ∙ end_mid;
            took = subst (λ (l : List (List ℕ)). TookPieces (written start) (written sink_new) l (Some whole)) (sym (all_now ∙ entry_replies))
                (took_until (written start) (written sink) (written sink_new) (replies_in plan (segments_of run)) (shown plan base entry ∷ []) 0 was.took took);
            rose = rose_since (faults start) (faults sink) (faults sink_new) was.still rose;
          },
          record {
            before = λ stops allowed. record {
              ports = allowed_behind plan known stops run mid keeps (ports_go.2.before stops allowed.ports);
              replies = rw none (subst (λ (o : Option ℕ). is_stopped o count ≡ false) (sym allowed.replies) (not_stopped whole count (omega arith)));
            };
            made_so = λ stops allowed.
                let fails : is_stopped stops.control (length (replies_at entry)) ≡ true =
                subst (λ (o : Option ℕ). is_stopped o (length (replies_at entry)) ≡ true) (sym allowed.replies) (stopped_more whole (length (replies_at entry)) (omega (arith, size_entry))) in
                made_with stops allowed.ports (mid_is ∙ sym (cut_is plan base (stops_left plan stops run).control line entry (left_is stops ∙ fails)));
          },
        )
      where
        itself : (n : ℕ) → (n == n) ≡ true
        itself n = grind (arith, nat_tests)

        over_cut : has_ended_in plan (control_pass plan) (run_with run (with_event plan base entry (End Control hows.Unwritten))) ≡ true
        over_cut = rw (itself (control_pass plan)) refl

  abbrev Gone : List (PortEnds S K C) → K → Stops → Type 0
  Gone first start known =
      (later : Stops) × AreOutputs written faults plan later (run_with run now) first new × AreReplies written faults plan (run_with run now) start sink_new later.control × AllFollow plan known later run (run_with run now) (λ stops. entered_in plan stops (Commands line) run)

  gone_on : (first : List (PortEnds S K C)) (start : K) (known : Stops) → AreOutputs written faults plan known run first old → known.control ≡ None → RepliesRunOn written faults plan run start sink → IsAnswered written faults plan base (is_quit line) entry mid sink sink_new
      → Gone first start known
  gone_on first start known outputs none was (inl whole) =
      went_on first start known outputs (keeps_answered written faults plan base run.past mid line sink sink_new (inl whole)) whole.made whole.took whole.still was none
  gone_on first start known outputs none was (inr front) =
      stopped first start known outputs (keeps_answered written faults plan base run.past mid line sink sink_new (inr front)) front.made front.took front.rose was none

  gone_by : (first : List (PortEnds S K C)) (start : K) (known : Stops) (stop : Option ℕ) → known.control ≡ stop → AreOutputs written faults plan known run first old → AreReplies written faults plan run start sink stop
      → IsAnswered written faults plan base (is_quit line) entry mid sink sink_new → Gone first start known
  gone_by first start known None is outputs was answered = gone_on first start known outputs is was answered
  gone_by first start known (Some whole) is outputs was answered = absurd (false≢true (sym running ∙ shows base run.past (control_pass plan) was.ended))

  pub line_goes : IsAnswered written faults plan base (is_quit line) entry mid sink sink_new → AllOutputsGoOn written faults plan run (run_with run now) sink sink_new old new (λ stops. entered_in plan stops (Commands line) run)
  line_goes answered first start known outputs later answers = gone_by first start known known.control refl outputs answers answered
