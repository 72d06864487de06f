-- What the steps of a replay leave of the output of a port, within a segment: how it has ended, and what of it is sure.
use Rattle.std.proofs.Common.{◌≡◌, ◌≢◌, ℕ, suc, ◌+◌, ◌<◌, ◌==◌, not, Bool, true, false, List, [], ◌∷◌, ◌++◌, drop, take, length, length-append, refl, sym, ap, subst, ◌∙◌, arith, if◌then◌else◌, ◌⊎◌, inl, inr, Option, Some, None, append-nil, append_assoc}
use Rattle.std.specs.Option.{is_some}
use Rattle.std.proofs.lemmas.Bool.Decides.{nat_tests}
use Rattle.std.proofs.lemmas.Bool.{cases_eq, cond-false, cond-true, eq-eqb, false≢true, ne_eqb}
use Rattle.savi_kinds.specs.declared.port.Port.{Port}
use Rattle.savi_kinds.specs.declared.plan.Plan.{Plan}
use Rattle.savi_kinds.specs.declared.plan.PortPlan.{PortPlan}
use Rattle.savi_kinds.specs.declared.entry.Who.{Who}
use Rattle.savi_kinds.specs.declared.entry.Who.TheVariants as passes
use Rattle.savi_kinds.specs.declared.entry.How.{How}
use Rattle.savi_kinds.specs.declared.entry.How.TheVariants as hows
use Rattle.savi_kinds.specs.Ports.{number_of}
use Rattle.savi_kinds.specs.Arrivals.{Arrival}
use Rattle.savi_kinds.specs.Arrivals as arrivals
use Rattle.cli_lang.specs.Arrivals.{Line}
use Rattle.pcap_io.specs.Captures.{capture_text}
use Rattle.hist_store.specs.Rows.{Row}
use Rattle.checkpoint.specs.Bases.{Base}
use Rattle.savi_history.specs.Endings.{has_pause, is_paused_reason}
use Rattle.savi_history.specs.Events.{Command, Drain, End, command_act, row_of}
use Rattle.savi_history.specs.Outputs.{sent_items}
use Rattle.savi_history.specs.Passes.{control_pass, egress_pass, has_ended, has_port, pass_of}
use Rattle.savi_history.specs.PortOutputs.{output_end, output_ended_by}
use Rattle.savi_history.specs.Queues.{Item, all_joined, offered_at, queue, sent}
use Rattle.savi_history.specs.Replay.{PortStops, Stops, closed, closing, drained, egress_ended, event_of, is_stopped, pieces_by, with_drain, with_end, with_event, with_failure, with_reply}
use Rattle.savi_history.proofs.Closed.{nothing_joins_frame, nothing_joins_long, same_port}
use Rattle.savi_history.proofs.Joining.{joined_closed, room_ended}
use Rattle.savi_history.proofs.PassNumbers.{known_at}
use Rattle.savi_history.proofs.PortPlaces.{place_within}
use Rattle.savi_history.proofs.Replaying.{IsAt}
use Rattle.savi_history.proofs.Replying.{behind_reply}
use Rattle.savi_history.proofs.TakenPieces.{Fine}
use Rattle.savi_history.proofs.Waiting.{drained_empty, empty_end, ended_now, ended_other, sent_arrival, sent_elsewhere, sent_end, sent_here}
use Rattle.savi_segments.specs.Checkpoints.{end_of}
use Rattle.savi_segments.specs.Replay.{fewer, inputs_paused, ports_paused, with_pause}
use Rattle.savi_segments.specs.Segments.{base_after, joined}
use Rattle.savi_segments.specs.Sent.{before_last_drain, before_last_drain_in, sent_in}
use Rattle.savi_segments.specs.Unbroken.{without_pauses}
use Rattle.savi_segments.proofs.FittingReplies.{fewer_is}
use Rattle.savi_segments.proofs.Legality.{AreKnown, all_known}

none_of : (o : Option How) → false ≡ is_some o → o ≡ None
none_of None is = refl
none_of (Some how) is = absurd (false≢true is)

some_positive : (items : List Item) → (length items == 0) ≡ false → 0 < length items
some_positive items is = grind (arith, nat_tests)

none_length : (items : List Item) → items ≡ [] → (length items == 0) ≡ false → ⊥
none_length items none is = let some = some_positive items is in let size = ap (λ (l : List Item). length l) none in absurd (omega (arith, some, size))

-- the rows with one more or not, where that one says nothing of an output
pub said_if : (n : ℕ) (r : Row) (rows : List Row) (b : Bool) → output_end n (r ∷ rows) ≡ output_end n rows → output_end n (if b then r ∷ rows else rows) ≡ output_end n rows
said_if n r rows true is = is
said_if n r rows false is = refl

said_row : (n : ℕ) (r : Row) (rows : List Row) (b : Bool) (end : Option How) → b ≡ true → output_end n (r ∷ rows) ≡ end → output_end n (if b then r ∷ rows else rows) ≡ end
said_row n r rows true end is here = here
said_row n r rows false end is here = absurd (false≢true is)

told_by : (paused here : Bool) (how : How) (before : Option How) → paused ≡ false → here ≡ true → (if paused then before else if here then Some how else before) ≡ Some how
told_by true here how before good is = absurd (false≢true (sym good))
told_by false true how before good is = refl
told_by false false how before good is = absurd (false≢true is)

same_either : (paused : Bool) (before : Option How) → (if paused then before else before) ≡ before
same_either true before = refl
same_either false before = refl

module _ (plan : Plan) (stops : Stops) (n : ℕ) (place : IsAt plan n) where
  abbrev pub stop : Option ℕ
  stop = stops.ports n

  pub known : has_port plan n ≡ true
  known = subst (λ (m : ℕ). has_port plan m ≡ true) (sym place.number) (known_at plan place.place place.inside)

  -- the pass of the output
  abbrev pub pass : ℕ
  pass = egress_pass plan n

  -- Within the segment that goes on behind these, the newest first.
  module _ (earlier : List (List Row)) where
    abbrev pub base : Base
    base = base_after plan earlier

    -- the stops of outputs as the segment meets them
    abbrev left : PortStops
    left = λ q. fewer (length (sent_in plan q earlier)) (stops.ports q)

    -- how the output has ended, by all rows and for good, and what was sent and is sure, in all segments
    abbrev pub said : List Row → Option How
    said past = output_end n (without_pauses (past ++ joined earlier))

    abbrev pub told : List Row → Option How
    told past = end_of base pass past

    abbrev pub items : List Row → List Item
    items past = sent_in plan n earlier ++ sent plan base n past

    abbrev pub sure : List Row → List ℕ
    sure past = before_last_drain plan base n (sent_in plan n earlier) (before_last_drain_in plan n earlier) past

    -- how many pieces the sink takes is told behind those of the earlier segments
    stopped_alike : (past : List Row) → is_stopped (left n) (pieces_by plan base n past) ≡ is_stopped stop (suc (length (items past)))
    stopped_alike past =
        let size = length-append (sent_in plan n earlier) (sent plan base n past) in
        let count : length (sent_in plan n earlier) + suc (length (sent plan base n past)) ≡ suc (length (items past)) = omega (arith, size) in
        fewer_is stop (length (sent_in plan n earlier)) (length (sent plan base n past)) ∙ ap (is_stopped stop) count

    -- nothing of the output changed
    pub record IsSame (past now : List Row) : Type 0 where
      pub said_same : said now ≡ said past
      pub told_same : told now ≡ told past
      pub ended_same : has_ended base pass now ≡ has_ended base pass past
      pub sent_same : sent plan base n now ≡ sent plan base n past
      pub sure_same : sure now ≡ sure past
      pub empty_same : has_ended base pass past ≡ true → queue plan base n past ≡ [] → queue plan base n now ≡ []

    same_self : (past : List Row) → IsSame past past
    same_self past = record { said_same = refl; told_same = refl; ended_same = refl; sent_same = refl; sure_same = refl; empty_same = λ is none. none }

    same_then : (past mid now : List Row) → IsSame past mid → IsSame mid now → IsSame past now
    same_then past mid now first later = record {
      said_same = later.said_same ∙ first.said_same;
      told_same = later.told_same ∙ first.told_same;
      ended_same = later.ended_same ∙ first.ended_same;
      sent_same = later.sent_same ∙ first.sent_same;
      sure_same = later.sure_same ∙ first.sure_same;
      empty_same = λ is none. later.empty_same (first.ended_same ∙ is) (first.empty_same is none);
    }

    pub same_arrival : (past : List Row) (port : Port) (a : Arrival) → IsSame past (with_event plan base past (event_of port a))
    same_arrival past port (arrivals.Frame stamp octets) = record {
      said_same = refl;
      told_same = refl;
      ended_same = refl;
      sent_same = sent_arrival plan base past port (arrivals.Frame stamp octets) n;
      sure_same = refl;
      empty_same = λ is none. nothing_joins_frame plan base past n port stamp octets is ∙ none;
    }
    same_arrival past port (arrivals.Long stamp len) = record {
      said_same = refl;
      told_same = refl;
      ended_same = refl;
      sent_same = sent_arrival plan base past port (arrivals.Long stamp len) n;
      sure_same = refl;
      empty_same = λ is none. nothing_joins_long plan base past n port stamp len is ∙ none;
    }

    same_command : (past : List Row) (line : Line) → IsSame past (with_event plan base past (Command line.stamp line.command))
    same_command past line =
        let offered = offered_at plan base past (command_act past line.stamp line.command) line.command n in
        record {
          said_same = refl;
          told_same = refl;
          ended_same = refl;
          sent_same = append-nil (sent plan base n past);
          sure_same = refl;
          empty_same = λ is none. ap (λ (room : ℕ). all_joined room (queue plan base n past) offered) (room_ended plan base past n is) ∙ joined_closed (queue plan base n past) offered ∙ none;
        }

    -- the end of another pass
    same_other : (past : List Row) (who : Who) (how : How) → pass_of plan who ≢ pass → ((before : Option How) → output_ended_by n who how before ≡ before) → IsSame past (with_event plan base past (End who how))
    same_other past who how apart none =
        let rows = without_pauses (past ++ joined earlier) in
        record {
          said_same = said_if n (row_of plan base past (End who how)) rows (not (is_paused_reason how)) (none (output_end n rows));
          told_same = ap (λ (here : Bool). if is_paused_reason how then told past else if here then Some how else told past) (ne_eqb (pass_of plan who) pass apart) ∙ same_either (is_paused_reason how) (told past);
          ended_same = ended_other plan base past who how pass apart;
          sent_same = sent_end plan base past who how n;
          sure_same = refl;
          empty_same = λ is none. empty_end plan base past who how n none;
        }

    pub same_ingress : (past : List Row) (port : Port) (how : How) → has_port plan (number_of port) ≡ true → IsSame past (with_event plan base past (End (passes.Ingress port) how))
    same_ingress past port how there =
        let within = place_within plan (number_of port) there in same_other past (passes.Ingress port) how (λ e. absurd (omega (arith, within, e))) (λ before. refl)

    pub same_control : (past : List Row) (how : How) → IsSame past (with_event plan base past (End passes.Control how))
    same_control past how = same_other past passes.Control how (λ e. absurd (omega (arith, e))) (λ before. refl)

    same_ticker : (past : List Row) (how : How) → IsSame past (with_event plan base past (End passes.Ticker how))
    same_ticker past how = same_other past passes.Ticker how (λ e. absurd (omega (arith, e))) (λ before. refl)

    pub same_egress : (past : List Row) (port : Port) (how : How) → has_port plan (number_of port) ≡ true → number_of port ≢ n → IsSame past (with_event plan base past (End (passes.Egress port) how))
    same_egress past port how there other =
        same_other past (passes.Egress port) how (λ e. other (same_port plan port n there known e))
        (λ before. ap (λ (b : Bool). if b then Some how else before) (ne_eqb (number_of port) n other))

    same_failure : (past : List Row) (port : Port) (b : Bool) → has_port plan (number_of port) ≡ true → number_of port ≢ n → IsSame past (if b then with_event plan base past (End (passes.Egress port) hows.Failed) else past)
    same_failure past port true there other = same_egress past port hows.Failed there other
    same_failure past port false there other = same_self past

    -- a line and its reply
    pub same_line : (past : List Row) (line : Line) (reply_stop : Option ℕ) → IsSame past (with_reply plan base reply_stop line (with_event plan base past (Command line.stamp line.command)))
    same_line past line reply_stop =
        let mid = with_event plan base past (Command line.stamp line.command) in
        let commanded = same_command past line in
        behind_reply plan base line mid (IsSame past) commanded
        (same_then past mid (with_event plan base mid (End passes.Control hows.Unwritten)) commanded (same_control mid hows.Unwritten))
        (same_then past mid (with_event plan base mid (End passes.Control hows.Quit)) commanded (same_control mid hows.Quit)) reply_stop

    -- pauses of inputs

    same_if : (past now : List Row) (b : Bool) → IsSame past now → IsSame past (if b then past else now)
    same_if past now true same = same_self past
    same_if past now false same = same

    same_ports : (ports : List PortPlan) (past : List Row) → AreKnown plan ports → IsSame past (ports_paused plan base ports past)
    same_ports [] past there = same_self past
    same_ports (p ∷ ports) past there =
        let who = passes.Ingress p.number in
        let mid = with_pause plan base who past in
        same_then past mid (ports_paused plan base ports mid)
        (same_if past (with_event plan base past (End who hows.Paused)) (has_ended base (pass_of plan who) past) (same_ingress past p.number hows.Paused there.0))
        (same_ports ports mid there.1)

    pub same_paused : (past : List Row) → IsSame past (inputs_paused plan base past)
    same_paused past =
        let mid = with_pause plan base passes.Control past in
        same_then past mid (inputs_paused plan base past)
        (same_if past (with_event plan base past (End passes.Control hows.Paused)) (has_ended base (control_pass plan) past) (same_control past hows.Paused))
        (same_ports plan.ports mid (all_known plan base stops))

    -- The output stands well with what was sent; its end is told alike by its rows and for good, and, while the segment goes
    -- on, by its pass; and nothing waits behind it.
    pub record Stands (past : List Row) : Type 0 where
      pub fine : Fine stop (said past) (items past) (sure past)
      pub alike : told past ≡ said past
      pub good : has_ended base pass past ≡ is_some (told past)
      pub waits : has_ended base pass past ≡ true → queue plan base n past ≡ []

    pub fine_by : (o : Option How) (now : List Row) → said now ≡ o → Fine stop o (items now) (sure now) → Fine stop (said now) (items now) (sure now)
    fine_by o now is fine = subst (λ (x : Option How). Fine stop x (items now) (sure now)) (sym is) fine

    fine_same : (past now : List Row) → IsSame past now → Fine stop (said past) (items past) (sure past) → Fine stop (said now) (items now) (sure now)
    fine_same past now same fine =
        fine_by (said past) now same.said_same
        (subst (λ (l : List Item). Fine stop (said past) (sent_in plan n earlier ++ l) (sure now)) (sym same.sent_same)
        (subst (λ (text : List ℕ). Fine stop (said past) (items past) text) (sym same.sure_same) fine))

    pub stands_same : (past now : List Row) → IsSame past now → Stands past → Stands now
    stands_same past now same stands = record {
      fine = fine_same past now same stands.fine;
      alike = same.told_same ∙ stands.alike ∙ sym same.said_same;
      good = same.ended_same ∙ stands.good ∙ ap is_some (sym same.told_same);
      waits = λ is. let was = sym same.ended_same ∙ is in same.empty_same was (stands.waits was);
    }

    -- no write of an output that is open has failed
    running : (past : List Row) → said past ≡ None → Fine stop (said past) (items past) (sure past) → is_stopped stop (suc (length (items past))) ≡ false
    running past none fine = subst (λ (o : Option How). Fine stop o (items past) (sure past)) none fine

    -- the output fails here

    module _ (past : List Row) (port : Port) (how : How) (good : is_paused_reason how ≡ false) (here : number_of port ≡ n) where
      abbrev ended_row : List Row
      ended_row = with_event plan base past (End (passes.Egress port) how)

      pub said_here : said ended_row ≡ Some how
      said_here =
          let rows = without_pauses (past ++ joined earlier) in
          said_row n (row_of plan base past (End (passes.Egress port) how)) rows (not (is_paused_reason how)) (Some how) (ap (λ (b : Bool). not b) good)
          (cond-true (number_of port == n) (Some how) (output_end n rows) (eq-eqb (number_of port) n here))

      pub told_here : told ended_row ≡ Some how
      told_here = told_by (is_paused_reason how) (pass_of plan (passes.Egress port) == pass) how (told past) good (eq-eqb (pass_of plan (passes.Egress port)) pass (ap (egress_pass plan) here))

      pub ended_here : has_ended base pass ended_row ≡ true
      ended_here = subst (λ (m : ℕ). has_ended base (egress_pass plan m) ended_row ≡ true) here (ended_now plan base past (passes.Egress port) how)

    stands_failed : (past : List Row) (port : Port) → number_of port ≡ n → let now = with_event plan base past (End (passes.Egress port) hows.Failed) in Fine stop (Some hows.Failed) (items now) (sure now) → Stands now
    stands_failed past port here fine =
        let now = with_event plan base past (End (passes.Egress port) hows.Failed) in
        let is_told = told_here past port hows.Failed refl here in
        let is_said = said_here past port hows.Failed refl here in
        record {
          fine = fine_by (Some hows.Failed) now is_said fine;
          alike = is_told ∙ sym is_said;
          good = ended_here past port hows.Failed refl here ∙ ap is_some (sym is_told);
          waits = λ is. cond-true (number_of port == n) [] (queue plan base n past) (eq-eqb (number_of port) n here);
        }

    -- drains

    same_drain : (past : List Row) (port : Port) (count : ℕ) → number_of port ≢ n → IsSame past (with_event plan base past (Drain port count))
    same_drain past port count other =
        let apart = ne_eqb (number_of port) n other in
        record {
          said_same = refl;
          told_same = refl;
          ended_same = refl;
          sent_same = sent_elsewhere plan base past port count n other;
          sure_same = cond-false (number_of port == n) (capture_text (sent_items (items past))) (sure past) apart;
          empty_same = λ is none. cond-false (number_of port == n) (drop count (queue plan base n past)) (queue plan base n past) apart ∙ none;
        }

    module _ (past : List Row) (port : Port) (count : ℕ) (here : number_of port ≡ n) (open_pass : has_ended base pass past ≡ false) (stands : Stands past) where
      abbrev mid : List Row
      mid = with_event plan base past (Drain port count)

      none_said : said past ≡ None
      none_said = sym stands.alike ∙ none_of (told past) (sym open_pass ∙ stands.good)

      sent_mid : sent plan base n mid ≡ sent plan base n past ++ take count (queue plan base n past)
      sent_mid = subst (λ (m : ℕ). sent plan base m mid ≡ sent plan base m past ++ take count (queue plan base m past)) here (sent_here plan base past port count)

      fine_failed : is_stopped stop (suc (length (items mid))) ≡ true → let now = with_event plan base mid (End (passes.Egress port) hows.Failed) in Fine stop (Some hows.Failed) (items now) (sure now)
      fine_failed stopped =
          let now = with_event plan base mid (End (passes.Egress port) hows.Failed) in
          let sent_now : items now ≡ items mid = ap (λ (l : List Item). sent_in plan n earlier ++ l) (sent_end plan base mid (passes.Egress port) hows.Failed n) in
          let more = take count (queue plan base n past) in (
            ap (λ (l : List Item). is_stopped stop (suc (length l))) sent_now ∙ stopped,
            inr (record {
              front = items past;
              more = more;
              all = sent_now ∙ ap (λ (l : List Item). sent_in plan n earlier ++ l) sent_mid ∙ sym (append_assoc (sent_in plan n earlier) (sent plan base n past) more);
              text_is = cond-true (number_of port == n) (capture_text (sent_items (items past))) (sure past) (eq-eqb (number_of port) n here);
              taken = running past none_said stands.fine;
            }),
          )

      -- a write failed behind the drain, or none did
      drained_here : (b : Bool) → is_stopped stop (suc (length (items mid))) ≡ b → Stands (if b then with_event plan base mid (End (passes.Egress port) hows.Failed) else mid)
      drained_here true stopped = stands_failed mid port here (fine_failed stopped)
      drained_here false not_stopped = record {
        fine = fine_by None mid none_said not_stopped;
        alike = stands.alike;
        good = stands.good;
        waits = λ is. absurd (false≢true (sym open_pass ∙ is));
      }

    -- where something waits the output is open
    open_if_waiting : (past : List Row) (b : Bool) → (length (queue plan base n past) == 0) ≡ false → Stands past → has_ended base pass past ≡ b → has_ended base pass past ≡ false
    open_if_waiting past true some stands is = absurd (none_length (queue plan base n past) (stands.waits is) some)
    open_if_waiting past false some stands is = is

    drain_at : (past : List Row) (port : Port) (b : Bool) → (number_of port ≡ n) ⊎ (number_of port ≢ n) → has_port plan (number_of port) ≡ true → (length (queue plan base (number_of port) past) == 0) ≡ b → Stands past
        → Stands (if b then past else with_failure plan base left port (with_event plan base past (Drain port (length (queue plan base (number_of port) past)))))
    drain_at past port true where_is there is stands = stands
    drain_at past port false (inl here) there is stands =
        let count = length (queue plan base (number_of port) past) in
        let now = with_event plan base past (Drain port count) in
        let some : (length (queue plan base n past) == 0) ≡ false = subst (λ (m : ℕ). (length (queue plan base m past) == 0) ≡ false) here is in
        let open_pass = open_if_waiting past (has_ended base pass past) some stands refl in
        let stopped : is_stopped (left (number_of port)) (pieces_by plan base (number_of port) now) ≡ is_stopped stop (suc (length (items now))) =
        ap (λ (m : ℕ). is_stopped (left m) (pieces_by plan base m now)) here ∙ stopped_alike now in
        drained_here past port count here open_pass stands (is_stopped (left (number_of port)) (pieces_by plan base (number_of port) now)) (sym stopped)
    drain_at past port false (inr other) there is stands =
        let count = length (queue plan base (number_of port) past) in
        let now = with_event plan base past (Drain port count) in
        stands_same now (with_failure plan base left port now) (same_failure now port (is_stopped (left (number_of port)) (pieces_by plan base (number_of port) now)) there other)
        (stands_same past now (same_drain past port count other) stands)

    pub stands_drained : (ports : List PortPlan) (past : List Row) → AreKnown plan ports → Stands past → Stands (drained plan base left ports past)
    stands_drained [] past there stands = stands
    stands_drained (q ∷ qs) past there stands =
        let waiting = queue plan base (number_of q.number) past in
        stands_drained qs (with_drain plan base left q.number (length waiting) past) there.1
        (drain_at past q.number (length waiting == 0) (cases_eq (number_of q.number) n) there.0 refl stands)

    -- The segment closes: its ends are paused, or are for good.
    pub record IsClosing (past : List Row) : Type 0 where
      pub fine : Fine stop (said past) (items past) (sure past)
      pub alike : told past ≡ said past
      pub shown : is_some (told past) ≡ true → has_ended base pass past ≡ true
      pub good : has_pause past ≡ false → has_ended base pass past ≡ is_some (told past)
      pub quiet : queue plan base n past ≡ []

    closing_first : (past : List Row) → Stands past → queue plan base n past ≡ [] → IsClosing past
    closing_first past stands quiet = record { fine = stands.fine; alike = stands.alike; shown = λ is. stands.good ∙ is; good = λ none. stands.good; quiet = quiet }

    closing_same : (past now : List Row) → IsSame past now → has_pause now ≡ has_pause past → queue plan base n now ≡ [] → IsClosing past → IsClosing now
    closing_same past now same pause quiet is = record {
      fine = fine_same past now same is.fine;
      alike = same.told_same ∙ is.alike ∙ sym same.said_same;
      shown = λ some. same.ended_same ∙ is.shown (ap is_some (sym same.told_same) ∙ some);
      good = λ none. same.ended_same ∙ is.good (sym pause ∙ none) ∙ ap is_some (sym same.told_same);
      quiet = quiet;
    }

    none_if_open : (o : Option How) (ended : Bool) → (is_some o ≡ true → ended ≡ true) → ended ≡ false → o ≡ None
    none_if_open None ended shown is = refl
    none_if_open (Some how) ended shown is = absurd (false≢true (sym is ∙ shown refl))

    module _ (past : List Row) (port : Port) (here : number_of port ≡ n) (open_pass : has_ended base pass past ≡ false) (is : IsClosing past) where
      sent_behind : (how : How) → items (with_event plan base past (End (passes.Egress port) how)) ≡ items past
      sent_behind how = ap (λ (l : List Item). sent_in plan n earlier ++ l) (sent_end plan base past (passes.Egress port) how n)

      none_yet : said past ≡ None
      none_yet = sym is.alike ∙ none_if_open (told past) (has_ended base pass past) is.shown open_pass

      not_stopped : (how : How) → is_stopped stop (suc (length (items (with_event plan base past (End (passes.Egress port) how))))) ≡ false
      not_stopped how = ap (λ (l : List Item). is_stopped stop (suc (length l))) (sent_behind how) ∙ running past none_yet is.fine

      ends_here : (b : Bool) → has_pause past ≡ b → IsClosing (with_event plan base past (End (passes.Egress port) (if b then hows.Paused else hows.End)))
      ends_here true pause =
          let now = with_event plan base past (End (passes.Egress port) hows.Paused) in
          record {
            fine = fine_by None now none_yet (not_stopped hows.Paused);
            alike = is.alike;
            shown = λ some. subst (λ (m : ℕ). has_ended base (egress_pass plan m) now ≡ true) here (ended_now plan base past (passes.Egress port) hows.Paused);
            good = λ none. absurd (false≢true (sym none ∙ pause));
            quiet = empty_end plan base past (passes.Egress port) hows.Paused n is.quiet;
          }
      ends_here false pause =
          let now = with_event plan base past (End (passes.Egress port) hows.End) in
          let is_told = told_here past port hows.End refl here in
          let is_said = said_here past port hows.End refl here in
          let over = ended_here past port hows.End refl here in
          record {
            fine = fine_by (Some hows.End) now is_said (not_stopped hows.End);
            alike = is_told ∙ sym is_said;
            shown = λ some. over;
            good = λ none. over ∙ ap is_some (sym is_told);
            quiet = empty_end plan base past (passes.Egress port) hows.End n is.quiet;
          }

    close_at : (past : List Row) (port : Port) (b : Bool) → (number_of port ≡ n) ⊎ (number_of port ≢ n) → has_port plan (number_of port) ≡ true → has_ended base (egress_pass plan (number_of port)) past ≡ b → IsClosing past
        → IsClosing (if b then past else with_event plan base past (End (passes.Egress port) (closing past)))
    close_at past port true where_is there ended is = is
    close_at past port false (inl here) there ended is =
        ends_here past port here (subst (λ (m : ℕ). has_ended base (egress_pass plan m) past ≡ false) here ended) is (has_pause past) refl
    close_at past port false (inr other) there ended is =
        closing_same past (with_event plan base past (End (passes.Egress port) (closing past))) (same_egress past port (closing past) there other) refl
        (empty_end plan base past (passes.Egress port) (closing past) n is.quiet) is

    closing_all : (ports : List PortPlan) (past : List Row) → AreKnown plan ports → IsClosing past → IsClosing (egress_ended plan base ports past)
    closing_all [] past there is = is
    closing_all (q ∷ qs) past there is =
        closing_all qs (with_end plan base q.number past) there.1
        (close_at past q.number (has_ended base (egress_pass plan (number_of q.number)) past) (cases_eq (number_of q.number) n) there.0 refl is)

    pub closing_closed : (past : List Row) → Stands past → queue plan base n past ≡ [] → IsClosing (closed plan base past)
    closing_closed past stands quiet =
        let ticked = with_event plan base past (End passes.Ticker (closing past)) in
        closing_all plan.ports ticked (all_known plan base stops)
        (closing_same past ticked (same_ticker past (closing past)) refl (empty_end plan base past passes.Ticker (closing past) n quiet) (closing_first past stands quiet))

    -- pauses leave nothing waiting where nothing waited

    empty_if : (past : List Row) (who : Who) (b : Bool) → queue plan base n past ≡ [] → queue plan base n (if b then past else with_event plan base past (End who hows.Paused)) ≡ []
    empty_if past who true quiet = quiet
    empty_if past who false quiet = empty_end plan base past who hows.Paused n quiet

    empty_ports : (ports : List PortPlan) (past : List Row) → queue plan base n past ≡ [] → queue plan base n (ports_paused plan base ports past) ≡ []
    empty_ports [] past quiet = quiet
    empty_ports (p ∷ ports) past quiet =
        let who = passes.Ingress p.number in
        empty_ports ports (with_pause plan base who past) (empty_if past who (has_ended base (pass_of plan who) past) quiet)

    pub empty_paused : (past : List Row) → queue plan base n past ≡ [] → queue plan base n (inputs_paused plan base past) ≡ []
    empty_paused past quiet = empty_ports plan.ports (with_pause plan base passes.Control past) (empty_if past passes.Control (has_ended base (control_pass plan) past) quiet)

    -- behind a step nothing waits
    pub quiet_drained : (past : List Row) → queue plan base n (drained plan base left plan.ports past) ≡ []
    quiet_drained past =
        subst (λ (m : ℕ). queue plan base m (drained plan base left plan.ports past) ≡ []) (sym place.number) (drained_empty plan base left plan.ports past place.place place.inside)
