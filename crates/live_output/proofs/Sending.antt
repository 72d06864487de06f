-- What a sink took of what is sent at a port, turn by turn of a segment that goes on from others.
use Rattle.std.proofs.Common.{◌≡◌, ℕ, ◌≤◌, ◌==◌, Bool, true, false, List, [], ◌∷◌, ◌++◌, length, take, refl, ap, sym, subst, ◌∙◌, arith, append_assoc, append-nil, Option, Some, None, if◌then◌else◌}
use Rattle.std.proofs.lemmas.Bool.{false≢true}
use Rattle.std.proofs.lemmas.Bool.Decides.{nat_tests}
use Rattle.std.proofs.lemmas.List.{take_all}
use Rattle.savi_kinds.specs.declared.port.Port.{Port}
use Rattle.savi_kinds.specs.declared.plan.Plan.{Plan}
use Rattle.savi_kinds.specs.declared.plan.Format.{Format}
use Rattle.savi_kinds.specs.declared.entry.Who.TheVariants.{Egress}
use Rattle.savi_kinds.specs.declared.entry.How.{How}
use Rattle.savi_kinds.specs.declared.entry.How.TheVariants as hows
use Rattle.savi_kinds.specs.Ports.{number_of}
use Rattle.savi_ends.specs.declared.sink.Put.TheVariants as put
use Rattle.savi_ends.specs.Faults.{Rose}
use Rattle.savi_ends.proofs.FaultCounts.{rose_since}
use Rattle.savi_ends.specs.Octets.{behind, IsFront}
use Rattle.savi_ends.specs.Writes.{Extends}
use Rattle.savi_ends.proofs.Octets.{behind_again}
use Rattle.hist_store.specs.Rows.{Row}
use Rattle.checkpoint.specs.Bases.{Base}
use Rattle.savi_history.specs.Passes.{egress_pass, has_ended, has_port}
use Rattle.savi_history.specs.Endings.{has_pause}
use Rattle.savi_history.specs.Events.{Drain, End}
use Rattle.savi_history.specs.Legal.{IsLegal}
use Rattle.savi_history.specs.PortOutputs.{output_end}
use Rattle.savi_history.specs.Queues.{Item, queue, sent}
use Rattle.savi_history.specs.Replay.{closing, with_event}
use Rattle.savi_history.proofs.Waiting.{sent_end, sent_here}
use Rattle.savi_segments.specs.Segments.{AreLegal, base_after, joined}
use Rattle.savi_segments.specs.Sent.{sent_in}
use Rattle.savi_segments.specs.Unbroken.{unbroken, without_pauses}
use Rattle.core_keep.specs.Seen.{IsLater}
use Rattle.live_session.specs.LiveOutputs.{output_text, sure_output}
use Rattle.live_session.specs.LiveRows.{EgressRow}
use Rattle.live_session.specs.Standing.{OutputStands, Writes, WritesOr, text_so_far}
use Rattle.live_session.proofs.Same.{writes_same}
use Rattle.live_session.proofs.StandsOn.{next_output, same_output}
use Rattle.live_turns.proofs.OpenEnds.{output_open}
use Rattle.live_output.specs.OutputParts.{beginning_left, records_of}
use Rattle.live_output.proofs.PartsJoined.{output_begins, output_behind}

itself : (n : ℕ) → (n == n) ≡ true
itself n = grind (arith, nat_tests)

module _ {K : Type 0} (written : K → Option (List ℕ)) (faults : K → ℕ) (plan : Plan) (before : List (List Row)) (format : Format) (port : Port) (first : K) where
  abbrev base : Base
  base = base_after plan before

  abbrev number : ℕ
  number = number_of port

  -- what was sent so far, in the form of the output, and what of it is sure
  abbrev items : List Row → List Item
  items past = sent_in plan number (past ∷ before)

  abbrev text : List Row → List ℕ
  text past = output_text format (items past)

  abbrev sure : List Row → List ℕ
  sure past = sure_output format plan number (past ∷ before)

  abbrev said : List Row → Option How
  said past = output_end number (unbroken (past ∷ before))

  -- The output goes on, and its sink took all that was sent so far.
  pub record IsSending (past : List Row) (begun : Bool) (now : K) : Type 0 where
    pub writes : Writes written faults format plan number (past ∷ before) begun first now
    pub goes_on : said past ≡ None

  abbrev StandsAt : List Row → Bool → K → Type 0
  StandsAt past begun now = OutputStands written faults format plan number (past ∷ before) begun first now

  -- as it stands behind a segment, by how it has ended there
  stands_so : (past : List Row) (begun : Bool) (now : K) (ended : Option How) → said past ≡ ended → WritesOr written faults ended format plan number (past ∷ before) begun first now → StandsAt past begun now
  stands_so past begun now ended is so = subst (λ (o : Option How). WritesOr written faults o format plan number (past ∷ before) begun first now) (sym is) so

  pub sending_stands : (past : List Row) (begun : Bool) (now : K) → IsSending past begun now → StandsAt past begun now
  sending_stands past begun now sending = stands_so past begun now None sending.goes_on sending.writes

  -- where it stands and its pass is open it goes on
  pub stands_open : (past : List Row) (begun : Bool) (now : K) → said past ≡ None → StandsAt past begun now → IsSending past begun now
  stands_open past begun now open_end stands = record {
    writes = subst (λ (o : Option How). WritesOr written faults o format plan number (past ∷ before) begun first now) open_end stands;
    goes_on = open_end;
  }

  -- the segment begins
  pub sending_starts : (past : List Row) (begun : Bool) (now : K) → past ≡ [] → AreLegal plan before → has_port plan number ≡ true → has_ended base (egress_pass plan number) [] ≡ false
      → OutputStands written faults format plan number before begun first now → IsSending past begun now
  sending_starts past begun now none legal known runs stands =
      let open_end = output_open plan [] before tt legal number known runs in
      let so_far : Writes written faults format plan number before begun first now =
      subst (λ (o : Option How). WritesOr written faults o format plan number before begun first now) open_end stands in
      subst (λ (rows : List Row). IsSending rows begun now) (sym none) (record {
        writes = writes_same written faults format plan number before ([] ∷ before) (next_output plan before format number) first now begun so_far;
        goes_on = open_end;
      })

  -- the header

  begun_text : (past : List Row) (begun : Bool) → (begun ≡ false → items past ≡ []) → text_so_far begun (text past) ++ beginning_left begun format ≡ text past
  begun_text past true none = append-nil (text past)
  begun_text past false none = sym (ap (λ (l : List Item). output_text format l) (none refl) ∙ output_begins format)

  took_more : (past : List Row) (begun : Bool) (old new : K) (octets : List ℕ) → IsSending past begun old → written new ≡ behind (written old) octets
      → written new ≡ behind (written first) (text_so_far begun (text past) ++ octets)
  took_more past begun old new octets sending wrote =
      wrote
      ∙ ap (λ (o : Option (List ℕ)). behind o octets) sending.writes.took
      ∙ behind_again (written first) (text_so_far begun (text past)) octets

  -- it stands there now
  pub sending_begun : (past : List Row) (begun : Bool) (old new : K) → IsSending past begun old → Extends put.Done (written old) (written new) (beginning_left begun format) → faults new ≡ faults old → IsSending past true new
  sending_begun past begun old new sending wrote still = record {
    writes = record {
      took = took_more past begun old new (beginning_left begun format) sending wrote ∙ ap (behind (written first)) (begun_text past begun sending.writes.unbegun);
      unbegun = λ is. absurd (false≢true (sym is));
      unsure = λ is. absurd (false≢true (sym is));
      still = still ∙ sending.writes.still;
    };
    goes_on = sending.goes_on;
  }

  -- what an end of the egress leaves

  sent_ends : (found : List Row) (how : How) → items (with_event plan base found (End (Egress port) how)) ≡ items found
  sent_ends found how = ap (λ (l : List Item). sent_in plan number before ++ l) (sent_end plan base found (Egress port) how number)

  failed_so : (found : List Row) → said (with_event plan base found (End (Egress port) hows.Failed)) ≡ Some hows.Failed
  failed_so found = ap (λ (b : Bool). if b then Some hows.Failed else output_end number (without_pauses (found ++ joined before))) (itself number)

  ended_so : (found : List Row) → said (with_event plan base found (End (Egress port) hows.End)) ≡ Some hows.End
  ended_so found = ap (λ (b : Bool). if b then Some hows.End else output_end number (without_pauses (found ++ joined before))) (itself number)

  -- others went on since the pass saw the segment
  module _ (seen found : List Row) (legal : IsLegal plan base found) (later : IsLater (egress_pass plan number) seen found) where
    pub sending_later : (begun : Bool) (now : K) → IsSending seen begun now → IsSending found begun now
    sending_later begun now sending =
        let same = same_output plan before seen found legal format number later in
        record {
          writes = writes_same written faults format plan number (seen ∷ before) (found ∷ before) same first now begun sending.writes;
          goes_on = sym same.ended ∙ sending.goes_on;
        }

  -- the egress ended, or was paused, behind a turn that left nothing to write
  ends_by : (found now : List Row) (sink : K) (paused : Bool) → IsSending found true sink → now ≡ with_event plan base found (End (Egress port) (if paused then hows.Paused else hows.End)) → StandsAt now true sink
  ends_by found now sink true sending made =
      let last = with_event plan base found (End (Egress port) hows.Paused) in
      subst (λ (rows : List Row). StandsAt rows true sink) (sym made)
      (stands_so last true sink None sending.goes_on (record {
        took = sending.writes.took ∙ ap (λ (l : List Item). behind (written first) (output_text format l)) (sym (sent_ends found hows.Paused));
        unbegun = λ is. absurd (false≢true (sym is));
        unsure = λ is. absurd (false≢true (sym is));
        still = sending.writes.still;
      }))
  ends_by found now sink false sending made =
      let last = with_event plan base found (End (Egress port) hows.End) in
      subst (λ (rows : List Row). StandsAt rows true sink) (sym made)
      (stands_so last true sink (Some hows.End) (ended_so found) (ended_row found last sink sending refl))
    where
      no_failure : Some hows.End ≡ Some hows.Failed → ⊥
      no_failure e = cc

      ended_row : (found last : List Row) (sink : K) → IsSending found true sink → last ≡ with_event plan base found (End (Egress port) hows.End) → EgressRow written faults format plan number (last ∷ before) first sink
      ended_row found last sink sending is =
          let how : said last ≡ Some hows.End = ap (λ (rows : List Row). said rows) is ∙ ended_so found in
          let all : items found ≡ items last = sym (ap (λ (rows : List Row). items rows) is ∙ sent_ends found hows.End) in
          record {
            fits = rw how (sending.writes.took ∙ ap (λ (l : List Item). behind (written first) (output_text format l)) all);
            later = omega (arith, sending.writes.still);
            broken = λ failed. absurd (no_failure (sym how ∙ failed));
            still = λ other. sending.writes.still;
          }

  pub sending_ends : (found now : List Row) (sink : K) → IsSending found true sink → now ≡ with_event plan base found (End (Egress port) (closing found)) → StandsAt now true sink
  sending_ends found now sink sending made = ends_by found now sink (has_pause found) sending made

  -- the egress ended for a failed write: what the sink took is a front of the output that holds what is sure
  fails_by : (found now : List Row) (begun : Bool) (sink : K) (octets : List ℕ) → written sink ≡ behind (written first) octets → IsFront octets (text found) → IsFront (sure found) octets
      → Rose (faults first) (faults sink) → faults first ≤ faults sink → now ≡ with_event plan base found (End (Egress port) hows.Failed) → StandsAt now begun sink
  fails_by found now begun sink octets took front firm rose later made =
      let how : said now ≡ Some hows.Failed = ap (λ (rows : List Row). said rows) made ∙ failed_so found in
      let all : items found ≡ items now = sym (ap (λ (rows : List Row). items rows) made ∙ sent_ends found hows.Failed) in
      let sures : sure found ≡ sure now = sym (ap (λ (rows : List Row). sure rows) made) in
      stands_so now begun sink (Some hows.Failed) how (record {
        fits = rw how (
          octets,
          took,
          subst (λ (l : List Item). IsFront octets (output_text format l)) all front,
          subst (λ (l : List ℕ). IsFront l octets) sures firm,
        );
        later = later;
        broken = λ failed. rose;
        still = λ other. absurd (other how);
      })

  -- the header could not be written
  pub unbegun_fails : (found now : List Row) (begun : Bool) (old new : K) → IsSending found begun old → begun ≡ false → Extends put.Failed (written old) (written new) (beginning_left begun format)
      → Rose (faults old) (faults new) → faults old ≤ faults new → now ≡ with_event plan base found (End (Egress port) hows.Failed) → StandsAt now true new
  unbegun_fails found now begun old new sending not_begun failed rose later made =
      let so_far : List ℕ = text_so_far begun (text found) in
      fails_by found now true new (so_far ++ failed.0) (took_more found begun old new failed.0 sending failed.2)
      (failed.1.0, sym (begun_text found begun sending.writes.unbegun) ∙ ap (λ (l : List ℕ). so_far ++ l) failed.1.1 ∙ sym (append_assoc so_far failed.0 failed.1.0))
      (so_far ++ failed.0, ap (λ (l : List ℕ). l ++ (so_far ++ failed.0)) (sym (sending.writes.unsure not_begun)))
      (rose_since (faults first) (faults old) (faults new) sending.writes.still rose) (omega (arith, sending.writes.still, later)) made

  -- a turn that took all that waited
  module _ (found : List Row) (batch : List Item) (now : List Row) (all : batch ≡ queue plan base number found) (made : now ≡ with_event plan base found (Drain port (length batch))) where
    sent_now : items now ≡ items found ++ batch
    sent_now =
        ap (λ (rows : List Row). items rows) made
        ∙ ap (λ (l : List Item). sent_in plan number before ++ l) (sent_here plan base found port (length batch))
        ∙ ap (λ (l : List Item). sent_in plan number before ++ (sent plan base number found ++ take (length batch) l)) (sym all)
        ∙ ap (λ (l : List Item). sent_in plan number before ++ (sent plan base number found ++ l)) (take_all (length batch) batch (omega arith))
        ∙ sym (append_assoc (sent_in plan number before) (sent plan base number found) batch)

    text_now : text now ≡ text found ++ records_of format batch
    text_now = ap (λ (l : List Item). output_text format l) sent_now ∙ output_behind format (items found) batch

    sure_now : sure now ≡ text found
    sure_now =
        ap (λ (rows : List Row). sure rows) made
        ∙ ap (λ (b : Bool). if b then text found else sure found) (itself number)

    said_now : said now ≡ said found
    said_now = ap (λ (rows : List Row). said rows) made

    -- and which was written
    pub sending_sends : (old new : K) → IsSending found true old → Extends put.Done (written old) (written new) (records_of format batch) → faults new ≡ faults old → IsSending now true new
    sending_sends old new sending wrote still = record {
      writes = record {
        took = took_more found true old new (records_of format batch) sending wrote ∙ ap (behind (written first)) (sym text_now);
        unbegun = λ is. absurd (false≢true (sym is));
        unsure = λ is. absurd (false≢true (sym is));
        still = still ∙ sending.writes.still;
      };
      goes_on = said_now ∙ sending.goes_on;
    }

    -- or not, and others went on
    pub unsent_fails : (old new : K) → IsSending found true old → Extends put.Failed (written old) (written new) (records_of format batch) → Rose (faults old) (faults new) → faults old ≤ faults new
        → (last end : List Row) → IsLegal plan base last → IsLater (egress_pass plan number) now last
        → end ≡ with_event plan base last (End (Egress port) hows.Failed) → StandsAt end true new
    unsent_fails old new sending failed rose later last end legal goes_last ended =
        let same = same_output plan before now last legal format number goes_last in
        let octets : List ℕ = text found ++ failed.0 in
        let front : IsFront octets (text now) = (
          failed.1.0,
          text_now ∙ ap (λ (l : List ℕ). text found ++ l) failed.1.1 ∙ sym (append_assoc (text found) failed.0 failed.1.0),
        ) in
        let firm : IsFront (sure now) octets = (failed.0, ap (λ (l : List ℕ). l ++ failed.0) (sym sure_now)) in
        fails_by last end true new octets (took_more found true old new failed.0 sending failed.2)
        (subst (λ (l : List Item). IsFront octets (output_text format l)) same.items front)
        (subst (λ (l : List ℕ). IsFront l octets) same.sure firm)
        (rose_since (faults first) (faults old) (faults new) sending.writes.still rose) (omega (arith, sending.writes.still, later)) ended
