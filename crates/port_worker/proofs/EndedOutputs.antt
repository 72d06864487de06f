-- What a sink took, behind the end of a replay.
use Rattle.std.proofs.Common.{◌≡◌, ◌≢◌, ℕ, Bool, true, false, if◌then◌else◌, List, ◌++◌, sym, ap, ◌∙◌, subst, Option, Some, None}
use Rattle.savi_kinds.specs.declared.plan.Plan.{Plan}
use Rattle.savi_kinds.specs.declared.entry.How.{How}
use Rattle.savi_kinds.specs.declared.entry.How.TheVariants as hows
use Rattle.savi_ends.specs.Octets.{behind}
use Rattle.savi_ends.specs.Faults.{Rose}
use Rattle.pcap_io.specs.Captures.{capture_text}
use Rattle.hist_store.specs.Rows.{Row}
use Rattle.checkpoint.specs.Bases.{Base}
use Rattle.savi_history.specs.Endings.{has_pause}
use Rattle.savi_history.specs.Passes.{egress_pass}
use Rattle.savi_history.specs.Queues.{Item}
use Rattle.savi_history.specs.Outputs.{sent_items}
use Rattle.savi_history.specs.PortOutputs.{output_end, pieces, TookPieces, FitsOutput}
use Rattle.savi_history.specs.Replay.{closing}
use Rattle.savi_history.proofs.TakenPieces.{pieces_are}
use Rattle.savi_segments.specs.Replay.{Run, base_in, has_ended_in, run_with, segments_of}
use Rattle.savi_segments.specs.Segments.{joined}
use Rattle.savi_segments.specs.Sent.{FitsOutputIn, before_last_drain_in, sent_in}
use Rattle.savi_segments.specs.Unbroken.{unbroken, without_pauses}
use Rattle.savi_segments.proofs.Adjoined.{said_over}
use Rattle.port_worker.specs.Outputs.{IsOutput, IsOutputEnded}
use Rattle.port_worker.proofs.Unbroken.{IsUnpaused, alike_in, output_said}

-- an output that is closed, paused or not, has taken all
closed_fits : (before after : Option (List ℕ)) (output sure : List ℕ) (paused : Bool) → after ≡ behind before output → FitsOutput before after output sure (Some (if paused then hows.Paused else hows.End))
closed_fits before after output sure true took = took
closed_fits before after output sure false took = took

closed_fails_not : (paused : Bool) → Some (if paused then hows.Paused else hows.End) ≢ Some hows.Failed
closed_fails_not true same = cc
closed_fails_not false same = cc

module _ {K : Type 0} (written : K → Option (List ℕ)) (faults : K → ℕ) (plan : Plan) (run : Run) (now : List Row) (n : ℕ) (old new : K) (none_run : IsUnpaused run.past) (none_now : IsUnpaused now)
    (ended : IsOutputEnded plan (base_in plan run) run.past now n) where
  abbrev base : Base
  base = base_in plan run

  abbrev after : Run
  after = run_with run now

  abbrev early : List Row
  early = joined run.closed

  -- the same was sent in all segments
  sent_same : sent_in plan n (segments_of after) ≡ sent_in plan n (segments_of run)
  sent_same = ap (λ (l : List Item). sent_in plan n run.closed ++ l) ended.sent_same

  sure_same : before_last_drain_in plan n (segments_of after) ≡ before_last_drain_in plan n (segments_of run)
  sure_same = ended.sure_same (sent_in plan n run.closed) (before_last_drain_in plan n run.closed)

  -- an output that goes on is closed
  ends_so : has_ended_in plan (egress_pass plan n) run ≡ false → output_end n (unbroken (segments_of after)) ≡ Some (closing run.past)
  ends_so running =
      output_said now early none_now n ∙ ap (λ (o : Option How). said_over o (output_end n (without_pauses early))) (ended.ended (alike_in plan run (egress_pass plan n) none_run ∙ running))

  -- one at which a write failed stays so
  stays_so : has_ended_in plan (egress_pass plan n) run ≡ true → output_end n (unbroken (segments_of after)) ≡ output_end n (unbroken (segments_of run))
  stays_so over =
      output_said now early none_now n
      ∙ ap (λ (o : Option How). said_over o (output_end n (without_pauses early))) (ended.still (alike_in plan run (egress_pass plan n) none_run ∙ over))
      ∙ sym (output_said run.past early none_run n)

  pub took_of : (known : Option ℕ) → IsOutput written faults plan run n old new known → TookPieces (written old) (written new) (pieces (sent_in plan n (segments_of after))) known
  took_of None output = subst (λ (l : List Item). TookPieces (written old) (written new) (pieces l) None) (sym sent_same) output.took
  took_of (Some whole) output = subst (λ (l : List Item). TookPieces (written old) (written new) (pieces l) (Some whole)) (sym sent_same) output.took

  pub fit_of : (known : Option ℕ) → IsOutput written faults plan run n old new known → FitsOutputIn plan (written old) (written new) n (segments_of after)
  fit_of None output =
      let all = capture_text (sent_items (sent_in plan n (segments_of after))) in
      subst (λ (o : Option How). FitsOutput (written old) (written new) all (before_last_drain_in plan n (segments_of after)) o) (sym (ends_so output.running))
      (closed_fits (written old) (written new) all (before_last_drain_in plan n (segments_of after)) (has_pause run.past)
      (took_of None output ∙ ap (behind (written old)) (pieces_are (sent_in plan n (segments_of after)))))
  fit_of (Some whole) output =
      subst (λ (l : List Item). FitsOutput (written old) (written new) (capture_text (sent_items l)) (before_last_drain_in plan n (segments_of after)) (output_end n (unbroken (segments_of after)))) (sym sent_same)
      (subst (λ (s : List ℕ). FitsOutput (written old) (written new) (capture_text (sent_items (sent_in plan n (segments_of run)))) s (output_end n (unbroken (segments_of after)))) (sym sure_same)
      (subst (λ (o : Option How). FitsOutput (written old) (written new) (capture_text (sent_items (sent_in plan n (segments_of run)))) (before_last_drain_in plan n (segments_of run)) o) (sym (stays_so output.ended)) output.fits))

  pub broken_of : (known : Option ℕ) → IsOutput written faults plan run n old new known → output_end n (unbroken (segments_of after)) ≡ Some hows.Failed → Rose (faults old) (faults new)
  broken_of None output failed = absurd (closed_fails_not (has_pause run.past) (sym (ends_so output.running) ∙ failed))
  broken_of (Some whole) output failed = output.rose

  pub still_of : (known : Option ℕ) → IsOutput written faults plan run n old new known → output_end n (unbroken (segments_of after)) ≢ Some hows.Failed → faults new ≡ faults old
  still_of None output other = output.still
  still_of (Some whole) output other = absurd (other (stays_so output.ended ∙ output.failed))
