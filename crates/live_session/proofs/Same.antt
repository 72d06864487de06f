-- Two lists of segments that tell the same of an input, an output or control: what stands by one stands by the other.
use Rattle.std.proofs.Common.{◌≡◌, ℕ, Bool, List, ap, sym, subst, ◌∙◌, Option, Some, None}
use Rattle.std.specs.List.{concat}
use Rattle.savi_kinds.specs.declared.plan.Plan.{Plan}
use Rattle.savi_kinds.specs.declared.plan.Format.{Format}
use Rattle.savi_kinds.specs.declared.entry.How.{How}
use Rattle.savi_kinds.specs.declared.entry.How.TheVariants as hows
use Rattle.savi_kinds.specs.Arrivals.{Arrival}
use Rattle.savi_ends.specs.Octets.{behind}
use Rattle.cli_lang.specs.Arrivals.{Line}
use Rattle.parcel_ring.specs.Handed.{Handed}
use Rattle.hist_store.specs.Rows.{Row}
use Rattle.savi_history.specs.ControlInputs.{control_end, entered_lines}
use Rattle.savi_history.specs.ControlOutputs.{FitsReplies}
use Rattle.savi_history.specs.PortInputs.{arrived, input_end}
use Rattle.savi_history.specs.PortOutputs.{FitsOutput, output_end}
use Rattle.savi_history.specs.Queues.{Item}
use Rattle.savi_segments.specs.Sent.{replies_in, sent_in}
use Rattle.savi_segments.specs.Unbroken.{unbroken}
use Rattle.port_reader.specs.Judging.{JudgesSo}
use Rattle.control_reader.specs.Heard.{HeardLine}
use Rattle.control_reader.specs.Answered.{AnswersSo}
use Rattle.live_session.specs.LiveOutputs.{output_text, sure_output}
use Rattle.live_session.specs.LiveRows.{EgressRow}
use Rattle.live_session.specs.Standing.{ControlStands, InputStands, NoControlStands, OutputStands, Replies, RepliesOr, Writes, WritesOr, text_so_far}

pub record SameInput (port : ℕ) (old new : List (List Row)) : Type 0 where
  pub arrivals : arrived port (unbroken old) ≡ arrived port (unbroken new)
  pub ended : input_end port (unbroken old) ≡ input_end port (unbroken new)

pub record SameOutput (format : Format) (plan : Plan) (port : ℕ) (old new : List (List Row)) : Type 0 where
  pub items : sent_in plan port old ≡ sent_in plan port new
  pub sure : sure_output format plan port old ≡ sure_output format plan port new
  pub ended : output_end port (unbroken old) ≡ output_end port (unbroken new)

pub record SameControl (plan : Plan) (old new : List (List Row)) : Type 0 where
  pub lines : entered_lines (unbroken old) ≡ entered_lines (unbroken new)
  pub told : replies_in plan old ≡ replies_in plan new
  pub ended : control_end (unbroken old) ≡ control_end (unbroken new)

pub input_same : (port : ℕ) (old new : List (List Row)) (taken : List Handed) (kept : Option Handed) → SameInput port old new → InputStands port old taken kept → InputStands port new taken kept
input_same port old new taken kept same stands =
    subst (λ (x : List Arrival × Option How). JudgesSo x.0 x.1 taken kept) (λ i. (same.arrivals i, same.ended i)) stands

module _ {K : Type 0} (written : K → Option (List ℕ)) (faults : K → ℕ) where
  module _ (format : Format) (plan : Plan) (port : ℕ) (old new : List (List Row)) (same : SameOutput format plan port old new) (first now : K) where
    pub egress_same : EgressRow written faults format plan port old first now → EgressRow written faults format plan port new first now
    egress_same row = record {
      fits = subst (λ (x : List Item × List ℕ × Option How). FitsOutput (written first) (written now) (output_text format x.0) x.1 x.2)
          (λ i. (same.items i, same.sure i, same.ended i)) row.fits;
      later = row.later;
      broken = λ failed. row.broken (same.ended ∙ failed);
      still = λ other. row.still (λ failed. other (sym same.ended ∙ failed));
    }

    pub writes_same : (begun : Bool) → Writes written faults format plan port old begun first now → Writes written faults format plan port new begun first now
    writes_same begun writes = record {
      took = writes.took ∙ ap (λ (l : List Item). behind (written first) (text_so_far begun (output_text format l))) same.items;
      unbegun = λ is. sym same.items ∙ writes.unbegun is;
      unsure = λ is. sym same.sure ∙ writes.unsure is;
      still = writes.still;
    }

    writes_or_same : (ended : Option How) (begun : Bool) → WritesOr written faults ended format plan port old begun first now → WritesOr written faults ended format plan port new begun first now
    writes_or_same None begun writes = writes_same begun writes
    writes_or_same (Some how) begun row = egress_same row

    pub output_same : (begun : Bool) → OutputStands written faults format plan port old begun first now → OutputStands written faults format plan port new begun first now
    output_same begun stands =
        subst (λ (ended : Option How). WritesOr written faults ended format plan port new begun first now) same.ended
        (writes_or_same (output_end port (unbroken old)) begun stands)

  module _ (plan : Plan) (old new : List (List Row)) (same : SameControl plan old new) (first now : K) where
    replies_same : Replies written faults plan old first now → Replies written faults plan new first now
    replies_same replies = record {
      took = replies.took ∙ ap (λ (l : List (List ℕ)). behind (written first) (concat l)) same.told;
      still = replies.still;
    }

    replies_or_same : (ended : Option How) → RepliesOr written faults ended plan old first now → RepliesOr written faults ended plan new first now
    replies_or_same (Some hows.Unwritten) lost = (
      subst (λ (x : List (List ℕ) × Option How). FitsReplies (written first) (written now) x.0 x.1) (λ i. (same.told i, same.ended i)) lost.0,
      lost.1,
      lost.2,
    )
    replies_or_same (Some hows.End) replies = replies_same replies
    replies_or_same (Some hows.Quit) replies = replies_same replies
    replies_or_same (Some (hows.Malformed at)) replies = replies_same replies
    replies_or_same (Some (hows.Overlong at)) replies = replies_same replies
    replies_or_same (Some hows.Failed) replies = replies_same replies
    replies_or_same (Some hows.Paused) never = never
    replies_or_same None replies = replies_same replies

    pub control_same : (taken : List HeardLine) (kept : Option HeardLine) → ControlStands written faults plan old taken kept first now → ControlStands written faults plan new taken kept first now
    control_same taken kept stands = record {
      answers = subst (λ (x : List Line × Option How). AnswersSo x.0 x.1 taken kept) (λ i. (same.lines i, same.ended i)) stands.answers;
      replies = subst (λ (ended : Option How). RepliesOr written faults ended plan new first now) same.ended
          (replies_or_same (control_end (unbroken old)) stands.replies);
    }

pub no_control_same : (plan : Plan) (old new : List (List Row)) → SameControl plan old new → NoControlStands old → NoControlStands new
no_control_same plan old new same stands = record {
  none = sym same.lines ∙ stands.none;
  ended = λ how is. stands.ended how (same.ended ∙ is);
}
