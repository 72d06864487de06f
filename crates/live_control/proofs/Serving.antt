-- Control between two lines, and once it has ended: what was taken and is kept, and the sink, by what the segments tell.
use Rattle.std.proofs.Common.{◌≡◌, ℕ, false, List, [], ◌∷◌, ◌++◌, refl, sym, ap, ◌∙◌, subst, append-nil, append_assoc, Option, Some, None}
use Rattle.std.specs.List.{concat}
use Rattle.std.proofs.lemmas.List.Elements.{All-push}
use Rattle.std.proofs.lemmas.List.Folds.{concat-append}
use Rattle.savi_kinds.specs.declared.plan.Plan.{Plan}
use Rattle.savi_kinds.specs.declared.entry.How.{How}
use Rattle.savi_kinds.specs.declared.entry.How.TheVariants as hows
use Rattle.savi_ends.specs.Octets.{IsFront, behind}
use Rattle.savi_ends.proofs.FaultCounts.{rose_since}
use Rattle.savi_ends.proofs.Octets.{behind_again}
use Rattle.cli_lang.specs.Arrivals.{Line}
use Rattle.hist_store.specs.Rows.{Row}
use Rattle.checkpoint.specs.Bases.{Base}
use Rattle.savi_history.specs.ControlFits.{HasNoQuit}
use Rattle.savi_history.specs.ControlInputs.{control_end, entered_lines, is_quit}
use Rattle.savi_history.specs.ControlOutputs.{FitsReplies, IsUnwritten, replies}
use Rattle.savi_segments.specs.Segments.{base_after}
use Rattle.savi_segments.specs.Sent.{replies_in}
use Rattle.savi_segments.specs.Unbroken.{unbroken}
use Rattle.control_reader.specs.Answered.{AnswersSo, waiting_line}
use Rattle.control_reader.specs.Heard.{HeardLine, Said, Ended, all_said, reason_of}
use Rattle.control_reader.specs.declared.arrival.LinesEnd.{LinesEnd}
use Rattle.control_reader.specs.declared.arrival.LinesEnd.TheVariants as ends
use Rattle.control_reader.proofs.Going.{not_before, said_more}
use Rattle.live_session.specs.Standing.{ControlStands, NoControlStands, Replies, RepliesOr}
use Rattle.live_control.specs.LineTurns.{EndsControl, IsAnswered, TellsSameLines}
use Rattle.live_control.specs.Sides.{ControlGoes}

-- octets of a sink

took_more : (first mid now : Option (List ℕ)) (told : List (List ℕ)) (reply : List ℕ) → mid ≡ behind first (concat told) → now ≡ behind mid reply → now ≡ behind first (concat (told ++ reply ∷ []))
took_more first mid now told reply before one =
    one
    ∙ ap (λ (o : Option (List ℕ)). behind o reply) before
    ∙ behind_again first (concat told) reply
    ∙ ap (behind first) (sym (concat-append told (reply ∷ []) ∙ ap (λ (l : List ℕ). concat told ++ l) (append-nil reply)))

took_front : (first mid now : Option (List ℕ)) (told : List (List ℕ)) (reply front : List ℕ) → mid ≡ behind first (concat told) → IsFront front reply → now ≡ behind mid front → IsUnwritten first now (told ++ reply ∷ [])
took_front first mid now told reply front before part one = record {
  written = told;
  last = reply;
  all = refl;
  front = front;
  part = part;
  took = one ∙ ap (λ (o : Option (List ℕ)). behind o front) before ∙ behind_again first (concat told) front;
}

-- counts of faults

module _ {K : Type 0} (written : K → Option (List ℕ)) (faults : K → ℕ) (plan : Plan) where
  -- control goes on in these segments, and stands so
  module _ (segments : List (List Row)) (taken : List HeardLine) (kept : Option HeardLine) (first now : K) where
    pub goes_stands : ControlGoes written faults plan segments taken kept first now → ControlStands written faults plan segments taken kept first now
    goes_stands goes = record {
      answers = subst (λ (end : Option How). AnswersSo (entered_lines (unbroken segments)) end taken kept) (sym goes.open_end) (goes.none, goes.all);
      replies = subst (λ (end : Option How). RepliesOr written faults end plan segments first now) (sym goes.open_end) goes.replied;
    }

    pub stands_goes : control_end (unbroken segments) ≡ None → ControlStands written faults plan segments taken kept first now → ControlGoes written faults plan segments taken kept first now
    stands_goes unended stands =
        let answers = subst (λ (end : Option How). AnswersSo (entered_lines (unbroken segments)) end taken kept) unended stands.answers in
        record {
          open_end = unended;
          none = answers.0;
          all = answers.1;
          replied = subst (λ (end : Option How). RepliesOr written faults end plan segments first now) unended stands.replies;
        }

  -- the newest segment has gone on, from this base

  module _ (base : Base) (before after : List Row) (earlier : List (List Row)) (from : base ≡ base_after plan earlier) where
    abbrev was : List (List Row)
    was = before ∷ earlier

    abbrev is : List (List Row)
    is = after ∷ earlier

    replies_same : replies plan base after ≡ replies plan base before → replies_in plan is ≡ replies_in plan was
    replies_same same = ap (λ (texts : List (List ℕ)). replies_in plan earlier ++ texts) (subst (λ (b : Base). replies plan b after ≡ replies plan b before) from same)

    replies_more : (reply : List ℕ) → replies plan base after ≡ replies plan base before ++ reply ∷ [] → replies_in plan is ≡ replies_in plan was ++ reply ∷ []
    replies_more reply more =
        ap (λ (texts : List (List ℕ)). replies_in plan earlier ++ texts) (subst (λ (b : Base). replies plan b after ≡ replies plan b before ++ reply ∷ []) from more)
        ∙ sym (append_assoc (replies_in plan earlier) (replies plan (base_after plan earlier) before) (reply ∷ []))

    -- nothing more is told
    pub goes_same : (taken : List HeardLine) (kept : Option HeardLine) (first now : K) → TellsSameLines plan base before after → ControlGoes written faults plan was taken kept first now → ControlGoes written faults plan is taken kept first now
    goes_same taken kept first now same goes =
        let lines : entered_lines (unbroken is) ≡ entered_lines (unbroken was) = ap (λ (t : List Line × Option How). t.0) (same.told earlier) in
        record {
          open_end = ap (λ (t : List Line × Option How). t.1) (same.told earlier) ∙ goes.open_end;
          none = subst (λ (ls : List Line). HasNoQuit ls) (sym lines) goes.none;
          all = goes.all ∙ ap (λ (ls : List Line). all_said ls ++ waiting_line kept) (sym lines);
          replied = record {
            took = goes.replied.took ∙ ap (λ (texts : List (List ℕ)). behind (written first) (concat texts)) (sym (replies_same same.replied));
            still = goes.replied.still;
          };
        }

    module _ (line : Line) (taken : List HeardLine) (first old new : K) (goes : ControlGoes written faults plan was taken (Some (Said line)) first old) where
      abbrev lines_now : List Line
      lines_now = entered_lines (unbroken was) ++ line ∷ []

      all_now : taken ≡ all_said lines_now
      all_now = goes.all ∙ sym (said_more (entered_lines (unbroken was)) line)

      -- the line was answered, and control goes on
      pub goes_line : IsAnswered written faults plan base line before after old new None → ControlGoes written faults plan is taken None first new
      goes_line answered =
          let told = answered.told earlier in
          let lines : entered_lines (unbroken is) ≡ lines_now = ap (λ (t : List Line × Option How). t.0) told in
          record {
            open_end = ap (λ (t : List Line × Option How). t.1) told ∙ goes.open_end;
            none = subst (λ (ls : List Line). HasNoQuit ls) (sym lines) (All-push (λ (l : Line). is_quit l ≡ false) (entered_lines (unbroken was)) line goes.none answered.took.0);
            all = all_now ∙ ap all_said (sym lines) ∙ sym (append-nil (all_said (entered_lines (unbroken is))));
            replied = record {
              took = took_more (written first) (written old) (written new) (replies_in plan was) answered.reply goes.replied.took answered.took.1
                  ∙ ap (λ (texts : List (List ℕ)). behind (written first) (concat texts)) (sym (replies_more answered.reply answered.replied));
              still = answered.took.2 ∙ goes.replied.still;
            };
          }

      -- or it was the last one
      pub line_last : (how : How) → IsAnswered written faults plan base line before after old new (Some how) → ControlStands written faults plan is taken None first new
      line_last hows.Quit answered =
          let told = answered.told earlier in
          record {
            answers = subst (λ (t : List Line × Option How). AnswersSo t.0 t.1 taken None) (sym told)
                ((record { front = entered_lines (unbroken was); last = line; all = refl; none = goes.none; quit = answered.took.0 }, all_now), refl);
            replies = subst (λ (end : Option How). RepliesOr written faults end plan is first new) (sym (ap (λ (t : List Line × Option How). t.1) told)) (record {
              took = took_more (written first) (written old) (written new) (replies_in plan was) answered.reply goes.replied.took answered.took.1
                  ∙ ap (λ (texts : List (List ℕ)). behind (written first) (concat texts)) (sym (replies_more answered.reply answered.replied));
              still = answered.took.2 ∙ goes.replied.still;
            });
          }
      line_last hows.Unwritten answered =
          let told = answered.told earlier in
          let end : control_end (unbroken is) ≡ Some hows.Unwritten = ap (λ (t : List Line × Option How). t.1) told in
          let front : IsUnwritten (written first) (written new) (replies_in plan was ++ answered.reply ∷ []) =
          took_front (written first) (written old) (written new) (replies_in plan was) answered.reply answered.took.0 goes.replied.took answered.took.1 answered.took.2 in
          record {
            answers = subst (λ (t : List Line × Option How). AnswersSo t.0 t.1 taken None) (sym told)
                ((record { front = entered_lines (unbroken was); last = line; all = refl; none = goes.none }, [], all_now ∙ sym (append-nil (all_said lines_now))), refl);
            replies = subst (λ (e : Option How). RepliesOr written faults e plan is first new) (sym end) (
              subst (λ (e : Option How). FitsReplies (written first) (written new) (replies_in plan is) e) (sym end)
                  (subst (λ (texts : List (List ℕ)). IsUnwritten (written first) (written new) texts) (sym (replies_more answered.reply answered.replied)) front),
              not_before (faults first) (faults old) (faults new) goes.replied.still answered.later,
              rose_since (faults first) (faults old) (faults new) goes.replied.still answered.took.3,
            );
          }
      line_last hows.End answered = absurd answered.took
      line_last (hows.Malformed at) answered = absurd answered.took
      line_last (hows.Overlong at) answered = absurd answered.took
      line_last hows.Failed answered = absurd answered.took
      line_last hows.Paused answered = absurd answered.took

    -- the input has ended

    module _ (taken : List HeardLine) (first now : K) where
      replies_ended : (how : How) → EndsControl plan base how before after → Replies written faults plan was first now → Replies written faults plan is first now
      replies_ended how ended replied = record {
        took = replied.took ∙ ap (λ (texts : List (List ℕ)). behind (written first) (concat texts)) (sym (replies_same ended.replied));
        still = replied.still;
      }

      stands_by : (how : How) → EndsControl plan base how before after → AnswersSo (entered_lines (unbroken was)) (Some how) taken None → RepliesOr written faults (Some how) plan is first now
          → ControlStands written faults plan is taken None first now
      stands_by how ended answers replied = record {
        answers = subst (λ (t : List Line × Option How). AnswersSo t.0 t.1 taken None) (sym (ended.told earlier)) answers;
        replies = subst (λ (end : Option How). RepliesOr written faults end plan is first now) (sym (ap (λ (t : List Line × Option How). t.1) (ended.told earlier))) replied;
      }

      pub input_ended : (end : LinesEnd) → EndsControl plan base (reason_of end) before after → ControlGoes written faults plan was taken (Some (Ended (reason_of end))) first now → ControlStands written faults plan is taken None first now
      input_ended ends.End ended goes = stands_by hows.End ended ((goes.none, goes.all), refl) (replies_ended hows.End ended goes.replied)
      input_ended (ends.Malformed at) ended goes = stands_by (hows.Malformed at) ended ((goes.none, goes.all), refl) (replies_ended (hows.Malformed at) ended goes.replied)
      input_ended (ends.Overlong at) ended goes = stands_by (hows.Overlong at) ended ((goes.none, goes.all), refl) (replies_ended (hows.Overlong at) ended goes.replied)
      input_ended ends.Failed ended goes = stands_by hows.Failed ended ((goes.none, goes.all), refl) (replies_ended hows.Failed ended goes.replied)

    -- without control its end is all
    pub no_control : EndsControl plan base hows.End before after → NoControlStands was → NoControlStands is
    no_control ended stands = record {
      none = ap (λ (t : List Line × Option How). t.0) (ended.told earlier) ∙ stands.none;
      ended = λ how same. some_same (sym same ∙ ap (λ (t : List Line × Option How). t.1) (ended.told earlier));
    }
      where
        some_same : {one other : How} → Some one ≡ Some other → one ≡ other
        some_same e = cc

-- the next segment begins, and holds nothing yet
pub first_stands : {K : Type 0} (written : K → Option (List ℕ)) (faults : K → ℕ) (plan : Plan) (before : List (List Row)) {taken : List HeardLine} {kept : Option HeardLine} {first now : K}
    → ControlStands written faults plan before taken kept first now → ControlStands written faults plan ([] ∷ before) taken kept first now
first_stands written faults plan before {taken} {kept} {first} {now} stands = record {
  answers = stands.answers;
  replies = replies_first (control_end (unbroken before)) stands.replies;
}
  where
    none_sent : replies_in plan ([] ∷ before) ≡ replies_in plan before
    none_sent = append-nil (replies_in plan before)

    by_replies : Replies written faults plan before first now → Replies written faults plan ([] ∷ before) first now
    by_replies replied = record {
      took = replied.took ∙ ap (λ (texts : List (List ℕ)). behind (written first) (concat texts)) (sym none_sent);
      still = replied.still;
    }

    replies_first : (end : Option How) → RepliesOr written faults end plan before first now → RepliesOr written faults end plan ([] ∷ before) first now
    replies_first None replied = by_replies replied
    replies_first (Some hows.End) replied = by_replies replied
    replies_first (Some hows.Quit) replied = by_replies replied
    replies_first (Some (hows.Malformed at)) replied = by_replies replied
    replies_first (Some (hows.Overlong at)) replied = by_replies replied
    replies_first (Some hows.Failed) replied = by_replies replied
    replies_first (Some hows.Unwritten) replied = (
      subst (λ (texts : List (List ℕ)). FitsReplies (written first) (written now) texts (control_end (unbroken before))) (sym none_sent) replied.0,
      replied.1,
      replied.2,
    )
    replies_first (Some hows.Paused) replied = absurd replied

-- what is passed over stands behind the last line
pub passed_more : (entered : List Line) (taken now more : List HeardLine) (kept : Option HeardLine) → now ≡ taken ++ more → AnswersSo entered (Some hows.Unwritten) taken kept → AnswersSo entered (Some hows.Unwritten) now kept
passed_more entered taken now more kept passed answers = (
  (answers.0.0, answers.0.1 ++ more, passed ∙ ap (λ (l : List HeardLine). l ++ more) answers.0.2 ∙ append_assoc (all_said entered) answers.0.1 more),
  answers.1,
)
