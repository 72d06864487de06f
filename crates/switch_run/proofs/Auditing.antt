-- How the audit of a journal ends.
use Rattle.std.proofs.Common.{◌≡◌, ◌≢◌, ◌≤◌, ℕ, ◌⊎◌, inl, inr, not, Bool, true, false, List, [], ◌∷◌, ◌++◌, refl, sym, ap, ◌∙◌, subst, arith, append-nil, Option, Some, IfSome}
use Rattle.std.proofs.lemmas.Bool.{false≢true}
use Rattle.savi_kinds.specs.declared.plan.Plan.{Plan}
use Rattle.savi_ends.specs.declared.world.Std.TheVariants.{Out}
use Rattle.savi_ends.specs.Faults.{Rose}
use Rattle.savi_ends.specs.Octets.{IsFront, behind}
use Rattle.savi_ends.specs.Places.{Book, IsOnlyOut, IsReady, OthersStay, Place}
use Rattle.savi_ends.proofs.Ready.{opened_alone}
use Rattle.hist_store.specs.Rows.{Row}
use Rattle.savi_history.specs.Summary.{capped}
use Rattle.run_config.specs.Configs.{EndHasFault, EndHasNoFault, OfText}
use Rattle.run_config.specs.Words.{IsAudit}
use Rattle.run_config.proofs.Configured.{if_text, kept_fault, kept_sound, of_told}
use Rattle.journal_check.specs.declared.answer.Checked.{Checked}
use Rattle.journal_check.specs.declared.answer.Checked.TheVariants.{Good, Wrong, BadLine, Failed, NoMemory}
use Rattle.journal_check.specs.Answers.{HasReadHeader, IfRead, IsAnswer, IsBadHeader, IsBeforeEntries, past_text}
use Rattle.journal_check.specs.Laws.{IsFinishedJournal}
use Rattle.journal_check.specs.Pieces.{GaveSome}
use Rattle.journal_check.specs.Seen.{seen}
use Rattle.journal_check.specs.Watched.{all_watched}
use Rattle.journal_write.specs.Written.{WasGiven}
use Rattle.audit_run.specs.declared.auditor.Auditor.{Auditor}
use Rattle.audit_run.specs.PassedFrames.{audited_count, passed_frames}
use Rattle.audit_run.specs.Violations.{violation_lines}
use Rattle.audit_run.specs.Auditing.{IsUnbegun}
use Rattle.audit_run.specs.Audited.{Audits, DidNothing, IsAuditOf, IsAudited, IsAuditedInPart}
use Rattle.audit_run.specs.Printed.{HasPrinted}
use Rattle.audit_run.proofs.Leading.{if_read}
use Rattle.switch_report.specs.RunLines.{cannot_open_line, memory_line}
use Rattle.switch_run.specs.Audits.{IsAuditRun, IsAuditText, IsAuditedFile, IsSomeAudit, Prints, StaysUnwritten, audit_error, audit_status, audit_text, closing_line}
use Rattle.switch_run.specs.Causes.{IsOneOf, Keeps, TookOrPart, quiet_statuses, statuses}
use Rattle.switch_run.specs.Checks.{IsCheckedUnopened, IsKept, check_line}
use Rattle.switch_run.specs.Session.{WasTold, ToldBy}
use Rattle.switch_run.proofs.Through.{keeps_of}
use Rattle.switch_run.proofs.Running.{Ran, inputs_first, inputs_last, ran_told, ran_quiet, ran_open, ran_unfailed, out≢err}

-- what holds of the statuses of an audit holds of this one
by_answer : (P : ℕ → Type 0) (written : Bool) (answer : Checked) → P 0 → P 1 → P 4 → P 5 → P 6 → P (audit_status written answer)
by_answer P true (Good entries) zero one four five six = zero
by_answer P false (Good entries) zero one four five six = six
by_answer P true (Wrong entry want have) zero one four five six = four
by_answer P false (Wrong entry want have) zero one four five six = six
by_answer P true (BadLine n) zero one four five six = four
by_answer P false (BadLine n) zero one four five six = six
by_answer P written Failed zero one four five six = five
by_answer P written NoMemory zero one four five six = one

not_quiet : (n status : ℕ) → (IsOneOf quiet_statuses n → ⊥) → status ≡ n → IsOneOf quiet_statuses status → ⊥
not_quiet n status none is quiet = none (subst (λ (m : ℕ). IsOneOf quiet_statuses m) is quiet)

-- a status without a word on standard output is that without memory
quiet_answer : (written : Bool) (answer : Checked) (status : ℕ) → status ≡ audit_status written answer → IsOneOf quiet_statuses status → answer ≡ NoMemory
quiet_answer true (Good entries) status is quiet = absurd (not_quiet 0 status (λ e. false≢true e) is quiet)
quiet_answer false (Good entries) status is quiet = absurd (not_quiet 6 status (λ e. false≢true e) is quiet)
quiet_answer true (Wrong entry want have) status is quiet = absurd (not_quiet 4 status (λ e. false≢true e) is quiet)
quiet_answer false (Wrong entry want have) status is quiet = absurd (not_quiet 6 status (λ e. false≢true e) is quiet)
quiet_answer true (BadLine n) status is quiet = absurd (not_quiet 4 status (λ e. false≢true e) is quiet)
quiet_answer false (BadLine n) status is quiet = absurd (not_quiet 6 status (λ e. false≢true e) is quiet)
quiet_answer written Failed status is quiet = absurd (not_quiet 5 status (λ e. false≢true e) is quiet)
quiet_answer written NoMemory status is quiet = refl

module _ {S K C : Type 0} (left : S → Option (List ℕ)) (written : K → Option (List ℕ)) (source_faults : S → ℕ) (sink_faults : K → ℕ) (file : List ℕ) (Says : List ℕ → Type 0) (old new : Book S K C) (status : ℕ) where
  abbrev Audited : Type 0
  Audited = IsAuditedFile left written source_faults sink_faults file Says old new status

  abbrev Did : Type 0
  Did = IsCheckedUnopened file Says old new status ⊎ (IsKept left source_faults file old new × Audited)

  by_did : (P : ℕ → Type 0) → Did → P 0 → P 1 → P 4 → P 5 → P 6 → P 7 → P status
  by_did P (inl unopened) zero one four five six seven = subst P (sym unopened.status_is) seven
  by_did P (inr (kept, audited)) zero one four five six seven = subst P (sym audited.cause) (by_answer P audited.text_written audited.answer zero one four five six)

  memory_of : (a : Audited) → status ≡ 1 → Says memory_line
  memory_of a one =
      let none : a.answer ≡ NoMemory = quiet_answer a.text_written a.answer status a.cause (subst (λ (n : ℕ). IsOneOf quiet_statuses n) (sym one) refl) in
      subst (λ (answer : Checked). Says (audit_error file answer)) none a.errors

  opening_of : Did → status ≡ 7 → Rose old.faults new.faults
  opening_of (inl unopened) seven = unopened.fault
  opening_of (inr (kept, a)) seven =
      absurd (by_answer (λ n. status ≡ n → ⊥) a.text_written a.answer (λ e. omega (arith, e, seven)) (λ e. omega (arith, e, seven)) (λ e. omega (arith, e, seven)) (λ e. omega (arith, e, seven)) (λ e. omega (arith, e, seven)) a.cause)

  memory_told : Did → status ≡ 1 → Says memory_line
  memory_told (inl unopened) one = absurd (omega (arith, one, unopened.status_is))
  memory_told (inr (kept, a)) one = memory_of a one

  quiet_out : Did → IsOneOf quiet_statuses status → (new.std Out ≡ old.std Out) ⊎ ((status ≡ 1) × Keeps (λ told kept. kept ≡ told) (old.std Out) (new.std Out))
  quiet_out (inl unopened) quiet = inl unopened.out
  quiet_out (inr (kept, a)) quiet =
      let none : a.answer ≡ NoMemory = quiet_answer a.text_written a.answer status a.cause quiet in
      inr (a.cause ∙ ap (audit_status a.text_written) none, a.untouched none)

  module _ (run : IsAuditRun left written source_faults sink_faults file Says old new status) where
    pub audit_is : IsOneOf statuses status
    audit_is = by_did (λ n. IsOneOf statuses n) run.did refl refl refl refl refl refl

    pub audit_not_two : status ≡ 2 → ⊥
    audit_not_two = by_did (λ n. n ≡ 2 → ⊥) run.did (λ e. omega (arith, e)) (λ e. omega (arith, e)) (λ e. omega (arith, e)) (λ e. omega (arith, e)) (λ e. omega (arith, e)) (λ e. omega (arith, e))

    pub audit_memory : status ≡ 1 → Says memory_line
    audit_memory one = memory_told run.did one

    pub audit_opening : status ≡ 7 → Rose old.faults new.faults
    audit_opening seven = opening_of run.did seven

    pub audit_quiet : IsOneOf quiet_statuses status → (new.std Out ≡ old.std Out) ⊎ ((status ≡ 1) × Keeps (λ told kept. kept ≡ told) (old.std Out) (new.std Out))
    audit_quiet quiet = quiet_out run.did quiet

-- what was printed of a file is printed of one in the same place
same_prints : {S : Type 0} (left : S → Option (List ℕ)) (place place' : Place S) (answer : Checked) (text : List ℕ) → place' ≡ place → Prints left place answer text → Prints left place' answer text
same_prints {S} left place place' answer text same prints = subst (λ (p : Place S). Prints left p answer text) (sym same) prints

module _ {S K C : Type 0} (left : S → Option (List ℕ)) (written : K → Option (List ℕ)) (source_faults : S → ℕ) (sink_faults : K → ℕ) (file : List ℕ) (b0 b1 b2 b3 : Book S K C) (e e' : K) (status : ℕ) (ran : Ran b0 b1 b2 b3 e e') where
  first : b1.inputs file ≡ b0.inputs file
  first = inputs_first b0 b1 b2 b3 e e' file ran

  last : b3.inputs file ≡ b2.inputs file
  last = inputs_last b0 b1 b2 b3 e e' file ran

  moved_source : (Holds : S → S → Type 0) → Keeps Holds (b1.inputs file) (b2.inputs file) → Keeps Holds (b0.inputs file) (b3.inputs file)
  moved_source Holds keeps =
      subst (λ (p : Place S). Keeps Holds p (b3.inputs file)) first
      (subst (λ (p : Place S). Keeps Holds (b1.inputs file) p) (sym last) keeps)

  moved_out : (Holds : K → K → Type 0) → Keeps Holds (b1.std Out) (b2.std Out) → Keeps Holds (b0.std Out) (b3.std Out)
  moved_out Holds keeps =
      subst (λ (p : Place K). Keeps Holds p (b3.std Out)) (ran.others1 Out out≢err)
      (subst (λ (p : Place K). Keeps Holds (b1.std Out) p) (sym (ran.others3 Out out≢err)) keeps)

  moved_audited : IsAuditedFile left written source_faults sink_faults file (ToldBy sink_faults written e e') b1 b2 status → IsAuditedFile left written source_faults sink_faults file (WasTold sink_faults written b0 b3) b0 b3 status
  moved_audited a = record {
    answer = a.answer;
    still = λ other. subst (λ (p : Place S). EndHasNoFault source_faults p) (sym last) (a.still other);
    fault = λ failed. subst (λ (p : Place S). EndHasFault source_faults p) (sym last) (a.fault failed);
    memory = λ none. moved_source (λ told kept. (kept ≡ told) ⊎ HasReadHeader (left told) (left kept)) (a.memory none);
    is = subst (λ (p : Place S). IfRead a.answer (OfText left p (λ text. IsAnswer text a.answer))) first a.is;
    alone = subst (λ (p : Place S). IfRead a.answer (OfText left p (λ text. (other : Checked) → IsAnswer text other → a.answer ≡ other))) first a.alone;
    good = λ entries good. subst (λ (p : Place S). OfText left p (λ text. IsFinishedJournal text entries)) first (a.good entries good);
    journal = λ entries. subst (λ (p : Place S). IfRead a.answer (OfText left p (λ text. IsFinishedJournal text entries → a.answer ≡ Good entries))) first (a.journal entries);
    text = a.text;
    prints = same_prints left (b1.inputs file) (b0.inputs file) a.answer a.text (sym first) a.prints;
    text_written = a.text_written;
    out = moved_out (TookOrPart sink_faults written a.text_written a.text) a.out;
    untouched = λ none. moved_out (λ told kept. kept ≡ told) (a.untouched none);
    errors = ran_told sink_faults written b0 b1 b2 b3 e e' (audit_error file a.answer) ran a.errors;
    cause = a.cause;
  }

  moved_did : IsCheckedUnopened file (ToldBy sink_faults written e e') b1 b2 status ⊎ (IsKept left source_faults file b1 b2 × IsAuditedFile left written source_faults sink_faults file (ToldBy sink_faults written e e') b1 b2 status)
      → IsCheckedUnopened file (WasTold sink_faults written b0 b3) b0 b3 status ⊎ (IsKept left source_faults file b0 b3 × IsAuditedFile left written source_faults sink_faults file (WasTold sink_faults written b0 b3) b0 b3 status)
  moved_did (inl unopened) = inl (record {
    status_is = unopened.status_is;
    fault = ran_open b0 b1 b2 b3 e e' ran unopened.fault;
    errors = ran_told sink_faults written b0 b1 b2 b3 e e' (cannot_open_line file) ran unopened.errors;
    place = last ∙ unopened.place ∙ first;
    out = ran_quiet b0 b1 b2 b3 e e' ran unopened.out;
  })
  moved_did (inr (kept, audited)) = inr (moved_source (λ told back. (source_faults told ≤ source_faults back) × GaveSome (left told) (left back)) kept, moved_audited audited)

  pub ran_audit : IsAuditRun left written source_faults sink_faults file (ToldBy sink_faults written e e') b1 b2 status → IsAuditRun left written source_faults sink_faults file (WasTold sink_faults written b0 b3) b0 b3 status
  ran_audit run = record {
    did = moved_did run.did;
    still = λ other. ran_unfailed b0 b1 b2 b3 e e' ran (run.still other);
    inputs = λ other apart. ap (λ (b : Book S K C). b.inputs other) ran.rest3 ∙ run.inputs other apart ∙ ap (λ (b : Book S K C). b.inputs other) ran.rest1;
    rest =
        let faults = ap (λ (b : Book S K C). b.faults) ran.rest3 in
        let inputs = ap (λ (b : Book S K C). b.inputs) ran.rest3 in
        ran.rest3
        ∙ ap (λ (b : Book S K C). record b { std = b3.std }) run.rest
        ∙ ap (λ (b : Book S K C). record b { faults = b2.faults; inputs = b2.inputs; std = b3.std }) ran.rest1
        ∙ ap (λ (n : ℕ). record b0 { faults = n; inputs = b2.inputs; std = b3.std }) (sym faults)
        ∙ ap (λ (i : List ℕ → Place S). record b0 { faults = b3.faults; inputs = i; std = b3.std }) (sym inputs);
  }

  pub ran_audit_quiet : (words : List (List ℕ)) → IsAudit file words → (b2.std Out ≡ b1.std Out) ⊎ ((status ≡ 1) × Keeps (λ told kept. kept ≡ told) (b1.std Out) (b2.std Out)) → StaysUnwritten words status (b0.std Out) (b3.std Out)
  ran_audit_quiet words form (inl same) = inl (ran_quiet b0 b1 b2 b3 e e' ran same)
  ran_audit_quiet words form (inr (one, keeps)) = inr (file, form, one, moved_out (λ told kept. kept ≡ told) keeps)

-- what a sink took once nothing waits

pub took_given : {K : Type 0} (written : K → Option (List ℕ)) (faults : K → ℕ) (failed : Bool) (text : List ℕ) (old new : K) → WasGiven written faults old new [] failed text → TookOrPart faults written (not failed) text old new
took_given written faults false text old new given =
    (given.0.sink ∙ ap (behind (written old)) (sym (append-nil given.0.took) ∙ given.0.all), given.1)
took_given written faults true text old new given =
    let rose = given.1 in
    (omega (arith, rose), given.0)

-- what was found of the text that a source has left
pub record AuditFound {S : Type 0} (left : S → Option (List ℕ)) (source_faults : S → ℕ) (source back : S) (answer : Checked) : Type 0 where
  pub cause : answer ≡ Failed → Rose (source_faults source) (source_faults back)
  pub still : answer ≢ Failed → source_faults back ≡ source_faults source
  pub memory : answer ≡ NoMemory → (back ≡ source) ⊎ HasReadHeader (left source) (left back)
  pub is : IfRead answer (IfSome (left source) (λ octets. IsAnswer octets answer))
  pub alone : IfRead answer (IfSome (left source) (λ octets. (other : Checked) → IsAnswer octets other → answer ≡ other))
  pub good : (entries : ℕ) → answer ≡ Good entries → IfSome (left source) (λ octets. IsFinishedJournal octets entries)
  pub journal : (entries : ℕ) → IfRead answer (IfSome (left source) (λ octets. IsFinishedJournal octets entries → answer ≡ Good entries))

module _ {S K : Type 0} (left : S → Option (List ℕ)) (written : K → Option (List ℕ)) (faults : K → ℕ) (first : K) (place : Place S) (source : S) (before after : Auditor K) (line : List ℕ) (told : IfSome place.stands (λ t. source ≡ t)) where
  -- the line behind the violations is that of the history
  closing_is : (plan : Plan) (segments : List (List Row)) (answer : Checked) (text : List ℕ) → IsAuditOf plan segments text after → line ≡ closing_line after.frames after.violations answer → text ++ line ≡ audit_text plan segments answer
  closing_is plan segments answer text of line_is =
      ap (λ (t : List ℕ). t ++ line) of.text_is
      ∙ ap (λ (l : List ℕ). violation_lines plan (all_watched segments) ++ l)
      (line_is
      ∙ ap (λ (n : ℕ). closing_line n after.violations answer) of.frames
      ∙ ap (λ (n : ℕ). closing_line (capped (audited_count (passed_frames (all_watched segments)))) n answer) of.violations)

  text_of : (octets : List ℕ) (answer : Checked) (text : List ℕ) → line ≡ closing_line after.frames after.violations answer → (IsBadHeader octets answer → closing_line after.frames after.violations answer ≡ check_line answer) → IsAudited octets answer text before after → IsAuditText octets answer (text ++ line)
  text_of octets answer text line_is header_line audited = record {
    header = λ bad. ap (λ (t : List ℕ). t ++ line) (audited.header bad).none ∙ line_is ∙ header_line bad;
    behind = λ is. closing_is is.plan (is.past ∷ is.closed) answer text (audited.behind is) line_is;
  }

  -- what is printed of a text that was read
  read_prints : (answer : Checked) (text : List ℕ) → line ≡ closing_line after.frames after.violations answer → ((octets : List ℕ) → IsBadHeader octets answer → closing_line after.frames after.violations answer ≡ check_line answer)
      → IfSome (left source) (λ octets. IsAudited (seen octets) answer text before after) → OfText left place (λ octets. IsAuditText (seen octets) answer (text ++ line))
  read_prints answer text line_is header_line audited =
      of_told left place source (λ octets. IsAuditText (seen octets) answer (text ++ line)) told
      (if_text (left source) (λ octets. IsAudited (seen octets) answer text before after) (λ octets. IsAuditText (seen octets) answer (text ++ line)) (λ octets is. text_of (seen octets) answer text line_is (header_line (seen octets)) is) audited)

  not_bad : (entries n : ℕ) → Good entries ≡ BadLine n → ⊥
  not_bad entries n same = cc

  some_audit : (answer : Checked) (text : List ℕ) → line ≡ closing_line after.frames after.violations answer → IsAuditedInPart (left source) text after → IsSomeAudit left place answer (text ++ line)
  some_audit answer text line_is part = record {
    version = part.version;
    plan = part.plan;
    closed = part.closed;
    past = part.past;
    legal = part.legal;
    turned = part.turned;
    begins = of_told left place source (λ octets. IsFront (past_text part.version part.plan part.closed part.past) (seen octets)) told part.begins;
    text_is = closing_is part.plan (part.past ∷ part.closed) answer text part.audit line_is;
  }

  -- of legal segments, where an entry was judged
  judged_prints : (answer : Checked) (text : List ℕ) → (IsBeforeEntries answer → ⊥) → line ≡ closing_line after.frames after.violations answer → (DidNothing text before after × IsBeforeEntries answer) ⊎ IsAuditedInPart (left source) text after
      → IsSomeAudit left place answer (text ++ line)
  judged_prints answer text judged line_is (inl idle) = absurd (judged idle.1)
  judged_prints answer text judged line_is (inr part) = some_audit answer text line_is part

  -- or the line of the check alone
  part_prints : (answer : Checked) (text : List ℕ) → line ≡ closing_line after.frames after.violations answer → (DidNothing text before after × IsBeforeEntries answer) ⊎ IsAuditedInPart (left source) text after
      → ((text ++ line) ≡ closing_line after.frames after.violations answer) ⊎ IsSomeAudit left place answer (text ++ line)
  part_prints answer text line_is (inl idle) = inl (ap (λ (t : List ℕ). t ++ line) idle.0.none ∙ line_is)
  part_prints answer text line_is (inr part) = inr (some_audit answer text line_is part)

  prints_of : (answer : Checked) → (a : Audits written faults first (left source) answer before after) → line ≡ closing_line after.frames after.violations answer → Prints left place answer (a.text ++ line)
  prints_of (Good entries) a line_is =
      (judged_prints (Good entries) a.text (λ none. none) line_is a.part, read_prints (Good entries) a.text line_is (λ octets bad. absurd (not_bad entries bad.0 bad.2)) a.told)
  prints_of (Wrong entry want have) a line_is =
      (judged_prints (Wrong entry want have) a.text (λ none. none) line_is a.part, read_prints (Wrong entry want have) a.text line_is (λ octets bad. refl) a.told)
  prints_of (BadLine n) a line_is = (part_prints (BadLine n) a.text line_is a.part, read_prints (BadLine n) a.text line_is (λ octets bad. refl) a.told)
  prints_of Failed a line_is = part_prints Failed a.text line_is a.part
  prints_of NoMemory a line_is = ap (λ (t : List ℕ). t ++ line) (a.unbegun refl).none ∙ line_is

-- what was found and printed of the source that was handed out is that of the text that stood in its place
pub audited_with : {S K C : Type 0} (left : S → Option (List ℕ)) (written : K → Option (List ℕ)) (source_faults : S → ℕ) (sink_faults : K → ℕ) (file : List ℕ) (Says : List ℕ → Type 0) (source back : S) (answer : Checked) (sink sink' : K) (before after : Auditor K) (failed : Bool) (line : List ℕ) (old new : Book S K C) (status : ℕ)
    → IfSome (old.inputs file).stands (λ told. source ≡ told) → source_faults source ≡ 0 → (new.inputs file).stands ≡ Some back → AuditFound left source_faults source back answer
    → IfSome (old.std Out).stands (λ told. sink ≡ told) → (new.std Out).stands ≡ Some sink' → IsUnbegun written sink_faults sink before → Audits written sink_faults sink (left source) answer before after
    → line ≡ closing_line after.frames after.violations answer
    → ((first : K) (text : List ℕ) → HasPrinted written sink_faults first after.printer text → WasGiven written sink_faults first sink' [] failed (text ++ line))
    → (line ≡ [] → after.printer.waits.items ≡ [] → sink' ≡ after.printer.sink)
    → Says (audit_error file answer) → status ≡ audit_status (not failed) answer → IsAuditedFile left written source_faults sink_faults file Says old new status
audited_with {S} {K} {C} left written source_faults sink_faults file Says source back answer sink sink' before after failed line old new status told fresh kept found out_told out_kept unbegun audits line_is given none says cause =
    let place = old.inputs file in
    record {
      answer = answer;
      still = λ other. kept_sound source_faults (new.inputs file) back kept (found.still other ∙ fresh);
      fault = λ is. let rose = found.cause is in kept_fault source_faults (new.inputs file) back kept (omega (arith, rose, fresh));
      memory = λ is. keeps_of (λ (t : S) (k : S). (k ≡ t) ⊎ HasReadHeader (left t) (left k)) place (new.inputs file) source back told kept (found.memory is);
      is = if_read answer (IfSome (left source) (λ octets. IsAnswer octets answer)) (OfText left place (λ text. IsAnswer text answer)) (of_told left place source (λ text. IsAnswer text answer) told) found.is;
      alone = if_read answer (IfSome (left source) (λ octets. (other : Checked) → IsAnswer octets other → answer ≡ other)) (OfText left place (λ text. (other : Checked) → IsAnswer text other → answer ≡ other)) (of_told left place source (λ text. (other : Checked) → IsAnswer text other → answer ≡ other) told) found.alone;
      good = λ entries good. of_told left place source (λ text. IsFinishedJournal text entries) told (found.good entries good);
      journal = λ entries. if_read answer (IfSome (left source) (λ octets. IsFinishedJournal octets entries → answer ≡ Good entries)) (OfText left place (λ text. IsFinishedJournal text entries → answer ≡ Good entries)) (of_told left place source (λ text. IsFinishedJournal text entries → answer ≡ Good entries) told) (found.journal entries);
      text = audits.text ++ line;
      prints = prints_of left written sink_faults sink place source before after line told answer audits line_is;
      text_written = not failed;
      out = keeps_of (TookOrPart sink_faults written (not failed) (audits.text ++ line)) (old.std Out) (new.std Out) sink sink' out_told out_kept (took_given written sink_faults failed (audits.text ++ line) sink sink' (given sink audits.text audits.printed));
      untouched = λ is.
          let idle = audits.unbegun is in
          keeps_of (λ (t : K) (k : K). k ≡ t) (old.std Out) (new.std Out) sink sink' out_told out_kept
          (none (line_is ∙ ap (closing_line after.frames after.violations) is) (ap (λ (a : Auditor K). a.printer.waits.items) idle.same ∙ unbegun.none_waits)
          ∙ ap (λ (a : Auditor K). a.printer.sink) idle.same
          ∙ unbegun.sink_is);
      errors = says;
      cause = cause;
    }

-- books of which the second is that behind an opening, the third that behind the one of standard output, the fourth and the
-- last those behind the keeps of both
pub audit_rest : {S K C : Type 0} (b0 b1 b2 b3 b4 : Book S K C) → b1 ≡ record b0 { faults = b1.faults; inputs = b1.inputs } → b2 ≡ record b1 { std = b2.std } → b3 ≡ record b2 { inputs = b3.inputs } → b4 ≡ record b3 { std = b4.std } → b4 ≡ record b0 { faults = b4.faults; inputs = b4.inputs; std = b4.std }
audit_rest {S} {K} {C} b0 b1 b2 b3 b4 opened out kept out_kept =
    let faults : b4.faults ≡ b1.faults = ap (λ (b : Book S K C). b.faults) out_kept ∙ ap (λ (b : Book S K C). b.faults) kept ∙ ap (λ (b : Book S K C). b.faults) out in
    let inputs : b4.inputs ≡ b3.inputs = ap (λ (b : Book S K C). b.inputs) out_kept in
    out_kept
    ∙ ap (λ (b : Book S K C). record b { std = b4.std }) kept
    ∙ ap (λ (b : Book S K C). record b { inputs = b3.inputs; std = b4.std }) out
    ∙ ap (λ (b : Book S K C). record b { inputs = b3.inputs; std = b4.std }) opened
    ∙ ap (λ (n : ℕ). record b0 { faults = n; inputs = b3.inputs; std = b4.std }) (sym faults)
    ∙ ap (λ (i : List ℕ → Place S). record b0 { faults = b4.faults; inputs = i; std = b4.std }) (sym inputs)

-- an input that was opened is the only one that is handed out, also once standard output is
pub alone_behind : {S K C : Type 0} (IsFresh : S → Type 0) (b0 b1 b2 : Book S K C) (file : List ℕ) → ((name : List ℕ) → IsReady IsFresh (b0.inputs name)) → OthersStay b0.inputs b1.inputs file → (b1.inputs file).is_out ≡ true → b2 ≡ record b1 { std = b2.std } → IsOnlyOut b2.inputs file
alone_behind {S} {K} {C} IsFresh b0 b1 b2 file ready others out rest =
    subst (λ (i : List ℕ → Place S). IsOnlyOut i file) (sym (ap (λ (b : Book S K C). b.inputs) rest)) (opened_alone IsFresh b0.inputs b1.inputs file ready others out)
