-- How the check of a journal ends.
use Rattle.std.proofs.Common.{◌≡◌, ◌≢◌, ◌≤◌, ℕ, ◌⊎◌, inl, inr, List, [], Bool, true, false, if◌then◌else◌, refl, sym, ap, ◌∙◌, subst, arith, Option, Some, IfSome}
use Rattle.savi_ends.specs.declared.world.Std.TheVariants.{Out}
use Rattle.savi_ends.specs.Faults.{Rose}
use Rattle.savi_ends.specs.Places.{Place, Book}
use Rattle.run_config.specs.Configs.{EndHasFault, EndHasNoFault, OfText}
use Rattle.journal_check.specs.declared.answer.Checked.{Checked}
use Rattle.journal_check.specs.declared.answer.Checked.TheVariants.{Good, Wrong, BadLine, Failed, NoMemory}
use Rattle.journal_check.specs.Answers.{HasReadHeader, IfRead, IsAnswer}
use Rattle.journal_check.specs.Laws.{IsFinishedJournal}
use Rattle.journal_check.specs.Pieces.{GaveSome}
use Rattle.switch_report.specs.RunLines.{cannot_open_line, memory_line, read_failed_line}
use Rattle.switch_run.specs.Causes.{IsOneOf, IsUnserved, Keeps, TookOrPart, quiet_statuses, statuses}
use Rattle.switch_run.specs.Checks.{IsAnswered, IsCheckRun, IsCheckedUnopened, IsJudged, IsKept, IsTextRead, check_line, check_status}
use Rattle.switch_run.specs.Session.{WasTold, ToldBy}
use Rattle.run_config.proofs.Configured.{of_told, kept_sound}
use Rattle.switch_run.proofs.Loading.{told_nothing}
use Rattle.switch_run.proofs.Running.{Ran, inputs_first, inputs_last, ran_told, ran_quiet, ran_open, ran_unfailed, out≢err}

-- what holds of the statuses of texts that were read holds of this one
by_answer : (P : ℕ → Type 0) (answer : Checked) → IsTextRead answer → P 0 → P 4 → P (check_status answer)
by_answer P (Good entries) read zero four = zero
by_answer P (Wrong entry want have) read zero four = four
by_answer P (BadLine n) read zero four = four
by_answer P Failed read zero four = absurd read
by_answer P NoMemory read zero four = absurd read

by_line : (P : ℕ → Type 0) (answer : Checked) (status : ℕ) (done : Bool) → IsTextRead answer → P 0 → P 4 → P 6 → status ≡ (if done then check_status answer else 6) → P status
by_line P answer status true read zero four six is = subst P (sym is) (by_answer P answer read zero four)
by_line P answer status false read zero four six is = subst P (sym is) six

module _ {S K C : Type 0} (left : S → Option (List ℕ)) (written : K → Option (List ℕ)) (source_faults : S → ℕ) (sink_faults : K → ℕ) (file : List ℕ) (Says : List ℕ → Type 0) (old new : Book S K C) (status : ℕ) (run : IsCheckRun left written source_faults sink_faults file Says old new status) where
  abbrev Did : Type 0
  Did = IsCheckedUnopened file Says old new status ⊎ (IsKept left source_faults file old new × IsJudged left written source_faults sink_faults file Says old new status)

  by_did : (P : ℕ → Type 0) → Did → P 0 → P 1 → P 4 → P 5 → P 6 → P 7 → P status
  by_did P (inl unopened) zero one four five six seven = subst P (sym unopened.status_is) seven
  by_did P (inr (kept, inl unjudged)) zero one four five six seven = subst P (sym unjudged.status_is) one
  by_did P (inr (kept, inr (inl unread))) zero one four five six seven = subst P (sym unread.status_is) five
  by_did P (inr (kept, inr (inr answered))) zero one four five six seven = by_line P answered.answer status answered.line_written answered.read zero four six answered.cause

  pub check_is : IsOneOf statuses status
  check_is = by_did (λ n. IsOneOf statuses n) run.did refl refl refl refl refl refl

  pub never_two : status ≡ 2 → ⊥
  never_two = by_did (λ n. n ≡ 2 → ⊥) run.did (λ e. absurd (omega (arith, e))) (λ e. absurd (omega (arith, e))) (λ e. absurd (omega (arith, e))) (λ e. absurd (omega (arith, e))) (λ e. absurd (omega (arith, e))) (λ e. absurd (omega (arith, e)))

  -- what is written, or said of a file that wasn't opened or read, has another status
  answered_not : (n : ℕ) → (0 ≡ n → ⊥) → (4 ≡ n → ⊥) → (6 ≡ n → ⊥) → IsAnswered left written source_faults sink_faults file Says old new status → status ≡ n → ⊥
  answered_not n zero four six answered e = by_line (λ m. m ≡ n → ⊥) answered.answer status answered.line_written answered.read zero four six answered.cause e

  memory_told : Did → status ≡ 1 → Says memory_line
  memory_told (inl unopened) one = absurd (omega (arith, one, unopened.status_is))
  memory_told (inr (kept, inl unjudged)) one = unjudged.errors
  memory_told (inr (kept, inr (inl unread))) one = absurd (omega (arith, one, unread.status_is))
  memory_told (inr (kept, inr (inr answered))) one = absurd (answered_not 1 (λ e. absurd (omega (arith, e))) (λ e. absurd (omega (arith, e))) (λ e. absurd (omega (arith, e))) answered one)

  pub check_memory : status ≡ 1 → Says memory_line
  check_memory one = memory_told run.did one

  opening_rose : Did → status ≡ 7 → Rose old.faults new.faults
  opening_rose (inl unopened) seven = unopened.fault
  opening_rose (inr (kept, inl unjudged)) seven = absurd (omega (arith, seven, unjudged.status_is))
  opening_rose (inr (kept, inr (inl unread))) seven = absurd (omega (arith, seven, unread.status_is))
  opening_rose (inr (kept, inr (inr answered))) seven = absurd (answered_not 7 (λ e. absurd (omega (arith, e))) (λ e. absurd (omega (arith, e))) (λ e. absurd (omega (arith, e))) answered seven)

  pub check_opening : status ≡ 7 → Rose old.faults new.faults
  check_opening seven = opening_rose run.did seven

  not_quiet : IsAnswered left written source_faults sink_faults file Says old new status → IsOneOf quiet_statuses status → ⊥
  not_quiet answered =
      by_line (λ n. IsOneOf quiet_statuses n → ⊥) answered.answer status answered.line_written answered.read (λ e. let t : false ≡ true = e in cc) (λ e. let t : false ≡ true = e in cc) (λ e. let t : false ≡ true = e in cc) answered.cause

  quiet_out : Did → IsOneOf quiet_statuses status → new.std Out ≡ old.std Out
  quiet_out (inl unopened) quiet = unopened.out
  quiet_out (inr (kept, inl unjudged)) quiet = unjudged.out
  quiet_out (inr (kept, inr (inl unread))) quiet = unread.out
  quiet_out (inr (kept, inr (inr answered))) quiet = absurd (not_quiet answered quiet)

  pub check_out : IsOneOf quiet_statuses status → new.std Out ≡ old.std Out
  check_out quiet = quiet_out run.did quiet

  pub check_unserved : IsUnserved old new
  check_unserved = record {
    ports = ap (λ (b : Book S K C). b.ports) run.rest;
    control = ap (λ (b : Book S K C). b.control) run.rest;
    ticker = ap (λ (b : Book S K C). b.ticker) run.rest;
    outputs = ap (λ (b : Book S K C). b.outputs) run.rest;
  }

module _ {S K C : Type 0} (left : S → Option (List ℕ)) (written : K → Option (List ℕ)) (source_faults : S → ℕ) (sink_faults : K → ℕ) (file : List ℕ) (b0 b1 b2 b3 : Book S K C) (e e' : K) (status : ℕ) (ran : Ran b0 b1 b2 b3 e e') where
  first : b1.inputs file ≡ b0.inputs file
  first = inputs_first b0 b1 b2 b3 e e' file ran

  last : b3.inputs file ≡ b2.inputs file
  last = inputs_last b0 b1 b2 b3 e e' file ran

  -- what is said of the text of the file is said of it before standard error was opened
  of_first : (Holds : List ℕ → Type 0) → OfText left (b1.inputs file) Holds → OfText left (b0.inputs file) Holds
  of_first Holds is = subst (λ (p : Place S). OfText left p Holds) first is

  -- what is said of the source that was handed out and kept is said of it before standard error was opened
  moved_source : (Holds : S → S → Type 0) → Keeps Holds (b1.inputs file) (b2.inputs file) → Keeps Holds (b0.inputs file) (b3.inputs file)
  moved_source Holds keeps =
      subst (λ (p : Place S). Keeps Holds p (b3.inputs file)) first
      (subst (λ (p : Place S). Keeps Holds (b1.inputs file) p) (sym last) keeps)

  moved_judged : IsJudged left written source_faults sink_faults file (ToldBy sink_faults written e e') b1 b2 status → IsJudged left written source_faults sink_faults file (WasTold sink_faults written b0 b3) b0 b3 status
  moved_judged (inl unjudged) = inl (record {
    status_is = unjudged.status_is;
    still = subst (λ (p : Place S). EndHasNoFault source_faults p) (sym last) unjudged.still;
    memory = moved_source (λ told kept. (kept ≡ told) ⊎ HasReadHeader (left told) (left kept)) unjudged.memory;
    errors = ran_told sink_faults written b0 b1 b2 b3 e e' memory_line ran unjudged.errors;
    out = ran_quiet b0 b1 b2 b3 e e' ran unjudged.out;
  })
  moved_judged (inr (inl unread)) = inr (inl (record {
    status_is = unread.status_is;
    fault = subst (λ (p : Place S). EndHasFault source_faults p) (sym last) unread.fault;
    errors = ran_told sink_faults written b0 b1 b2 b3 e e' (read_failed_line file) ran unread.errors;
    out = ran_quiet b0 b1 b2 b3 e e' ran unread.out;
  }))
  moved_judged (inr (inr answered)) = inr (inr (record {
    answer = answered.answer;
    read = answered.read;
    still = subst (λ (p : Place S). EndHasNoFault source_faults p) (sym last) answered.still;
    is = of_first (λ text. IsAnswer text answered.answer) answered.is;
    alone = of_first (λ text. (other : Checked) → IsAnswer text other → answered.answer ≡ other) answered.alone;
    good = λ entries good. of_first (λ text. IsFinishedJournal text entries) (answered.good entries good);
    journal = λ entries. of_first (λ text. IsFinishedJournal text entries → answered.answer ≡ Good entries) (answered.journal entries);
    line_written = answered.line_written;
    line = rw (ran.others3 Out out≢err, sym (ran.others1 Out out≢err)) answered.line;
    errors = ran_told sink_faults written b0 b1 b2 b3 e e' [] ran answered.errors;
    cause = answered.cause;
  }))

  moved_kept : IsKept left source_faults file b1 b2 → IsKept left source_faults file b0 b3
  moved_kept kept = moved_source (λ told back. (source_faults told ≤ source_faults back) × GaveSome (left told) (left back)) kept

  moved_check : IsCheckedUnopened file (ToldBy sink_faults written e e') b1 b2 status ⊎ (IsKept left source_faults file b1 b2 × IsJudged left written source_faults sink_faults file (ToldBy sink_faults written e e') b1 b2 status)
      → IsCheckedUnopened file (WasTold sink_faults written b0 b3) b0 b3 status ⊎ (IsKept left source_faults file b0 b3 × IsJudged left written source_faults sink_faults file (WasTold sink_faults written b0 b3) b0 b3 status)
  moved_check (inl unopened) = inl (record {
    status_is = unopened.status_is;
    fault = ran_open b0 b1 b2 b3 e e' ran unopened.fault;
    errors = ran_told sink_faults written b0 b1 b2 b3 e e' (cannot_open_line file) ran unopened.errors;
    place = last ∙ unopened.place ∙ first;
    out = ran_quiet b0 b1 b2 b3 e e' ran unopened.out;
  })
  moved_check (inr (kept, judged)) = inr (moved_kept kept, moved_judged judged)

  pub ran_check : IsCheckRun left written source_faults sink_faults file (ToldBy sink_faults written e e') b1 b2 status → IsCheckRun left written source_faults sink_faults file (WasTold sink_faults written b0 b3) b0 b3 status
  ran_check run = record {
    did = moved_check run.did;
    still = λ other. ran_unfailed b0 b1 b2 b3 e e' ran (run.still other);
    inputs = λ other apart. ap (λ (b : Book S K C). b.inputs other) ran.rest3 ∙ run.inputs other apart ∙ ap (λ (b : Book S K C). b.inputs other) ran.rest1;
    rest =
        let faults = ap (λ (b : Book S K C). b.faults) ran.rest3 in
        let inputs = ap (λ (b : Book S K C). b.inputs) ran.rest3 in
        ran.rest3
        ∙ ap (λ (b : Book S K C). record b { std = b3.std }) run.rest
        ∙ ap (λ (b : Book S K C). record b { faults = b2.faults; inputs = b2.inputs; std = b3.std }) ran.rest1
        ∙ ap (λ (n : ℕ). record b0 { faults = n; inputs = b2.inputs; std = b3.std }) (sym faults)
        ∙ ap (λ (i : List ℕ → Place S). record b0 { faults = b3.faults; inputs = i; std = b3.std }) (sym inputs);
  }

-- what a check says of the text that its source has left
pub record Found {S : Type 0} (left : S → Option (List ℕ)) (source : S) (answer : Checked) : Type 0 where
  pub is : IfRead answer (IfSome (left source) (λ octets. IsAnswer octets answer))
  pub alone : IfRead answer (IfSome (left source) (λ octets. (other : Checked) → IsAnswer octets other → answer ≡ other))
  pub good : (entries : ℕ) → answer ≡ Good entries → IfSome (left source) (λ octets. IsFinishedJournal octets entries)
  pub journal : (entries : ℕ) → IfRead answer (IfSome (left source) (λ octets. IsFinishedJournal octets entries → answer ≡ Good entries))

-- four books of which the second is that behind an opening, the third that behind a keep, and the last that behind the line
pub check_rest : {S K C : Type 0} (b0 b1 b2 b3 : Book S K C) → b1 ≡ record b0 { faults = b1.faults; inputs = b1.inputs } → b2 ≡ record b1 { inputs = b2.inputs } → b3 ≡ record b2 { std = b3.std } → b3 ≡ record b0 { faults = b3.faults; inputs = b3.inputs; std = b3.std }
check_rest {S} {K} {C} b0 b1 b2 b3 opened kept wrote =
    let faults : b3.faults ≡ b1.faults = ap (λ (b : Book S K C). b.faults) wrote ∙ ap (λ (b : Book S K C). b.faults) kept in
    let inputs : b3.inputs ≡ b2.inputs = ap (λ (b : Book S K C). b.inputs) wrote in
    wrote
    ∙ ap (λ (b : Book S K C). record b { std = b3.std }) kept
    ∙ ap (λ (b : Book S K C). record b { inputs = b2.inputs; std = b3.std }) opened
    ∙ ap (λ (n : ℕ). record b0 { faults = n; inputs = b2.inputs; std = b3.std }) (sym faults)
    ∙ ap (λ (i : List ℕ → Place S). record b0 { faults = b3.faults; inputs = i; std = b3.std }) (sym inputs)

if_read : (answer : Checked) (P : Type 0) → IsTextRead answer → IfRead answer P → P
if_read (Good entries) P read is = is
if_read (Wrong entry want have) P read is = is
if_read (BadLine n) P read is = is
if_read Failed P read is = absurd read
if_read NoMemory P read is = absurd read

read_not_failed : (answer : Checked) → IsTextRead answer → answer ≢ Failed
read_not_failed (Good entries) read same = cc
read_not_failed (Wrong entry want have) read same = cc
read_not_failed (BadLine n) read same = cc
read_not_failed Failed read same = absurd read
read_not_failed NoMemory read same = absurd read

-- what was found of the source that was handed out is the answer to the text that stood in its place, and was written
pub answered_with : {S K C : Type 0} (left : S → Option (List ℕ)) (written : K → Option (List ℕ)) (source_faults : S → ℕ) (sink_faults : K → ℕ) (file : List ℕ) (errors : K) (source back : S) (checked answer : Checked) (line : List ℕ) (old new : Book S K C) (middle : Place K) (status answered : ℕ)
    → IfSome (old.inputs file).stands (λ told. source ≡ told) → source_faults source ≡ 0 → (new.inputs file).stands ≡ Some back → (checked ≢ Failed → source_faults back ≡ source_faults source) → Found left source checked → checked ≡ answer → IsTextRead answer → line ≡ check_line answer → answered ≡ check_status answer → middle ≡ old.std Out
    → ((done : Bool) × Keeps (TookOrPart sink_faults written done line) middle (new.std Out) × (status ≡ (if done then answered else 6)))
    → IsAnswered left written source_faults sink_faults file (ToldBy sink_faults written errors errors) old new status
answered_with {S} {K} {C} left written source_faults sink_faults file errors source back checked answer line old new middle status answered told fresh kept still found is read line_is status_is same (done, keeps, cause) =
    let this = subst (λ (a : Checked). Found left source a) is found in
    let place = old.inputs file in
    record {
      answer = answer;
      read = read;
      still = kept_sound source_faults (new.inputs file) back kept (still (λ failed. read_not_failed answer read (sym is ∙ failed)) ∙ fresh);
      is = of_told left place source (λ text. IsAnswer text answer) told (if_read answer _ read this.is);
      alone = of_told left place source (λ text. (other : Checked) → IsAnswer text other → answer ≡ other) told (if_read answer _ read this.alone);
      good = λ entries good. of_told left place source (λ text. IsFinishedJournal text entries) told (this.good entries good);
      journal = λ entries. of_told left place source (λ text. IsFinishedJournal text entries → answer ≡ Good entries) told (if_read answer _ read (this.journal entries));
      line_written = done;
      line = subst (λ (l : List ℕ). Keeps (TookOrPart sink_faults written done l) (old.std Out) (new.std Out)) line_is (subst (λ (p : Place K). Keeps (TookOrPart sink_faults written done line) p (new.std Out)) same keeps);
      errors = told_nothing sink_faults written errors;
      cause = cause ∙ ap (λ (n : ℕ). if done then n else 6) status_is;
    }
