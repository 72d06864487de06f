-- How the split of a capture ends.
use Rattle.std.proofs.Common.{◌≡◌, ◌≢◌, ℕ, ◌<◌, get_or, inl, inr, List, [], Bool, true, false, if◌then◌else◌, refl, sym, ap, ◌∙◌, subst, arith, Option}
use Rattle.savi_ends.specs.declared.sink.Put.{Put}
use Rattle.savi_ends.specs.declared.sink.Put.TheVariants.{Failed}
use Rattle.savi_ends.specs.declared.world.Std.{Std}
use Rattle.savi_ends.specs.declared.world.Std.TheVariants.{Out}
use Rattle.savi_ends.specs.Faults.{Rose}
use Rattle.savi_ends.specs.Places.{Place, Book}
use Rattle.savi_ends.specs.Writes.{Extends}
use Rattle.pcap_split.specs.declared.counts.Counts.{Counts}
use Rattle.split_run.specs.declared.outcome.Outcome.{Outcome}
use Rattle.split_run.specs.declared.outcome.Outcome.TheVariants as outcome
use Rattle.split_run.specs.CountsLines.{counts_line}
use Rattle.split_run.specs.Names.{AreNames, output_name}
use Rattle.split_run.specs.Runs.{CameTo, HasOpenedAll, IsNamed, IsSplitRun}
use Rattle.split_run.proofs.Keeps.{text_at}
use Rattle.switch_report.specs.RunLines.{cannot_open_line, malformed_line, memory_line}
use Rattle.switch_run.specs.Causes.{IsOneOf, Keeps, TookOrPart, quiet_statuses, statuses}
use Rattle.switch_run.specs.Session.{WasTold, ToldBy}
use Rattle.switch_run.specs.Splits.{IsCaptureRun, IsCountTold, IsOnlyTold, IsSplitAs, IsTold}
use Rattle.switch_run.proofs.Loading.{told_nothing}
use Rattle.switch_run.proofs.Recast.{told_by}
use Rattle.switch_run.proofs.Running.{Ran, ran_told, ran_quiet, ran_unfailed, out≢err}

by_count : {K : Type 0} (written : K → Option (List ℕ)) (faults : K → ℕ) (Says : List ℕ → Type 0) (counts : Counts) (error : List ℕ) (answered : ℕ) (old new : Place K) (status : ℕ) (P : ℕ → Type 0) → P answered → P 6 → IsCountTold written faults Says counts error answered old new status → P status
by_count written faults Says counts error answered old new status P this six told = by told.line_written told.cause
  where
    by : (done : Bool) → status ≡ (if done then answered else 6) → P status
    by true is = subst P (sym is) this
    by false is = subst P (sym is) six

-- what holds of the statuses of a capture that was opened holds of this one; and where it is 7, something couldn't be
by_told : {S K C : Type 0} (left : S → Option (List ℕ)) (written : K → Option (List ℕ)) (source_faults : S → ℕ) (sink_faults : K → ℕ) (file : List ℕ) (Says : List ℕ → Type 0) (old new : Book S K C) (status : ℕ) (P : ℕ → Type 0) (outcome : Outcome)
    → P 0 → P 4 → P 5 → P 6 → (Rose old.faults new.faults → new.std Out ≡ old.std Out → P 7)
    → CameTo left written source_faults sink_faults file old new outcome → IsTold written sink_faults Says file outcome (old.std Out) (new.std Out) status → P status
by_told left written source_faults sink_faults file Says old new status P (outcome.Split counts) zero four five six seven came told = by_count written sink_faults Says counts _ 0 (old.std Out) (new.std Out) status P zero six told
by_told left written source_faults sink_faults file Says old new status P (outcome.Malformed at counts) zero four five six seven came told = by_count written sink_faults Says counts _ 4 (old.std Out) (new.std Out) status P four six told
by_told left written source_faults sink_faults file Says old new status P outcome.Unread zero four five six seven came told = subst P (sym told.cause) five
by_told left written source_faults sink_faults file Says old new status P (outcome.Unwritten interface) zero four five six seven came told = subst P (sym told.cause) six
by_told left written source_faults sink_faults file Says old new status P (outcome.NoOutput interface) zero four five six seven came told = subst P (sym told.cause) (seven came.2 told.out)
by_told left written source_faults sink_faults file Says old new status P outcome.NoInput zero four five six seven came told = subst P (sym told.cause) (seven came.0 told.out)

module _ {S K C : Type 0} (left : S → Option (List ℕ)) (written : K → Option (List ℕ)) (source_faults : S → ℕ) (sink_faults : K → ℕ) (file : List ℕ) (Says : List ℕ → Type 0) (old new : Book S K C) (status : ℕ) where
  by_status : (P : ℕ → Type 0) → P 0 → (Says memory_line → new.std Out ≡ old.std Out → P 1) → P 4 → P 5 → P 6 → (Rose old.faults new.faults → new.std Out ≡ old.std Out → P 7) → IsCaptureRun left written source_faults sink_faults file Says old new status → P status
  by_status P zero one four five six seven (inl unsplit) = subst P (sym unsplit.told.cause) (one unsplit.told.errors unsplit.told.out)
  by_status P zero one four five six seven (inr split) = by_told left written source_faults sink_faults file Says old new status P split.outcome zero four five six seven split.came split.told

  pub capture_is : IsCaptureRun left written source_faults sink_faults file Says old new status → IsOneOf statuses status
  capture_is run = by_status (λ n. IsOneOf statuses n) refl (λ told out. refl) refl refl refl (λ rose out. refl) run

  pub capture_not_two : IsCaptureRun left written source_faults sink_faults file Says old new status → status ≡ 2 → ⊥
  capture_not_two run =
      by_status (λ n. n ≡ 2 → ⊥) (λ e. absurd (omega (arith, e))) (λ told out e. absurd (omega (arith, e))) (λ e. absurd (omega (arith, e))) (λ e. absurd (omega (arith, e))) (λ e. absurd (omega (arith, e))) (λ rose out e. absurd (omega (arith, e))) run

  pub capture_memory : IsCaptureRun left written source_faults sink_faults file Says old new status → status ≡ 1 → Says memory_line
  capture_memory run =
      by_status (λ n. n ≡ 1 → Says memory_line) (λ e. absurd (omega (arith, e))) (λ told out e. told) (λ e. absurd (omega (arith, e))) (λ e. absurd (omega (arith, e))) (λ e. absurd (omega (arith, e))) (λ rose out e. absurd (omega (arith, e))) run

  pub capture_opening : IsCaptureRun left written source_faults sink_faults file Says old new status → status ≡ 7 → Rose old.faults new.faults
  capture_opening run =
      by_status (λ n. n ≡ 7 → Rose old.faults new.faults) (λ e. absurd (omega (arith, e))) (λ told out e. absurd (omega (arith, e))) (λ e. absurd (omega (arith, e))) (λ e. absurd (omega (arith, e))) (λ e. absurd (omega (arith, e))) (λ rose out e. rose) run

  pub capture_out : IsCaptureRun left written source_faults sink_faults file Says old new status → IsOneOf quiet_statuses status → new.std Out ≡ old.std Out
  capture_out run =
      by_status (λ n. IsOneOf quiet_statuses n → new.std Out ≡ old.std Out) (λ e. let t : false ≡ true = e in cc) (λ told out e. out) (λ e. let t : false ≡ true = e in cc) (λ e. let t : false ≡ true = e in cc) (λ e. let t : false ≡ true = e in cc) (λ rose out e. out) run

  -- an opening that failed ends it with 7
  opened_all : (outcome : Outcome) → IsTold written sink_faults Says file outcome (old.std Out) (new.std Out) status → status ≢ 7 → HasOpenedAll outcome
  opened_all (outcome.Split counts) told other = tt
  opened_all (outcome.Malformed at counts) told other = tt
  opened_all outcome.Unread told other = tt
  opened_all (outcome.Unwritten interface) told other = tt
  opened_all (outcome.NoOutput interface) told other = absurd (other told.cause)
  opened_all outcome.NoInput told other = absurd (other told.cause)

  pub capture_still : IsCaptureRun left written source_faults sink_faults file Says old new status → status ≢ 7 → new.faults ≡ old.faults
  capture_still (inl unsplit) other = ap (λ (b : Book S K C). b.faults) unsplit.rest
  capture_still (inr split) other = split.still (opened_all split.outcome split.told other)

-- what came between two books came between two that differ only in the standard outputs
moved_came : {S K C : Type 0} (left : S → Option (List ℕ)) (written : K → Option (List ℕ)) (source_faults : S → ℕ) (sink_faults : K → ℕ) (file : List ℕ) (old new : Book S K C) (s s' : Std → Place K) (outcome : Outcome)
    → CameTo left written source_faults sink_faults file (record old { std = s }) new outcome → CameTo left written source_faults sink_faults file old (record new { std = s' }) outcome
moved_came left written source_faults sink_faults file old new s s' (outcome.Split counts) came = came
moved_came left written source_faults sink_faults file old new s s' (outcome.Malformed at counts) came = came
moved_came left written source_faults sink_faults file old new s s' outcome.Unread came = came
moved_came left written source_faults sink_faults file old new s s' (outcome.Unwritten interface) came = came
moved_came left written source_faults sink_faults file old new s s' (outcome.NoOutput interface) came = came
moved_came left written source_faults sink_faults file old new s s' outcome.NoInput came = came

module _ {S K C : Type 0} (left : S → Option (List ℕ)) (written : K → Option (List ℕ)) (source_faults : S → ℕ) (sink_faults : K → ℕ) (file : List ℕ) (b0 b1 b2 b3 : Book S K C) (e e' : K) (status : ℕ) (ran : Ran b0 b1 b2 b3 e e') where
  says : (lines : List ℕ) → ToldBy sink_faults written e e' lines → WasTold sink_faults written b0 b3 lines
  says lines told = ran_told sink_faults written b0 b1 b2 b3 e e' lines ran told

  counted : (counts : Counts) (error : List ℕ) (answered : ℕ) → IsCountTold written sink_faults (ToldBy sink_faults written e e') counts error answered (b1.std Out) (b2.std Out) status → IsCountTold written sink_faults (WasTold sink_faults written b0 b3) counts error answered (b0.std Out) (b3.std Out) status
  counted counts error answered told = record {
    line_written = told.line_written;
    line = rw (ran.others3 Out out≢err, sym (ran.others1 Out out≢err)) told.line;
    errors = says (if told.line_written then error else []) told.errors;
    cause = told.cause;
  }

  only : (error : List ℕ) (answered : ℕ) → IsOnlyTold (ToldBy sink_faults written e e') error answered (b1.std Out) (b2.std Out) status → IsOnlyTold (WasTold sink_faults written b0 b3) error answered (b0.std Out) (b3.std Out) status
  only error answered told = record { errors = says error told.errors; out = ran_quiet b0 b1 b2 b3 e e' ran told.out; cause = told.cause }

  moved_told : (outcome : Outcome) → IsTold written sink_faults (ToldBy sink_faults written e e') file outcome (b1.std Out) (b2.std Out) status → IsTold written sink_faults (WasTold sink_faults written b0 b3) file outcome (b0.std Out) (b3.std Out) status
  moved_told (outcome.Split counts) told = counted counts _ 0 told
  moved_told (outcome.Malformed at counts) told = counted counts _ 4 told
  moved_told outcome.Unread told = only _ 5 told
  moved_told (outcome.Unwritten interface) told = only _ 6 told
  moved_told (outcome.NoOutput interface) told = only _ 7 told
  moved_told outcome.NoInput told = only _ 7 told

  pub ran_capture : IsCaptureRun left written source_faults sink_faults file (ToldBy sink_faults written e e') b1 b2 status → IsCaptureRun left written source_faults sink_faults file (WasTold sink_faults written b0 b3) b0 b3 status
  ran_capture (inl unsplit) = inl (record {
    told = only memory_line 1 unsplit.told;
    rest = ran.rest3 ∙ ap (λ (b : Book S K C). record b { std = b3.std }) unsplit.rest ∙ ap (λ (b : Book S K C). record b { std = b3.std }) ran.rest1;
  })
  ran_capture (inr split) =
      let came = subst (λ (b : Book S K C). CameTo left written source_faults sink_faults file b b2 split.outcome) ran.rest1 split.came in
      inr (record {
        outcome = split.outcome;
        came = subst (λ (b : Book S K C). CameTo left written source_faults sink_faults file b0 b split.outcome) (sym ran.rest3) (moved_came left written source_faults sink_faults file b0 b2 b1.std b3.std split.outcome came);
        still = λ opened. ran_unfailed b0 b1 b2 b3 e e' ran (split.still opened);
        told = moved_told split.outcome split.told;
        inputs = λ other apart. ap (λ (b : Book S K C). b.inputs other) ran.rest3 ∙ split.inputs other apart ∙ ap (λ (b : Book S K C). b.inputs other) ran.rest1;
        rest =
            let faults = ap (λ (b : Book S K C). b.faults) ran.rest3 in
            let inputs = ap (λ (b : Book S K C). b.inputs) ran.rest3 in
            let outputs = ap (λ (b : Book S K C). b.outputs) ran.rest3 in
            ran.rest3
            ∙ ap (λ (b : Book S K C). record b { std = b3.std }) split.rest
            ∙ ap (λ (b : Book S K C). record b { faults = b2.faults; inputs = b2.inputs; outputs = b2.outputs; std = b3.std }) ran.rest1
            ∙ ap (λ (n : ℕ). record b0 { faults = n; inputs = b2.inputs; outputs = b2.outputs; std = b3.std }) (sym faults)
            ∙ ap (λ (i : List ℕ → Place S). record b0 { faults = b3.faults; inputs = i; outputs = b2.outputs; std = b3.std }) (sym inputs)
            ∙ ap (λ (o : List ℕ → Place K). record b0 { faults = b3.faults; inputs = b3.inputs; outputs = o; std = b3.std }) (sym outputs);
      })

-- what came of a capture, and was said then
pub split_as : {S K C : Type 0} (left : S → Option (List ℕ)) (written : K → Option (List ℕ)) (source_faults : S → ℕ) (sink_faults : K → ℕ) (file : List ℕ) (Says : List ℕ → Type 0) (b0 b1 b2 : Book S K C) (outcome : Outcome) (status : ℕ)
    → IsSplitRun left written source_faults sink_faults file b0 b1 outcome → IsTold written sink_faults Says file outcome (b1.std Out) (b2.std Out) status → b2 ≡ record b1 { std = b2.std } → IsSplitAs left written source_faults sink_faults file Says b0 b2 status
split_as {S} {K} {C} left written source_faults sink_faults file Says b0 b1 b2 outcome status run told rest =
    let faults : b2.faults ≡ b1.faults = ap (λ (b : Book S K C). b.faults) rest in
    let inputs : b2.inputs ≡ b1.inputs = ap (λ (b : Book S K C). b.inputs) rest in
    let outputs : b2.outputs ≡ b1.outputs = ap (λ (b : Book S K C). b.outputs) rest in
    record {
      outcome = outcome;
      came = subst (λ (b : Book S K C). CameTo left written source_faults sink_faults file b0 b outcome) (sym rest) (moved_came left written source_faults sink_faults file b0 b1 b0.std b2.std outcome run.came);
      still = λ opened. faults ∙ run.still opened;
      told = subst (λ (p : Place K). IsTold written sink_faults Says file outcome p (b2.std Out) status) (ap (λ (b : Book S K C). b.std Out) run.rest) told;
      inputs = λ other apart. ap (λ (p : List ℕ → Place S). p other) inputs ∙ run.inputs other apart;
      rest = rest
          ∙ ap (λ (b : Book S K C). record b { std = b2.std }) run.rest
          ∙ ap (λ (n : ℕ). record b0 { faults = n; inputs = b1.inputs; outputs = b1.outputs; std = b2.std }) (sym faults)
          ∙ ap (λ (i : List ℕ → Place S). record b0 { faults = b2.faults; inputs = i; outputs = b1.outputs; std = b2.std }) (sym inputs)
          ∙ ap (λ (o : List ℕ → Place K). record b0 { faults = b2.faults; inputs = b2.inputs; outputs = o; std = b2.std }) (sym outputs);
    }

-- the name that was read from the names is that of the interface's output
pub name_told : (file : List ℕ) (names : List (List ℕ)) (k : ℕ) (x text : List ℕ) → AreNames file names → k < 16 → x ≡ get_or names k x → text ≡ x → text ≡ output_name file k
name_told file names k x text are low found is = text_at names k x text (omega (arith, low, are.count)) found is ∙ are.each k low

-- the line of what was counted was written, and then standard error was told this
counted_told : {K : Type 0} (written : K → Option (List ℕ)) (faults : K → ℕ) (Says : List ℕ → Type 0) (counts : Counts) (error line : List ℕ) (answered : ℕ) (done : Bool) (old new : Place K)
    → done ≡ true → line ≡ counts_line counts → Keeps (TookOrPart faults written done line) old new → Says error → IsCountTold written faults Says counts error answered old new answered
counted_told {K} written faults Says counts error line answered done old new done_is line_is keeps says = record {
  line_written = true;
  line = subst (λ (b : Bool). Keeps (TookOrPart faults written b (counts_line counts)) old new) done_is (subst (λ (l : List ℕ). Keeps (TookOrPart faults written done l) old new) line_is keeps);
  errors = says;
  cause = refl;
}

pub split_told : {K : Type 0} (written : K → Option (List ℕ)) (faults : K → ℕ) (file : List ℕ) (errors : K) (result : Outcome) (counts : Counts) (line : List ℕ) (done : Bool) (old new : Place K)
    → result ≡ outcome.Split counts → done ≡ true → line ≡ counts_line counts → Keeps (TookOrPart faults written done line) old new → IsTold written faults (ToldBy faults written errors errors) file result old new 0
split_told {K} written faults file errors result counts line done old new is done_is line_is keeps =
    subst (λ (o : Outcome). IsTold written faults (ToldBy faults written errors errors) file o old new 0) (sym is)
    (counted_told written faults (ToldBy faults written errors errors) counts [] line 0 done old new done_is line_is keeps (told_nothing faults written errors))

pub malformed_told : {K : Type 0} (written : K → Option (List ℕ)) (faults : K → ℕ) (file : List ℕ) (put : Put) (errors errors' : K) (result : Outcome) (at : ℕ) (counts : Counts) (line : List ℕ) (done : Bool) (old new : Place K)
    → result ≡ outcome.Malformed at counts → done ≡ true → line ≡ counts_line counts → Keeps (TookOrPart faults written done line) old new
    → Extends put (written errors) (written errors') (malformed_line file at) → (put ≡ Failed → Rose (faults errors) (faults errors'))
    → IsTold written faults (ToldBy faults written errors errors') file result old new 4
malformed_told {K} written faults file put errors errors' result at counts line done old new is done_is line_is keeps extends cause =
    subst (λ (o : Outcome). IsTold written faults (ToldBy faults written errors errors') file o old new 4) (sym is)
    (counted_told written faults (ToldBy faults written errors errors') counts (malformed_line file at) line 4 done old new done_is line_is keeps (told_by faults written put errors errors' (malformed_line file at) extends cause))

-- an output couldn't be opened, as standard error was told by the name that was read from the names
pub unopened_told : {K : Type 0} (written : K → Option (List ℕ)) (faults : K → ℕ) (file : List ℕ) (names : List (List ℕ)) (put : Put) (errors errors' : K) (result : Outcome) (interface : ℕ) (x text : List ℕ) (out : Place K)
    → AreNames file names → IsNamed result → result ≡ outcome.NoOutput interface → x ≡ get_or names interface x → text ≡ x
    → Extends put (written errors) (written errors') (cannot_open_line text) → (put ≡ Failed → Rose (faults errors) (faults errors'))
    → IsTold written faults (ToldBy faults written errors errors') file result out out 7
unopened_told {K} written faults file names put errors errors' result interface x text out are named is found text_is extends cause =
    let low : interface < 16 = subst (λ (o : Outcome). IsNamed o) is named in
    let name = name_told file names interface x text are low found text_is in
    let says = subst (λ (n : List ℕ). ToldBy faults written errors errors' (cannot_open_line n)) name (told_by faults written put errors errors' (cannot_open_line text) extends cause) in
    subst (λ (o : Outcome). IsTold written faults (ToldBy faults written errors errors') file o out out 7) (sym is) (record { errors = says; out = refl; cause = refl })
