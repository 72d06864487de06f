-- From what a run has done to what it says of its world.
use Rattle.std.proofs.Common.{◌≡◌, ◌≢◌, ℕ, ◌⊎◌, inl, inr, List, true, false, refl, sym, ap, subst, arith, Option}
use Rattle.std.specs.Prelude.{◌↔◌}
use Rattle.savi_ends.specs.declared.world.Std.TheVariants.{Out}
use Rattle.savi_ends.specs.Faults.{Rose}
use Rattle.savi_ends.specs.Places.{Book}
use Rattle.run_config.specs.Words.{IsCheck, IsForm, IsGen, IsReplay, IsServe, IsSplitWords}
use Rattle.switch_report.specs.RunLines.{memory_line, usage_line}
use Rattle.switch_run.specs.Audits.{StaysUnwritten}
use Rattle.switch_run.specs.Causes.{HasSomeReadFault, HasSomeWriteFault, IsElsewhereSame, IsOneOf, IsUntouched, IsUnused, quiet_statuses, session_statuses, statuses, unused_statuses}
use Rattle.switch_run.specs.Checks.{IsCheckRun}
use Rattle.switch_run.specs.Loads.{IsLoadRun}
use Rattle.switch_run.specs.Runs.{IsReplayRun, IsServeRun}
use Rattle.switch_run.specs.Live.{IsServeSession}
use Rattle.switch_run.specs.Splits.{IsCaptureRun}
use Rattle.switch_run.specs.Session.{IsFileUnread, IsNoPlan, IsSession, IsUnopened, IsUnplayed, WasTold, ToldBy}
use Rattle.switch_run.proofs.Checking.{check_is, check_memory, check_opening, check_out, never_two, ran_check}
use Rattle.switch_run.proofs.Faulting.{live_read_fault, live_write_fault, read_fault_of, write_fault_of}
use Rattle.switch_run.proofs.Forms.{same_capture, same_file, same_journal, same_load, same_served, not_split_check, not_split_load, not_split_replay, not_split_serve, not_both, not_checked, not_judged, not_live, not_loaded, not_served}
use Rattle.switch_run.proofs.Loading.{load_is, load_memory, load_out, not_two, not_seven, ran_load}
use Rattle.switch_run.proofs.Splitting.{capture_is, capture_memory, capture_not_two, capture_opening, capture_out, capture_still, ran_capture}
use Rattle.switch_run.proofs.Running.{Ran, ran_told, ran_open, ran_quiet, ran_run, ran_served, ran_session, ran_ticker, ran_unfailed, ran_untouched}

-- what the contract of a run says of words that ask neither to learn nor for an audit
pub record Clauses {S K C : Type 0} (left : S → Option (List ℕ)) (written : K → Option (List ℕ)) (source_faults : S → ℕ) (sink_faults : K → ℕ) (readings : C → Option (List ℕ)) (words : List (List ℕ)) (old new : Book S K C) (status : ℕ) : Type 0 where
  pub one_of : IsOneOf statuses status
  pub usage : (status ≡ 2) ↔ (IsForm words → ⊥)
  pub untouched : status ≡ 2 → IsUntouched old new × WasTold sink_faults written old new usage_line
  pub memory : status ≡ 1 → WasTold sink_faults written old new memory_line
  pub unplayed : (file : List ℕ) → IsReplay file words → status ≡ 1 → IsUnplayed true left written source_faults file old new
  pub config : (file : List ℕ) → IsReplay file words → status ≡ 3 → IsNoPlan true left source_faults file (WasTold sink_faults written old new) old new
  pub opening : status ≡ 7 → Rose old.faults new.faults
  pub still : status ≢ 7 → new.faults ≡ old.faults
  pub unopened : (file : List ℕ) → IsReplay file words → status ≡ 7 → IsUnopened true left source_faults file (WasTold sink_faults written old new) old new
  pub session : (file : List ℕ) → IsReplay file words → IsOneOf session_statuses status
      → IsFileUnread left source_faults file (WasTold sink_faults written old new) old new status ⊎ IsSession left written source_faults sink_faults file (WasTold sink_faults written old new) old new status
  pub read : (file : List ℕ) → IsReplay file words → status ≡ 5 → HasSomeReadFault source_faults file new
  pub write : (file : List ℕ) → IsReplay file words → status ≡ 6 → HasSomeWriteFault sink_faults new
  pub quiet : IsOneOf quiet_statuses status → StaysUnwritten words status (old.std Out) (new.std Out)
  pub unused : (file : List ℕ) → IsReplay file words → IsOneOf unused_statuses status → IsUnused true left file old new
  pub elsewhere : (file : List ℕ) → IsReplay file words → IsElsewhereSame file old new
  pub serve : (file : List ℕ) → IsServe file words → IsServeRun left written source_faults sink_faults readings file (WasTold sink_faults written old new) old new status
  pub served_read : (file : List ℕ) → IsServe file words → status ≡ 5 → HasSomeReadFault source_faults file new
  pub served_write : (file : List ℕ) → IsServe file words → status ≡ 6 → HasSomeWriteFault sink_faults new
  pub check : (file : List ℕ) → IsCheck file words → IsCheckRun left written source_faults sink_faults file (WasTold sink_faults written old new) old new status
  pub load : (seed frames : ℕ) → IsGen seed frames words → IsLoadRun written sink_faults seed frames (WasTold sink_faults written old new) old new status
  pub split : (file : List ℕ) → IsSplitWords file words → IsCaptureRun left written source_faults sink_faults file (WasTold sink_faults written old new) old new status

-- what a run has done whose words ask neither to learn nor for an audit
abbrev pub IsOtherRun : {S K C : Type 0} → (S → Option (List ℕ)) → (K → Option (List ℕ)) → (S → ℕ) → (K → ℕ) → (C → Option (List ℕ)) → List (List ℕ) → (List ℕ → Type 0) → Book S K C → Book S K C → ℕ → Type 0
IsOtherRun left written source_faults sink_faults readings words Says old new status =
    ((status ≡ 2) × (IsForm words → ⊥) × Says usage_line × (new ≡ old))
    ⊎ (((file : List ℕ) × IsReplay file words × IsReplayRun left written source_faults sink_faults file Says old new status)
    ⊎ (((file : List ℕ) × IsServe file words × IsServeRun left written source_faults sink_faults readings file Says old new status)
    ⊎ (((file : List ℕ) × IsCheck file words × IsCheckRun left written source_faults sink_faults file Says old new status)
    ⊎ (((seed : ℕ) × (frames : ℕ) × IsGen seed frames words × IsLoadRun written sink_faults seed frames Says old new status)
    ⊎ ((file : List ℕ) × IsSplitWords file words × IsCaptureRun left written source_faults sink_faults file Says old new status)))))

pub clauses_of : {S K C : Type 0} (left : S → Option (List ℕ)) (written : K → Option (List ℕ)) (source_faults : S → ℕ) (sink_faults : K → ℕ) (readings : C → Option (List ℕ)) (words : List (List ℕ)) (b0 b1 b2 b3 : Book S K C) (e e' : K) (status : ℕ) → Ran b0 b1 b2 b3 e e'
    → IsOtherRun left written source_faults sink_faults readings words (ToldBy sink_faults written e e') b1 b2 status → Clauses left written source_faults sink_faults readings words b0 b3 status
clauses_of {S} {K} {C} left written source_faults sink_faults readings words b0 b1 b2 b3 e e' status ran (inl (two, none, told, same)) =
    let untouched = ran_untouched b0 b1 b2 b3 e e' ran same in
    record {
      one_of = subst (λ (n : ℕ). IsOneOf statuses n) (sym two) refl;
      usage = (λ is. none, λ is. two);
      untouched = λ is. (untouched, ran_told sink_faults written b0 b1 b2 b3 e e' usage_line ran told);
      memory = λ one. absurd (omega (arith, one, two));
      unplayed = λ file form. absurd (none (inl (file, form)));
      config = λ file form. absurd (none (inl (file, form)));
      opening = λ seven. absurd (omega (arith, seven, two));
      still = λ other. ap (λ (b : Book S K C). b.faults) untouched.rest;
      unopened = λ file form. absurd (none (inl (file, form)));
      session = λ file form. absurd (none (inl (file, form)));
      read = λ file form. absurd (none (inl (file, form)));
      write = λ file form. absurd (none (inl (file, form)));
      quiet = λ one_of. inl untouched.out;
      unused = λ file form. absurd (none (inl (file, form)));
      elsewhere = λ file form. absurd (none (inl (file, form)));
      serve = λ file form. absurd (none (inr (inl (file, form))));
      served_read = λ file form. absurd (none (inr (inl (file, form))));
      served_write = λ file form. absurd (none (inr (inl (file, form))));
      check = λ file form. absurd (none (inr (inr (inl (file, form)))));
      load = λ seed frames form. absurd (none (inr (inr (inr (inl (seed, frames, form))))));
      split = λ file form. absurd (none (inr (inr (inr (inr (inl (file, form)))))));
    }
clauses_of {S} {K} {C} left written source_faults sink_faults readings words b0 b1 b2 b3 e e' status ran (inr (inl (file, form, r))) =
    let says : (lines : List ℕ) → ToldBy sink_faults written e e' lines → WasTold sink_faults written b0 b3 lines = λ lines told. ran_told sink_faults written b0 b1 b2 b3 e e' lines ran told in
    let Session : Type 0 = IsSession left written source_faults sink_faults file (WasTold sink_faults written b0 b3) b0 b3 status in
    let did = ran_run true left written source_faults _ (WasTold sink_faults written b0 b3) _ Session b0 b1 b2 b3 e e' file status ran says (ran_session left written source_faults sink_faults _ _ b0 b1 b2 b3 e e' file status ran says) r.run in
    let serves : (f : List ℕ) → IsServe f words → ⊥ = λ f is. not_served words file f form is in
    record {
      one_of = did.one_of;
      usage = (λ two. absurd (did.usage two), λ none. absurd (none (inl (file, form))));
      untouched = λ two. absurd (did.usage two);
      memory = did.memory;
      unplayed = λ f is one. rw (same_file words f file is form) (did.unplayed one);
      config = λ f is three. rw (same_file words f file is form) (did.config three);
      opening = did.opening;
      still = did.still;
      unopened = λ f is seven. rw (same_file words f file is form) (did.unopened seven);
      session = λ f is one_of. rw (same_file words f file is form) (did.session one_of);
      read = λ f is five. rw (same_file words f file is form) (read_fault_of left written source_faults sink_faults _ b0 b3 file status five (did.session (subst (λ (n : ℕ). IsOneOf session_statuses n) (sym five) refl)));
      write = λ f is six. write_fault_of left written source_faults sink_faults _ b0 b3 file status six (did.session (subst (λ (n : ℕ). IsOneOf session_statuses n) (sym six) refl));
      quiet = λ one_of. inl (did.quiet one_of);
      unused = λ f is one_of. rw (same_file words f file is form) (did.unused one_of);
      elsewhere = λ f is. rw (same_file words f file is form) (record { ticker = ran_ticker b0 b1 b2 b3 e e' ran r.ticker; inputs = did.inputs });
      serve = λ f is. absurd (serves f is);
      served_read = λ f is. absurd (serves f is);
      served_write = λ f is. absurd (serves f is);
      check = λ f is. absurd (not_checked words file f form is);
      load = λ seed frames is. absurd (not_both words file seed frames form is);
      split = λ f is. absurd (not_split_replay words file f form is);
    }
clauses_of {S} {K} {C} left written source_faults sink_faults readings words b0 b1 b2 b3 e e' status ran (inr (inr (inl (file, form, r)))) =
    let says : (lines : List ℕ) → ToldBy sink_faults written e e' lines → WasTold sink_faults written b0 b3 lines = λ lines told. ran_told sink_faults written b0 b1 b2 b3 e e' lines ran told in
    let Session : Type 0 = IsServeSession left written source_faults sink_faults readings file (WasTold sink_faults written b0 b3) b0 b3 status in
    let did = ran_run false left written source_faults _ (WasTold sink_faults written b0 b3) _ Session b0 b1 b2 b3 e e' file status ran says (ran_served left written source_faults sink_faults readings _ _ b0 b1 b2 b3 e e' file status ran says) r in
    let replays : (f : List ℕ) → IsReplay f words → ⊥ = λ f is. not_served words f file is form in
    record {
      one_of = did.one_of;
      usage = (λ two. absurd (did.usage two), λ none. absurd (none (inr (inl (file, form)))));
      untouched = λ two. absurd (did.usage two);
      memory = did.memory;
      unplayed = λ f is. absurd (replays f is);
      config = λ f is. absurd (replays f is);
      opening = did.opening;
      still = did.still;
      unopened = λ f is. absurd (replays f is);
      session = λ f is. absurd (replays f is);
      read = λ f is. absurd (replays f is);
      write = λ f is. absurd (replays f is);
      quiet = λ one_of. inl (did.quiet one_of);
      unused = λ f is. absurd (replays f is);
      elsewhere = λ f is. absurd (replays f is);
      serve = λ f is. rw (same_served words f file is form) did;
      served_read = λ f is five. rw (same_served words f file is form) (live_read_fault left written source_faults sink_faults readings _ b0 b3 file status five (did.session (subst (λ (n : ℕ). IsOneOf session_statuses n) (sym five) refl)));
      served_write = λ f is six. live_write_fault left written source_faults sink_faults readings _ b0 b3 file status six (did.session (subst (λ (n : ℕ). IsOneOf session_statuses n) (sym six) refl));
      check = λ f is. absurd (not_live words file f form is);
      load = λ seed frames is. absurd (not_loaded words file seed frames form is);
      split = λ f is. absurd (not_split_serve words file f form is);
    }
clauses_of {S} {K} {C} left written source_faults sink_faults readings words b0 b1 b2 b3 e e' status ran (inr (inr (inr (inl (file, form, r))))) =
    let replays : (f : List ℕ) → IsReplay f words → ⊥ = λ f is. not_checked words f file is form in
    let Says : List ℕ → Type 0 = ToldBy sink_faults written e e' in
    record {
      one_of = check_is left written source_faults sink_faults file Says b1 b2 status r;
      usage = (λ two. absurd (never_two left written source_faults sink_faults file Says b1 b2 status r two), λ none. absurd (none (inr (inr (inl (file, form))))));
      untouched = λ two. absurd (never_two left written source_faults sink_faults file Says b1 b2 status r two);
      memory = λ one. ran_told sink_faults written b0 b1 b2 b3 e e' memory_line ran (check_memory left written source_faults sink_faults file Says b1 b2 status r one);
      unplayed = λ f is. absurd (replays f is);
      config = λ f is. absurd (replays f is);
      opening = λ seven. ran_open b0 b1 b2 b3 e e' ran (check_opening left written source_faults sink_faults file Says b1 b2 status r seven);
      still = λ other. ran_unfailed b0 b1 b2 b3 e e' ran (r.still other);
      unopened = λ f is. absurd (replays f is);
      session = λ f is. absurd (replays f is);
      read = λ f is. absurd (replays f is);
      write = λ f is. absurd (replays f is);
      quiet = λ quiet. inl (ran_quiet b0 b1 b2 b3 e e' ran (check_out left written source_faults sink_faults file Says b1 b2 status r quiet));
      unused = λ f is. absurd (replays f is);
      elsewhere = λ f is. absurd (replays f is);
      serve = λ f is. absurd (not_live words f file is form);
      served_read = λ f is. absurd (not_live words f file is form);
      served_write = λ f is. absurd (not_live words f file is form);
      check = λ f is. rw (same_journal words f file is form) (ran_check left written source_faults sink_faults file b0 b1 b2 b3 e e' status ran r);
      load = λ seed frames is. absurd (not_judged words file seed frames form is);
      split = λ f is. absurd (not_split_check words file f form is);
    }
clauses_of {S} {K} {C} left written source_faults sink_faults readings words b0 b1 b2 b3 e e' status ran (inr (inr (inr (inr (inl (seed, frames, form, r)))))) =
    let replays : (file : List ℕ) → IsReplay file words → ⊥ = λ file is. not_both words file seed frames is form in
    let Says : List ℕ → Type 0 = ToldBy sink_faults written e e' in
    record {
      one_of = load_is written sink_faults seed frames Says b1 b2 status r;
      usage = (λ two. absurd (not_two written sink_faults seed frames Says b1 b2 status r two), λ none. absurd (none (inr (inr (inr (inl (seed, frames, form)))))));
      untouched = λ two. absurd (not_two written sink_faults seed frames Says b1 b2 status r two);
      memory = λ one. ran_told sink_faults written b0 b1 b2 b3 e e' memory_line ran (load_memory written sink_faults seed frames Says b1 b2 status r one).0;
      unplayed = λ file is. absurd (replays file is);
      config = λ file is. absurd (replays file is);
      opening = λ seven. absurd (not_seven written sink_faults seed frames Says b1 b2 status r seven);
      still = λ other. ran_unfailed b0 b1 b2 b3 e e' ran (ap (λ (b : Book S K C). b.faults) r.rest);
      unopened = λ file is. absurd (replays file is);
      session = λ file is. absurd (replays file is);
      read = λ file is. absurd (replays file is);
      write = λ file is. absurd (replays file is);
      quiet = λ quiet. inl (ran_quiet b0 b1 b2 b3 e e' ran (load_out written sink_faults seed frames Says b1 b2 status r quiet));
      unused = λ file is. absurd (replays file is);
      elsewhere = λ file is. absurd (replays file is);
      serve = λ file is. absurd (not_loaded words file seed frames is form);
      served_read = λ file is. absurd (not_loaded words file seed frames is form);
      served_write = λ file is. absurd (not_loaded words file seed frames is form);
      check = λ file is. absurd (not_judged words file seed frames is form);
      load = λ seed' frames' is.
          let same = same_load words seed' frames' seed frames is form in
          rw (same.0, same.1) (ran_load written sink_faults seed frames b0 b1 b2 b3 e e' status ran r);
      split = λ f is. absurd (not_split_load words f seed frames form is);
    }
clauses_of {S} {K} {C} left written source_faults sink_faults readings words b0 b1 b2 b3 e e' status ran (inr (inr (inr (inr (inr (file, form, r)))))) =
    let replays : (f : List ℕ) → IsReplay f words → ⊥ = λ f is. not_split_replay words f file is form in
    let Says : List ℕ → Type 0 = ToldBy sink_faults written e e' in
    record {
      one_of = capture_is left written source_faults sink_faults file Says b1 b2 status r;
      usage = (λ two. absurd (capture_not_two left written source_faults sink_faults file Says b1 b2 status r two), λ none. absurd (none (inr (inr (inr (inr (inl (file, form))))))));
      untouched = λ two. absurd (capture_not_two left written source_faults sink_faults file Says b1 b2 status r two);
      memory = λ one. ran_told sink_faults written b0 b1 b2 b3 e e' memory_line ran (capture_memory left written source_faults sink_faults file Says b1 b2 status r one);
      unplayed = λ f is. absurd (replays f is);
      config = λ f is. absurd (replays f is);
      opening = λ seven. ran_open b0 b1 b2 b3 e e' ran (capture_opening left written source_faults sink_faults file Says b1 b2 status r seven);
      still = λ other. ran_unfailed b0 b1 b2 b3 e e' ran (capture_still left written source_faults sink_faults file Says b1 b2 status r other);
      unopened = λ f is. absurd (replays f is);
      session = λ f is. absurd (replays f is);
      read = λ f is. absurd (replays f is);
      write = λ f is. absurd (replays f is);
      quiet = λ quiet. inl (ran_quiet b0 b1 b2 b3 e e' ran (capture_out left written source_faults sink_faults file Says b1 b2 status r quiet));
      unused = λ f is. absurd (replays f is);
      elsewhere = λ f is. absurd (replays f is);
      serve = λ f is. absurd (not_split_serve words f file is form);
      served_read = λ f is. absurd (not_split_serve words f file is form);
      served_write = λ f is. absurd (not_split_serve words f file is form);
      check = λ f is. absurd (not_split_check words f file is form);
      load = λ seed frames is. absurd (not_split_load words file seed frames is form);
      split = λ f is. rw (same_capture words f file is form) (ran_capture left written source_faults sink_faults file b0 b1 b2 b3 e e' status ran r);
    }
