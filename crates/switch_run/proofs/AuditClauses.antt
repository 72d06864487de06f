-- From what a run has done to what it says of its world, an audit among the rest.
use Rattle.std.proofs.Common.{◌≡◌, ℕ, inl, inr, List, [], ◌∷◌, get_or, sym, ap, ◌∙◌, codes, arith, Option}
use Rattle.savi_ends.specs.Places.{Book}
use Rattle.run_config.specs.Words.{IsAudit, IsCheck, IsGen, IsLearn, IsReplay, IsServe, IsSplitWords}
use Rattle.switch_report.specs.RunLines.{memory_line}
use Rattle.switch_run.specs.AnyRun.{IsAnyRun}
use Rattle.switch_run.specs.Audits.{IsAuditRun}
use Rattle.switch_run.specs.Session.{WasTold, ToldBy}
use Rattle.switch_run.proofs.Auditing.{audit_is, audit_memory, audit_not_two, audit_opening, audit_quiet, ran_audit, ran_audit_quiet}
use Rattle.switch_run.proofs.LearnClauses.{AllClauses, IsUnauditedRun, all_clauses}
use Rattle.switch_run.proofs.Running.{Ran, ran_open, ran_told, ran_unfailed}

-- what the contract of a run says
pub record RunClauses {S K C : Type 0} (left : S → Option (List ℕ)) (written : K → Option (List ℕ)) (source_faults : S → ℕ) (sink_faults : K → ℕ) (readings : C → Option (List ℕ)) (words : List (List ℕ)) (old new : Book S K C) (status : ℕ) : Type 0 where
  pub others : AllClauses left written source_faults sink_faults readings words old new status
  pub audit : (file : List ℕ) → IsAudit file words → IsAuditRun left written source_faults sink_faults file (WasTold sink_faults written old new) old new status

-- no words ask for an audit and for anything else

first_of : (a b : List ℕ) (xs ys : List (List ℕ)) → a ∷ xs ≡ b ∷ ys → get_or a 0 0 ≡ get_or b 0 0
first_of a b xs ys same = ap (λ (ws : List (List ℕ)). get_or (get_or ws 0 []) 0 0) same

not_replayed : (words : List (List ℕ)) (file other : List ℕ) → IsAudit file words → IsReplay other words → ⊥
not_replayed words file other audit replay =
    let first : 97 ≡ 114 = first_of _ _ _ _ (sym audit ∙ replay) in
    omega (arith, first)

not_served : (words : List (List ℕ)) (file other : List ℕ) → IsAudit file words → IsServe other words → ⊥
not_served words file other audit serve =
    let first : 97 ≡ 115 = first_of _ _ _ _ (sym audit ∙ serve) in
    omega (arith, first)

not_checked : (words : List (List ℕ)) (file other : List ℕ) → IsAudit file words → IsCheck other words → ⊥
not_checked words file other audit check =
    let first : 97 ≡ 99 = first_of _ _ _ _ (sym audit ∙ check) in
    omega (arith, first)

not_loaded : (words : List (List ℕ)) (file : List ℕ) (seed frames : ℕ) → IsAudit file words → IsGen seed frames words → ⊥
not_loaded words file seed frames audit gen =
    let first : 97 ≡ 103 = first_of _ _ _ _ (sym audit ∙ gen.spelled) in
    omega (arith, first)

not_split : (words : List (List ℕ)) (file other : List ℕ) → IsAudit file words → IsSplitWords other words → ⊥
not_split words file other audit split =
    let first : 97 ≡ 115 = first_of _ _ _ _ (sym audit ∙ split) in
    omega (arith, first)

not_learned : (words : List (List ℕ)) (file other : List ℕ) (window : ℕ) → IsAudit file words → IsLearn other window words → ⊥
not_learned words file other window audit learn =
    let first : 97 ≡ 108 = first_of _ _ _ _ (sym audit ∙ learn.spelled) in
    omega (arith, first)

same_audit : (words : List (List ℕ)) (a b : List ℕ) → IsAudit a words → IsAudit b words → a ≡ b
same_audit words a b one other =
    let both : codes "audit" ∷ a ∷ [] ≡ codes "audit" ∷ b ∷ [] = sym one ∙ other in
    cc

-- words that ask for no audit
none_audited : {S K C : Type 0} (left : S → Option (List ℕ)) (written : K → Option (List ℕ)) (source_faults : S → ℕ) (sink_faults : K → ℕ) (readings : C → Option (List ℕ)) (words : List (List ℕ)) (Says : List ℕ → Type 0) (old new : Book S K C) (status : ℕ)
    → IsUnauditedRun left written source_faults sink_faults readings words Says old new status → (file : List ℕ) → IsAudit file words → ⊥
none_audited left written source_faults sink_faults readings words Says old new status (inl (other, window, form, r)) file is = not_learned words file other window is form
none_audited left written source_faults sink_faults readings words Says old new status (inr (inl (two, none, told, same))) file is = none (inr (inr (inr (inr (inr (inr (file, is)))))))
none_audited left written source_faults sink_faults readings words Says old new status (inr (inr (inl (other, form, r)))) file is = not_replayed words file other is form
none_audited left written source_faults sink_faults readings words Says old new status (inr (inr (inr (inl (other, form, r))))) file is = not_served words file other is form
none_audited left written source_faults sink_faults readings words Says old new status (inr (inr (inr (inr (inl (other, form, r)))))) file is = not_checked words file other is form
none_audited left written source_faults sink_faults readings words Says old new status (inr (inr (inr (inr (inr (inl (seed, frames, form, r))))))) file is = not_loaded words file seed frames is form
none_audited left written source_faults sink_faults readings words Says old new status (inr (inr (inr (inr (inr (inr (other, form, r))))))) file is = not_split words file other is form

pub run_clauses : {S K C : Type 0} (left : S → Option (List ℕ)) (written : K → Option (List ℕ)) (source_faults : S → ℕ) (sink_faults : K → ℕ) (readings : C → Option (List ℕ)) (words : List (List ℕ)) (b0 b1 b2 b3 : Book S K C) (e e' : K) (status : ℕ) → Ran b0 b1 b2 b3 e e'
    → IsAnyRun left written source_faults sink_faults readings words (ToldBy sink_faults written e e') b1 b2 status → RunClauses left written source_faults sink_faults readings words b0 b3 status
run_clauses left written source_faults sink_faults readings words b0 b1 b2 b3 e e' status ran (inr r) = record {
  others = all_clauses left written source_faults sink_faults readings words b0 b1 b2 b3 e e' status ran r;
  audit = λ file is. absurd (none_audited left written source_faults sink_faults readings words (ToldBy sink_faults written e e') b1 b2 status r file is);
}
run_clauses {S} {K} {C} left written source_faults sink_faults readings words b0 b1 b2 b3 e e' status ran (inl (file, form, r)) =
    let Says : List ℕ → Type 0 = ToldBy sink_faults written e e' in
    record {
      others = record {
        others = record {
          one_of = audit_is left written source_faults sink_faults file Says b1 b2 status r;
          usage = (λ two. absurd (audit_not_two left written source_faults sink_faults file Says b1 b2 status r two), λ none. absurd (none (inr (inr (inr (inr (inr (inr (file, form)))))))));
          untouched = λ two. absurd (audit_not_two left written source_faults sink_faults file Says b1 b2 status r two);
          memory = λ one. ran_told sink_faults written b0 b1 b2 b3 e e' memory_line ran (audit_memory left written source_faults sink_faults file Says b1 b2 status r one);
          unplayed = λ f is. absurd (not_replayed words file f form is);
          config = λ f is. absurd (not_replayed words file f form is);
          opening = λ seven. ran_open b0 b1 b2 b3 e e' ran (audit_opening left written source_faults sink_faults file Says b1 b2 status r seven);
          still = λ other. ran_unfailed b0 b1 b2 b3 e e' ran (r.still other);
          unopened = λ f is. absurd (not_replayed words file f form is);
          session = λ f is. absurd (not_replayed words file f form is);
          read = λ f is. absurd (not_replayed words file f form is);
          write = λ f is. absurd (not_replayed words file f form is);
          quiet = λ quiet. ran_audit_quiet left written source_faults sink_faults file b0 b1 b2 b3 e e' status ran words form (audit_quiet left written source_faults sink_faults file Says b1 b2 status r quiet);
          unused = λ f is. absurd (not_replayed words file f form is);
          elsewhere = λ f is. absurd (not_replayed words file f form is);
          serve = λ f is. absurd (not_served words file f form is);
          served_read = λ f is. absurd (not_served words file f form is);
          served_write = λ f is. absurd (not_served words file f form is);
          check = λ f is. absurd (not_checked words file f form is);
          load = λ seed frames is. absurd (not_loaded words file seed frames form is);
          split = λ f is. absurd (not_split words file f form is);
        };
        learn = λ f window is. absurd (not_learned words file f window form is);
        learned_read = λ f window is. absurd (not_learned words file f window form is);
        learned_write = λ f window is. absurd (not_learned words file f window form is);
      };
      audit = λ f is. rw (same_audit words f file is form) (ran_audit left written source_faults sink_faults file b0 b1 b2 b3 e e' status ran r);
    }
