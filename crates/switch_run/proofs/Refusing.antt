-- How a run without a plan ends.
use Rattle.std.proofs.Common.{◌≡◌, ◌≢◌, ℕ, ◌⊎◌, inl, inr, List, Bool, true, false, refl, subst, arith, Option}
use Rattle.savi_conf.specs.declared.fault.ConfFault.{ConfFault}
use Rattle.savi_ends.specs.declared.world.Std.TheVariants.{Out}
use Rattle.savi_ends.specs.Faults.{Rose}
use Rattle.savi_ends.specs.Places.{Book, OthersStay}
use Rattle.run_config.specs.declared.refusal.Refusal.{Refusal}
use Rattle.run_config.specs.declared.refusal.Refusal.TheVariants as refusal
use Rattle.run_config.specs.Configs.{EndHasFault, EndHasNoFault, IsReadFrom, IsReadThrough, IsRefused}
use Rattle.switch_run.specs.Causes.{IsOneOf, IsUnserved, session_statuses}
use Rattle.switch_run.specs.Runs.{IsRunOf}
use Rattle.switch_run.specs.Concluded.{refusal_line, refusal_status}

not_session : (status n : ℕ) → status ≡ n → (IsOneOf session_statuses n → ⊥) → IsOneOf session_statuses status → ⊥
not_session status n e never one_of = never (subst (λ (m : ℕ). IsOneOf session_statuses m) e one_of)

-- it is as it was, or both hold of it
both : {Same P Q : Type 0} → Same ⊎ P → Same ⊎ Q → Same ⊎ (P × Q)
both (inl same) either = inl same
both (inr p) (inl same) = inl same
both (inr p) (inr q) = inr (p, q)

pub refuses : {S K C : Type 0} (replay : Bool) (left : S → Option (List ℕ)) (written : K → Option (List ℕ)) (source_faults : S → ℕ) (file : List ℕ) (Says : List ℕ → Type 0) (Session : Type 0) (r : Refusal) (old new : Book S K C) (status : ℕ)
    → status ≡ refusal_status r → Says (refusal_line file r) → ((fault : ConfFault) → r ≡ refusal.Refused fault → IsRefused replay left (old.inputs file) fault) → (r ≡ refusal.CannotOpen → Rose old.faults new.faults) → (r ≢ refusal.CannotOpen → new.faults ≡ old.faults) → (r ≡ refusal.ReadFailed → EndHasFault source_faults (new.inputs file))
    → (r ≢ refusal.ReadFailed → r ≢ refusal.CannotOpen → r ≢ refusal.NoMemory → EndHasNoFault source_faults (new.inputs file)) → (r ≡ refusal.NoMemory → (new.inputs file ≡ old.inputs file) ⊎ EndHasNoFault source_faults (new.inputs file))
    → (r ≡ refusal.CannotOpen → new.inputs file ≡ old.inputs file) → (r ≡ refusal.ReadFailed → IsReadFrom left (old.inputs file) (new.inputs file)) → (r ≢ refusal.ReadFailed → r ≢ refusal.CannotOpen → r ≢ refusal.NoMemory → IsReadThrough left (old.inputs file) (new.inputs file)) → (r ≡ refusal.NoMemory → (new.inputs file ≡ old.inputs file) ⊎ IsReadThrough left (old.inputs file) (new.inputs file)) → IsUnserved old new
    → new.std Out ≡ old.std Out → OthersStay old.inputs new.inputs file → IsRunOf replay left written source_faults file Says Session old new status
refuses replay left written source_faults file Says Session refusal.NoMemory old new status is told refused unopened unfailed unread still still_memory place kept whole memory unserved quiet inputs = record {
  one_of = rw is refl;
  usage = λ e. absurd (omega (arith, is, e));
  memory = λ e. told;
  unplayed = λ e. record { input = both (memory refl) (still_memory refl); ends = inl unserved };
  config = λ e. absurd (omega (arith, is, e));
  opening = λ e. absurd (omega (arith, is, e));
  still = λ other. unfailed (λ e. cc);
  unopened = λ e. absurd (omega (arith, is, e));
  session = λ one_of. absurd (not_session status 1 is (λ e. let t : false ≡ true = e in cc) one_of);
  quiet = λ one_of. quiet;
  unused = λ one_of. inl unserved;
  inputs = inputs;
}
refuses replay left written source_faults file Says Session refusal.CannotOpen old new status is told refused unopened unfailed unread still still_memory place kept whole memory unserved quiet inputs = record {
  one_of = rw is refl;
  usage = λ e. absurd (omega (arith, is, e));
  memory = λ e. absurd (omega (arith, is, e));
  unplayed = λ e. absurd (omega (arith, is, e));
  config = λ e. absurd (omega (arith, is, e));
  opening = λ e. unopened refl;
  still = λ other. absurd (other is);
  unopened = λ e. inl (record { errors = told; place = place refl; unserved = unserved });
  session = λ one_of. absurd (not_session status 7 is (λ e. let t : false ≡ true = e in cc) one_of);
  quiet = λ one_of. quiet;
  unused = λ one_of. inl unserved;
  inputs = inputs;
}
refuses replay left written source_faults file Says Session refusal.ReadFailed old new status is told refused unopened unfailed unread still still_memory place kept whole memory unserved quiet inputs = record {
  one_of = rw is refl;
  usage = λ e. absurd (omega (arith, is, e));
  memory = λ e. absurd (omega (arith, is, e));
  unplayed = λ e. absurd (omega (arith, is, e));
  config = λ e. absurd (omega (arith, is, e));
  opening = λ e. absurd (omega (arith, is, e));
  still = λ other. unfailed (λ e. cc);
  unopened = λ e. absurd (omega (arith, is, e));
  session = λ one_of. inl (record { status_is = is; fault = unread refl; input = kept refl; errors = told; out = quiet; unserved = unserved });
  quiet = λ one_of. quiet;
  unused = λ one_of. inl unserved;
  inputs = inputs;
}
refuses replay left written source_faults file Says Session (refusal.Refused fault) old new status is told refused unopened unfailed unread still still_memory place kept whole memory unserved quiet inputs = record {
  one_of = rw is refl;
  usage = λ e. absurd (omega (arith, is, e));
  memory = λ e. absurd (omega (arith, is, e));
  unplayed = λ e. absurd (omega (arith, is, e));
  config = λ e. record { fault = fault; refused = refused fault refl; input = whole (λ e. cc) (λ e. cc) (λ e. cc); still = still (λ e. cc) (λ e. cc) (λ e. cc); unserved = unserved; errors = told };
  opening = λ e. absurd (omega (arith, is, e));
  still = λ other. unfailed (λ e. cc);
  unopened = λ e. absurd (omega (arith, is, e));
  session = λ one_of. absurd (not_session status 3 is (λ e. let t : false ≡ true = e in cc) one_of);
  quiet = λ one_of. quiet;
  unused = λ one_of. inl unserved;
  inputs = inputs;
}
