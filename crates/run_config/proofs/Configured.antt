-- What is said of the end that was handed out holds of the one that was told.
use Rattle.std.proofs.Common.{◌≡◌, ℕ, ◌<◌, List, Option, Some, None, IfSome, IsSomeAnd, IfOk, Result, Ok, Err, Bool, subst, sym}
use Rattle.savi_kinds.specs.declared.plan.Plan.{Plan}
use Rattle.savi_conf.specs.Answers.{IsAnswer}
use Rattle.savi_ends.specs.Places.{Place}
use Rattle.run_config.specs.declared.refusal.Refusal.{Refusal}
use Rattle.run_config.specs.Configs.{OfText, IsBuilt, IsConfigured, EndHasFault, EndHasNoFault}

of_stands : {S : Type 0} (left : S → Option (List ℕ)) (stands : Option S) (source : S) (Holds : List ℕ → Type 0) → IfSome stands (λ told. source ≡ told) → IfSome (left source) Holds → IfSome stands (λ told. IfSome (left told) Holds)
of_stands left None source Holds same given = tt
of_stands left (Some told) source Holds same given = subst (λ s. IfSome (left s) Holds) same given

pub of_told : {S : Type 0} (left : S → Option (List ℕ)) (place : Place S) (source : S) (Holds : List ℕ → Type 0) → IfSome place.stands (λ told. source ≡ told) → IfSome (left source) Holds → OfText left place Holds
of_told left place source Holds same given = of_stands left place.stands source Holds same given

pub configured : {S : Type 0} (replay : Bool) (left : S → Option (List ℕ)) (place : Place S) (source : S) (answer : Result Plan Refusal) → IfSome place.stands (λ told. source ≡ told) → IfOk answer (IsBuilt replay) → IfOk answer (λ plan. IfSome (left source) (λ text. IsAnswer text replay (Ok plan))) → IfOk answer (IsConfigured replay left place)
configured replay left place source (Ok plan) same built says = record { says = of_told left place source (λ text. IsAnswer text replay (Ok plan)) same says; built = built }
configured replay left place source (Err refusal) same built says = tt

-- a fact of the text that follows from one of what was read of it
pub if_text : (left : Option (List ℕ)) (Read Holds : List ℕ → Type 0) → ((text : List ℕ) → Read text → Holds text) → IfSome left Read → IfSome left Holds
if_text None Read Holds follows read = tt
if_text (Some text) Read Holds follows read = follows text read

-- the end that is kept has a fault
pub kept_fault : {S : Type 0} (faults : S → ℕ) (place : Place S) (source : S) → place.stands ≡ Some source → 0 < faults source → EndHasFault faults place
kept_fault faults place source kept fault = subst (λ o. IsSomeAnd o (λ x. 0 < faults x)) (sym kept) fault

pub kept_sound : {S : Type 0} (faults : S → ℕ) (place : Place S) (source : S) → place.stands ≡ Some source → faults source ≡ 0 → EndHasNoFault faults place
kept_sound faults place source kept sound = subst (λ o. IsSomeAnd o (λ x. faults x ≡ 0)) (sym kept) sound

taken_from : {S : Type 0} (left : S → Option (List ℕ)) (Taken : Option (List ℕ) → Option (List ℕ) → Type 0) (stands : Option S) (source kept : S) → IfSome stands (λ told. source ≡ told) → Taken (left source) (left kept) → IfSome stands (λ told. Taken (left told) (left kept))
taken_from left Taken None source kept same takes = tt
taken_from left Taken (Some told) source kept same takes = subst (λ s. Taken (left s) (left kept)) same takes

-- the end that was handed out is kept again behind what was read of it
pub read_back : {S : Type 0} (left : S → Option (List ℕ)) (Taken : Option (List ℕ) → Option (List ℕ) → Type 0) (old new : Place S) (source kept : S) → IfSome old.stands (λ told. source ≡ told) → new.stands ≡ Some kept → Taken (left source) (left kept) → IsSomeAnd new.stands (λ k. IfSome old.stands (λ told. Taken (left told) (left k)))
read_back left Taken old new source kept same is takes =
    subst (λ o. IsSomeAnd o (λ k. IfSome old.stands (λ told. Taken (left told) (left k)))) (sym is) (taken_from left Taken old.stands source kept same takes)
