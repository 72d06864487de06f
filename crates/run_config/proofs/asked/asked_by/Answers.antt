use Rattle.std.proofs.Common.{ℕ, List, inl, inr}
use Rattle.run_config.specs.Words.{IsAudit, IsCheck, IsForm, IsGen, IsLearn, IsReplay, IsServe, IsSplitWords}
use Rattle.run_config.proofs.asked.asked_by.Goals as goal

none_of : (words : List (List ℕ)) → ((file : List ℕ) → IsReplay file words → ⊥) → ((file : List ℕ) → IsServe file words → ⊥) → ((file : List ℕ) → IsCheck file words → ⊥) → ((file : List ℕ) → IsAudit file words → ⊥) → ((file : List ℕ) → IsSplitWords file words → ⊥) → ((file : List ℕ) (window : ℕ) → IsLearn file window words → ⊥) → ((seed frames : ℕ) → IsGen seed frames words → ⊥) → IsForm words → ⊥
none_of words no_plan no_session no_journal no_audit no_capture no_learning no_load (inl form) = no_plan form.0 form.1
none_of words no_plan no_session no_journal no_audit no_capture no_learning no_load (inr (inl form)) = no_session form.0 form.1
none_of words no_plan no_session no_journal no_audit no_capture no_learning no_load (inr (inr (inl form))) = no_journal form.0 form.1
none_of words no_plan no_session no_journal no_audit no_capture no_learning no_load (inr (inr (inr (inl form)))) = no_load form.0 form.1 form.2
none_of words no_plan no_session no_journal no_audit no_capture no_learning no_load (inr (inr (inr (inr (inl form))))) = no_capture form.0 form.1
none_of words no_plan no_session no_journal no_audit no_capture no_learning no_load (inr (inr (inr (inr (inr (inl form)))))) = no_learning form.0 form.1 form.2
none_of words no_plan no_session no_journal no_audit no_capture no_learning no_load (inr (inr (inr (inr (inr (inr form)))))) = no_audit form.0 form.1

pub returns-in-None : goal.returns-in-None
returns-in-None c = none_of _ c.in_default.ensures.none c.in_default-file_behind.ensures.none c.in_default-file_behind-2.ensures.none c.in_default-file_behind-3.ensures.none c.in_default-file_behind-4.ensures.none c.in_default-learning_of.ensures.none c.in-None.ensures.none
