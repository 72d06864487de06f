use Rattle.std.proofs.Common.{◌≡◌, ap, subst, sym, ◌∙◌, inl, inr}
use Rattle.std.specs.Prelude.{MatchBool}
use Rattle.savi_kinds.specs.declared.entry.How.{How}
use Rattle.savi_kinds.specs.declared.entry.Who.TheVariants.{Ticker}
use Rattle.savi_history.specs.Events.{End}
use Rattle.savi_history.specs.Legal.{InputsEnded, IsLegal}
use Rattle.savi_history.specs.Limits.{has_room}
use Rattle.savi_history.specs.Replay.{closing, with_event}
use Rattle.savi_core.specs.Machines.{Machine, base_of}
use Rattle.live_session.specs.Ticking.{IsPassedOver}
use Rattle.live_turns.specs.declared.kinds.TickTurn.TheVariants.{Full, Idle, Made}
use Rattle.live_turns.specs.TurnKinds.{DidTick}
use Rattle.live_turns.proofs.PassedOver.{idle, passed_over}
use Rattle.live_turns.proofs.under_lock.tick.Goals as goal

pub returns-then-has_input : goal.returns-then-has_input
returns-then-has_input c =
    let found : Machine = c.args.kept.now.core.value in
    let passed : IsPassedOver c.deref_mut.result.now.plan (base_of c.deref_mut.result.now) c.deref_mut.result.now.past c.args.stamp × (c.step.new.self ≡ c.deref_mut.result.now) =
    passed_over c.deref_mut.result.now c.step.new.self c.args.stamp c.step.result (λ entry done. elim c.in-Nothing.is [
      | inl nothing ↦ let same = sym done ∙ nothing in cc
      | inr full ↦ let same = sym done ∙ full.1 in cc
    ]) c.step.ensures in
    let same : c.step.new.self ≡ found = passed.1 ∙ c.deref_mut.ensures.value in
    record {
      plan = ap (λ (m : Machine). m.plan) same;
      checkpoint = ap (λ (m : Machine). m.checkpoint) same;
      legal = subst (λ (m : Machine). IsLegal m.plan (base_of m) m.past) c.deref.ensures c.len-len.ensures.legal;
      did = idle found.plan (base_of found) found.past c.step.new.self.past c.args.stamp c.passed_over.result
          (subst (λ (m : Machine). MatchBool (has_room m.plan m.past) (c.passed_over.result ≡ Idle) (c.passed_over.result ≡ Full)) (c.deref-then-has_input.ensures ∙ same) c.passed_over.ensures)
          (subst (λ (m : Machine). IsPassedOver m.plan (base_of m) m.past c.args.stamp) c.deref_mut.ensures.value passed.0)
          (subst (λ (m : Machine). InputsEnded m.plan (base_of m) m.past → ⊥) (c.deref-in-Nothing.ensures ∙ same) c.if-has_input.ensures)
          (ap (λ (m : Machine). m.past) same);
    }

pub returns-else-has_input : goal.returns-else-has_input
returns-else-has_input c =
    let found : Machine = c.args.kept.now.core.value in
    let passed : IsPassedOver c.deref_mut.result.now.plan (base_of c.deref_mut.result.now) c.deref_mut.result.now.past c.args.stamp × (c.step.new.self ≡ c.deref_mut.result.now) =
    passed_over c.deref_mut.result.now c.step.new.self c.args.stamp c.step.result (λ entry done. elim c.in-Nothing.is [
      | inl nothing ↦ let same = sym done ∙ nothing in cc
      | inr full ↦ let same = sym done ∙ full.1 in cc
    ]) c.step.ensures in
    let same : c.step.new.self ≡ found = passed.1 ∙ c.deref_mut.ensures.value in
    let how : c.last_reason-how.result ≡ closing found.past = c.last_reason-how.ensures ∙ ap (λ (m : Machine). closing m.past) (c.deref-in-Nothing-2.ensures ∙ same) in
    record {
      plan = c.end_pass.ensures.plan ∙ ap (λ (m : Machine). m.plan) same;
      checkpoint = c.end_pass.ensures.checkpoint ∙ ap (λ (m : Machine). m.checkpoint) same;
      legal = subst (λ (m : Machine). IsLegal m.plan (base_of m) m.past) c.deref.ensures c.len-len.ensures.legal;
      did = (
        subst (λ (m : Machine). IsPassedOver m.plan (base_of m) m.past c.args.stamp) c.deref_mut.ensures.value passed.0,
        subst (λ (m : Machine). InputsEnded m.plan (base_of m) m.past) (c.deref-in-Nothing.ensures ∙ same) c.if-has_input.ensures,
        c.end_pass.ensures.did ∙ ap (λ (t : Machine × How). with_event t.0.plan (base_of t.0) t.0.past (End Ticker t.1)) (λ i. (same i, how i)),
      );
    }

pub returns-in-Done-clause-did : goal.returns-in-Done-clause-did
returns-in-Done-clause-did c =
    let did = c.in-Done.ensures in
    subst (λ (m : Machine). DidTick c.args.stamp Made m.plan (base_of m) m.past c.step.new.self.past) c.deref_mut.ensures.value
    (did.0, did.1, ap (λ (m : Machine). m.past) did.2)
