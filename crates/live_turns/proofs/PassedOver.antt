-- Where a step of the ticker made no entry a tick was passed over, and nothing has changed.
use Rattle.std.proofs.Common.{◌≡◌, ℕ, Bool, true, false, List, refl, sym, subst, inl, inr}
use Rattle.std.specs.Prelude.{MatchBool}
use Rattle.savi_kinds.specs.declared.plan.Plan.{Plan}
use Rattle.savi_kinds.specs.declared.entry.Entry.{Entry}
use Rattle.hist_store.specs.Rows.{Row}
use Rattle.checkpoint.specs.Bases.{Base}
use Rattle.savi_history.specs.Events.{Tick}
use Rattle.savi_history.specs.Legal.{InputsEnded}
use Rattle.savi_history.specs.Limits.{has_room}
use Rattle.savi_core.specs.declared.event.Stepped.{Stepped}
use Rattle.savi_core.specs.declared.event.Stepped.TheVariants.{Done, Full, Nothing}
use Rattle.savi_core.specs.Machines.{Machine, base_of}
use Rattle.savi_core.specs.Steps.{Did}
use Rattle.live_session.specs.Ticking.{IsPassedOver}
use Rattle.live_turns.specs.declared.kinds.TickTurn.{TickTurn}
use Rattle.live_turns.specs.declared.kinds.TickTurn.TheVariants as ticks
use Rattle.live_turns.specs.TurnKinds.{DidTick}

pub passed_over : (old new : Machine) (stamp : ℕ) (came : Stepped) → ((entry : Entry) → came ≡ Done entry → ⊥) → Did old (Tick stamp) new came → IsPassedOver old.plan (base_of old) old.past stamp × (new ≡ old)
passed_over old new stamp (Done entry) none did = absurd (none entry refl)
passed_over old new stamp (Full len) none did = (inl did.0, did.1)
passed_over old new stamp Nothing none did = (inr (record { unchanged = did.1.0; none = did.1.1 }), did.2)

module _ (plan : Plan) (base : Base) (found now : List Row) (stamp : ℕ) where
  idle_by : (came : TickTurn) (room : Bool) → has_room plan found ≡ room → MatchBool room (came ≡ ticks.Idle) (came ≡ ticks.Full)
      → IsPassedOver plan base found stamp → ¬ InputsEnded plan base found → now ≡ found → DidTick stamp came plan base found now
  idle_by came true is tells passed more same = subst (λ (c : TickTurn). DidTick stamp c plan base found now) (sym tells) (passed, more, same)
  idle_by came false is tells passed more same = subst (λ (c : TickTurn). DidTick stamp c plan base found now) (sym tells) (is, more, same)

  -- what the ticker tells of a tick that was passed over while an input may still come
  pub idle : (came : TickTurn) → MatchBool (has_room plan found) (came ≡ ticks.Idle) (came ≡ ticks.Full)
      → IsPassedOver plan base found stamp → ¬ InputsEnded plan base found → now ≡ found → DidTick stamp came plan base found now
  idle came tells passed more same = idle_by came (has_room plan found) refl tells passed more same
