-- What a sink took of what is sent at a port, in a round of a thread that has the switch alone.
use Rattle.std.proofs.Common.{◌≡◌, ℕ, ◌≤◌, Bool, true, false, List, [], ◌∷◌, refl, sym, subst, Option}
use Rattle.savi_kinds.specs.declared.port.Port.{Port}
use Rattle.savi_kinds.specs.declared.plan.Plan.{Plan}
use Rattle.savi_kinds.specs.declared.plan.Format.{Format}
use Rattle.savi_kinds.specs.declared.entry.Who.TheVariants.{Egress}
use Rattle.savi_kinds.specs.declared.entry.How.TheVariants as hows
use Rattle.savi_kinds.specs.Ports.{number_of}
use Rattle.savi_ends.specs.declared.sink.Put.TheVariants as put
use Rattle.savi_ends.specs.Faults.{Rose}
use Rattle.savi_ends.specs.Writes.{Extends}
use Rattle.hist_store.specs.Rows.{Row}
use Rattle.checkpoint.specs.Bases.{Base}
use Rattle.checkpoint.specs.Columns.{Columns, kept_base}
use Rattle.savi_history.specs.Legal.{IsLegal, IsOpen}
use Rattle.savi_history.specs.Passes.{egress_pass, has_ended}
use Rattle.savi_history.specs.Queues.{Item}
use Rattle.savi_segments.specs.Segments.{AreLegal, base_after}
use Rattle.savi_core.specs.Machines.{Machine, base_of}
use Rattle.core_keep.specs.Seen.{IsLater}
use Rattle.live_session.specs.Standing.{OutputStands}
use Rattle.live_turns.specs.declared.kinds.DrainTurn.{DrainTurn}
use Rattle.live_turns.specs.declared.kinds.DrainTurn.TheVariants as drains
use Rattle.live_turns.specs.TurnKinds.{DidDrain, DidEnd}
use Rattle.live_turns.proofs.OpenEnds.{output_open}
use Rattle.live_output.specs.OutputParts.{beginning_left, records_of}
use Rattle.live_output.proofs.Sending.{IsSending, sending_begun, sending_ends, sending_sends, sending_stands, stands_open, unbegun_fails, unsent_fails}

pub drained_so : (plan : Plan) (base : Base) (past now : List Row) (port : Port) (batch : List Item) (came known : DrainTurn) → came ≡ known → DidDrain port batch came plan base past now → DidDrain port batch known plan base past now
drained_so plan base past now port batch came known is did = subst (λ (k : DrainTurn). DidDrain port batch k plan base past now) is did

-- a move leaves plan and base as they are

pub behind_move : (P : Plan → Base → Type 0) (old new : Machine) → new.plan ≡ old.plan → new.checkpoint ≡ old.checkpoint → P new.plan (base_of new) → P old.plan (base_of old)
behind_move P old new plan_is checkpoint_is held = subst (λ (x : Plan × Columns). P x.0 (kept_base x.1)) (λ i. (plan_is i, checkpoint_is i)) held

pub before_move : (P : Plan → Base → Type 0) (old new : Machine) → new.plan ≡ old.plan → new.checkpoint ≡ old.checkpoint → P old.plan (base_of old) → P new.plan (base_of new)
before_move P old new plan_is checkpoint_is held = subst (λ (x : Plan × Columns). P x.0 (kept_base x.1)) (λ i. (sym plan_is i, sym checkpoint_is i)) held

-- nothing came in between
pub still : (pass : ℕ) (past : List Row) → IsLater pass past past
still pass past = record { newer = []; split = refl; others = tt }

module _ {K : Type 0} (written : K → Option (List ℕ)) (faults : K → ℕ) (plan : Plan) (before : List (List Row)) (format : Format) (port : Port) (first : K) where
  abbrev IsSo : List Row → Bool → K → Type 0
  IsSo past begun now = IsSending written faults plan before format port first past begun now

  abbrev StandsAt : List Row → Bool → K → Type 0
  StandsAt past begun now = OutputStands written faults format plan (number_of port) (past ∷ before) begun first now

  -- the output goes on where its pass is open
  goes : (past : List Row) (base : Base) → base ≡ base_after plan before → AreLegal plan before → IsLegal plan base past → IsOpen plan base past (Egress port) → (begun : Bool) (now : K) → StandsAt past begun now → IsSo past begun now
  goes past base base_is legal here runs begun now stands =
      stands_open written faults plan before format port first past begun now
      (output_open plan past before (subst (λ (b : Base). IsLegal plan b past) base_is here) legal (number_of port) runs.known
      (subst (λ (b : Base). has_ended b (egress_pass plan (number_of port)) past ≡ false) base_is runs.running))
      stands

  pub round_begun : (past : List Row) (base : Base) → base ≡ base_after plan before → AreLegal plan before → IsLegal plan base past → IsOpen plan base past (Egress port) → (begun : Bool) (old mid : K) → StandsAt past begun old
      → Extends put.Done (written old) (written mid) (beginning_left begun format) → faults mid ≡ faults old → IsSo past true mid
  round_begun past base base_is legal here runs begun old mid stands wrote same =
      sending_begun written faults plan before format port first past begun old mid (goes past base base_is legal here runs begun old stands) wrote same

  pub round_unbegun : (past now : List Row) (base : Base) → base ≡ base_after plan before → AreLegal plan before → IsLegal plan base past → IsOpen plan base past (Egress port) → (begun begun_now : Bool) (old new : K) → StandsAt past begun old
      → begun_now ≡ true → begun ≡ false → Extends put.Failed (written old) (written new) (beginning_left begun format) → Rose (faults old) (faults new) → faults old ≤ faults new
      → DidEnd (Egress port) hows.Failed plan base past now → StandsAt now begun_now new
  round_unbegun past now base base_is legal here runs begun begun_now old new stands is_begun not_begun failed rose later did =
      subst (λ (b : Bool). StandsAt now b new) (sym is_begun)
      (unbegun_fails written faults plan before format port first past now begun old new (goes past base base_is legal here runs begun old stands) not_begun failed rose later
      (subst (λ (b : Base). DidEnd (Egress port) hows.Failed plan b past now) base_is did))

  module _ (past now : List Row) (base : Base) (base_is : base ≡ base_after plan before) (batch : List Item) (did : DidDrain port batch drains.Took plan base past now) where
    took_so : DidDrain port batch drains.Took plan (base_after plan before) past now
    took_so = subst (λ (b : Base). DidDrain port batch drains.Took plan b past now) base_is did

    pub round_sends : (mid new : K) (begun : Bool) → IsSo past true mid → begun ≡ true → Extends put.Done (written mid) (written new) (records_of format batch) → faults new ≡ faults mid → StandsAt now begun new
    round_sends mid new begun sending is_begun wrote same =
        subst (λ (b : Bool). StandsAt now b new) (sym is_begun)
        (sending_stands written faults plan before format port first now true new
        (sending_sends written faults plan before format port first past batch now took_so.1 took_so.2 mid new sending wrote same))

  pub round_fails : (past taken now : List Row) (base : Base) (base_is : base ≡ base_after plan before) (batch : List Item) (did : DidDrain port batch drains.Took plan base past taken)
      → (mid new : K) (begun : Bool) → IsSo past true mid → begun ≡ true → Extends put.Failed (written mid) (written new) (records_of format batch) → Rose (faults mid) (faults new) → faults mid ≤ faults new
      → IsLegal plan base taken → DidEnd (Egress port) hows.Failed plan base taken now → StandsAt now begun new
  round_fails past taken now base base_is batch did mid new begun sending is_begun failed rose later legal ended =
      let so = took_so past taken base base_is batch did in
      subst (λ (b : Bool). StandsAt now b new) (sym is_begun)
      (unsent_fails written faults plan before format port first past batch taken so.1 so.2 mid new sending failed rose later taken now
      (subst (λ (b : Base). IsLegal plan b taken) base_is legal) (still (egress_pass plan (number_of port)) taken)
      (subst (λ (b : Base). DidEnd (Egress port) hows.Failed plan b taken now) base_is ended))

  pub round_idles : (past now : List Row) (base : Base) (batch : List Item) → DidDrain port batch drains.Idle plan base past now → (mid : K) (begun : Bool) → IsSo past true mid → begun ≡ true → StandsAt now begun mid
  round_idles past now base batch did mid begun sending is_begun =
      subst (λ (b : Bool). StandsAt now b mid) (sym is_begun)
      (subst (λ (rows : List Row). StandsAt rows true mid) (sym did.3) (sending_stands written faults plan before format port first past true mid sending))

  pub round_ends : (past now : List Row) (base : Base) (base_is : base ≡ base_after plan before) (batch : List Item) → DidDrain port batch drains.Ended plan base past now → (mid : K) (begun : Bool) → IsSo past true mid → begun ≡ true → StandsAt now begun mid
  round_ends past now base base_is batch did mid begun sending is_begun =
      subst (λ (b : Bool). StandsAt now b mid) (sym is_begun)
      (sending_ends written faults plan before format port first past now mid sending
      (subst (λ (b : Base). DidDrain port batch drains.Ended plan b past now) base_is did).3)
