-- A turn of a segment that goes on from others: what it found is legal from what those leave, and it did the same there.
use Rattle.std.proofs.Common.{◌≡◌, List, subst}
use Rattle.savi_kinds.specs.declared.plan.Plan.{Plan}
use Rattle.savi_kinds.specs.declared.entry.Who.{Who}
use Rattle.table_lock.specs.declared.lock.TableLock.{TableLock}
use Rattle.table_lock.specs.declared.pass.Pass.{Pass}
use Rattle.hist_store.specs.Rows.{Row}
use Rattle.checkpoint.specs.Bases.{Base}
use Rattle.savi_history.specs.Legal.{IsLegal}
use Rattle.savi_segments.specs.Segments.{base_after}
use Rattle.core_keep.specs.declared.keep.KeptCore.{KeptCore}
use Rattle.core_keep.specs.Seen.{past_seen}
use Rattle.live_turns.specs.Seats.{lock_base, lock_plan}
use Rattle.live_turns.specs.Turned.{Turned}

module _ (lock : TableLock KeptCore) (who : Who) (before after : Pass) (Did : Plan → Base → List Row → List Row → Type 0) (segments : List (List Row)) (goes_on : lock_base lock ≡ base_after (lock_plan lock) segments)
    (turned : Turned lock who before after Did) where
  pub found_legal : IsLegal (lock_plan lock) (base_after (lock_plan lock) segments) turned.found
  found_legal = subst (λ (base : Base). IsLegal (lock_plan lock) base turned.found) goes_on turned.legal

  pub did_so : Did (lock_plan lock) (base_after (lock_plan lock) segments) turned.found (past_seen after)
  did_so = subst (λ (base : Base). Did (lock_plan lock) base turned.found (past_seen after)) goes_on turned.did
