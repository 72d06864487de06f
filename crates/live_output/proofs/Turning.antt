-- A turn of an egress by what came of it.
use Rattle.std.proofs.Common.{◌≡◌, List, subst}
use Rattle.savi_kinds.specs.declared.port.Port.{Port}
use Rattle.savi_kinds.specs.declared.entry.Who.{Who}
use Rattle.table_lock.specs.declared.lock.TableLock.{TableLock}
use Rattle.table_lock.specs.declared.pass.Pass.{Pass}
use Rattle.savi_history.specs.Queues.{Item}
use Rattle.core_keep.specs.declared.keep.KeptCore.{KeptCore}
use Rattle.live_turns.specs.declared.kinds.DrainTurn.{DrainTurn}
use Rattle.live_turns.specs.Seats.{IsAt}
use Rattle.live_turns.specs.TurnKinds.{DidDrain, ends_egress}
use Rattle.live_turns.specs.Turned.{Turned}

pub turned_as : (lock : TableLock KeptCore) (who : Who) (before after : Pass) (port : Port) (batch : List Item) (came known : DrainTurn) → came ≡ known
    → Turned lock who before after (DidDrain port batch came) → Turned lock who before after (DidDrain port batch known)
turned_as lock who before after port batch came known is turned = subst (λ (k : DrainTurn). Turned lock who before after (DidDrain port batch k)) is turned

pub at_as : (lock : TableLock KeptCore) (who : Who) (after : Pass) (came known : DrainTurn) → came ≡ known → IsAt lock who (ends_egress came) after → IsAt lock who (ends_egress known) after
at_as lock who after came known is state = subst (λ (k : DrainTurn). IsAt lock who (ends_egress k) after) is state
