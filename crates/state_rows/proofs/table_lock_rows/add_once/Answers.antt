use Rattle.std.proofs.Common.{◌∙◌, sym, ap}
use Rattle.table_lock.specs.Tallies.{tally_history}
use Rattle.table_lock.proofs.Tallied.{tried}
use Rattle.state_rows.proofs.table_lock_rows.add_once.Goals as goal

pub leave-requires-clause-history : goal.leave-requires-clause-history
leave-requires-clause-history g c =
    tried c.value.result.now c.try_add.new.self c.number-by.result c.enter-held.result.number c.try_add.result c.enter-held.result.place.me.0.seen
    (ap tally_history c.value.ensures.value ∙ c.enter-held.ensures.seen) (c.number-by.ensures ∙ sym c.enter-held.ensures.number) c.try_add.ensures.value
