-- What a worker of an output does with its ends.
use Rattle.std.specs.Prelude.{◌≡◌, ℕ, ◌≤◌, List, Option}
use Rattle.savi_ends.specs.declared.sink.Put.{Put}
use Rattle.savi_ends.specs.declared.sink.Put.TheVariants as put
use Rattle.savi_ends.specs.Faults.{Rose}
use Rattle.savi_ends.specs.Writes.{Extends}
use Rattle.live_output.specs.OutputParts.{records_of}
use Rattle.live_output.specs.declared.output.Output.{Output}

-- The sink was given the records of what was taken from the queue, and a write of it failed or none did.
pub record WritesBatch {K : Type 0} (written : K → Option (List ℕ)) (faults : K → ℕ) (answer : Put) (old new : Output K) : Type 0 where
  pub extends : Extends answer (written old.sink) (written new.sink) (records_of old.format old.room.batch)
  pub later : faults old.sink ≤ faults new.sink
  pub cause : answer ≡ put.Failed → Rose (faults old.sink) (faults new.sink)
  pub still : answer ≡ put.Done → faults new.sink ≡ faults old.sink
