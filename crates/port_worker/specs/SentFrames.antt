-- What is written at a port: the pieces of an output, in order, until one fails.
use Rattle.std.specs.Prelude.{◌≡◌, ℕ, ◌≤◌, List, map, Option, Some, None}
use Rattle.savi_ends.specs.declared.sink.Put.{Put}
use Rattle.savi_ends.specs.declared.sink.Put.TheVariants as put
use Rattle.savi_ends.specs.Octets.{behind}
use Rattle.pcap_io.specs.Captures.{record_text}
use Rattle.savi_history.specs.Queues.{Item}
use Rattle.savi_history.specs.PortOutputs.{TookPieces}
use Rattle.port_worker.specs.declared.port_ends.PortEnds.{PortEnds}

-- the records of these items, each of which is one piece of an output
abbrev pub records : List Item → List (List ℕ)
records items = map (λ item. record_text item.moment item.octets) items

-- A sink took these pieces, or a write of one of them failed.
abbrev pub TookAs : Put → Option (List ℕ) → Option (List ℕ) → List (List ℕ) → Type 0
TookAs put.Done before after given = TookPieces before after given None
TookAs put.Failed before after given = (whole : ℕ) × TookPieces before after given (Some whole)

-- a sink took octets behind what it held, perhaps none
abbrev pub TookMore : Option (List ℕ) → Option (List ℕ) → Type 0
TookMore before after = (octets : List ℕ) × (after ≡ behind before octets)

-- only the sink of the port changed: it took octets behind what it held, and its faults didn't fall
pub record OnlySink {S K C : Type 0} (written : K → Option (List ℕ)) (faults : K → ℕ) (old new : PortEnds S K C) : Type 0 where
  pub same : new ≡ record old { ends = record old.ends { sink = new.ends.sink } }
  pub later : faults old.ends.sink ≤ faults new.ends.sink
  pub took : TookMore (written old.ends.sink) (written new.ends.sink)
