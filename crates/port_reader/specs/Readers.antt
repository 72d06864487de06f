-- The reader of a port: what it leaves.
use Rattle.std.specs.Prelude.{◌≡◌, ℕ, List, Option}
use Rattle.parcel_ring.specs.Sides.{filler_rings, was_put}
use Rattle.port_reader.specs.declared.reader.Reader.{Reader}
use Rattle.port_reader.specs.Rows.{WasPut}

-- All of the port's input was put into the ring, and last how it ended.
pub record HasFilled {S C : Type 0} (left : S → Option (List ℕ)) (faults : S → ℕ) (readings : C → Option (List ℕ))
    (old new : Reader S C) : Type 0 where
  pub port : new.port ≡ old.port
  pub format : new.format ≡ old.format
  pub rings : filler_rings new.filler ≡ filler_rings old.filler
  pub put : WasPut left faults readings old.format (was_put new.filler) old.source new.source old.clock new.clock
