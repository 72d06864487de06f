-- What the readers of a session leave.
use Rattle.std.specs.Prelude.{◌≡◌, ℕ, ◌<◌, List, [], slice_index_or, vec_len, Option, Some, None}
use Rattle.parcel_ring.specs.Sides.{was_put}
use Rattle.port_reader.specs.Readers as ports
use Rattle.port_reader.specs.declared.reader.Reader.{Reader}
use Rattle.control_reader.specs.Heard.{lines_put}
use Rattle.control_reader.specs.Readers as lines
use Rattle.control_reader.specs.declared.reader.LineReader.{LineReader}
use Rattle.live_switch.specs.declared.readers.Readers.{Readers}

module _ {S C : Type 0} where
  -- control's reader, where there is one, has put nothing yet
  abbrev pub IsLineUnfilled : Option (LineReader S C) → Type 0
  IsLineUnfilled (Some reader) = lines_put reader.filler ≡ []
  IsLineUnfilled None = Unit {0}

  -- none has put anything yet
  pub record AreUnfilled (readers : Readers S C) : Type 0 where
    pub ports : (k : ℕ) (d : Reader S C) → k < vec_len readers.ports → was_put (slice_index_or readers.ports.items k d).filler ≡ []
    pub control : IsLineUnfilled readers.control

  module _ (left : S → Option (List ℕ)) (faults : S → ℕ) (readings : C → Option (List ℕ)) where
    -- control's reader, where there is one, has put all of its input
    abbrev pub IsLineFilled : Option (LineReader S C) → Option (LineReader S C) → Type 0
    IsLineFilled (Some old) (Some new) = lines.HasFilledLines left faults readings old new
    IsLineFilled None None = Unit {0}
    IsLineFilled (Some old) None = ⊥
    IsLineFilled None (Some new) = ⊥

    -- each has put all of its input, and is in its place
    pub record AreFilled (old new : Readers S C) : Type 0 where
      pub size : vec_len new.ports ≡ vec_len old.ports
      pub ports : (k : ℕ) (d : Reader S C) → k < vec_len old.ports → ports.HasFilled left faults readings (slice_index_or old.ports.items k d) (slice_index_or new.ports.items k d)
      pub control : IsLineFilled old.control new.control
