-- A port's input: the frame that it holds, and what is read of it.
use Rattle.std.specs.Prelude.{◌≡◌, ◌≢◌, ℕ, ◌≤◌, List, take, Option}
use Rattle.savi_kinds.specs.declared.arrival.Next.{Next}
use Rattle.savi_kinds.specs.declared.arrival.Next.TheVariants as next
use Rattle.savi_ends.specs.Faults.{Rose}
use Rattle.savi_ends.specs.Octets.{Takes}
use Rattle.input_read.specs.declared.input.PortInput.{PortInput}
use Rattle.input_read.specs.Readers.{Answers, HasFailed, Stamps}

-- the octets of the frame of this length that was read last
abbrev pub frame_in : {S C : Type 0} → PortInput S C → ℕ → List ℕ
frame_in input len = take len input.buf

-- One read of an input: the source gave up octets, and the answer is what they are; the room for a frame stays as it was
-- where none is told. It failed only where a read of the source did, and no read of the source failed where it didn't.
pub record Reads {S C : Type 0} (left : S → Option (List ℕ)) (faults : S → ℕ) (readings : C → Option (List ℕ))
    (old new : PortInput S C) (answer : Next) : Type 0 where
  pub octets : (gave : List ℕ) × Takes (left old.source) (left new.source) gave × Answers old.reader new.reader gave new.buf (left new.source) answer
  pub kept : ((stamp len : ℕ) → answer ≢ next.Frame stamp len) → new.buf ≡ old.buf
  pub stamps : Stamps readings old.reader old.clock new.clock answer
  pub later : faults old.source ≤ faults new.source
  pub cause : answer ≡ next.Failed → ¬ HasFailed old.reader → Rose (faults old.source) (faults new.source)
  pub still : answer ≢ next.Failed → faults new.source ≡ faults old.source
