-- The reply to a line, as its sink took it.
use Rattle.std.specs.Prelude.{◌≡◌, ℕ, Bool, true, false, List, Option, Some, None}
use Rattle.savi_kinds.specs.declared.entry.How.{How}
use Rattle.savi_kinds.specs.declared.entry.How.TheVariants as hows
use Rattle.savi_ends.specs.Faults.{Rose}
use Rattle.savi_ends.specs.Octets.{behind, IsFront}

-- The sink took the whole reply, and control ends behind `quit` and behind no other line; or it took a front of the reply,
-- since a write failed, and control ends for that.
abbrev pub TakesReply : Bool → Option (List ℕ) → Option (List ℕ) → ℕ → ℕ → List ℕ → Option How → Type 0
TakesReply quit before after faults_before faults_after reply None = (quit ≡ false) × (after ≡ behind before reply) × (faults_after ≡ faults_before)
TakesReply quit before after faults_before faults_after reply (Some hows.Quit) = (quit ≡ true) × (after ≡ behind before reply) × (faults_after ≡ faults_before)
TakesReply quit before after faults_before faults_after reply (Some hows.Unwritten) =
    (front : List ℕ) × IsFront front reply × (after ≡ behind before front) × Rose faults_before faults_after
TakesReply quit before after faults_before faults_after reply (Some hows.End) = ⊥
TakesReply quit before after faults_before faults_after reply (Some (hows.Malformed at)) = ⊥
TakesReply quit before after faults_before faults_after reply (Some (hows.Overlong at)) = ⊥
TakesReply quit before after faults_before faults_after reply (Some hows.Failed) = ⊥
TakesReply quit before after faults_before faults_after reply (Some hows.Paused) = ⊥
