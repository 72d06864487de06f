-- What is allowed by what is known of the outputs.
use Rattle.std.proofs.Common.{ℕ, refl, Option, Some, None}
use Rattle.savi_kinds.specs.declared.plan.Plan.{Plan}
use Rattle.savi_history.specs.Replay.{Stops}
use Rattle.savi_segments.specs.Replay.{Run}
use Rattle.port_worker.specs.ControlOutputs.{AreAllowed}
use Rattle.port_worker.specs.Outputs.{Allows, ArePortsAllowed}

itself : (known : Option ℕ) (count : ℕ) → Allows known known count
itself None count = refl
itself (Some whole) count = refl

-- what is known allows that nothing else failed
pub allowed_itself : (plan : Plan) (known : Stops) (run : Run) → ArePortsAllowed plan known known run
allowed_itself plan known run k d within = itself _ _

pub all_allowed_itself : (plan : Plan) (known : Stops) (run : Run) → AreAllowed plan known known run
all_allowed_itself plan known run = record { ports = allowed_itself plan known run; replies = itself _ _ }
