-- What a line on control that is refused leaves as it was.
use Rattle.std.specs.Prelude.{◌≡◌, ℕ, List, Option}
use Rattle.savi_kinds.specs.declared.plan.Plan.{Plan}
use Rattle.cli_lang.specs.CommandOf.{command_of}
use Rattle.control_replies.specs.declared.refusal.Refusal.{Refusal}
use Rattle.bridge_fdb.specs.Stations.{live_at}
use Rattle.hist_store.specs.Rows.{Row}
use Rattle.checkpoint.specs.Bases.{Base, access_of}
use Rattle.savi_history.specs.Moments.{moment_at}
use Rattle.savi_history.specs.Passes.{has_ended}
use Rattle.savi_history.specs.ShutPorts.{is_shut}
use Rattle.savi_history.specs.Commands.{rows_told, refusal_of}
use Rattle.savi_history.specs.Marks.{marks}
use Rattle.savi_history.specs.Stations.{stations}
use Rattle.savi_history.specs.Queues.{queue}
use Rattle.savi_history.specs.Events.{Command, Tick}
use Rattle.savi_history.specs.Replay.{with_event}

-- why a line that comes with this stamp after this past is refused, if it is
abbrev pub refusal_at : Plan → Base → List Row → ℕ → List ℕ → Option Refusal
refusal_at plan base past stamp line =
    refusal_of plan (rows_told plan (access_of base) (marks plan base past) (moment_at base past stamp)) (command_of line)

-- The entry of a line changes nothing but by the time that passed until it. Nothing more is told of addresses and requests:
-- their states, and which requests are open, follow from what was told, and age. No port is shut or opened, and no pass
-- ends. The stations of each VLAN are those that are live by then. At each port waits what would wait behind a tick with this
-- stamp: what waited before, and the probes that fell due by then.
pub record ChangesNothing (plan : Plan) (base : Base) (past : List Row) (stamp : ℕ) (line : List ℕ) : Type 0 where
  pub told : marks plan base (with_event plan base past (Command stamp line)) ≡ marks plan base past
  pub shut : (number : ℕ)
      → is_shut plan base number (with_event plan base past (Command stamp line)) ≡ is_shut plan base number past
  pub ended : (pass : ℕ)
      → has_ended base pass (with_event plan base past (Command stamp line)) ≡ has_ended base pass past
  pub known : (vlan : ℕ)
      → stations vlan plan base (with_event plan base past (Command stamp line))
      ≡ live_at (moment_at base past stamp) (stations vlan plan base past)
  pub waiting : (number : ℕ)
      → queue plan base number (with_event plan base past (Command stamp line))
      ≡ queue plan base number (with_event plan base past (Tick stamp))
