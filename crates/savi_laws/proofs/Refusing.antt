-- What a line that is refused leaves as it was.
use Rattle.std.proofs.Common.{◌≡◌, ℕ, List, Option, Some, refl, ap, arith}
use Rattle.savi_kinds.specs.declared.plan.Plan.{Plan}
use Rattle.cli_lang.specs.CommandOf.{command_of}
use Rattle.control_replies.specs.declared.refusal.Refusal.{Refusal}
use Rattle.control_replies.specs.Replies.{refusal_text}
use Rattle.hist_store.specs.Rows.{Row}
use Rattle.checkpoint.specs.Bases.{Base, access_of}
use Rattle.savi_history.specs.Moments.{moment_at}
use Rattle.savi_history.specs.ShutPorts.{is_shut}
use Rattle.savi_history.specs.Commands.{rows_told, ordered_unless}
use Rattle.savi_history.specs.Marks.{marks}
use Rattle.savi_history.specs.Stations.{stations}
use Rattle.savi_history.specs.Offers.{offers}
use Rattle.savi_history.specs.Queues.{queue}
use Rattle.savi_history.specs.Events.{Command, Tick}
use Rattle.savi_history.specs.Replay.{with_event}
use Rattle.savi_history.specs.Ticks.{IsSameFrom}
use Rattle.savi_history.specs.Shown.{shown, reply_unless}
use Rattle.savi_history.proofs.Shutting.{refused_shuts_none}
use Rattle.savi_laws.specs.Refusals.{refusal_at, ChangesNothing}
use Rattle.savi_laws.proofs.Alike.{live_left, same_from}

module _ (plan : Plan) (base : Base) (past : List Row) (stamp : ℕ) (line : List ℕ) where
  -- a line calls for the probes that a tick calls for
  waits : (number : ℕ) → queue plan base number (with_event plan base past (Command stamp line)) ≡ queue plan base number (with_event plan base past (Tick stamp))
  unfolding offers
  waits number = refl

  module _ (refusal : Refusal) (refused : refusal_at plan base past stamp line ≡ Some refusal) where
    tells_nothing : marks plan base (with_event plan base past (Command stamp line)) ≡ marks plan base past
    tells_nothing = ap (λ (why : Option Refusal). ordered_unless plan (access_of base) (moment_at base past stamp) (command_of line) why (marks plan base past)) refused

    shuts_nothing : (number : ℕ) → is_shut plan base number (with_event plan base past (Command stamp line)) ≡ is_shut plan base number past
    shuts_nothing number =
        refused_shuts_none plan (rows_told plan (access_of base) (marks plan base past) (moment_at base past stamp)) (command_of line)
        refusal number (is_shut plan base number past) refused

    pub changes_nothing : ChangesNothing plan base past stamp line
    changes_nothing = record {
      told = tells_nothing;
      shut = shuts_nothing;
      ended = λ pass. refl;
      known = λ vlan. refl;
      waiting = waits;
    }

    pub same_later : IsSameFrom plan base (moment_at base past stamp) (with_event plan base past (Command stamp line)) past
    same_later =
        same_from plan base (with_event plan base past (Command stamp line)) past
        (record {
          tells = tells_nothing;
          shut = shuts_nothing;
          live = λ t vlan later before. live_left (moment_at base past stamp) t (stations vlan plan base past) later;
        })
        (omega arith)

    pub tells_why : shown plan base (with_event plan base past (Command stamp line)) ≡ refusal_text refusal
    tells_why = ap (λ (why : Option Refusal). reply_unless plan base (with_event plan base past (Command stamp line)) (moment_at base past stamp) (command_of line) why) refused
