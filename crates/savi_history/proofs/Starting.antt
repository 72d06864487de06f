-- The start of a switch is within the limits.
use Rattle.std.proofs.Common.{◌≡◌, ℕ, ◌<◌, true, refl}
use Rattle.std.proofs.lemmas.List.Elements.{All-nil}
use Rattle.savi_kinds.specs.declared.plan.Plan.{Plan}
use Rattle.savi_kinds.specs.declared.entry.How.{How}
use Rattle.savi_kinds.specs.ValidPlan.{IsValidPlan}
use Rattle.savi_access.proofs.PlanRules.{starts_within}
use Rattle.checkpoint.specs.Bases.{empty}
use Rattle.savi_history.specs.Passes.{pass_count, has_port}
use Rattle.savi_history.specs.Limits.{IsWithinLimits}
use Rattle.savi_history.proofs.Teaching.{no_stations}
use Rattle.control_replies.proofs.Counted.{none_counted}

pub empty_within : (plan : Plan) → IsValidPlan plan → IsWithinLimits plan empty
empty_within plan valid = record {
  stations = λ vlan. no_stations;
  ended = All-nil (λ (ended : ℕ × How). ended.0 < pass_count plan);
  shut = All-nil (λ number. has_port plan number ≡ true);
  access = starts_within plan valid;
  counts = none_counted;
  elsewhere = record { rows = λ vlan other. refl; requests = λ vlan other. refl; stations = λ vlan other. refl };
}
