-- What becomes of a line from control: why it is refused, what it tells, and which ports are shut then.
use Rattle.std.specs.Prelude.{◌≡◌, ℕ, List, Option, Result}
use Rattle.savi_kinds.specs.declared.plan.Plan.{Plan}
use Rattle.cli_lang.specs.declared.kinds.Command.{Command}
use Rattle.cli_lang.specs.declared.kinds.CmdFault.{CmdFault}
use Rattle.control_replies.specs.declared.refusal.Refusal.{Refusal}
use Rattle.savi_access.specs.Rules.{AccessBase}
use Rattle.savi_access.specs.Marks.{Mark}
use Rattle.savi_access.specs.Plans.{rules_of}
use Rattle.savi_history.specs.ShutPorts.{shut_by}
use Rattle.savi_history.specs.Commands.{rows_told, refusal_of, commanded}
use Rattle.savi_core.specs.declared.vlan_set.VlanSet.{VlanSet}
use Rattle.savi_core.specs.VlanSets.{AllRepresent}
use Rattle.savi_core.specs.Rings.{Rings, shut_in}

pub record Obeys (plan : Plan) (t : ℕ) (order : Result Command CmdFault) (sets : List VlanSet) (old new : Rings) (refused : Option Refusal) (base : AccessBase) (past : List Mark) : Type 0 where
  pub refusal : refused ≡ refusal_of plan (rows_told plan base past t) order
  pub states : AllRepresent (rules_of plan) base (commanded plan base t order past) t sets
  pub shut : shut_in new.shut ≡ (λ number. shut_by plan number order (shut_in old.shut number))
  pub rest : new ≡ record old { shut = new.shut }
