-- The law of configurations.
use Rattle.std.specs.Prelude.{ℕ, ◌≡◌, ◌≢◌, Bool, List, Result, Err}
use Rattle.savi_kinds.specs.declared.plan.Plan.{Plan}
use Rattle.savi_conf.specs.declared.fault.ConfFault.{ConfFault}
use Rattle.savi_conf.specs.declared.fault.ConfFault.TheVariants.{NoMemory}
use Rattle.savi_conf.specs.Answers.{IsAnswer}

-- A text says one plan or has one fault: what two readings of it give is the same, where neither wanted memory.
abbrev pub TextHasOneAnswer : Type 0
TextHasOneAnswer =
    (text : List ℕ) (replay : Bool) (one other : Result Plan ConfFault) → IsAnswer text replay one → IsAnswer text replay other → one ≢ Err NoMemory → other ≢ Err NoMemory → one ≡ other
