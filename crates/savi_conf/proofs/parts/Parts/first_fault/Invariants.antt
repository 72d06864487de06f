use Rattle.std.proofs.Common.{◌<◌}
use Rattle.savi_conf.specs.declared.fault.Fault.{Fault}
use Rattle.savi_conf.specs.Parts.{document_of}
use Rattle.savi_conf.specs.Requirements.{Meets}
use Rattle.savi_conf.proofs.FaultOrder.{place_of}
use Rattle.savi_conf.proofs.parts.Parts.first_fault.Given as goal

abbrev pub invariant-loop-fault : goal.invariant-loop-fault
invariant-loop-fault l = (fault : Fault) → place_of fault < l.fault-index → Meets l.self.replay (document_of l.self) fault
