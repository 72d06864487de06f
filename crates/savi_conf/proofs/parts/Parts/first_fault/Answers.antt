use Rattle.std.proofs.Common.{arith}
use Rattle.savi_conf.specs.Parts.{document_of}
use Rattle.savi_conf.specs.Requirements.{Meets}
use Rattle.savi_conf.proofs.Both.{refuted}
use Rattle.savi_conf.proofs.FaultOrder.{below_22, earlier_at, one_more}
use Rattle.savi_conf.proofs.parts.Parts.first_fault.Goals as goal

pub loop-fault-init : goal.loop-fault-init
loop-fault-init c = λ fault less. absurd (omega (arith, less))

pub returns-then-not-meets-clause-fault : goal.returns-then-not-meets-clause-fault
returns-then-not-meets-clause-fault c =
    let i = c.loop-fault.fault-index in
    record {
      applies = λ meets. refuted c.meets.result c.if-not-meets.true c.meets.ensures meets;
      first = λ other less. c.loop-fault.invariant other (earlier_at i c.loop-fault-test.true other less);
    }

pub loop-fault-preserved : goal.loop-fault-preserved
loop-fault-preserved c =
    one_more (Meets c.args.self.now.replay (document_of c.args.self.now)) c.loop-fault.fault-index c.loop-fault-test.true c.loop-fault.invariant (c.meets.ensures.0 c.if-not-meets.false)

pub returns-clause-none : goal.returns-clause-none
returns-clause-none c = λ fault. c.loop-fault.invariant fault (omega (arith, below_22 fault))
