use Rattle.std.proofs.Common.{ℕ, ◌-◌, length, get_or, sym, arith}
use Rattle.std.proofs.lemmas.Option.{slice_get-get_or}
use Rattle.checkpoint.proofs.Passes.{at_egress, past_all}
use Rattle.checkpoint.proofs.put.pass_of.Goals as goal

pub returns-in_default : goal.returns-in_default
returns-in_default c =
    let ports = c.as_slice-ports.result.now in
    let k : ℕ = c.args.pass - length ports - 2 in
    sym (at_egress c.args.plan.now ports c.args.pass k (get_or ports k c.index-ports-at.result) (sym c.as_slice-ports.ensures) (omega arith)
    (slice_get-get_or ports k c.index-ports-at.result (omega arith)))

pub returns-in_default-2 : goal.returns-in_default-2
returns-in_default-2 c =
    let ports = c.as_slice-ports.result.now in
    sym (past_all c.args.plan.now ports c.args.pass (c.args.pass - length ports - 2) (sym c.as_slice-ports.ensures) (omega arith) (omega arith))
