-- How many digits the numbers of a journal's header have at most.
use Rattle.std.proofs.Common.{ℕ, ◌≡◌, ◌≤◌, ◌*◌, length, decimal, arith}
use Rattle.std.proofs.lemmas.Fmt.{length-decimal-le}
use Rattle.savi_kinds.specs.declared.plan.Plan.{Plan}
use Rattle.savi_kinds.specs.ValidPlan.{IsValidPlan}

pub per_port_digits : (plan : Plan) → IsValidPlan plan → length (decimal plan.per_port) ≤ 2
per_port_digits plan valid = length-decimal-le 2 plan.per_port (omega arith) (omega (arith, valid.per_port.1)) (omega (arith, valid.per_port.1))

pub depth_digits : (plan : Plan) → IsValidPlan plan → length (decimal plan.depth) ≤ 3
depth_digits plan valid = length-decimal-le 3 plan.depth (omega arith) (omega (arith, valid.depth.1)) (omega (arith, valid.depth.1))

pub entries_digits : (plan : Plan) → IsValidPlan plan → length (decimal plan.entries) ≤ 7
entries_digits plan valid = length-decimal-le 7 plan.entries (omega arith) (omega (arith, valid.entries.1)) (omega (arith, valid.entries.1))

pub bytes_digits : (plan : Plan) → IsValidPlan plan → length (decimal plan.bytes) ≤ 10
bytes_digits plan valid = length-decimal-le 10 plan.bytes (omega arith) (omega (arith, valid.bytes.1)) (omega (arith, valid.bytes.1))

pub gap_digits : (plan : Plan) → IsValidPlan plan → length (decimal plan.gap) ≤ 5
gap_digits plan valid = length-decimal-le 5 plan.gap (omega arith) (omega (arith, valid.gap.1)) (omega (arith, valid.gap.1))

pub test_digits : (plan : Plan) → IsValidPlan plan → length (decimal plan.test) ≤ 5
test_digits plan valid = length-decimal-le 5 plan.test (omega arith) (omega (arith, valid.test.1)) (omega (arith, valid.test.1))

pub seconds_bound : (ms seconds : ℕ) → ms ≡ 1000 * seconds → seconds ≤ 86400 → ms ≤ 86400000
seconds_bound ms seconds is low = omega arith

pub life_digits : (plan : Plan) → IsValidPlan plan → length (decimal plan.life) ≤ 8
life_digits plan valid =
    let low : plan.life ≤ 86400000 = seconds_bound plan.life valid.life.0 valid.life.1 valid.life.2.1 in
    length-decimal-le 8 plan.life (omega arith) (omega (arith, low)) (omega (arith, low))

-- those of limits, and those of times
pub ruleset limit_digits = (per_port_digits, depth_digits, entries_digits, bytes_digits)

pub ruleset time_digits = (gap_digits, test_digits, life_digits)
