-- The chain has the outcome to which the last step comes, and that alone.
use Rattle.std.proofs.Common.{◌≡◌, ℕ, ◌+◌, ◌-◌, take, drop, ap, arith}
use Rattle.v6_chain.specs.Packet.{body_of}
use Rattle.v6_chain.specs.Outcome.{IsOutcome}
use Rattle.v6_chain.proofs.Going.{comes_to}
use Rattle.v6_chain.proofs.Unique.{one_outcome}
use Rattle.v6_chain.proofs.Messages.{within_body}
use Rattle.v6_chain.proofs.walk.chain.Goals as goal

outcome_is : (c : goal.In-End) → IsOutcome c.args.ip.now c.args.payload.now c.in-End.outcome
outcome_is c =
    let len_is : 40 + c.from.result - 40 ≡ c.args.ip.now.len = omega (arith, c.from.ensures) in
    let body_is : take (40 + c.from.result - 40) (drop 40 c.args.payload.now) ≡ body_of c.args.ip.now c.args.payload.now = ap (λ (n : ℕ). take n (drop 40 c.args.payload.now)) len_is in
    comes_to c.args.ip.now c.args.payload.now _ c.loop-further.invariant.headers c.loop-further.place c.in-End.outcome body_is
    c.loop-further.invariant.behind
    (c.in-End.ensures.steps c.args.ip.now.next c.loop-further.invariant.headers c.loop-further.invariant.behind)

pub returns-in-End-clause-only : goal.returns-in-End-clause-only
returns-in-End-clause-only c = λ other reached. one_outcome c.args.ip.now c.args.payload.now other c.in-End.outcome reached (outcome_is c)

pub returns-in-End-clause-within : goal.returns-in-End-clause-within
returns-in-End-clause-within c = within_body c.args.ip.now c.args.payload.now c.in-End.outcome c.requires.whole (outcome_is c)
