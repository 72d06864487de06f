use Rattle.std.proofs.Common.{arith}
use Rattle.dhcp_states.proofs.Counts.{open_at-without_pair, IsWithinLimits-open_at, IsWithinLimits-without_pair}
use Rattle.dhcp_states.proofs.pending.Pending.reply.Goals as goal

pub invariant_of-self : goal.invariant_of-self
invariant_of-self c = rw (c.give_up.ensures.items, c.keep_open.ensures.items) (
  IsWithinLimits-without_pair c.args.tid c.args.duid.now (IsWithinLimits-open_at c.args.t c.self.invariant.0),
  omega (arith, c.self.invariant.1, c.give_up.ensures.capacity, c.keep_open.ensures.capacity),
)

pub returns-clause-met : goal.returns-clause-met
returns-clause-met c = rw (c.give_up.ensures.items, c.keep_open.ensures.items, ← c.self.view_is) (open_at-without_pair c.args.t c.args.tid c.args.duid.now c.self.inside.requests.items)

pub returns-clause-limits : goal.returns-clause-limits
returns-clause-limits c = rw (c.give_up.ensures.items, c.keep_open.ensures.items) (IsWithinLimits-without_pair c.args.tid c.args.duid.now (IsWithinLimits-open_at c.args.t c.self.invariant.0))
