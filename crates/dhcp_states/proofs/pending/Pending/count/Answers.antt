use Rattle.std.proofs.Common.{◌≤◌, arith, subst}
use Rattle.savi_kinds.specs.Ports.{number_of}
use Rattle.dhcp_states.specs.Requests.{open_at, requests_at_port}
use Rattle.dhcp_states.specs.Limits.{IsWithinLimits}
use Rattle.dhcp_states.proofs.Counts.{IsWithinLimits-open_at}
use Rattle.dhcp_states.proofs.pending.Pending.count.Goals as goal

-- no port has more than 16
most : (c : goal.After-open_count) → c.open_count.result ≤ 16
most c =
    let within : requests_at_port (number_of c.args.p) (open_at c.args.t c.self.inside.requests.items) ≤ 16 = (IsWithinLimits-open_at c.args.t c.self.invariant.0).room (number_of c.args.p) in
    rw (c.open_count.ensures, c.as_slice.ensures.value) within

pub overflow_cast-result : goal.overflow_cast-result
overflow_cast-result c = omega (arith, most c)

pub returns-clause-most : goal.returns-clause-most
returns-clause-most c = most c

pub returns-clause-limits : goal.returns-clause-limits
returns-clause-limits c = subst IsWithinLimits c.self.view_is c.self.invariant.0
