use Rattle.std.proofs.Common.{arith, sym}
use Rattle.savi_kinds.specs.Ports.{number_of}
use Rattle.dhcp_states.proofs.Counts.{is_full-not_refused, IsWithinLimits-open_at, IsWithinLimits-with_request, IsWithinLimits-without_pair}
use Rattle.dhcp_states.proofs.laws.open_requests_stay_within_limits.Goals as goal

pub returns : goal.returns
returns c = record {
  start = record {
    room = λ port. omega arith;
    pairs = λ tid duid. omega arith;
  };
  asked = λ request requests not_refused within. IsWithinLimits-with_request request within (is_full-not_refused (number_of request.port) request.tid request.duid.items requests (sym not_refused));
  met = λ tid duid requests within. IsWithinLimits-without_pair tid duid within;
  aged = λ t requests within. IsWithinLimits-open_at t within;
}
