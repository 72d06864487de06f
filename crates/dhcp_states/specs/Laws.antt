-- The laws on requests and bindings.
use Rattle.std.specs.Prelude.{ℕ, ◌≡◌, ◌≤◌, List, [], false, Some, None, option_and_then}
use Rattle.savi_kinds.specs.Ports.{number_of}
use Rattle.savi_kinds.specs.declared.port.Port.{Port}
use Rattle.dhcp_states.specs.declared.request.Request.{Request}
use Rattle.dhcp_states.specs.declared.bound.Bound.{Bound}
use Rattle.dhcp_states.specs.Requests.{request_of, open_at, has_pair, refusal, without_pair, with_request, asker}
use Rattle.dhcp_states.specs.Limits.{IsWithinLimits}
use Rattle.dhcp_states.specs.Bindings.{binding_at}

-- At most one open request has a given pair, over all ports, and no port has more than 16: so it is at the start, and so
-- it stays when a request is asked that isn't refused, when one is met, and when time passes.
pub record KeepsLimits : Type 0 where
  pub start : IsWithinLimits []
  pub asked : (request : Request) (requests : List Request) → refusal (number_of request.port) request.tid request.duid.items requests ≡ None → IsWithinLimits requests → IsWithinLimits (with_request request requests)
  pub met : (tid : ℕ) (duid : List ℕ) (requests : List Request) → IsWithinLimits requests → IsWithinLimits (without_pair tid duid requests)
  pub aged : (t : ℕ) (requests : List Request) → IsWithinLimits requests → IsWithinLimits (open_at t requests)

-- A Reply is for the port that asked and for no other: a request makes its port the one of its pair, and leaves those of
-- other pairs as they were, and once it was met its pair has none.
pub record NamesAsker : Type 0 where
  pub own : (port : Port) (tid : ℕ) (duid : List ℕ) (t : ℕ) (requests : List Request) → asker tid duid (with_request (request_of port tid duid t) requests) ≡ Some port
  pub others : (request : Request) (tid : ℕ) (duid : List ℕ) (requests : List Request) → has_pair tid duid request ≡ false → asker tid duid (with_request request requests) ≡ asker tid duid requests
  pub met : (tid : ℕ) (duid : List ℕ) (requests : List Request) → asker tid duid (without_pair tid duid requests) ≡ None

-- What is open at a later moment is what is open then of what is open now.
abbrev pub OpenAgesOnce : Type 0
OpenAgesOnce = (t u : ℕ) (requests : List Request) → t ≤ u → open_at u (open_at t requests) ≡ open_at u requests

-- What stands of a binding at a later moment is what stands then of what stands now.
abbrev pub BindingAgesOnce : Type 0
BindingAgesOnce = (t u : ℕ) (bound : Bound) → t ≤ u → option_and_then (binding_at u) (binding_at t bound) ≡ binding_at u bound
