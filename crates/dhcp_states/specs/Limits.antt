-- How many requests there are: at most 16 at each port, and at most one with a given pair of transaction id and DUID.
use Rattle.std.specs.Prelude.{ℕ, ◌≤◌, List, count_by}
use Rattle.dhcp_states.specs.declared.request.Request.{Request}
use Rattle.dhcp_states.specs.Requests.{has_pair, requests_at_port}

-- at most one request has a given pair, over all ports
abbrev pub IsOnePerPair : List Request → Type 0
IsOnePerPair requests = (tid : ℕ) (duid : List ℕ) → count_by (has_pair tid duid) requests ≤ 1

pub record IsWithinLimits (requests : List Request) : Type 0 where
  -- no port has more than 16
  pub room : (port : ℕ) → requests_at_port port requests ≤ 16
  pub pairs : IsOnePerPair requests
