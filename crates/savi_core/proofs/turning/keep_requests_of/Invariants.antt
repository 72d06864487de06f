use Rattle.std.proofs.Common.{◌≡◌, take}
use Rattle.dhcp_states.specs.Requests.{open_at}
use Rattle.savi_core.specs.Turns.{with_requests}
use Rattle.savi_core.proofs.Keeping.{each_of}
use Rattle.savi_core.proofs.turning.keep_requests_of.Given as goal

abbrev pub invariant-loop-request : goal.invariant-loop-request
invariant-loop-request l = l.into ≡ with_requests (each_of l.access.vlan (open_at l.t (take l.request-index l.access.requests))) l.fn.into
