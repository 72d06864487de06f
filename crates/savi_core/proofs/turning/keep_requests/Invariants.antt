use Rattle.std.proofs.Common.{◌≡◌, take}
use Rattle.dhcp_states.specs.Requests.{open_at}
use Rattle.savi_core.specs.VlanSets.{of_sets}
use Rattle.savi_core.specs.Turns.{with_requests}
use Rattle.savi_core.proofs.turning.keep_requests.Given as goal

abbrev pub invariant-loop-set : goal.invariant-loop-set
invariant-loop-set l = l.into ≡ with_requests (of_sets (λ set. open_at l.t set.access.requests) (take l.set-index l.sets)) l.fn.into
